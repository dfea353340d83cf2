-- The laws of `table`: its length, its elements, and when two tables are the same, or differ in one element. Each is by induction on the
-- number of elements.
use Rattle.std.proofs.Common.{◌≡◌, ℕ, zero, suc, ◌<◌, ◌≢◌, List, ◌∷◌, length, get_or, set, replicate, refl, ap, ap₂, arith}
use Rattle.records.specs.Table.{table}

module _ {A : Type 0} where
  pub table_length : (k : ℕ) (f : ℕ → A) → length (table k f) ≡ k
  table_length zero f = refl
  table_length (suc k) f = ap suc (table_length k (λ i. f (suc i)))

  pub table_get : (k : ℕ) (f : ℕ → A) (i : ℕ) (d : A) → i < k → get_or (table k f) i d ≡ f i
  table_get zero f i d h = absurd (omega arith)
  table_get (suc k) f zero d h = refl
  table_get (suc k) f (suc i) d h = table_get k (λ j. f (suc j)) i d (omega arith)

  -- two functions that agree at each place
  pub table_same : (k : ℕ) (f g : ℕ → A) → ((i : ℕ) → i < k → f i ≡ g i) → table k f ≡ table k g
  table_same zero f g h = refl
  table_same (suc k) f g h = ap₂ ◌∷◌ (h 0 (omega arith)) (table_same k (λ i. f (suc i)) (λ i. g (suc i)) (λ i l. h (suc i) (omega arith)))

  -- two functions that agree at each place but one
  pub table_set : (k : ℕ) (f g : ℕ → A) (i : ℕ) → i < k → ((j : ℕ) → j < k → j ≢ i → f j ≡ g j) → table k f ≡ set (table k g) i (f i)
  table_set zero f g i l h = absurd (omega arith)
  table_set (suc k) f g zero l h = ap (λ (t : List A). f 0 ∷ t) (table_same k (λ j. f (suc j)) (λ j. g (suc j)) (λ j m. h (suc j) (omega arith) (λ q. omega arith)))
  table_set (suc k) f g (suc i) l h =
      ap₂ ◌∷◌ (h 0 (omega arith) (λ q. omega arith))
      (table_set k (λ j. f (suc j)) (λ j. g (suc j)) i (omega arith) (λ j m ne. h (suc j) (omega arith) (λ q. ne (omega arith))))

  pub table_replicate : (k : ℕ) (f : ℕ → A) (a : A) → ((i : ℕ) → i < k → f i ≡ a) → table k f ≡ replicate k a
  table_replicate zero f a h = refl
  table_replicate (suc k) f a h = ap₂ ◌∷◌ (h 0 (omega arith)) (table_replicate k (λ i. f (suc i)) a (λ i l. h (suc i) (omega arith)))
