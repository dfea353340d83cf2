-- The laws of `get`, `insert` and `remove`: what a store holds after an insertion or a removal, at the same number and at others. Different
-- numbers less than the ceiling apart have different slots (`apart`).
use Prim.Native.Nat.{ℕ, zero, suc, ◌+◌, ◌%◌, ◌≤◌, ◌<◌}
use native.Mathlib.Decide.{ℕ_discrete}
use native.Mathlib.Omega.{arith}
use mathlib.Core.Path.{◌≡◌, refl, sym, ap, ◌∙◌}
use mathlib.Core.Logic.{◌≢◌, ◌⊎◌, inl, inr}
use mathlib.Core.Option.{Option, none, some}
use mathlib.Core.Bool.{Bool, true, false, cond}
use lib.Dec.{eqb}
use borrow.Author.Tests.{eqb-true, eq-eqb, ne_eqb}
use lib.ListN.{length, get_or, set, replicate, length-set, length-replicate}
use lib.Seq.{get_or-set_same, get_or-set_other}
use Rattle.model.specs.Lists.{on}
use Rattle.model.specs.Slots.{Numbered, Slots, ceiling, no_slots, value_of, get, insert, remove}

pub apart : (a m n : ℕ) → a ≤ m → m < a + ceiling → a ≤ n → n < a + ceiling → m ≢ n → m % ceiling ≢ n % ceiling
apart a m n h₁ h₂ h₃ h₄ ne e = omega arith

slot_lt : (n : ℕ) → n % ceiling < ceiling
slot_lt n = omega arith

module _ {A : Type 0} where
  pub no_some : {x : Option A} {a : A} → x ≡ none → x ≡ some a → ⊥
  no_some p q = let z : ◌≡◌ {A = ℕ} 0 1 = cc in omega arith

  pub some_inj : {x : Option A} {a b : A} → x ≡ some a → x ≡ some b → a ≡ b
  some_inj p q = cc

  -- lengths

  pub insert_length : (s : Slots A) (n : ℕ) (v : A) → length (insert s n v) ≡ length s
  unfolding insert
  insert_length s n v = length-set s (n % ceiling) _

  pub remove_length : (s : Slots A) (n : ℕ) → length (remove s n) ≡ length s
  unfolding remove
  remove_length s n = go (get s n)
    where
      go : (o : Option A) → length (on o s (λ v. set s (n % ceiling) none)) ≡ length s
      go none = refl
      go (some v) = length-set s (n % ceiling) none

  -- an insertion

  pub insert_same : (s : Slots A) (n : ℕ) (v : A) → length s ≡ ceiling → get (insert s n v) n ≡ some v
  unfolding get insert
  insert_same s n v l = rw (get_or-set_same s (n % ceiling) (some (record { number = n; value = v })) none (let z = slot_lt n in omega arith)) (rw (eq-eqb n n refl) refl)

  pub insert_other : (s : Slots A) (n m : ℕ) (v : A) → m % ceiling ≢ n % ceiling → get (insert s n v) m ≡ get s m
  unfolding get insert
  insert_other s n m v h = ap (value_of m) (get_or-set_other s (n % ceiling) (m % ceiling) (some (record { number = n; value = v })) none h)

  -- the value in a slot has one number
  value_of_one : (o : Option (Numbered A)) (m n : ℕ) (v w : A) → value_of m o ≡ some v → value_of n o ≡ some w → m ≡ n
  value_of_one none m n v w p q = absurd (no_some refl p)
  value_of_one (some x) m n v w p q = go (eqb x.number m) refl (eqb x.number n) refl p q
    where
      go : (a : Bool) → eqb x.number m ≡ a → (b : Bool) → eqb x.number n ≡ b → cond a (some x.value) none ≡ some v → cond b (some x.value) none ≡ some w → m ≡ n
      go true e true e' p q = sym (eqb-true x.number m e) ∙ eqb-true x.number n e'
      go true e false e' p q = absurd (no_some refl q)
      go false e b e' p q = absurd (no_some refl p)

  insert_clash : (s : Slots A) (n m : ℕ) (v : A) → length s ≡ ceiling → m % ceiling ≡ n % ceiling → m ≢ n → get (insert s n v) m ≡ none
  unfolding get insert
  insert_clash s n m v l e ne = rw (e, get_or-set_same s (n % ceiling) (some (record { number = n; value = v })) none (let z = slot_lt n in omega arith)) (rw (ne_eqb n m (λ q. ne (sym q))) refl)

  pub insert_none : (s : Slots A) (n m : ℕ) (v : A) → length s ≡ ceiling → get s m ≡ none → m ≢ n → get (insert s n v) m ≡ none
  insert_none s n m v l e ne = go (ℕ_discrete (m % ceiling) (n % ceiling))
    where
      go : Dec (m % ceiling ≡ n % ceiling) → get (insert s n v) m ≡ none
      go (yes q) = insert_clash s n m v l q ne
      go (no q) = insert_other s n m v q ∙ e

  pub insert_cases : (s : Slots A) (n m : ℕ) (v w : A) → length s ≡ ceiling → get (insert s n v) m ≡ some w → ((m ≡ n) × (v ≡ w)) ⊎ ((m ≢ n) × (get s m ≡ some w))
  insert_cases s n m v w l e = go (ℕ_discrete m n) (ℕ_discrete (m % ceiling) (n % ceiling))
    where
      go : Dec (m ≡ n) → Dec (m % ceiling ≡ n % ceiling) → ((m ≡ n) × (v ≡ w)) ⊎ ((m ≢ n) × (get s m ≡ some w))
      go (yes q) d = inl (q, some_inj (insert_same s n v l) (ap (get (insert s n v)) (sym q) ∙ e))
      go (no q) (yes d) = absurd (no_some (insert_clash s n m v l d q) e)
      go (no q) (no d) = inr (q, sym (insert_other s n m v d) ∙ e)

  -- a removal

  wiped : (s : Slots A) (n m : ℕ) → length s ≡ ceiling → m % ceiling ≡ n % ceiling → get (set s (n % ceiling) none) m ≡ none
  unfolding get
  wiped s n m l e = rw (e, get_or-set_same s (n % ceiling) none none (let z = slot_lt n in omega arith)) refl

  spared : (s : Slots A) (n m : ℕ) → m % ceiling ≢ n % ceiling → get (set s (n % ceiling) none) m ≡ get s m
  unfolding get
  spared s n m h = ap (value_of m) (get_or-set_other s (n % ceiling) (m % ceiling) none none h)

  pub one_number : (s : Slots A) (m n : ℕ) (v w : A) → m % ceiling ≡ n % ceiling → get s m ≡ some v → get s n ≡ some w → m ≡ n
  unfolding get
  one_number s m n v w e p q = value_of_one (get_or s (n % ceiling) none) m n v w (rw e at p) q

  pub remove_cases : (s : Slots A) (n m : ℕ) (w : A) → length s ≡ ceiling → get (remove s n) m ≡ some w → (m ≢ n) × (get s m ≡ some w)
  unfolding remove
  remove_cases s n m w l = go (get s n) refl
    where
      go : (o : Option A) → get s n ≡ o → get (on o s (λ v. set s (n % ceiling) none)) m ≡ some w → (m ≢ n) × (get s m ≡ some w)
      go none z e = ((λ q. no_some z (ap (get s) (sym q) ∙ e)), e)
      go (some v) z e = by (ℕ_discrete (m % ceiling) (n % ceiling))
        where
          by : Dec (m % ceiling ≡ n % ceiling) → (m ≢ n) × (get s m ≡ some w)
          by (yes d) = absurd (no_some (wiped s n m l d) e)
          by (no d) = ((λ q. d (ap (λ (x : ℕ). x % ceiling) q)), sym (spared s n m d) ∙ e)

  pub remove_keep : (s : Slots A) (n m : ℕ) (w : A) → m ≢ n → get s m ≡ some w → get (remove s n) m ≡ some w
  unfolding remove
  remove_keep s n m w ne e = go (get s n) refl
    where
      go : (o : Option A) → get s n ≡ o → get (on o s (λ v. set s (n % ceiling) none)) m ≡ some w
      go none z = e
      go (some v) z = by (ℕ_discrete (m % ceiling) (n % ceiling))
        where
          by : Dec (m % ceiling ≡ n % ceiling) → get (set s (n % ceiling) none) m ≡ some w
          by (yes d) = absurd (ne (one_number s m n w v d e z))
          by (no d) = spared s n m d ∙ e

  pub remove_none : (s : Slots A) (n m : ℕ) → length s ≡ ceiling → get s m ≡ none → get (remove s n) m ≡ none
  remove_none s n m l e = go (get (remove s n) m) refl
    where
      go : (o : Option A) → get (remove s n) m ≡ o → o ≡ none
      go none z = refl
      go (some w) z = absurd (no_some e (remove_cases s n m w l z).1)

nothing : (A : Type 0) → Option (Numbered A)
nothing A = none

replicate_none : (A : Type 0) (k i : ℕ) → get_or (replicate k (nothing A)) i (nothing A) ≡ none
unfolding nothing
replicate_none A zero i = refl
replicate_none A (suc k) zero = refl
replicate_none A (suc k) (suc i) = replicate_none A k i

pub get_none : (A : Type 0) (n : ℕ) → get (no_slots {A = A}) n ≡ none
unfolding get no_slots nothing
get_none A n = ap (value_of n) (replicate_none A ceiling (n % ceiling))

pub none_length : (A : Type 0) → length (no_slots {A = A}) ≡ ceiling
unfolding no_slots nothing
none_length A = length-replicate ceiling (nothing A)

pub get_d_none : (A : Type 0) (i : ℕ) → get_or (no_slots {A = A}) i none ≡ none
unfolding no_slots nothing
get_d_none A i = replicate_none A ceiling i
