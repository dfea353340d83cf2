-- For a store whose values are in their slots and have numbers from n to below n + k, a test of every slot is a test of these k numbers
-- (`every-number`), and a sum over the slots is a sum over these k numbers (`sum_number_lem`). The tests are compared value by value; the sum
-- takes the lowest number out, k times.
use Prim.Native.Nat.{ℕ, zero, suc, ◌+◌, ◌%◌, ◌≤◌, ◌<◌}
use native.Mathlib.Decide.{ℕ_discrete}
use native.Mathlib.Omega.{arith}
use mathlib.Core.Path.{◌≡◌, refl, sym, ap, ap₂, ◌∙◌}
use mathlib.Core.Logic.{◌≢◌}
use mathlib.Core.List.{[], ◌∷◌}
use mathlib.Core.Option.{Option, none, some}
use mathlib.Core.Bool.{Bool, true, false}
use borrow.Author.Tests.{eq-eqb}
use lib.ListN.{length, get_or}
use Rattle.model.specs.Lists.{on}
use Rattle.model.specs.Slots.{Numbered, Slots, ceiling, value_of, get, remove}
use Rattle.model.specs.Stream.{Packet}
use Rattle.model.specs.Rules.{sum, every_slot}
use Rattle.model.specs.SlotNumbers.{every_number, sum_number}
use Rattle.model.proofs.Slots.{no_some, remove_length, remove_keep, remove_none}
use Rattle.model.proofs.SlotSums.{SlotsOk, get_slot, slots_map, slots_remove, every-slot, sum_wipe, sum_miss}
use Rattle.model.proofs.Gate.{and_left, and_right, and-true}

-- every value is in its slot, and its number is one of the k from n on
abbrev pub Among : {A : Type 0} → (k n : ℕ) → Slots A → Type 0
Among k n s = SlotsOk (λ m v. (n ≤ m) × (m < n + k)) s

-- two tests that imply each other are equal
pub same_test : (a b : Bool) → (a ≡ true → b ≡ true) → (b ≡ true → a ≡ true) → a ≡ b
same_test true b f g = sym (f refl)
same_test false true f g = g refl
same_test false false f g = refl

module _ {A : Type 0} where
  -- a value in its slot is found by its number
  pub slot_get : (Q : ℕ → A → Type 0) (s : Slots A) → SlotsOk Q s → (i : ℕ) (x : Numbered A) → get_or s i none ≡ some x → get s x.number ≡ some x.value
  unfolding get
  slot_get Q s h i x e = ap (value_of x.number) (ap (λ (j : ℕ). get_or s j none) (h i x e).0 ∙ e) ∙ rw (eq-eqb x.number x.number refl)

  -- tests

  pub slot_passes : (f : ℕ → ℕ → A → Bool) (s : Slots A) → every_slot f s ≡ true → (i : ℕ) (x : Numbered A) → get_or s i none ≡ some x → f i x.number x.value ≡ true
  slot_passes f [] h i x e = absurd (no_some refl e)
  slot_passes f (none ∷ s) h zero x e = absurd (no_some refl e)
  slot_passes f (none ∷ s) h (suc i) x e = slot_passes (λ j. f (suc j)) s h i x e
  slot_passes f (some y ∷ s) h zero x e = ap (λ (o : Option (Numbered A)). on o true (λ z. f 0 z.number z.value)) (sym e) ∙ and_left _ _ h
  slot_passes f (some y ∷ s) h (suc i) x e = slot_passes (λ j. f (suc j)) s (and_right (f 0 y.number y.value) _ h) i x e

  module _ (f : ℕ → A → Bool) (s : Slots A) where
    number_passes : (k n : ℕ) → every_number k n f s ≡ true → (m : ℕ) → n ≤ m → m < n + k → on (get s m) true (f m) ≡ true
    unfolding every_number
    number_passes zero n h m a b = absurd (omega arith)
    number_passes (suc k) n h m a b = go (ℕ_discrete n m) (number_passes k (suc n) (and_right (on (get s n) true (f n)) _ h))
      where
        go : Dec (n ≡ m) → ((m : ℕ) → suc n ≤ m → m < suc n + k → on (get s m) true (f m) ≡ true) → on (get s m) true (f m) ≡ true
        go (yes e) rest = ap (λ (j : ℕ). on (get s j) true (f j)) (sym e) ∙ and_left _ _ h
        go (no e) rest = rest m (omega arith) (omega arith)

    numbers_pass : ((m : ℕ) → on (get s m) true (f m) ≡ true) → (k n : ℕ) → every_number k n f s ≡ true
    unfolding every_number
    numbers_pass h zero n = refl
    numbers_pass h (suc k) n = and-true (h n) (numbers_pass h k (suc n))

  pub every-number : (k n : ℕ) (f : ℕ → ℕ → A → Bool) (s : Slots A) → Among k n s → every_slot f s ≡ every_number k n (λ m. f (m % ceiling) m) s
  every-number k n f s h = same_test _ _ (λ e. numbers_pass g s (λ m. at e m (get s m) refl) k n) (λ e. every-slot f s (back e))
    where
      g : ℕ → A → Bool
      g m = f (m % ceiling) m

      at : every_slot f s ≡ true → (m : ℕ) (o : Option A) → get s m ≡ o → on o true (g m) ≡ true
      at e m none z = refl
      at e m (some v) z = slot_passes f s e (m % ceiling) (record { number = m; value = v }) (get_slot s m v z)

      back : every_number k n g s ≡ true → (i : ℕ) (x : Numbered A) → get_or s i none ≡ some x → f i x.number x.value ≡ true
      back e i x z =
          let (inside, range) = h i x z in
          ap (λ (j : ℕ). f j x.number x.value) (sym inside)
          ∙ ap (λ (o : Option A). on o true (g x.number)) (sym (slot_get _ s h i x z))
          ∙ number_passes g s k n e x.number range.0 range.1

  -- sums

  pub remove_other : (s : Slots A) (n m : ℕ) → length s ≡ ceiling → m ≢ n → get (remove s n) m ≡ get s m
  remove_other s n m len ne = go (get s m) refl
    where
      go : (o : Option A) → get s m ≡ o → get (remove s n) m ≡ o
      go none z = remove_none s n m len z
      go (some v) z = remove_keep s n m v ne z

module _ (w : Packet → ℕ) where
  sum_none : (s : Slots Packet) → ((i : ℕ) (x : Numbered Packet) → get_or s i none ≡ some x → ⊥) → sum w s ≡ 0
  sum_none [] h = refl
  sum_none (none ∷ s) h = sum_none s (λ i. h (suc i))
  sum_none (some x ∷ s) h = absurd (h 0 x refl)

  -- one packet taken out
  sum_out : (s : Slots Packet) (n : ℕ) → length s ≡ ceiling → sum w s ≡ on (get s n) 0 w + sum w (remove s n)
  sum_out s n len = go (get s n) refl
    where
      go : (o : Option Packet) → get s n ≡ o → sum w s ≡ on o 0 w + sum w (remove s n)
      go none z = let r = sum_miss w s n len z in omega arith
      go (some p) z = let r = sum_wipe w s n len p z in omega arith

  numbers_above : (s : Slots Packet) (n : ℕ) → length s ≡ ceiling → (k m : ℕ) → n < m → sum_number k m w (remove s n) ≡ sum_number k m w s
  unfolding sum_number
  numbers_above s n len zero m h = refl
  numbers_above s n len (suc k) m h = ap₂ ◌+◌ (ap (λ (o : Option Packet). on o 0 w) (remove_other s n m len (λ e. omega arith))) (numbers_above s n len k (suc m) (omega arith))

  pub sum_number_lem : (k n : ℕ) (s : Slots Packet) → length s ≡ ceiling → Among k n s → sum w s ≡ sum_number k n w s
  unfolding sum_number
  sum_number_lem zero n s len h = sum_none s (λ i x e. let (a, b) = h i x e in omega arith)
  sum_number_lem (suc k) n s len h =
      sum_out s n len
      ∙ ap
      (λ (z : ℕ). on (get s n) 0 w + z)
      (sum_number_lem k (suc n) (remove s n) (remove_length s n ∙ len) (slots_map _ _ (remove s n) (λ m v q. (omega arith, omega arith)) (slots_remove _ s n len h))
      ∙ numbers_above s n len k (suc n) (omega arith))
