-- A property of every value of a store, and sums over a store, as values come, change and leave.
use Prim.Native.Nat.{ℕ, zero, suc, ◌+◌, ◌%◌, ◌<◌}
use native.Mathlib.Decide.{ℕ_discrete}
use native.Mathlib.Omega.{arith}
use mathlib.Core.Path.{◌≡◌, refl, sym, ap, ◌∙◌, subst}
use mathlib.Core.Logic.{◌≢◌}
use mathlib.Core.List.{[], ◌∷◌}
use mathlib.Core.Option.{Option, none, some}
use mathlib.Core.Bool.{Bool, true, false, cond}
use lib.Dec.{eqb}
use borrow.Author.Tests.{eqb-true, eq-eqb}
use lib.ListN.{length, get_or, set}
use lib.Seq.{get_or-set_same, get_or-set_other}
use Rattle.model.specs.Lists.{on}
use Rattle.model.specs.Slots.{Numbered, Slots, ceiling, value_of, get, insert, remove}
use Rattle.model.specs.Stream.{Packet}
use Rattle.model.specs.Rules.{sum, every_slot}
use Rattle.model.proofs.Slots.{no_some, some_inj}

abbrev pub SlotsOk : {A : Type 0} → (ℕ → A → Type 0) → Slots A → Type 0
SlotsOk {A} Q s = (i : ℕ) (x : Numbered A) → get_or s i none ≡ some x → (x.number % ceiling ≡ i) × Q x.number x.value

slot_lt : (n : ℕ) → n % ceiling < ceiling
slot_lt n = omega arith

pub get_slot : {A : Type 0} (s : Slots A) (n : ℕ) (v : A) → get s n ≡ some v → get_or s (n % ceiling) none ≡ some (record { number = n; value = v })
unfolding get
get_slot {A} s n v = go (get_or s (n % ceiling) none)
  where
    go : (o : Option (Numbered A)) → value_of n o ≡ some v → o ≡ some (record { number = n; value = v })
    go none e = absurd (no_some refl e)
    go (some x) e = by (eqb x.number n) refl e
      where
        by : (b : Bool) → eqb x.number n ≡ b → cond b (some x.value) none ≡ some v → some x ≡ some (record { number = n; value = v })
        by true z e = let p = eqb-true x.number n z in let q : x.value ≡ v = some_inj refl e in λ i. some (record { number = p i; value = q i })
        by false z e = absurd (no_some refl e)

pub slots_look : {A : Type 0} (Q : ℕ → A → Type 0) (s : Slots A) (n : ℕ) (v : A) → SlotsOk Q s → get s n ≡ some v → Q n v
slots_look Q s n v h e = (h (n % ceiling) (record { number = n; value = v }) (get_slot s n v e)).1

pub slots_map : {A : Type 0} (Q R : ℕ → A → Type 0) (s : Slots A) → ((n : ℕ) (v : A) → Q n v → R n v) → SlotsOk Q s → SlotsOk R s
slots_map Q R s f h i x e = let (a, b) = h i x e in (a, f x.number x.value b)

pub slots_insert : {A : Type 0} (Q : ℕ → A → Type 0) (s : Slots A) (n : ℕ) (v : A) → length s ≡ ceiling → SlotsOk Q s → Q n v → SlotsOk Q (insert s n v)
unfolding insert
slots_insert {A} Q s n v l h q i x e = go (ℕ_discrete i (n % ceiling))
  where
    new : Numbered A
    new = record { number = n; value = v }

    go : Dec (i ≡ n % ceiling) → (x.number % ceiling ≡ i) × Q x.number x.value
    go (yes d) = let z : new ≡ x = some_inj (get_or-set_same s (n % ceiling) (some new) none (let u = slot_lt n in omega arith)) (rw d at e) in
        subst (λ (x : Numbered A). (x.number % ceiling ≡ i) × Q x.number x.value) z (sym d, q)
    go (no d) = h i x (sym (get_or-set_other s (n % ceiling) i (some new) none d) ∙ e)

-- the same, with another property for the values that stay
pub slots_again : {A : Type 0} (Q R : ℕ → A → Type 0) (s : Slots A) (n : ℕ) (v : A) → length s ≡ ceiling → SlotsOk Q s → ((m : ℕ) (u : A) → m ≢ n → Q m u → R m u) → R n v → SlotsOk R (insert s n v)
unfolding insert
slots_again {A} Q R s n v l h f q i x e = go (ℕ_discrete i (n % ceiling))
  where
    new : Numbered A
    new = record { number = n; value = v }

    go : Dec (i ≡ n % ceiling) → (x.number % ceiling ≡ i) × R x.number x.value
    go (yes d) = let z : new ≡ x = some_inj (get_or-set_same s (n % ceiling) (some new) none (let u = slot_lt n in omega arith)) (rw d at e) in
        subst (λ (x : Numbered A). (x.number % ceiling ≡ i) × R x.number x.value) z (sym d, q)
    go (no d) = let (a, b) = h i x (sym (get_or-set_other s (n % ceiling) i (some new) none d) ∙ e) in (a, f x.number x.value (λ y. d (sym a ∙ ap (λ (m : ℕ). m % ceiling) y)) b)

pub slots_remove : {A : Type 0} (Q : ℕ → A → Type 0) (s : Slots A) (n : ℕ) → length s ≡ ceiling → SlotsOk Q s → SlotsOk (λ m v. Q m v × (m ≢ n)) (remove s n)
unfolding remove get
slots_remove {A} Q s n l h = go (get s n) refl
  where
    here : (i : ℕ) (x : Numbered A) → get s n ≡ none → get_or s i none ≡ some x → x.number ≡ n → ⊥
    here i x z e q = let (a, b) = h i x e in
        no_some {a = x.value} z (ap (value_of n) (ap (λ (j : ℕ). get_or s j none) (ap (λ (m : ℕ). m % ceiling) (sym q) ∙ a) ∙ e) ∙ rw (eq-eqb x.number n q) refl)

    go : (o : Option A) → get s n ≡ o → SlotsOk (λ m v. Q m v × (m ≢ n)) (on o s (λ v. set s (n % ceiling) none))
    go none z i x e = let (a, b) = h i x e in (a, (b, here i x z e))
    go (some v) z i x e = by (ℕ_discrete i (n % ceiling))
      where
        by : Dec (i ≡ n % ceiling) → (x.number % ceiling ≡ i) × (Q x.number x.value × (x.number ≢ n))
        by (yes d) = absurd (no_some (get_or-set_same s (n % ceiling) none none (let u = slot_lt n in omega arith)) (rw d at e))
        by (no d) = let (a, b) = h i x (sym (get_or-set_other s (n % ceiling) i none none d) ∙ e) in (a, (b, λ q. d (sym a ∙ ap (λ (m : ℕ). m % ceiling) q)))

pub every-slot : {A : Type 0} (f : ℕ → ℕ → A → Bool) (s : Slots A) → ((i : ℕ) (x : Numbered A) → get_or s i none ≡ some x → f i x.number x.value ≡ true) → every_slot f s ≡ true
every-slot f [] h = refl
every-slot f (none ∷ s) h = every-slot (λ i. f (suc i)) s (λ i x e. h (suc i) x e)
every-slot f (some x ∷ s) h = rw (h 0 x refl) (every-slot (λ i. f (suc i)) s (λ i x e. h (suc i) x e))

-- sums

abbrev w_o : (Packet → ℕ) → Option (Numbered Packet) → ℕ
w_o w none = 0
w_o w (some x) = w x.value

sum_set : (w : Packet → ℕ) (s : Slots Packet) (i : ℕ) (o : Option (Numbered Packet)) → i < length s → sum w (set s i o) + w_o w (get_or s i none) ≡ sum w s + w_o w o
sum_set w [] i o l = absurd (omega arith)
sum_set w (none ∷ s) zero none l = refl
sum_set w (none ∷ s) zero (some x) l = omega arith
sum_set w (some y ∷ s) zero none l = omega arith
sum_set w (some y ∷ s) zero (some x) l = omega arith
sum_set w (none ∷ s) (suc i) o l = sum_set w s i o (omega arith)
sum_set w (some y ∷ s) (suc i) o l = let r = sum_set w s i o (omega arith) in omega arith

module _ (w : Packet → ℕ) (s : Slots Packet) (n : ℕ) (len : length s ≡ ceiling) where
  pub sum_new : (v : Packet) → get_or s (n % ceiling) none ≡ none → sum w (insert s n v) ≡ sum w s + w v
  unfolding insert
  sum_new v e = let r = sum_set w s (n % ceiling) (some (record { number = n; value = v })) (let u = slot_lt n in omega arith) in let z = ap (w_o w) e in omega arith

  pub sum_again : (v p : Packet) → get s n ≡ some p → sum w (insert s n v) + w p ≡ sum w s + w v
  unfolding insert
  sum_again v p e = let r = sum_set w s (n % ceiling) (some (record { number = n; value = v })) (let u = slot_lt n in omega arith) in let z = ap (w_o w) (get_slot s n p e) in omega arith

  pub sum_wipe : (p : Packet) → get s n ≡ some p → sum w (remove s n) + w p ≡ sum w s
  unfolding remove
  sum_wipe p e = rw e (let r = sum_set w s (n % ceiling) none (let u = slot_lt n in omega arith) in let z = ap (w_o w) (get_slot s n p e) in omega arith)

  pub sum_miss : get s n ≡ none → sum w (remove s n) ≡ sum w s
  unfolding remove
  sum_miss e = rw e refl
