-- What is seen of a store through its words: slot i holds a value if its word is marked as there and has a number that is in a range and
-- belongs to that slot. What is found under a number (`found`), and that tests and sums over the slots go over the numbers of the range
-- (`every_seen`, `sum_seen`). Proved once for stored and held packets.
use Prim.Native.Nat.{ℕ, zero, suc, ◌+◌, ◌-◌, ◌%◌, ◌≤◌, ◌<◌}
use native.Mathlib.Decide.{ℕ_discrete}
use native.Mathlib.Omega.{arith}
use mathlib.Core.Path.{◌≡◌, refl, sym, ap, ap₂, ◌∙◌}
use mathlib.Core.Logic.{◌≢◌}
use mathlib.Core.Option.{Option, none, some}
use mathlib.Core.Bool.{Bool, true, false, cond, ◌&&◌, and-false}
use lib.Dec.{ltb, leb, eqb}
use lib.ListN.{get_or, get_or-eq_default}
use borrow.Author.Tests.{ltb-true, ltb-false, leb-true, eqb-true, lt-ltb, le-leb, eq-eqb, ne_eqb}
use Rattle.model.specs.Lists.{on}
use Rattle.model.specs.Slots.{Numbered, Slots, ceiling, value_of, get}
use Rattle.model.specs.Stream.{Packet}
use Rattle.model.specs.Rules.{sum, every_slot}
use Rattle.model.specs.SlotNumbers.{every_number, sum_number}
use Rattle.model.proofs.Slots.{no_some, some_inj}
use Rattle.model.proofs.SlotNumbers.{Among, every-number, sum_number_lem}
use Rattle.model.proofs.Gate.{and_left, and_right}
use Rattle.records.specs.Table.{table}
use Rattle.records.specs.Seen.{numbered, in_slot}
use Rattle.rules_packets.specs.Packets.{every_from, sum_from}
use Rattle.records.proofs.Table.{table_length, table_get}

-- past its end a table has nothing
pub table_past : {A : Type 0} (k : ℕ) (f : ℕ → A) (i : ℕ) (d : A) → k ≤ i → get_or (table k f) i d ≡ d
table_past k f i d h = get_or-eq_default (table k f) d (let l = table_length k f in omega arith)

-- over numbers alone

module _ {A : Type 0} (s : Slots A) where
  numbers_every : (f : ℕ → A → Bool) (g : ℕ → Bool) (k n : ℕ) → ((m : ℕ) → n ≤ m → m < n + k → on (get s m) true (f m) ≡ g m) → every_number k n f s ≡ every_from k n g
  unfolding every_number every_from
  numbers_every f g zero n h = refl
  numbers_every f g (suc k) n h = ap₂ ◌&&◌ (h n (omega arith) (omega arith)) (numbers_every f g k (suc n) (λ m a b. h m (omega arith) (omega arith)))

  numbers_sum : (w : A → ℕ) (g : ℕ → ℕ) (k n : ℕ) → ((m : ℕ) → n ≤ m → m < n + k → on (get s m) 0 w ≡ g m) → sum_number k n w s ≡ sum_from k n g
  unfolding sum_number sum_from
  numbers_sum w g zero n h = refl
  numbers_sum w g (suc k) n h = ap₂ ◌+◌ (h n (omega arith) (omega arith)) (numbers_sum w g k (suc n) (λ m a b. h m (omega arith) (omega arith)))

-- one slot

module _ {A : Type 0} (v : A) where
  numbered_some : (b : Bool) (n : ℕ) (x : Numbered A) → numbered b n v ≡ some x → (b ≡ true) × (n ≡ x.number)
  numbered_some true n x e = (refl, ap (λ (x : Numbered A). x.number) (some_inj refl e))
  numbered_some false n x e = absurd (no_some refl e)

  value_numbered : (b : Bool) (n : ℕ) → value_of n (numbered b n v) ≡ cond b (some v) none
  value_numbered true n = rw (eq-eqb n n refl)
  value_numbered false n = refl

  value_other : (b : Bool) (m n : ℕ) → m ≢ n → value_of n (numbered b m v) ≡ none
  value_other true m n ne = rw (ne_eqb m n ne)
  value_other false m n ne = refl

-- how a store is read from words: the range of numbers, and what the word in slot i decodes to
pub record View (A : Type 0) : Type 0 where
  pub low : ℕ
  pub high : ℕ
  pub number : ℕ → ℕ
  pub there : ℕ → Bool
  pub value : ℕ → A

-- slot i holds a value with number m
abbrev holds : {A : Type 0} → View A → (i m : ℕ) → Bool
holds w i m = leb w.low m && (ltb m w.high && (in_slot i m && (w.there i && eqb m m)))

abbrev slot_at : {A : Type 0} → View A → ℕ → Option (Numbered A)
slot_at w i = numbered (holds w i (w.number i)) (w.number i) (w.value i)

abbrev pub store : {A : Type 0} → View A → Slots A
store w = table ceiling (slot_at w)

-- the word in the slot of n is there and has number n
abbrev pub has : {A : Type 0} → View A → ℕ → Bool
has w n = w.there (n % ceiling) && eqb (w.number (n % ceiling)) n

module _ {A : Type 0} (w : View A) where
  slot_value : (n m : ℕ) (v : A)
      → value_of n (numbered (holds w (n % ceiling) m) m v) ≡ cond (leb w.low n && (ltb n w.high && (w.there (n % ceiling) && eqb m n))) (some v) none
  slot_value n m v = go (ℕ_discrete m n)
    where
      go : Dec (m ≡ n)
          → value_of n (numbered (holds w (n % ceiling) m) m v) ≡ cond (leb w.low n && (ltb n w.high && (w.there (n % ceiling) && eqb m n))) (some v) none
      go (yes e) = rw (e, eq-eqb (n % ceiling) (n % ceiling) refl) (value_numbered v (leb w.low n && (ltb n w.high && (w.there (n % ceiling) && eqb n n))) n)
      go (no e) = simp (ne_eqb m n e, and-false) (value_other v (holds w (n % ceiling) m) m n e)

  -- what is found under a number

  pub found : (n : ℕ) → get (store w) n ≡ cond (leb w.low n && (ltb n w.high && has w n)) (some (w.value (n % ceiling))) none
  unfolding get
  found n = ap (value_of n) (table_get ceiling (slot_at w) (n % ceiling) none (omega arith)) ∙ slot_value n (w.number (n % ceiling)) (w.value (n % ceiling))

  found_on : {B : Type 0} (b : B) (f : A → B) (n : ℕ) → w.low ≤ n → n < w.low + (w.high - w.low) → on (get (store w) n) b f ≡ cond (has w n) (f (w.value (n % ceiling))) b
  found_on {B} b f n h k = ap (λ (o : Option A). on o b f) (found n) ∙ rw (le-leb w.low n h, lt-ltb n w.high (omega arith)) (pick (has w n))
    where
      pick : (t : Bool) → on (cond t (some (w.value (n % ceiling))) none) b f ≡ cond t (f (w.value (n % ceiling))) b
      pick true = refl
      pick false = refl

  -- the values have numbers in the range

  holds_says : (i m : ℕ) → holds w i m ≡ true → (m % ceiling ≡ i) × ((w.low ≤ m) × (m < w.low + (w.high - w.low)))
  holds_says i m h =
      let a = leb-true w.low m (and_left _ _ h) in
      let h₁ = and_right (leb w.low m) _ h in
      let b = ltb-true m w.high (and_left _ _ h₁) in
      let h₂ = and_right (ltb m w.high) _ h₁ in
      let c = eqb-true (m % ceiling) i (and_left _ _ h₂) in
      (c, (a, omega arith))

  among : Among (w.high - w.low) w.low (store w)
  among i x e = go (ltb i ceiling) refl
    where
      go : (b : Bool) → ltb i ceiling ≡ b → (x.number % ceiling ≡ i) × ((w.low ≤ x.number) × (x.number < w.low + (w.high - w.low)))
      go true z =
          let (h, n) = numbered_some (w.value i) (holds w i (w.number i)) (w.number i) x (sym (table_get ceiling (slot_at w) i none (ltb-true i ceiling z)) ∙ e) in
          holds_says i x.number (rw n at h)
      go false z = absurd (no_some (table_past ceiling (slot_at w) i none (ltb-false i ceiling z)) e)

  pub every_seen : (f : ℕ → ℕ → A → Bool)
      → every_slot f (store w) ≡ every_from (w.high - w.low) w.low (λ n. cond (has w n) (f (n % ceiling) n (w.value (n % ceiling))) true)
  every_seen f = every-number (w.high - w.low) w.low f (store w) among ∙ numbers_every (store w) _ _ (w.high - w.low) w.low (λ n. found_on true (f (n % ceiling) n) n)

pub sum_seen : (w : View Packet) (f : Packet → ℕ) → sum f (store w) ≡ sum_from (w.high - w.low) w.low (λ n. cond (has w n) (f (w.value (n % ceiling))) 0)
sum_seen w f =
    sum_number_lem f (w.high - w.low) w.low (store w) (table_length ceiling (slot_at w)) (among w)
    ∙ numbers_sum (store w) f _ (w.high - w.low) w.low (found_on w 0 f)
