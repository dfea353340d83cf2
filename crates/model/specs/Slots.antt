-- A store: slots of numbered values; the slot of a number is the number mod the ceiling. It models the Rust's HashMap (outgoing) and
-- BTreeMap (incoming). The calls use only `get`, `insert` and `remove`, whose laws are in proofs/Slots.antt; the rules of the records go
-- over the slots. Different numbers less than the ceiling apart have different slots.
use Rattle.std.specs.Prelude.{ℕ, ◌%◌, List, cond, eqb, get_or, set, replicate}
use Rattle.std.proofs.Math.Option.{Option, none, some}
use Rattle.model.specs.Lists.{on}

-- 01, 'Records': "32 slots", in either store
abbrev pub ceiling : ℕ
ceiling = 32

-- a value under its number
pub record Numbered (A : Type 0) : Type 0 where
  pub number : ℕ
  pub value : A

abbrev pub Slots : Type 0 → Type 0
Slots A = List (Option (Numbered A))

unfoldable pub no_slots : {A : Type 0} → Slots A
no_slots = replicate ceiling none

-- the value in a slot, if it has this number
abbrev pub value_of : {A : Type 0} → ℕ → Option (Numbered A) → Option A
value_of n none = none
value_of n (some x) = cond (eqb x.number n) (some x.value) none

unfoldable pub get : {A : Type 0} → Slots A → ℕ → Option A
get s n = value_of n (get_or s (n % ceiling) none)

unfoldable pub insert : {A : Type 0} → Slots A → ℕ → A → Slots A
insert s n v = set s (n % ceiling) (some (record { number = n; value = v }))

unfoldable pub remove : {A : Type 0} → Slots A → ℕ → Slots A
remove s n = on (get s n) s (λ v. set s (n % ceiling) none)
