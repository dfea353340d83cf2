-- A call is refused or acts: one case split for every call, and what follows when a test did not refuse.
use Prim.Native.Nat.{ℕ, zero, suc, ◌^◌, ◌≤◌, ◌<◌}
use mathlib.Core.Path.{◌≡◌, refl, sym}
use mathlib.Core.List.{List, [], ◌∷◌}
use mathlib.Core.Option.{Option, none, some}
use mathlib.Core.Bool.{Bool, true, false, cond, ◌&&◌, ◌||◌, true≢false}
use lib.Dec.{ltb, leb}
use lib.ListN.{get_or}
use borrow.Author.Tests.{ltb-false, leb-false}
use Rattle.error.specs.declared.Refusal.{Refusal}
use Rattle.error.specs.declared.Refusal.TheVariants.{BrokenRecords}
use Rattle.model.specs.Stream.{End}
use Rattle.model.specs.Answers.{Test, first, Answer, refused, gate}
use Rattle.model.specs.Receiving.{bad_clock}
use Rattle.model.proofs.Slots.{no_some}

-- a refused call, or what the call does
pub by_gate : (Q : Answer → Type 0) (o : Option Refusal) (e : End) (a : Answer) → ((why : Refusal) → Q (refused why e)) → (o ≡ none → Q a) → Q (gate o e a)
unfolding gate
by_gate Q none e a f g = g refl
by_gate Q (some why) e a f g = f why

pub gate_open : (o : Option Refusal) (e : End) (a : Answer) → o ≡ none → gate o e a ≡ a
unfolding gate
gate_open none e a p = refl
gate_open (some why) e a p = absurd (no_some p refl)

abbrev pub no_test : Test
no_test = record { holds = false; refusal = BrokenRecords }

-- no refusal applies: each test of the list failed
pub clear : (ts : List Test) → first ts ≡ none → (n : ℕ) → (get_or ts n no_test).holds ≡ false
clear [] e n = refl
clear (t ∷ ts) e n = go t.holds refl e n (clear ts)
  where
    go : (b : Bool) → t.holds ≡ b → cond b (some t.refusal) (first ts) ≡ none → (n : ℕ)
        → (first ts ≡ none → (n : ℕ) → (get_or ts n no_test).holds ≡ false) → (get_or (t ∷ ts) n no_test).holds ≡ false
    go true p e n rec = absurd (no_some e refl)
    go false p e zero rec = p
    go false p e (suc n) rec = rec e n

pub and_left : (a b : Bool) → (a && b) ≡ true → a ≡ true
and_left true b e = refl
and_left false b e = e

pub and_right : (a b : Bool) → (a && b) ≡ true → b ≡ true
and_right true b e = e
and_right false b e = absurd (true≢false (sym e))

pub and-true : {a b : Bool} → a ≡ true → b ≡ true → (a && b) ≡ true
and-true {a} {b} p q = rw p q

pub and-false : (a b : Bool) → (a && b) ≡ false → a ≡ true → b ≡ false
and-false true b e z = e
and-false false b e z = absurd (true≢false (sym z))

-- a clock that is not refused
pub clock_fits : (clock : ℕ) (e : End) → bad_clock clock e ≡ false → (clock < 2 ^ 60) × (e.clocks.last ≤ clock)
clock_fits clock e z = go (leb (2 ^ 60) clock) refl z
  where
    go : (b : Bool) → leb (2 ^ 60) clock ≡ b → (b || ltb clock e.clocks.last) ≡ false → (clock < 2 ^ 60) × (e.clocks.last ≤ clock)
    go true p z = absurd (true≢false z)
    go false p z = (leb-false (2 ^ 60) clock p, ltb-false clock e.clocks.last z)
