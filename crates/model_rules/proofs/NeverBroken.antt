-- Calls from a fresh stream never break a rule of the records, so no call meets refusal 1 (`never_broken`). The rules follow from the
-- invariant. If they hold, the first test of each call does not apply, no later test has refusal 1, and a call that acts answers something
-- else.
use Prim.Native.Nat.{ℕ}
use native.Mathlib.Omega.{arith}
use mathlib.Core.Path.{◌≡◌, refl, sym, ap, ◌∙◌}
use mathlib.Core.List.{List, [], ◌∷◌}
use mathlib.Core.Option.{Option, none, some}
use mathlib.Core.Bool.{Bool, true, false, cond, not, ◌&&◌, ◌||◌, true≢false}
use lib.Dec.{ltb}
use lib.ListN.{length, get_or, drop}
use Rattle.std.specs.Prelude as rust
use Rattle.std.specs.Prelude.{Result, Ok, Err, None, Some}
use Rattle.error.specs.declared.UdxError.{UdxError}
use Rattle.error.specs.declared.UdxError.TheVariants as error
use Rattle.error.specs.declared.Refusal.{Refusal}
use Rattle.error.specs.declared.Refusal.TheVariants.{BrokenRecords}
use Rattle.error.specs.declared.Outcome.{Outcome}
use Rattle.error.specs.declared.Outcome.TheVariants.{Ready, Waiting, Done, Nothing}
use Rattle.error.specs.Answers.{number_of, error_or}
use Rattle.packet.specs.Header.{fields}
use Rattle.model.specs.Lists.{is_empty}
use Rattle.model.specs.Stream.{End, fresh}
use Rattle.model.specs.Answers.{Test, first, Answer, answered, gate}
use Rattle.model.specs.Rules.{every, rules}
use Rattle.model.specs.Sending.{write_tests, write_refusal, write_loop, written, write, close_tests, close_refusal, close, terminate}
use Rattle.model.specs.Receiving.{deliver_tests, deliver_refusal, handle_incoming, deliver, read_next, read_outcome, read_answer, read_tests, read_refusal, read}
use Rattle.model.specs.Driving.{drive_tests, drive_refusal, drive_clock, drained, ended, poll_drive, drive, batch, take_loop, take_tests, take_refusal, take_answer, take}
use Rattle.model.specs.Calls.{Call, write_call, deliver_call, drive_call, take_call, read_call, close_call, answer, after}
use Rattle.model_rules.specs.NeverBroken.{NeverBroken}
use Rattle.model.proofs.Lists.{by-test}
use Rattle.model.proofs.Slots.{no_some, some_inj}
use Rattle.model.proofs.Gate.{no_test}
use Rattle.model_rules.proofs.Invariant.{invariant_rules}
use Rattle.model_rules.proofs.InvariantCalls.{open_keeps, calls_keep}

-- the refusal of a call

-- no test of the list has refusal 1
abbrev Others : List Test → Type 0
Others ts = every (λ t. ltb 1 (number_of t.refusal)) ts ≡ true

others_first : (ts : List Test) → Others ts → first ts ≡ some BrokenRecords → ⊥
others_first [] o e = no_some refl e
others_first (t ∷ ts) o e = go t.holds e (ltb 1 (number_of t.refusal)) refl o (others_first ts)
  where
    go : (b : Bool) → cond b (some t.refusal) (first ts) ≡ some BrokenRecords → (c : Bool) → ltb 1 (number_of t.refusal) ≡ c
        → (c && every (λ t. ltb 1 (number_of t.refusal)) ts) ≡ true → (Others ts → first ts ≡ some BrokenRecords → ⊥) → ⊥
    go b e false z o rec = true≢false (sym o)
    go true e true z o rec = true≢false (sym z ∙ ap (λ (r : Refusal). ltb 1 (number_of r)) (some_inj refl e))
    go false e true z o rec = rec o e

-- refusal 1 is the first test, and does not apply
rest_first : (ts : List Test) → (get_or ts 0 no_test).holds ≡ false → Others (drop 1 ts) → first ts ≡ some BrokenRecords → ⊥
rest_first [] h o e = others_first [] refl e
rest_first (t ∷ ts) h o e = others_first ts o (rw h at e)

-- the outcome of a call

abbrev NotBroken : Result Outcome Refusal → Type 0
NotBroken o = o ≡ Err BrokenRecords → ⊥

gate_other : (o : Option Refusal) (e : End) (a : Answer) → (o ≡ some BrokenRecords → ⊥) → NotBroken a.outcome → NotBroken (gate o e a).outcome
unfolding gate
gate_other none e a f g = g
gate_other (some why) e a f g = λ q. f (let z : why ≡ BrokenRecords = cc in ap some z)

ready_other : NotBroken (Ok Ready)
ready_other q = let z : ◌≡◌ {A = ℕ} 0 1 = cc in omega arith

waiting_other : NotBroken (Ok Waiting)
waiting_other q = let z : ◌≡◌ {A = ℕ} 0 1 = cc in omega arith

done_other : NotBroken (Ok Done)
done_other q = let z : ◌≡◌ {A = ℕ} 0 1 = cc in omega arith

nothing_other : NotBroken (Ok Nothing)
nothing_other q = let z : ◌≡◌ {A = ℕ} 0 1 = cc in omega arith

error_other : (x : rust.Option UdxError) → NotBroken (error_or x Waiting)
error_other None = waiting_other
error_other (Some error.ConnectionReset) = λ q. (let z : ◌≡◌ {A = ℕ} 0 1 = cc in omega arith)
error_other (Some error.UnexpectedEof) = λ q. (let z : ◌≡◌ {A = ℕ} 0 1 = cc in omega arith)
error_other (Some error.TimedOut) = λ q. (let z : ◌≡◌ {A = ℕ} 0 1 = cc in omega arith)

read_other : (b : Bool) (e : End) → NotBroken (read_outcome b e)
read_other true e = ready_other
read_other false e = error_other e.ending.error

-- no call meets refusal 1 where the rules hold
call_other : (c : Call) (e : End) → rules e ≡ true → NotBroken (answer c e).outcome
unfolding write write_refusal deliver deliver_refusal drive drive_refusal take take_refusal read read_refusal close close_refusal
call_other (write_call bytes) e r =
    let w = write_loop (length bytes) bytes e in
    gate_other (write_refusal bytes e) e (written bytes w) (rest_first (write_tests bytes e) (ap not r) refl)
    (by-test (λ (o : Outcome). NotBroken (Ok o)) (is_empty bytes || ltb 0 w.count) Ready Waiting (λ z. ready_other) (λ z. waiting_other))
call_other (deliver_call datagram clock) e r =
    gate_other (deliver_refusal datagram clock e) e (answered Ready (handle_incoming clock (fields datagram) (drop 20 datagram) e))
    (rest_first (deliver_tests clock datagram (fields datagram) (drop 20 datagram) e) (ap not r) refl) ready_other
call_other (drive_call clock) e r =
    gate_other (drive_refusal clock e) e (cond (drained e) (answered Done (ended (drive_clock clock e))) (answered Ready (poll_drive clock e)))
    (rest_first (drive_tests clock e) (ap not r) refl)
    (by-test (λ (a : Answer). NotBroken a.outcome) (drained e) (answered Done (ended (drive_clock clock e))) (answered Ready (poll_drive clock e)) (λ z. done_other) (λ z. ready_other))
call_other (take_call room) e r =
    let t = take_loop (batch e) e.queue.entries e in
    gate_other (take_refusal room e) e (cond (ltb 0 e.queue.left) (take_answer t e) (answered Nothing e))
    (rest_first (take_tests room e) (ap not r) refl)
    (by-test (λ (a : Answer). NotBroken a.outcome) (ltb 0 e.queue.left) (take_answer t e) (answered Nothing e) (λ z. ready_other) (λ z. nothing_other))
call_other (read_call room) e r =
    let g = read_next room e.receiver in
    gate_other (read_refusal e) e (read_answer g e) (rest_first (read_tests e) (ap not r) refl) (read_other g.ready e)
call_other close_call e r =
    gate_other (close_refusal e) e (answered Ready (terminate error.ConnectionReset e)) (rest_first (close_tests e) (ap not r) refl) ready_other

pub never_broken : NeverBroken
never_broken local remote segments clock z calls =
    let e = after calls (fresh local remote segments clock) in
    let r = invariant_rules e (calls_keep calls (fresh local remote segments clock) (open_keeps local remote segments clock z)) in
    (r, λ c. call_other c e r)
