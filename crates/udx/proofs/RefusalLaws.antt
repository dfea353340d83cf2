-- Refusals on the records are the model's on what is seen of them: refusal 1 by the theorem about it, the others because they test the
-- same numbers. Also, what a verdict implies for the model's answer.
use Prim.Native.Nat.{ℕ}
use native.Mathlib.Omega.{arith}
use mathlib.Core.Path.{◌≡◌, refl, sym, ap, subst}
use mathlib.Core.List.{[]}
use mathlib.Core.Option.{Option, none, some}
use mathlib.Core.Bool.{Bool, true, false, cond, ◌&&◌, ◌||◌, not}
use lib.Dec.{ltb, leb}
use lib.ListN.{length}
use Rattle.std.specs.Prelude as rust
use Rattle.std.specs.Prelude.{◌≢◌, ⊤, Result, Ok, Err, None, Some}
use Rattle.error.specs.declared.UdxError.{UdxError}
use Rattle.error.specs.declared.UdxError.TheVariants as error
use Rattle.error.specs.declared.Refusal.{Refusal}
use Rattle.error.specs.declared.Refusal.TheVariants as refusal
use Rattle.model.specs.Stream.{End}
use Rattle.model.specs.Answers.{Answer, refused, gate}
use Rattle.model.specs.Rules.{rules}
use Rattle.model.specs.Lists.{Bytes, is_empty}
use Rattle.model.specs.Sending.{is_reset, is_eof, is_timed_out, write_refusal}
use Rattle.records.specs.declared.Stream.{Stream}
use Rattle.records.specs.declared.Totals.{Totals}
use Rattle.records.specs.Put.{put}
use Rattle.records.specs.Seen.{Lent, seen, seen_queue, formed}
use Rattle.records.specs.Open.{stores_test}
use Rattle.rules_stream.proofs.Seen.{ok_seen}
use Rattle.udx_steps.specs.Steps.{refused_step}
use Rattle.udx.specs.Agree.{laid_out, on_records, Agrees, Answers}
use Rattle.rules_lent.specs.Broken.{broken_records}
use Rattle.udx_refusals.specs.Verdicts.{verdict_of, error_verdict, write_verdict, and_then}

-- one test of a list
pub line : (b : Bool) (why : Refusal) (v : Result ⊤ Refusal) (o : Option Refusal) → v ≡ verdict_of o → cond b (Err why) v ≡ verdict_of (cond b (some why) o)
line true why v o e = refl
line false why v o e = e

-- the three tests of the stream's error
pub error_lines : (x : rust.Option UdxError) (v : Result ⊤ Refusal) (o : Option Refusal) → v ≡ verdict_of o
    → error_verdict x v
    ≡ verdict_of (cond (is_reset x) (some refusal.ConnectionReset) (cond (is_eof x) (some refusal.UnexpectedEof) (cond (is_timed_out x) (some refusal.TimedOut) o)))
error_lines None v o e = e
error_lines (Some error.ConnectionReset) v o e = refl
error_lines (Some error.UnexpectedEof) v o e = refl
error_lines (Some error.TimedOut) v o e = refl

-- refusal 1, before the others
first_cases : (differ laid kept : Bool) (o : Option Refusal)
    → cond (differ || not (laid && kept)) (Err refusal.BrokenRecords) (verdict_of o)
    ≡ verdict_of (cond (not differ && laid) (cond (not kept) (some refusal.BrokenRecords) o) (some refusal.BrokenRecords))
first_cases true laid kept o = refl
first_cases false false kept o = refl
first_cases false true false o = refl
first_cases false true true o = refl

pub refusal_one : (s : Stream) (t : Totals) (l : Lent) (v : Result ⊤ Refusal) (o : Option Refusal) → length l.queue ≡ 128 → v ≡ verdict_of o
    → cond (broken_records s t l) (Err refusal.BrokenRecords) v
    ≡ verdict_of (cond (laid_out s l) (cond (not (rules (seen s t l))) (some refusal.BrokenRecords) o) (some refusal.BrokenRecords))
unfolding broken_records laid_out
refusal_one s t l v o h e =
    rw (e, ok_seen s t l h)
    (first_cases (stores_test l.outgoing l.incoming l.headers) (formed s l.queue) (rules (seen s t l)) o)

-- what a verdict implies

refusal-of : (o : Option Refusal) (why : Refusal) → Err why ≡ verdict_of o → o ≡ some why
refusal-of none why e = let z : ◌≡◌ {A = ℕ} 0 1 = cc in absurd (omega arith)
refusal-of (some x) why e = let z : x ≡ why = cc in ap some z

none_of : (o : Option Refusal) → (Ok tt) ≡ verdict_of o → o ≡ none
none_of none e = refl
none_of (some x) e = let z : ◌≡◌ {A = ℕ} 0 1 = cc in absurd (omega arith)

-- the refusal of a call on records
abbrev pub why_of : (End → Option Refusal) → Stream → Totals → Lent → Option Refusal
why_of why s t l = cond (laid_out s l) (why (seen s t l)) (some refusal.BrokenRecords)

refused_cases : (laid : Bool) (o : Option Refusal) (why : Refusal) (e : End) (a : Answer) → cond laid o (some refusal.BrokenRecords) ≡ some why
    → cond laid (gate o e a) (refused refusal.BrokenRecords e) ≡ refused why e
unfolding gate
refused_cases false o why e a h = let z : refusal.BrokenRecords ≡ why = cc in ap (λ x. refused x e) z
refused_cases true o why e a h = ap (λ x. gate x e a) h

pub is-refused : (call : End → Answer) (tests : End → Option Refusal) (acts : End → Answer) (s : Stream) (t : Totals) (l : Lent) (why : Refusal)
    → ((e : End) → call e ≡ gate (tests e) e (acts e))
    → Err why ≡ verdict_of (why_of tests s t l)
    → on_records call s t l ≡ refused why (seen s t l)
unfolding on_records
is-refused call tests acts s t l why g v =
    rw (g (seen s t l)) (refused_cases (laid_out s l) (tests (seen s t l)) why (seen s t l) (acts (seen s t l)) (refusal-of (why_of tests s t l) why v))

clear_cases : (laid : Bool) (o : Option Refusal) → cond laid o (some refusal.BrokenRecords) ≡ none → (laid ≡ true) × (o ≡ none)
clear_cases true o h = (refl, h)
clear_cases false o h = let z : ◌≡◌ {A = ℕ} 0 1 = cc in absurd (omega arith)

pub is_clear : (tests : End → Option Refusal) (s : Stream) (t : Totals) (l : Lent) → (Ok tt) ≡ verdict_of (why_of tests s t l)
    → (laid_out s l ≡ true) × (tests (seen s t l) ≡ none)
is_clear tests s t l v = clear_cases (laid_out s l) (tests (seen s t l)) (none_of (why_of tests s t l) v)

-- a call that is not refused acts
pub acts_on : (call : End → Answer) (tests : End → Option Refusal) (acts : End → Answer) (s : Stream) (t : Totals) (l : Lent)
    → ((e : End) → call e ≡ gate (tests e) e (acts e))
    → laid_out s l ≡ true → tests (seen s t l) ≡ none → on_records call s t l ≡ acts (seen s t l)
unfolding on_records gate
acts_on call tests acts s t l g laid none_is = rw (laid, g (seen s t l), none_is)

-- a write's list
pub write_list : (s : Stream) (t : Totals) (l : Lent) (bytes : Bytes) → length l.queue ≡ 128
    → write_verdict (broken_records s t l) s (is_empty bytes) ≡ verdict_of (why_of (write_refusal bytes) s t l)
unfolding write_verdict write_refusal seen seen_queue
write_list s t l bytes len =
    let empty = is_empty bytes in
    refusal_one s t l _ _ len
    (line (ltb 0 s.queue.left) refusal.BatchesLeft _ _
    (error_lines s.ending.error _ _ (line (not empty && leb 4_294_967_295 s.sender.seq) refusal.SeqExhausted (Ok tt) none refl)))

-- if a verdict is clear, none of its tests holds
pub clear_line : (b : Bool) (why : Refusal) (v : Result ⊤ Refusal) → cond b (Err why) v ≡ Ok tt → (b ≡ false) × (v ≡ Ok tt)
clear_line true why v h = let z : ◌≡◌ {A = ℕ} 0 1 = cc in absurd (omega arith)
clear_line false why v h = (refl, h)

-- of two lists in turn, either refuses or both are clear

pub either_refuses : {A B C : Type 0} (x : Result A Refusal) (next : A → Result B Refusal) (why : Refusal) → and_then x next ≡ Err why
    → (x ≡ Err why → C) → ((a : A) → x ≡ Ok a → next a ≡ Err why → C) → C
either_refuses (Ok a) next why e first second = second a refl e
either_refuses (Err w) next why e first second = let z : w ≡ why = cc in first (ap Err z)

pub both_clear : {A B : Type 0} (x : Result A Refusal) (next : A → Result B Refusal) (b : B) → and_then x next ≡ Ok b → (a : A) × (x ≡ Ok a) × (next a ≡ Ok b)
both_clear (Ok a) next b e = (a, refl, e)
both_clear (Err why) next b e = let z : ◌≡◌ {A = ℕ} 0 1 = cc in absurd (omega arith)

-- no segment size is not a size of 0
pub none_not_zero : ◌≢◌ {A = rust.Option ℕ} None (Some 0)
none_not_zero e = let z : ◌≡◌ {A = ℕ} 0 1 = cc in omega arith

-- a refused call

pub refused_agrees : (call : End → Answer) (s : Stream) (t : Totals) (l : Lent) (why : Refusal) → on_records call s t l ≡ refused why (seen s t l)
    → Agrees (on_records call s t l) (refused_step s t why) l
refused_agrees call s t l why e =
    subst (λ (a : Answer). Agrees a (refused_step s t why) l) (sym e) (record { outcome = refl; count = refl; segment = refl; not_zero = none_not_zero; end = refl })

pub refused_answers : (call : End → Answer) (s : Stream) (t : Totals) (l : Lent) (why : Refusal) → on_records call s t l ≡ refused why (seen s t l)
    → Answers call s t l (refused_step s t why) l
refused_answers call s t l why e =
    record {
      agrees = refused_agrees call s t l why e;
      stays = λ h. h;
      changes_nothing = λ why' z. record { stream = refl; totals = refl; lent = refl };
      beside = record { outgoing = λ i l. refl; incoming = λ i l. refl };
    }

-- an answer without bytes leaves the buffer unchanged
pub puts_nothing : (buf : Bytes) (a : Answer) → a.bytes ≡ [] → buf ≡ put buf 0 a.bytes
unfolding put
puts_nothing buf a e = rw e refl
