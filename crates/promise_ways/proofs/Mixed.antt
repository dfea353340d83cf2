-- Lists that mix the ways to make a call: a call from C on numbers that stand for the records is the call on those records (`one`, in
-- FromC.antt), so a mixed list is a list of calls on the records, and their theorems hold for it.
use Prim.Native.Nat.{ℕ}
use mathlib.Core.Path.{refl, ap, ◌∙◌, subst}
use mathlib.Core.List.{List, [], ◌∷◌}
use mathlib.Core.Logic.{inl, inr}
use Rattle.records.specs.declared.«open».Opened.{Opened}
use Rattle.records.specs.Seen.{Lent}
use Rattle.udx.specs.Look.{shown_of}
use Rattle.promise.specs.Runs.{Records, left, Did, Run, OpenedBy}
use Rattle.promise.specs.TwoEndsOnRecords as records
use Rattle.promise.specs.TwoEndsOnRecords.{Side, Ends, turned, OverALine, ReadsAlone, Carried}
use Rattle.promise.proofs.Runs.{same_as_model}
use Rattle.promise.proofs.TwoEndsOnRecords.{two_ends_on_records}
use Rattle.udx_c_numbers.proofs.RoundTrip.{comes_back}
use Rattle.udx_c.proofs.ShownLaws.{looks_shown}
use Rattle.promise_ways.specs.Mixed.{
  Mixed,
  in_rattle,
  in_c,
  as_event,
  as_events,
  MixedDid,
  OpenedEither,
  Crossing,
  MixedRun,
  SameMixed,
  MixedTurn,
  on_a,
  on_b,
  as_turn,
  as_turns,
  MixedOverALine,
  MixedReadsAlone,
  CarriedEitherWay,
  TwoEndsMixed,
}
use Rattle.promise_ways.proofs.FromC.{one, opened_in_c}

pub crossing : Crossing
crossing =
    record {
      there = λ x. record { known = comes_back.known x.stream; records = rw (comes_back.stream x.stream, comes_back.totals x.totals) refl };
      back = λ p x v h d. record { known = (one p v.request v.step v.lent v.buf h.known d).known; records = refl };
    }

did : (v : Mixed) (x : Records) → MixedDid x v → Did x (as_event v)
did (in_rattle v) x d = d
did (in_c p v) x (h, d) = rw h.records at (one p v.request v.step v.lent v.buf h.known d).does

pub opened_either : (local remote segments clock : ℕ) (l : Lent) (o : Opened) → OpenedEither local remote segments clock l o → OpenedBy local remote segments clock l o
opened_either local remote segments clock l o (inl h) = h
opened_either local remote segments clock l o (inr (f, h, e)) = subst (OpenedBy local remote segments clock l) e (opened_in_c local remote segments clock l f h)

-- one end

run : (vs : List Mixed) (x : Records) → MixedRun vs x → Run (as_events vs) x
run [] x d = tt
run (v ∷ vs) x d = (did v x d.0, run vs (left (as_event v)) d.1)

pub same_mixed : SameMixed
same_mixed local remote segments clock l o h calls d =
    let same = same_as_model local remote segments clock l o (opened_either local remote segments clock l o h) (as_events calls) (run calls _ d) in
    record {
      records = same;
      next = λ v e. same.next (as_event v) (did v _ e);
      unbroken = λ v e z. same.unbroken (as_event v) (did v _ e) z;
      shown = λ p h part looks.
          (let is = ap (λ (y : Records). shown_of y.stream y.totals y.lent) h.records ∙ same.shown in
          rw is at (looks_shown p.stream p.totals p.lent part looks h.known));
    }

-- two ends

line : (cs : List MixedTurn) (w : Ends) → MixedOverALine cs w → OverALine (as_turns cs) w
line [] w d = tt
line (on_a v ∷ cs) w d = ((did v w.a.records d.0.0, d.0.1), line cs (turned (as_turn (on_a v)) w) d.1)
line (on_b v ∷ cs) w d = ((did v w.b.records d.0.0, d.0.1), line cs (turned (as_turn (on_b v)) w) d.1)

reads : (vs : List Mixed) (last : Mixed) (x : Records) → MixedReadsAlone vs last x → ReadsAlone (as_events vs) (as_event last) x
reads [] last x d = (d.0, did last x d.1, d.2)
reads (v ∷ vs) last x d = (d.0, did v x d.1, reads vs last (left (as_event v)) d.2)

either_way : (s r : Side) → Carried s r → CarriedEitherWay s r
either_way s r c = record { carried = c; unread = λ vs last d. c.unread (as_events vs) (as_event last) (reads vs last r.records d) }

pub two_ends_mixed : TwoEndsMixed
two_ends_mixed i j segmentsA segmentsB clockA clockB idI idJ lentA lentB a b openA openB turns d =
    let w = records.both_opened a b lentA lentB in
    let (out, back) =
    two_ends_on_records i j segmentsA segmentsB clockA clockB idI idJ lentA lentB a b (opened_either i j segmentsA clockA lentA a openA)
    (opened_either j i segmentsB clockB lentB b openB)
    (as_turns turns)
    (line turns w d) in
    (either_way _ _ out, either_way _ _ back)
