-- What demand 3 is about: what a history counts holds by computation, and a call that 01 allows on the line is one that the theorems allow.
use Prim.Native.Nat.{ℕ}
use native.Mathlib.Omega.{arith}
use mathlib.Core.Path.{◌≡◌, refl, ap}
use mathlib.Core.List.{List, [], ◌++◌, append-nil}
use mathlib.Core.Logic.{inl, inr}
use mathlib.Core.Option.{Option, none, some}
use mathlib.Core.Bool.{Bool, true, false, cond}
use lib.Dec.{T}
use Rattle.std.specs.Prelude.{Result, Err}
use Rattle.error.specs.declared.Refusal.{Refusal}
use Rattle.error.specs.declared.Outcome.{Outcome}
use Rattle.model.specs.Driving.{datagrams_of}
use Rattle.model.specs.Calls.{Call, write_call, deliver_call, drive_call, take_call, read_call, close_call, answer}
use Rattle.model_ends.specs.TwoEnds as model
use Rattle.model_ends.specs.TwoEnds.{History, is_refused}
use Rattle.udx.specs.Agree.{segment_of}
use Rattle.promise.specs.Runs.{Request, to_write, to_deliver, to_drive, to_take, to_read, to_close}
use Rattle.promise.specs.TwoEndsOnRecords.{Side, Brings}
use Rattle.promise_ways.specs.FromC.{side_of}
use Rattle.promise_ways.specs.Mixed.{as_event}
use Rattle.promise_ways.proofs.Mixed.{crossing}
use Rattle.promise_sentences.specs.Histories.{HistoryCounts, HistoryCountsInModel, GoesOn, Allowed, no_delivery, copy, refused, AnyLine, AnyLineFromC, AnyMixedLine, AllowedCall, AnyLineInModel}

nothing_more : (h : History) → record { accepted = h.accepted; pieces = h.pieces; reads = h.reads; taken = h.taken; brought = h.brought ++ [] } ≡ h
nothing_more h =
    ap (λ (z : List ℕ). record { accepted = h.accepted; pieces = h.pieces; reads = h.reads; taken = h.taken; brought = z }) (append-nil h.brought)

either_none : (b : Bool) → ◌≡◌ {A = List ℕ} (cond b [] []) []
either_none true = refl
either_none false = refl

no_bytes : (size : Option ℕ) → datagrams_of size [] ≡ []
no_bytes none = refl
no_bytes (some size) = refl

pub history_counts : HistoryCounts
history_counts =
    record {
      write_accepts = λ bytes buf r h. refl;
      write_sends = λ bytes buf r h. refl;
      read_reads = λ buf buf' r h. refl;
      refused_read_reads = λ buf buf' r h why e. refl;
      refused_delivery = λ datagram clock r buf h why e. rw e (nothing_more h);
      data_delivery = λ datagram clock r buf h e d. rw (e, d) refl;
      other_delivery = λ datagram clock r buf h d. rw (d, either_none (is_refused r.outcome)) (nothing_more h);
      takes_pieces = λ buf buf' r h size e. rw e refl;
      takes_all = λ buf buf' r h b bytes e f. rw (e, f) refl;
      takes_none = λ buf buf' r h e. rw (e, no_bytes (segment_of r.segment)) (append-nil h.taken);
    }

pub history_counts_in_model : HistoryCountsInModel
history_counts_in_model =
    record {
      write_accepts = λ bytes a h. refl;
      write_sends = λ bytes a h. refl;
      read_reads = λ room a h. refl;
      refused_delivery = λ datagram clock a h why e. rw e (nothing_more h);
      data_delivery = λ datagram clock a h e d. rw (e, d) refl;
      other_delivery = λ datagram clock a h d. rw (d, either_none (is_refused a.outcome)) (nothing_more h);
      takes_pieces = λ room a h size e. rw e refl;
      takes_all = λ room a h b bytes e f. rw (e, f) refl;
      unread_none = λ e none. rw none refl;
    }

-- how a list of calls continues

pub goes_on : GoesOn
goes_on =
    record {
      after_call = λ v vs x. refl;
      after_call_on_a = λ v cs w. refl;
      after_call_on_b = λ v cs w. refl;
      after_call_in_c = λ v vs x. refl;
      after_call_in_c_on_a = λ v cs w. refl;
      after_call_in_c_on_b = λ v cs w. refl;
      after_call_in_model = λ q qs e. refl;
      after_call_in_model_on_a = λ q cs w. refl;
      after_call_in_model_on_b = λ q cs w. refl;
      calls = λ v vs. refl;
      calls_in_c = λ v vs. refl;
      writes = λ bytes. refl;
      delivers = λ datagram clock. refl;
      drives = λ clock. refl;
      takes = λ buf. refl;
      reads = λ buf. refl;
      closes = refl;
      take_puts = λ buf buf' count. refl;
      read_puts = λ buf buf' count. refl;
    }

-- lines

is-refused : (o : Result Outcome Refusal) (why : Refusal) → o ≡ Err why → T (is_refused o)
is-refused o why e = rw e tt

brings : (q : Request) (o : Result Outcome Refusal) (other : Side) → Allowed other.past.taken o q → Brings q o other
brings (to_write bytes) o other h = tt
brings (to_deliver datagram clock) o other (no_delivery h) = absurd (h datagram clock refl)
brings (to_deliver datagram clock) o other (copy m) = inl m
brings (to_deliver datagram clock) o other (refused why e) = inr (is-refused o why e)
brings (to_drive clock) o other h = tt
brings (to_take buf) o other h = tt
brings (to_read buf) o other h = tt
brings to_close o other h = tt

pub any_line : AnyLine
any_line =
    record {
      opened = λ local remote segments clock l o does ready. record { opens = does; ready = ready };
      none_yet = λ w. tt;
      on-a = λ v cs w d h line. ((d, brings v.request v.step.outcome w.b h), line);
      on-b = λ v cs w d h line. ((d, brings v.request v.step.outcome w.a h), line);
      last_read = λ v buf x q room d none. ((buf, q, room), d, none);
      one_more_read = λ v vs last buf x q room d rest. ((buf, q, room), d, rest);
      no_call = λ x. tt;
      one_more_call = λ v vs x d rest. (d, rest);
    }

pub any_line_from_c : AnyLineFromC
any_line_from_c =
    record {
      opened = λ local remote segments clock l o does ready. record { opens = does; ready = ready };
      none_yet = λ w. tt;
      on-a = λ v cs w d h line. ((d, brings v.request _ (side_of w.b) h), line);
      on-b = λ v cs w d h line. ((d, brings v.request _ (side_of w.a) h), line);
      last_read = λ v buf x q room d none. ((buf, q, room), d, none);
      one_more_read = λ v vs last buf x q room d rest. ((buf, q, room), d, rest);
      no_call = λ x. tt;
      one_more_call = λ v vs x d rest. (d, rest);
    }

pub any_mixed_line : AnyMixedLine
any_mixed_line =
    record {
      opened_in_rattle = λ local remote segments clock l o h. inl h;
      opened_in_c = λ local remote segments clock l o h. inr (o, h, refl);
      none_yet = λ w. tt;
      on-a = λ v cs w d h line. ((d, brings (as_event v).request _ w.b h), line);
      on-b = λ v cs w d h line. ((d, brings (as_event v).request _ w.a h), line);
      last_read = λ v buf x q room d none. ((buf, q, room), d, none);
      one_more_read = λ v vs last buf x q room d rest. ((buf, q, room), d, rest);
      no_call = λ x. tt;
      one_more_call = λ v vs x d rest. (d, rest);
      to_c = λ x v d. (crossing.there x, d);
      on_in_c = λ p x v next (h, d) e. (crossing.back p x v h d, e);
    }

brings_call : (q : Call) (x other : model.Side) → AllowedCall other.past.taken (answer q x.end).outcome q → model.Brings q x other
brings_call (write_call bytes) x other h = tt
brings_call (deliver_call datagram clock) x other (no_delivery h) = absurd (h datagram clock refl)
brings_call (deliver_call datagram clock) x other (copy m) = inl m
brings_call (deliver_call datagram clock) x other (refused why e) = inr (is-refused _ why e)
brings_call (drive_call clock) x other h = tt
brings_call (take_call room) x other h = tt
brings_call (read_call room) x other h = tt
brings_call close_call x other h = tt

pub any_line_in_model : AnyLineInModel
any_line_in_model =
    record {
      any_id = λ i l. omega arith;
      none_yet = λ w. tt;
      on-a = λ q cs w h line. (brings_call q w.a w.b h, line);
      on-b = λ q cs w h line. (brings_call q w.b w.a h, line);
    }
