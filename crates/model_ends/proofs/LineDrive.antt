-- A drive and a close keep the invariant of both directions: they change only what the end sends. Settling removes numbers below the other
-- end's ack; timeouts and flushing change marks and queue what is stored; ending queues a state packet.
use Prim.Native.Nat.{ℕ, zero, suc, ◌+◌, ◌-◌, ◌≤◌, ◌<◌}
use native.Mathlib.Omega.{arith}
use mathlib.Core.Path.{◌≡◌, refl}
use mathlib.Core.Option.{Option, none, some}
use mathlib.Core.Bool.{false, cond}
use lib.Dec.{ltb}
use lib.ListN.{length}
use Rattle.error.specs.declared.UdxError.{UdxError}
use Rattle.error.specs.declared.UdxError.TheVariants as error
use Rattle.model.specs.Lists.{on}
use Rattle.model.specs.Slots.{Slots, ceiling, get, remove}
use Rattle.model.specs.Stream.{Packet, End, with_sender, with_ending}
use Rattle.model.specs.Answers.{Answer}
use Rattle.model.specs.Sending.{failed, send_state_packet, terminate, close_refusal, close}
use Rattle.model.specs.Receiving.{left, handle_remote_ack, ack_number}
use Rattle.model.specs.Driving.{settled, settle_one, settle_loop, settle, due, lost_marks, remarked, Passed, time_out_packet, time_out_number, time_out_loop, time_out_end, due_end, check_timeouts, flushed_marks, flushed, fits, flush_loop, flush, drained, drive_refusal, drive_clock, poll_drive, drive}
use Rattle.model_ends.specs.TwoEnds.{History}
use Rattle.model.proofs.Lists.{by-test}
use Rattle.model.proofs.Slots.{remove_cases}
use Rattle.model.proofs.Gate.{by_gate}
use Rattle.model_ends.proofs.Line.{Both}
use Rattle.model_ends.proofs.LineSender.{one_way_state, one_way_entry, one_way_remarked, one_way_left, one_way_settled, one_way_no_ack, piece_length}

gone : (outgoing : Slots Packet) (n : ℕ) → length outgoing ≡ ceiling → get (remove outgoing n) n ≡ none
gone outgoing n l = go (get (remove outgoing n) n) refl
  where
    go : (o : Option Packet) → get (remove outgoing n) n ≡ o → o ≡ none
    go none z = refl
    go (some p) z = absurd ((remove_cases outgoing n n p l z).0 refl)

-- remote acked moves by one
settle_number : (clock : ℕ) (e : End) → (settle_one clock e).sender.remote_acked ≡ suc e.sender.remote_acked
unfolding ack_number
settle_number clock e = go (get e.sender.outgoing e.sender.remote_acked)
  where
    go : (o : Option Packet) → suc (on o e (λ p. handle_remote_ack clock e.sender.remote_acked p e)).sender.remote_acked ≡ suc e.sender.remote_acked
    go none = refl
    go (some p) = refl

module _ (g : History) (f : End) (k : History) where
  pub both_state : (e : End) → Both e g f k → Both (send_state_packet e) g f k
  both_state e i = record { out = one_way_state e g f k i.out; back = i.back }

  pub both_terminate : (why : UdxError) (e : End) → Both e g f k → Both (terminate why e) g f k
  both_terminate why e i = both_state (with_ending (failed why e.ending) e) i

  -- settling

  both_settle_one : (clock : ℕ) (e : End) → e.sender.remote_acked < f.receiver.ack → Both e g f k → Both (settle_one clock e) g f k
  unfolding ack_number
  both_settle_one clock e l i = go (get e.sender.outgoing e.sender.remote_acked) refl
    where
      go : (o : Option Packet) → get e.sender.outgoing e.sender.remote_acked ≡ o
          → let x = on o e (λ p. handle_remote_ack clock e.sender.remote_acked p e) in Both (with_sender (settled x.sender) x) g f k
      go none z = record { out = one_way_settled e g f k l z i.out; back = i.back }
      go (some p) z =
          record {
            out =
                one_way_settled (with_sender (left e.sender.remote_acked p e.sender) e) g f k l
                (gone e.sender.outgoing e.sender.remote_acked i.out.outstanding.slots)
                (one_way_left e g f k e.sender.remote_acked p l i.out);
            back = i.back;
          }

  both_settle_loop : (clock n : ℕ) (e : End) → e.sender.remote_acked + n ≤ f.receiver.ack → Both e g f k → Both (settle_loop clock n e) g f k
  unfolding settle_loop
  both_settle_loop clock zero e l i = i
  both_settle_loop clock (suc n) e l i =
      let u = settle_number clock e in both_settle_loop clock n (settle_one clock e) (omega arith) (both_settle_one clock e (omega arith) i)

  both_settle : (clock : ℕ) (e : End) → Both e g f k → Both (settle clock e) g f k
  unfolding settle
  both_settle clock e i =
      let a = i.out.outstanding.settled_to_ack in
      let b = i.out.outstanding.largest_to_ack in
      let s = both_settle_loop clock (e.sender.largest_ack - e.sender.remote_acked) e (omega arith) i in
      record { out = one_way_no_ack (settle_loop clock (e.sender.largest_ack - e.sender.remote_acked) e) g f k s.out; back = s.back }

  -- timeouts

  both_number : (n : ℕ) (e : End) → Both e g f k → Both (time_out_number n e).end g f k
  unfolding time_out_packet
  both_number n e i = go (get e.sender.outgoing n) refl
    where
      Q : Passed → Type 0
      Q t = Both t.end g f k

      go : (o : Option Packet) → get e.sender.outgoing n ≡ o → Q (on o (record { failed = false; end = e }) (λ p. time_out_packet n p e))
      go none z = i
      go (some p) z =
          by-test Q p.marks.waiting _ _ (λ q. i)
          (λ q.
          by-test Q (ltb 5 p.marks.transmits) _ _ (λ q. i)
          (λ q. record { out = one_way_remarked e g f k n (e.sender.inflight - length p.bytes) lost_marks p z i.out; back = i.back }))

  both_time_out_loop : (count n : ℕ) (e : End) → Both e g f k → Both (time_out_loop count n e).end g f k
  unfolding time_out_loop
  both_time_out_loop zero n e i = i
  both_time_out_loop (suc count) n e i = go (time_out_number n e) (both_number n e i) (λ e' j. both_time_out_loop count (suc n) e' j)
    where
      go : (t : Passed) → Both t.end g f k → ((e' : End) → Both e' g f k → Both (time_out_loop count (suc n) e').end g f k)
          → Both (cond t.failed t (time_out_loop count (suc n) t.end)).end g f k
      go t j rec = by-test (λ (t : Passed). Both t.end g f k) t.failed t (time_out_loop count (suc n) t.end) (λ q. j) (λ q. rec t.end j)

  both_timeouts : (clock : ℕ) (e : End) → Both e g f k → Both (check_timeouts clock e) g f k
  unfolding check_timeouts
  both_timeouts clock e i =
      by-test (λ (e : End). Both e g f k) (due clock e) _ e
      (λ q.
      ends (time_out_loop (e.sender.seq - e.sender.remote_acked) e.sender.remote_acked (due_end clock e))
      (both_time_out_loop (e.sender.seq - e.sender.remote_acked) e.sender.remote_acked (due_end clock e) i))
      (λ q. i)
    where
      ends : (t : Passed) → Both t.end g f k → Both (time_out_end t) g f k
      ends t j =
          by-test (λ (e : End). Both e g f k) t.failed (terminate error.TimedOut t.end) t.end (λ q. both_terminate error.TimedOut t.end j) (λ q. j)

  -- flushing

  both_flush_loop : (count n : ℕ) (e : End) → Both e g f k → Both (flush_loop count n e) g f k
  unfolding flush_loop
  both_flush_loop zero n e i = i
  both_flush_loop (suc count) n e i = go (get e.sender.outgoing n) refl (λ e' j. both_flush_loop count (suc n) e' j)
    where
      go : (o : Option Packet) → get e.sender.outgoing n ≡ o → ((e' : End) → Both e' g f k → Both (flush_loop count (suc n) e') g f k)
          → Both
          (on o (flush_loop count (suc n) e)
          (λ p. cond p.marks.waiting (cond (fits p e.sender) (flush_loop count (suc n) (flushed n p e)) e) (flush_loop count (suc n) e)))
          g f k
      go none z rec = rec e i
      go (some p) z rec =
          by-test (λ (e : End). Both e g f k) p.marks.waiting _ _
          (λ q. by-test (λ (e : End). Both e g f k) (fits p e.sender) _ _ (λ q. rec (flushed n p e) one) (λ q. i))
          (λ q. rec e i)
        where
          one : Both (flushed n p e) g f k
          one =
              let d = (i.out.stored n p z).1 in
              record {
                out =
                    one_way_entry (with_sender (remarked n (e.sender.inflight + length p.bytes) flushed_marks p e.sender) e) g f k n (length p.bytes)
                    (d.is_piece, piece_length d)
                    (one_way_remarked e g f k n (e.sender.inflight + length p.bytes) flushed_marks p z i.out);
                back = i.back;
              }

  -- the calls

  both_poll : (clock : ℕ) (e : End) → Both e g f k → Both (poll_drive clock e) g f k
  unfolding poll_drive flush
  both_poll clock e i =
      let t = check_timeouts clock (settle clock (drive_clock clock e)) in
      both_flush_loop (t.sender.seq - t.sender.remote_acked) t.sender.remote_acked t
      (both_timeouts clock (settle clock (drive_clock clock e)) (both_settle clock (drive_clock clock e) i))

  pub both_drive : (clock : ℕ) (e : End) → Both e g f k → Both (drive clock e).end g f k
  unfolding drive
  both_drive clock e i =
      by_gate (λ (a : Answer). Both a.end g f k) (drive_refusal clock e) e _ (λ why. i)
      (λ z. by-test (λ (a : Answer). Both a.end g f k) (drained e) _ _ (λ q. i) (λ q. both_poll clock e i))

  pub both_close : (e : End) → Both e g f k → Both (close e).end g f k
  unfolding close
  both_close e i =
      by_gate (λ (a : Answer). Both a.end g f k) (close_refusal e) e _ (λ why. i) (λ z. both_terminate error.ConnectionReset e i)
