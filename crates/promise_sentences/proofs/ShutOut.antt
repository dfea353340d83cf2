-- What demand 2 shuts out, from `not_dead`: if none of a call's refusals applies, the conditions hold under which it goes.
use Prim.Native.Nat.{ℕ, ◌+◌, ◌-◌, ◌^◌, ◌≤◌, ◌<◌}
use native.Mathlib.Omega.{arith}
use mathlib.Core.Path.{◌≡◌, refl, ap, ◌∙◌}
use mathlib.Core.Option.{Option, none}
use mathlib.Core.Bool.{true, false, ◌||◌, true≢false}
use mathlib.Core.List.{[], ◌++◌}
use lib.Dec.{ltb, leb, eqb}
use lib.ListN.{length, drop, length-take}
use borrow.Author.Tests.{ltb-true, ltb-false, leb-true, leb-false, eqb-true, not-false}
use Rattle.std.specs.Prelude as rust
use Rattle.std.specs.Prelude.{None, Some}
use Rattle.error.specs.declared.UdxError.{UdxError}
use Rattle.error.specs.declared.UdxError.TheVariants as error
use Rattle.packet.specs.Header.{fields, has_header}
use Rattle.model.specs.Lists.{Bytes, on}
use Rattle.model.specs.Slots.{ceiling}
use Rattle.model.specs.Stream.{Packet, packet, End}
use Rattle.model.specs.Rules.{rules, states}
use Rattle.model.specs.Sending.{is_reset, is_eof, is_timed_out, goes, piece, write_tests, write_refusal}
use Rattle.model.specs.Receiving.{deliver_tests, deliver_refusal}
use Rattle.model.specs.Driving.{drive_tests, drive_refusal, take_tests, take_refusal}
use Rattle.model.specs.Calls.{Call, write_call, deliver_call, drive_call, take_call, read_call, close_call, answer}
use Rattle.model.specs.NotDead.{Deliverable, Writable, Drivable, Takeable}
use Rattle.model.proofs.Gate.{clear, and_left, and_right, and-false}
use Rattle.model.proofs.NotDead.{not_dead}
use Rattle.model_rules.proofs.InvariantCalls.{or_false}
use Rattle.promise_sentences.specs.ShutOut.{LiveAnswer}

none_left : (n : ℕ) → ltb 0 n ≡ false → n ≡ 0
none_left n h = let l = ltb-false 0 n h in omega arith

clock_good : (clock last : ℕ) → (leb (2 ^ 60) clock || ltb clock last) ≡ false → (clock < 2 ^ 60) × (last ≤ clock)
clock_good clock last h = let (fits, next) = or_false (leb (2 ^ 60) clock) _ h in (leb-false (2 ^ 60) clock fits, ltb-false clock last next)

no_error : (x : rust.Option UdxError) → is_reset x ≡ false → is_eof x ≡ false → is_timed_out x ≡ false → x ≡ None
no_error None a b c = refl
no_error (Some error.ConnectionReset) a b c = absurd (true≢false a)
no_error (Some error.UnexpectedEof) a b c = absurd (true≢false b)
no_error (Some error.TimedOut) a b c = absurd (true≢false c)

deliverable : (datagram : Bytes) (clock : ℕ) (e : End) → deliver_refusal datagram clock e ≡ none → Deliverable datagram clock e
unfolding deliver_refusal
deliverable datagram clock e z =
    let h = fields datagram in
    let Clear-of = clear (deliver_tests clock datagram h (drop 20 datagram) e) z in
    record {
      rules_hold = not-false (rules e) (Clear-of 0);
      clock_fits = (clock_good clock e.clocks.last (Clear-of 1)).0;
      clock_next = (clock_good clock e.clocks.last (Clear-of 1)).1;
      not_ended = Clear-of 2;
      none_left = none_left e.queue.left (Clear-of 3);
      has-header = not-false (has_header datagram) (Clear-of 4);
      to_local = eqb-true h.stream_id e.ids.local (not-false (eqb h.stream_id e.ids.local) (Clear-of 5));
      payload_fits = ltb-false 1_380 (length (drop 20 datagram)) (Clear-of 6);
      ack_fits = ltb-false e.sender.seq h.ack (Clear-of 7);
      seq_fits = λ t. leb-false 4_294_967_295 h.seq (and-false _ _ (Clear-of 8) t);
      in_reach = λ t. leb-false (e.receiver.read_cursor + ceiling) h.seq (and-false _ _ (Clear-of 9) t);
      few_states = leb-false 62 (states e.queue.entries) (Clear-of 10);
    }

writable : (bytes : Bytes) (e : End) → write_refusal bytes e ≡ none → 1 ≤ length bytes → goes (piece bytes) e.sender ≡ true → Writable bytes e
unfolding write_refusal goes
writable bytes e z some_bytes fits =
    let Clear-of = clear (write_tests bytes e) z in
    let s = e.sender in
    let rest = and_right (leb (s.inflight + length (piece bytes)) s.cwnd) _ fits in
    let window = leb-true (s.inflight + length (piece bytes)) s.cwnd (and_left _ _ fits) in
    let store = ltb-true (s.seq - s.remote_acked) ceiling (and_left _ _ rest) in
    let long = length-take 1_380 bytes in
    record {
      rules_hold = not-false (rules e) (Clear-of 0);
      none_left = none_left e.queue.left (Clear-of 1);
      no_error = no_error e.ending.error (Clear-of 2) (Clear-of 3) (Clear-of 4);
      some_bytes = some_bytes;
      fits_window = omega arith;
      fits_store = omega arith;
      seq_fits = ltb-true s.seq 4_294_967_295 (and_right (ltb (s.seq - s.remote_acked) ceiling) _ rest);
    }

drivable : (clock : ℕ) (e : End) → drive_refusal clock e ≡ none → Drivable clock e
unfolding drive_refusal
drivable clock e z =
    let Clear-of = clear (drive_tests clock e) z in
    record {
      rules_hold = not-false (rules e) (Clear-of 0);
      clock_fits = (clock_good clock e.clocks.last (Clear-of 1)).0;
      clock_next = (clock_good clock e.clocks.last (Clear-of 1)).1;
      not_ended = Clear-of 2;
      none_left = none_left e.queue.left (Clear-of 3);
    }

takeable : (room : ℕ) (e : End) → take_refusal room e ≡ none → 0 < e.queue.left → Takeable room e
unfolding take_refusal
takeable room e z more =
    let Clear-of = clear (take_tests room e) z in
    record { rules_hold = not-false (rules e) (Clear-of 0); room_fits = ltb-false room 14_000 (Clear-of 1); some_left = more }

pub live_answer : (c : Call) (e : End) → length e.sender.outgoing ≡ ceiling → LiveAnswer c e (answer c e)
live_answer (write_call bytes) e slots =
    let c = not_dead.writes_counted bytes e in
    record {
      accepts = λ z more fits. not_dead.writes bytes e (writable bytes e z more fits);
      counts = (c.pieces, c.numbered, c.inflight, c.inflight-packets, c.inflight-bytes, c.tx-packets, c.tx-bytes, c.rx-packets, c.rx-bytes);
    }
live_answer (deliver_call datagram clock) e slots = λ z. not_dead.delivers datagram clock e (deliverable datagram clock e z)
live_answer (drive_call clock) e slots =
    record {
      goes_on = λ z. not_dead.drives clock e (drivable clock e z);
      done = λ o. let d = not_dead.done_drained clock e o in (d.error_set, d.none_queued, d.none_stored);
      still_queued = not_dead.still_queued clock e;
      all_left = not_dead.all_left clock e;
      waits_for_room = λ o n p g w.
          (let r = not_dead.waits_for_room clock e slots o n p g w in (r.number, r.packet, r.stored, r.waits, r.lowest, r.too_long));
    }
live_answer (take_call room) e slots =
    record {
      none_left = not_dead.none_left room e;
      takes = λ z more. not_dead.takes room e (takeable room e z more);
      takes_state = λ z more bytes q is. not_dead.takes_first room e (takeable room e z more) _ q is;
      takes_packet = λ z more n l p q is g.
          (let (rest, same) = not_dead.takes_first room e (takeable room e z more) (packet n l) q is in
          (rest, same ∙ ap (λ (o : Option Packet). on o [] (λ (p : Packet). p.bytes) ++ rest) g));
      counts_nothing = not_dead.takes_counted room e;
    }
live_answer (read_call room) e slots = not_dead.reads_counted room e
live_answer close_call e slots = tt
