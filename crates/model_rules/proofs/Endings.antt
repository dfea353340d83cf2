-- What calls from a fresh stream also keep, apart from the invariant: an error is set exactly when the local side is closed, and only a
-- stream with an error has ended (`ending_after`). The one step that sets an error also closes the local side.
use Prim.Native.Nat.{ℕ, zero, suc, ◌+◌, ◌-◌}
use mathlib.Core.Path.{◌≡◌, refl, sym}
use mathlib.Core.List.{List, [], ◌∷◌}
use mathlib.Core.Option.{Option, none, some}
use mathlib.Core.Bool.{Bool, true, false, cond, ◌&&◌, not, true≢false}
use lib.Dec.{ltb}
use lib.ListN.{length, drop}
use Rattle.error.specs.declared.UdxError.{UdxError}
use Rattle.error.specs.declared.UdxError.TheVariants as error
use Rattle.error.specs.declared.Outcome.TheVariants.{Ready, Done, Nothing}
use Rattle.packet.specs.declared.header.Header.{Header}
use Rattle.packet.specs.Header.{fields, has_type}
use Rattle.packet.specs.Blocks.{blocks}
use Rattle.model.specs.Lists.{Bytes, is_empty, on}
use Rattle.model.specs.Slots.{get}
use Rattle.model.specs.Stream.{Packet, Entry, state, packet, CloseState, both_open, local_closed, remote_closed, both_closed, Ending, End, fresh, with_sender, with_ending, with_clocks, with_totals}
use Rattle.model.specs.Answers.{Answer, answered}
use Rattle.model.specs.Sending.{is_set, close_local, close_remote, failed, terminate, send_data_packet, piece, goes, Written, write_loop, write_refusal, written, write, close_refusal, close}
use Rattle.model.specs.Receiving.{ack_number, ack_blocks, count_received, on_sack, remote_ended, on_end, on_data, at_clock, handle_incoming, deliver_refusal, deliver, read_next, read_answer, read_refusal, read}
use Rattle.model.specs.Driving.{settle_one, settle_loop, settle, due, lost, Passed, time_out_packet, time_out_loop, time_out_end, due_end, check_timeouts, flushed, fits, flush_loop, flush, drained, drive_refusal, drive_clock, ended, poll_drive, drive, batch, remarked, taken_marks, Taken, take_entry, take_loop, take_refusal, take_answer, take}
use Rattle.model.specs.Calls.{Call, write_call, deliver_call, drive_call, take_call, read_call, close_call, answer, after}
use Rattle.model.proofs.Lists.{by-test}
use Rattle.model.proofs.Gate.{by_gate, and_left}
use Rattle.model_rules.proofs.InvariantMarks.{by_ack}
use Rattle.model_rules.proofs.InvariantDeliver.{by_blocks}

abbrev pub local_is_closed : CloseState → Bool
local_is_closed both_open = false
local_is_closed local_closed = true
local_is_closed remote_closed = false
local_is_closed both_closed = true

pub record EndingFacts (x : Ending) : Type 0 where
  -- an error is set exactly when the local side is closed
  pub closed : is_set x.error ≡ local_is_closed x.state
  -- a stream that has ended has an error
  pub with_error : x.ended ≡ true → is_set x.error ≡ true

abbrev EndingIn : End → Type 0
EndingIn e = EndingFacts e.ending

abbrev EndingInAnswer : Answer → Type 0
EndingInAnswer a = EndingFacts a.end.ending

-- the steps that change it

ending_remote : (x : Ending) → EndingFacts x → EndingFacts (remote_ended x)
ending_remote x f = record { closed = go x.state f.closed; with_error = f.with_error }
  where
    go : (s : CloseState) → is_set x.error ≡ local_is_closed s → is_set x.error ≡ local_is_closed (close_remote s)
    go both_open z = z
    go local_closed z = z
    go remote_closed z = z
    go both_closed z = z

ending_failed : (why : UdxError) (x : Ending) → EndingFacts (failed why x)
ending_failed why x = record { closed = go x.state; with_error = λ q. refl }
  where
    go : (s : CloseState) → true ≡ local_is_closed (close_local s)
    go both_open = refl
    go local_closed = refl
    go remote_closed = refl
    go both_closed = refl

-- the calls

ending_written : (k : ℕ) (bytes : Bytes) (e : End) → EndingIn e → EndingIn (write_loop k bytes e).end
unfolding write_loop
ending_written zero bytes e f = f
ending_written (suc k) bytes e f =
    by-test (λ (w : Written). EndingIn w.end) (not (is_empty bytes) && goes (piece bytes) e.sender)
    (let w = write_loop k (drop 1_380 bytes) (send_data_packet (piece bytes) e) in
    record { count = length (piece bytes) + w.count; end = w.end })
    (record { count = 0; end = e })
    (λ q. ending_written k (drop 1_380 bytes) (send_data_packet (piece bytes) e) f) (λ q. f)

ending_acked : (clock n : ℕ) (e : End) → EndingIn e → EndingIn (ack_number clock n e)
ending_acked clock n e f = by_ack EndingIn clock n e (λ z. f) (λ p z. f)

ending_incoming : (clock : ℕ) (h : Header) (payload : Bytes) (e : End) → EndingIn e → EndingIn (handle_incoming clock h payload e)
unfolding on_sack on_end on_data handle_incoming
ending_incoming clock h payload e f =
    by-test (λ (x : End). EndingIn (on_data h payload (on_end h x))) (has_type 4 h.typ) (ack_blocks clock (blocks payload) y) y
    (λ q. on_ends (ack_blocks clock (blocks payload) y) (by_blocks EndingIn clock (ending_acked clock) (blocks payload) y f)) (λ q. on_ends y f)
  where
    y : End
    y = with_totals (count_received e.totals) (with_clocks (at_clock clock e.clocks) e)

    on_datas : (x : End) → EndingIn x → EndingIn (on_data h payload x)
    on_datas x f = by-test EndingIn (has_type 1 h.typ) _ x (λ q. f) (λ q. f)

    on_ends : (x : End) → EndingIn x → EndingIn (on_data h payload (on_end h x))
    on_ends x f =
        by-test (λ (z : End). EndingIn (on_data h payload z)) (has_type 2 h.typ) (terminate error.UnexpectedEof (with_ending (remote_ended x.ending) x)) x
        (λ q. on_datas (terminate error.UnexpectedEof (with_ending (remote_ended x.ending) x)) (ending_failed error.UnexpectedEof (remote_ended x.ending))) (λ q. on_datas x f)

ending_settled : (clock k : ℕ) (e : End) → EndingIn e → EndingIn (settle_loop clock k e)
unfolding settle_loop
ending_settled clock zero e f = f
ending_settled clock (suc k) e f = ending_settled clock k (settle_one clock e) (ending_acked clock e.sender.remote_acked e f)

ending_timed : (k n : ℕ) (e : End) → EndingIn e → EndingIn (time_out_loop k n e).end
unfolding time_out_loop time_out_packet
ending_timed zero n e f = f
ending_timed (suc k) n e f = go (get e.sender.outgoing n) (λ x f. ending_timed k (suc n) x f)
  where
    next : Passed → Passed
    next t = cond t.failed t (time_out_loop k (suc n) t.end)

    go : (o : Option Packet) → ((x : End) → EndingIn x → EndingIn (time_out_loop k (suc n) x).end) → EndingIn (next (on o (record { failed = false; end = e }) (λ p. time_out_packet n p e))).end
    go none rec = rec e f
    go (some p) rec =
        by-test (λ (t : Passed). EndingIn (next t).end) p.marks.waiting (record { failed = false; end = e })
        (cond (ltb 5 p.marks.transmits) (record { failed = true; end = e }) (record { failed = false; end = lost n p e })) (λ w. rec e f)
        (λ w.
        by-test (λ (t : Passed). EndingIn (next t).end) (ltb 5 p.marks.transmits) (record { failed = true; end = e }) (record { failed = false; end = lost n p e }) (λ t. f)
        (λ t. rec (lost n p e) f))

ending_timeouts : (clock : ℕ) (e : End) → EndingIn e → EndingIn (check_timeouts clock e)
unfolding check_timeouts
ending_timeouts clock e f =
    let t = time_out_loop (e.sender.seq - e.sender.remote_acked) e.sender.remote_acked (due_end clock e) in
    by-test EndingIn (due clock e) (time_out_end t) e
    (λ q.
    by-test EndingIn t.failed (terminate error.TimedOut t.end) t.end (λ z. ending_failed error.TimedOut t.end.ending)
    (λ z. ending_timed (e.sender.seq - e.sender.remote_acked) e.sender.remote_acked (due_end clock e) f))
    (λ q. f)

ending_flushed : (k n : ℕ) (e : End) → EndingIn e → EndingIn (flush_loop k n e)
unfolding flush_loop
ending_flushed zero n e f = f
ending_flushed (suc k) n e f = go (get e.sender.outgoing n) (λ x f. ending_flushed k (suc n) x f)
  where
    go : (o : Option Packet) → ((x : End) → EndingIn x → EndingIn (flush_loop k (suc n) x))
        → EndingIn (on o (flush_loop k (suc n) e)
        (λ p. cond p.marks.waiting (cond (fits p e.sender) (flush_loop k (suc n) (flushed n p e)) e) (flush_loop k (suc n) e)))
    go none rec = rec e f
    go (some p) rec =
        by-test EndingIn p.marks.waiting (cond (fits p e.sender) (flush_loop k (suc n) (flushed n p e)) e) (flush_loop k (suc n) e)
        (λ w. by-test EndingIn (fits p e.sender) (flush_loop k (suc n) (flushed n p e)) e (λ q. rec (flushed n p e) f) (λ q. f)) (λ w. rec e f)

ending_polled : (clock : ℕ) (e : End) → EndingIn e → EndingIn (poll_drive clock e)
unfolding settle flush poll_drive
ending_polled clock e f =
    let x = drive_clock clock e in
    let t = check_timeouts clock (settle clock x) in
    ending_flushed (t.sender.seq - t.sender.remote_acked) t.sender.remote_acked t
    (ending_timeouts clock (settle clock x) (ending_settled clock (e.sender.largest_ack - e.sender.remote_acked) x f))

ending_done : (clock : ℕ) (e : End) → drained e ≡ true → EndingIn e → EndingIn (ended (drive_clock clock e))
unfolding drained
ending_done clock e q f = record { closed = f.closed; with_error = λ z. and_left (is_set e.ending.error) _ q }

ending_taken : (k : ℕ) (q : List Entry) (e : End) → EndingIn e → EndingIn (take_loop k q e).end
unfolding take_loop take_entry
ending_taken zero q e f = f
ending_taken (suc k) [] e f = f
ending_taken (suc k) (state b ∷ q) e f = ending_taken k q e f
ending_taken (suc k) (packet n l ∷ q) e f = ending_taken k q (take_entry (packet n l) e).end (at (get e.sender.outgoing n))
  where
    T : Taken → Type 0
    T t = EndingIn t.end

    at : (o : Option Packet) → T
        (on o (record { datagrams = []; end = e })
        (λ p. record { datagrams = p.bytes ∷ []; end = with_sender (remarked n e.sender.inflight (taken_marks e.clocks.drive) p e.sender) e }))
    at none = f
    at (some p) = f

pub ending_call : (c : Call) (e : End) → EndingFacts e.ending → EndingFacts (answer c e).end.ending
unfolding write deliver drive take read close
ending_call (write_call bytes) e f =
    by_gate EndingInAnswer (write_refusal bytes e) e (written bytes (write_loop (length bytes) bytes e)) (λ why. f) (λ z. ending_written (length bytes) bytes e f)
ending_call (deliver_call datagram clock) e f =
    by_gate EndingInAnswer (deliver_refusal datagram clock e) e (answered Ready (handle_incoming clock (fields datagram) (drop 20 datagram) e)) (λ why. f)
    (λ z. ending_incoming clock (fields datagram) (drop 20 datagram) e f)
ending_call (drive_call clock) e f =
    by_gate EndingInAnswer (drive_refusal clock e) e (cond (drained e) (answered Done (ended (drive_clock clock e))) (answered Ready (poll_drive clock e))) (λ why. f)
    (λ z.
    by-test EndingInAnswer (drained e) (answered Done (ended (drive_clock clock e))) (answered Ready (poll_drive clock e)) (λ q. ending_done clock e q f) (λ q. ending_polled clock e f))
ending_call (take_call room) e f =
    let t = take_loop (batch e) e.queue.entries e in
    by_gate EndingInAnswer (take_refusal room e) e (cond (ltb 0 e.queue.left) (take_answer t e) (answered Nothing e)) (λ why. f)
    (λ z. by-test EndingInAnswer (ltb 0 e.queue.left) (take_answer t e) (answered Nothing e) (λ q. ending_taken (batch e) e.queue.entries e f) (λ q. f))
ending_call (read_call room) e f = by_gate EndingInAnswer (read_refusal e) e (read_answer (read_next room e.receiver) e) (λ why. f) (λ z. f)
ending_call close_call e f =
    by_gate EndingInAnswer (close_refusal e) e (answered Ready (terminate error.ConnectionReset e)) (λ why. f) (λ z. ending_failed error.ConnectionReset e.ending)

-- a list of calls

ending_calls : (cs : List Call) (e : End) → EndingFacts e.ending → EndingFacts (after cs e).ending
ending_calls [] e f = f
ending_calls (c ∷ cs) e f = ending_calls cs (answer c e).end (ending_call c e f)

pub ending_after : (local remote segments clock : ℕ) (calls : List Call) → EndingFacts (after calls (fresh local remote segments clock)).ending
unfolding fresh
ending_after local remote segments clock calls =
    ending_calls calls (fresh local remote segments clock) (record { closed = refl; with_error = λ z. absurd (true≢false (sym z)) })
