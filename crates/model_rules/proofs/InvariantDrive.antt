-- A drive keeps the invariant. It starts with nothing left to take, so each queued packet is queued once; settling and timeouts keep that
-- for the packets still ahead (`Driving`), flushing adds at most one entry per number (`Flushing`), and then the whole queue is left to
-- take.
use Prim.Native.Nat.{ℕ, zero, suc, ◌+◌, ◌-◌, ◌^◌, ◌≤◌, ◌<◌, zero-le}
use native.Mathlib.Nat.{le_refl}
use native.Mathlib.Omega.{arith}
use mathlib.Core.Path.{◌≡◌, refl}
use mathlib.Core.List.{[], ◌∷◌, append-nil}
use mathlib.Core.Option.{Option, none, some}
use mathlib.Core.Bool.{Bool, true, false, cond}
use lib.Dec.{ltb}
use borrow.Author.Tests.{ltb-false}
use lib.ListN.{length, length-append}
use Rattle.rtt.specs.Estimate.{InRange}
use Rattle.error.specs.declared.UdxError.TheVariants as error
use Rattle.error.specs.declared.Outcome.TheVariants.{Ready, Done}
use Rattle.rtt.specs.Window.{halved}
use Rattle.model.specs.Lists.{on}
use Rattle.model.specs.Slots.{get}
use Rattle.model.specs.Stream.{Packet, state, packet, Timing, End, with_sender}
use Rattle.model.specs.Rules.{states, numbers}
use Rattle.model.specs.Sending.{create_packet, terminate}
use Rattle.model.specs.Receiving.{handle_remote_ack, ack_number}
use Rattle.model.specs.Driving.{lost_marks, marked, lost, flushed, settled, settle_one, settle_loop, no_ack, restarted, settle, due, backed_off, Passed, time_out_packet, time_out_loop, time_out_end, due_end, check_timeouts, fits, flush_loop, flush, drained, drive_tests, drive_refusal, drive_clock, ended, poll_drive, drive}
use Rattle.model.specs.Answers.{Answer, answered}
use Rattle.model.proofs.Lists.{by-test}
use Rattle.model.proofs.SlotSums.{SlotsOk, slots_look, slots_again}
use Rattle.model_rules.proofs.Ranges.{halved_range}
use Rattle.model_rules.proofs.Invariant.{QueuedOnce, FactsWith, at_rest, InvariantWith, rest_few}
use Rattle.model.proofs.Gate.{by_gate, clear, clock_fits}
use Rattle.model_rules.proofs.InvariantSteps.{states_append, numbers_append, facts_clocks, facts_window, facts_timing}
use Rattle.model_rules.proofs.InvariantMarks.{facts_lost, facts_flushed, slots_stay, facts_acked, by_ack, removed, facts_settled}
use Rattle.model_rules.proofs.InvariantSend.{resting_of, facts_terminate}
use Rattle.model_rules.proofs.InvariantTake.{left_all}

-- settling

-- what a drive keeps while it settles and checks timeouts; packets from m on are as they were
abbrev pub DrivingWith : Bool → ℕ → End → Type 0
DrivingWith more m e =
    record {
      facts : FactsWith more e;
      queued : more ≡ true → SlotsOk (λ n p. m ≤ n → QueuedOnce e.queue.entries n p) e.sender.outgoing;
      states : states e.queue.entries ≤ 63;
      packets : length (numbers e.queue.entries) ≤ 32;
    }

abbrev pub Driving : ℕ → End → Type 0
Driving m e = DrivingWith true m e

driving_settled : {more : Bool} (clock k : ℕ) (e : End) → clock < 2 ^ 60 → e.sender.remote_acked + k ≤ e.sender.seq → DrivingWith more 0 e → DrivingWith more 0 (settle_loop clock k e)
unfolding settle_loop
driving_settled clock zero e y l d = d
driving_settled {more} clock (suc k) e y l d = let (a, b) = one in driving_settled clock k (settle_one clock e) y a b
  where
    Q : End → Type 0
    Q x = let z = with_sender (settled x.sender) x in (z.sender.remote_acked + k ≤ z.sender.seq) × DrivingWith more 0 z

    there : (p : Packet) → get e.sender.outgoing e.sender.remote_acked ≡ some p → Q (handle_remote_ack clock e.sender.remote_acked p e)
    there p z = (
      omega arith,
      record {
        facts =
            facts_settled (handle_remote_ack clock e.sender.remote_acked p e) (removed e.sender.outgoing e.sender.remote_acked d.facts.slots) (omega arith)
            (facts_acked clock e.sender.remote_acked e d.facts p z y);
        queued = λ w.
            slots_stay (λ n p. 0 ≤ n → QueuedOnce e.queue.entries n p) e.sender.outgoing e.sender.remote_acked d.facts.slots (d.queued w);
        states = d.states;
        packets = d.packets;
      },
    )

    one : Q (ack_number clock e.sender.remote_acked e)
    one =
        by_ack Q clock e.sender.remote_acked e
        (λ z. (omega arith, record { facts = facts_settled e z (omega arith) d.facts; queued = d.queued; states = d.states; packets = d.packets }))
        there

pub driving_settle : {more : Bool} (clock : ℕ) (e : End) → clock < 2 ^ 60 → DrivingWith more 0 e → DrivingWith more 0 (settle clock e)
unfolding restarted settle
driving_settle clock e y d =
    let n = d.facts.numbers in
    let l = n.largest_seq in
    let m = n.acked_seq in
    let r = driving_settled clock (e.sender.largest_ack - e.sender.remote_acked) e y (omega arith) d in
    let x = settle_loop clock (e.sender.largest_ack - e.sender.remote_acked) e in
    record {
      facts =
          facts_timing (with_sender (no_ack x.sender) x) (restarted clock (ltb e.sender.remote_acked e.sender.largest_ack) x.timing)
          (by-test (λ (t : Timing). InRange t.rtt) (ltb e.sender.remote_acked e.sender.largest_ack)
          (record { rtt = x.timing.rtt; deadline = clock + x.timing.rtt.rto.0 }) x.timing (λ z. r.facts.ranges.estimate) (λ z. r.facts.ranges.estimate))
          (facts_window x 0 x.sender.cwnd zero-le r.facts.ranges.window r.facts);
      queued = r.queued;
      states = r.states;
      packets = r.packets;
    }

-- timeouts

pub driving_timed : {more : Bool} (k m : ℕ) (e : End) → DrivingWith more m e → (j : ℕ) × DrivingWith more j (time_out_loop k m e).end
unfolding time_out_loop time_out_packet
driving_timed zero m e d = (m, d)
driving_timed {more} (suc k) m e d = go (get e.sender.outgoing m) refl (λ x d. driving_timed k (suc m) x d)
  where
    D : Passed → Type 0
    D t = (j : ℕ) × DrivingWith more j t.end

    later : DrivingWith more (suc m) e
    later =
        record {
          facts = d.facts;
          queued = λ w i x z. (let (a, b) = d.queued w i x z in (a, λ l. b (omega arith)));
          states = d.states;
          packets = d.packets;
        }

    loses : (p : Packet) → get e.sender.outgoing m ≡ some p → p.marks.waiting ≡ false → p.marks.transmits ≤ 5 → DrivingWith more (suc m) (lost m p e)
    loses p z w t =
        record {
          facts =
              facts_lost e m p z w t (λ y. slots_look (λ n p. m ≤ n → QueuedOnce e.queue.entries n p) e.sender.outgoing m p (d.queued y) z (le_refl m)) d.facts;
          queued = λ y.
              slots_again (λ n p. m ≤ n → QueuedOnce e.queue.entries n p) (λ n p. suc m ≤ n → QueuedOnce e.queue.entries n p) e.sender.outgoing m (marked lost_marks p)
              d.facts.slots (d.queued y) (λ n u ne h l. h (omega arith)) (λ l. absurd (omega arith));
          states = d.states;
          packets = d.packets;
        }

    next : Passed → Passed
    next t = cond t.failed t (time_out_loop k (suc m) t.end)

    go : (o : Option Packet) → get e.sender.outgoing m ≡ o → ((x : End) → DrivingWith more (suc m) x → D (time_out_loop k (suc m) x))
        → D (next (on o (record { failed = false; end = e }) (λ p. time_out_packet m p e)))
    go none z rec = rec e later
    go (some p) z rec =
        by-test (λ (t : Passed). D (next t)) p.marks.waiting (record { failed = false; end = e })
        (cond (ltb 5 p.marks.transmits) (record { failed = true; end = e }) (record { failed = false; end = lost m p e })) (λ w. rec e later)
        (λ w.
        by-test (λ (t : Passed). D (next t)) (ltb 5 p.marks.transmits) (record { failed = true; end = e }) (record { failed = false; end = lost m p e }) (λ t. (m, d))
        (λ t. rec (lost m p e) (loses p z w (ltb-false 5 p.marks.transmits t))))

-- flushing

-- the queue has room for k more packets
abbrev Flushing : Bool → ℕ → End → Type 0
Flushing more k e = record { facts : FactsWith more e; states : states e.queue.entries ≤ 64; packets : length (numbers e.queue.entries) + k ≤ 64 }

flushing_of : {more : Bool} (m : ℕ) (e : End) → DrivingWith more m e → Flushing more 32 e
flushing_of m e d =
    record { facts = d.facts; states = (let u = d.states in omega arith); packets = (let u = d.packets in omega arith) }

-- the window is halved and the timer restarted
pub driving_due : {more : Bool} (clock : ℕ) (e : End) → DrivingWith more 0 e → DrivingWith more e.sender.remote_acked (due_end clock e)
unfolding backed_off
driving_due clock e d =
    record {
      facts =
          facts_window e e.sender.largest_ack (halved e.sender.cwnd) d.facts.numbers.largest_seq (halved_range e.sender.cwnd d.facts.ranges.window) d.facts;
      queued = λ w i x z. (let (a, b) = d.queued w i x z in (a, λ l. b zero-le));
      states = d.states;
      packets = d.packets;
    }

flushing_timeouts : {more : Bool} (clock : ℕ) (e : End) → DrivingWith more 0 e → Flushing more 32 (check_timeouts clock e)
unfolding check_timeouts
flushing_timeouts {more} clock e d = by-test (Flushing more 32) (due clock e) (time_out_end t) e (λ q. passed) (λ q. flushing_of 0 e d)
  where
    t : Passed
    t = time_out_loop (e.sender.seq - e.sender.remote_acked) e.sender.remote_acked (due_end clock e)

    passed : Flushing more 32 (time_out_end t)
    passed =
        let (j, f) = driving_timed (e.sender.seq - e.sender.remote_acked) e.sender.remote_acked (due_end clock e) (driving_due clock e d) in
        by-test (Flushing more 32) t.failed (terminate error.TimedOut t.end) t.end
        (λ q.
        record {
          facts = facts_terminate error.TimedOut t.end f.facts;
          states =
              (let u = states_append t.end.queue.entries (state (create_packet 2 [] t.end) ∷ []) in let v = f.states in omega arith);
          packets = rw numbers_append (rw append-nil (let u = f.packets in omega arith));
        })
        (λ q. flushing_of j t.end f)

flushing_flushed : {more : Bool} (k m : ℕ) (e : End) → Flushing more k e → Flushing more 0 (flush_loop k m e)
unfolding flush_loop
flushing_flushed zero m e d = d
flushing_flushed {more} (suc k) m e d = go (get e.sender.outgoing m) refl (λ x d. flushing_flushed k (suc m) x d)
  where
    less : Flushing more k e
    less = record { facts = d.facts; states = d.states; packets = (let u = d.packets in omega arith) }

    stop : Flushing more 0 e
    stop = record { facts = d.facts; states = d.states; packets = (let u = d.packets in omega arith) }

    again : (p : Packet) → get e.sender.outgoing m ≡ some p → p.marks.waiting ≡ true → Flushing more k (flushed m p e)
    again p z w =
        record {
          facts = facts_flushed e m p z w d.facts;
          states = (let u = states_append e.queue.entries (packet m (length p.bytes) ∷ []) in let v = d.states in omega arith);
          packets = rw (numbers_append, length-append) (let v = d.packets in omega arith);
        }

    go : (o : Option Packet) → get e.sender.outgoing m ≡ o → ((x : End) → Flushing more k x → Flushing more 0 (flush_loop k (suc m) x))
        → Flushing more 0
        (on o (flush_loop k (suc m) e)
        (λ p. cond p.marks.waiting (cond (fits p e.sender) (flush_loop k (suc m) (flushed m p e)) e) (flush_loop k (suc m) e)))
    go none z rec = rec e less
    go (some p) z rec =
        by-test (Flushing more 0) p.marks.waiting (cond (fits p e.sender) (flush_loop k (suc m) (flushed m p e)) e) (flush_loop k (suc m) e)
        (λ w. by-test (Flushing more 0) (fits p e.sender) (flush_loop k (suc m) (flushed m p e)) e (λ q. rec (flushed m p e) (again p z w)) (λ q. stop))
        (λ w. rec e less)

flushing_flush : {more : Bool} (e : End) → Flushing more 32 e → Flushing more 0 (flush e)
unfolding flush
flushing_flush e f =
    let n = f.facts.numbers.seq_near in
    let u = f.packets in
    flushing_flushed (e.sender.seq - e.sender.remote_acked) e.sender.remote_acked e (record { facts = f.facts; states = f.states; packets = omega arith })

-- drive

-- a drive that is not refused starts with nothing left to take
pub driving_start : {more : Bool} (clock : ℕ) (e : End) → InvariantWith more e → drive_refusal clock e ≡ none → (clock < 2 ^ 60) × DrivingWith more 0 (drive_clock clock e)
unfolding drive_refusal
driving_start clock e g z =
    let r = resting_of e g (clear (drive_tests clock e) z 3) in
    let (y, l) = clock_fits clock e (clear (drive_tests clock e) z 1) in (
      y,
      record {
        facts = facts_clocks e (record { last = clock; drive = clock }) l (le_refl _) y r.facts;
        queued = λ w i x z. (let (a, b) = r.rest.queued w i x z in (a, λ l. b));
        states = r.rest.states;
        packets = rest_few e r.facts r.rest;
      },
    )

pub drive_keeps : {more : Bool} (clock : ℕ) (e : End) → InvariantWith more e → InvariantWith more (drive clock e).end
unfolding drive_refusal poll_drive drive
drive_keeps {more} clock e g =
    by_gate (λ (a : Answer). InvariantWith more a.end) (drive_refusal clock e) e
    (cond (drained e) (answered Done (ended (drive_clock clock e))) (answered Ready (poll_drive clock e))) (λ why. g)
    (λ z.
    let r = resting_of e g (clear (drive_tests clock e) z 3) in
    let (y, d) = driving_start clock e g z in
    by-test (λ (a : Answer). InvariantWith more a.end) (drained e) (answered Done (ended (drive_clock clock e))) (answered Ready (poll_drive clock e))
    (λ q. record { facts = d.facts; left = at_rest r.none_left r.rest }) (λ q. polled y d))
  where
    polled : clock < 2 ^ 60 → DrivingWith more 0 (drive_clock clock e) → InvariantWith more (poll_drive clock e)
    polled y d =
        let x = settle clock (drive_clock clock e) in
        let h = flushing_flush (check_timeouts clock x) (flushing_timeouts clock x (driving_settle clock (drive_clock clock e) y d)) in
        record {
          facts = h.facts;
          left = left_all (poll_drive clock e) h.facts refl (record { states = h.states; packets = (let u = h.packets in omega arith) });
        }
