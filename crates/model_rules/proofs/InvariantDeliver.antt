-- A delivery keeps the invariant. It acts only when nothing is left to take, and each of its parts (SACK blocks, END, DATA, the header's
-- ack) leaves it so. `Taking` is what one part passes to the next: how many state packets there may be, and that the receiver and seq are
-- still those that the tests saw.
use Prim.Native.Nat.{ℕ, zero, suc, ◌+◌, ◌-◌, ◌^◌, ◌≤◌, ◌<◌, max, zero-le}
use native.Mathlib.Omega.{arith}
use mathlib.Core.Path.{◌≡◌, refl, ◌∙◌}
use mathlib.Core.List.{List, [], ◌∷◌}
use mathlib.Core.Option.{Option, none, some}
use mathlib.Core.Bool.{Bool, true, false, cond}
use lib.Dec.{ltb, leb}
use borrow.Author.Tests.{ltb-false, leb-true, leb-false}
use lib.ListN.{length, get_or, drop}
use Rattle.error.specs.declared.UdxError.TheVariants as error
use Rattle.error.specs.declared.Outcome.TheVariants.{Ready}
use Rattle.packet.specs.declared.header.Header.{Header}
use Rattle.packet.specs.Header.{fields, has_type}
use Rattle.packet.specs.Blocks.{Span, blocks}
use Rattle.rtt.specs.Window.{grown}
use Rattle.model.specs.Lists.{Bytes, on}
use Rattle.model.specs.Slots.{ceiling, get}
use Rattle.model.specs.Stream.{Held, state, Receiver, End, with_receiver, with_ending, with_clocks, with_totals}
use Rattle.model.specs.Answers.{Answer, answered}
use Rattle.model.specs.Rules.{states}
use Rattle.model.specs.Sending.{create_packet, send_state_packet, terminate}
use Rattle.model.specs.Receiving.{ack_number, ack_numbers, ack_blocks, count_received, count_data, on_sack, remote_ended, on_end, held, acked, advance, absorb, on_data, on_ack, at_clock, handle_incoming, deliver_tests, deliver_refusal, deliver}
use Rattle.model.proofs.Lists.{by-test}
use Rattle.model.proofs.Slots.{insert_length}
use Rattle.model.proofs.SlotSums.{SlotsOk, slots_look, slots_insert}
use Rattle.model.proofs.Gate.{no_test, by_gate, clear, and-false, clock_fits}
use Rattle.model_rules.proofs.Ranges.{CwndInRange, grown_range}
use Rattle.model_rules.proofs.Invariant.{HeldFacts, ReceiverFacts, InvariantWith}
use Rattle.model_rules.proofs.InvariantSteps.{states_append, facts_clocks, facts_window}
use Rattle.model_rules.proofs.InvariantMarks.{facts_acked, rest_acked, by_ack}
use Rattle.model_rules.proofs.InvariantSend.{Resting, resting_of, invariant_of, resting_state, resting_terminate}
use Rattle.model_rules.proofs.InvariantRead.{facts_receiver}

-- SACK blocks

-- every number of every block keeps what one number keeps
module _ (Q : End → Type 0) (clock : ℕ) (one : (n : ℕ) (e : End) → Q e → Q (ack_number clock n e)) where
  by_numbers : (k n : ℕ) (e : End) → Q e → Q (ack_numbers clock k n e)
  unfolding ack_numbers
  by_numbers zero n e t = t
  by_numbers (suc k) n e t = by_numbers k (suc n) (ack_number clock n e) (one n e t)

  pub by_blocks : (bs : List Span) (e : End) → Q e → Q (ack_blocks clock bs e)
  unfolding ack_blocks
  by_blocks [] e t = t
  by_blocks (b ∷ bs) e t = by_blocks bs (ack_numbers clock (b.end - b.start) b.start e) (by_numbers (b.end - b.start) b.start e t)

abbrev Taking : Bool → ℕ → Receiver → ℕ → End → Type 0
Taking more most r seq e =
    record { resting : Resting more e; states : states e.queue.entries ≤ most; receiver : e.receiver ≡ r; seq : e.sender.seq ≡ seq }

taking_acked : {more : Bool} (clock most : ℕ) (r : Receiver) (seq : ℕ) → clock < 2 ^ 60 → (n : ℕ) (e : End) → Taking more most r seq e
    → Taking more most r seq (ack_number clock n e)
taking_acked {more} clock most r seq y n e t =
    let g = t.resting in
    by_ack (Taking more most r seq) clock n e (λ z. t)
    (λ p z.
    record {
      resting = record { facts = facts_acked clock n e g.facts p z y; none_left = g.none_left; rest = rest_acked clock n e g.facts p z g.rest };
      states = t.states;
      receiver = t.receiver;
      seq = t.seq;
    })

-- DATA

-- the receiver before ack moves past what is held
abbrev Holding : Receiver → Type 0
Holding r =
    record {
      slots : length r.incoming ≡ ceiling;
      held : SlotsOk (HeldFacts r.read_cursor) r.incoming;
      cursor_ack : r.read_cursor ≤ r.ack;
      ack_near : r.ack ≤ r.read_cursor + ceiling;
    }

receiver_advanced : (more : Bool) (k : ℕ) (r : Receiver) → r.read_cursor + ceiling ≤ r.ack + k → Holding r → ReceiverFacts more (advance k r)
unfolding advance
receiver_advanced more zero r l x =
    record { slots = x.slots; held = x.held; cursor_ack = x.cursor_ack; ack_near = x.ack_near; gap = λ y. go (get r.incoming r.ack) refl }
  where
    go : (o : Option Held) → get r.incoming r.ack ≡ o → o ≡ none
    go none z = refl
    go (some h) z = let k = (slots_look (HeldFacts r.read_cursor) r.incoming r.ack h x.held z).below in absurd (omega arith)
receiver_advanced more (suc k) r l x = go (get r.incoming r.ack) refl (λ y. receiver_advanced more k (acked r) (omega arith) y)
  where
    go : (o : Option Held) → get r.incoming r.ack ≡ o → (Holding (acked r) → ReceiverFacts more (advance k (acked r))) → ReceiverFacts more (on o r (λ h. advance k (acked r)))
    go none z rec = record { slots = x.slots; held = x.held; cursor_ack = x.cursor_ack; ack_near = x.ack_near; gap = λ y. z }
    go (some h) z rec =
        let k = (slots_look (HeldFacts r.read_cursor) r.incoming r.ack h x.held z).below in
        let u = x.cursor_ack in
        rec (record { slots = x.slots; held = x.held; cursor_ack = omega arith; ack_near = k })

receiver_absorbed : {more : Bool} (n : ℕ) (payload : Bytes) (r : Receiver) → n < r.read_cursor + ceiling → n < 4_294_967_295 → length payload ≤ 1_380 → ReceiverFacts more r
    → ReceiverFacts more (absorb n payload r)
unfolding absorb
receiver_absorbed {more} n payload r near t l x =
    by-test (λ (s : Receiver). ReceiverFacts more (advance ((r.read_cursor + ceiling) - r.ack) s)) (leb r.ack n) (held n payload r) r
    (λ q.
    let u = leb-true r.ack n q in
    let v = x.cursor_ack in
    let h : Held = record { payload = payload; offset = 0 } in
    receiver_advanced more ((r.read_cursor + ceiling) - r.ack) (held n payload r) (omega arith)
    (record {
      slots = insert_length r.incoming n h ∙ x.slots;
      held =
          slots_insert (HeldFacts r.read_cursor) r.incoming n h x.slots x.held
          (record { from = omega arith; below = near; fits = t; most = l; offset = zero-le });
      cursor_ack = x.cursor_ack;
      ack_near = x.ack_near;
    }))
    (λ q.
    receiver_advanced more ((r.read_cursor + ceiling) - r.ack) r (omega arith)
    (record { slots = x.slots; held = x.held; cursor_ack = x.cursor_ack; ack_near = x.ack_near }))

-- the header's ack
resting_ack : {more : Bool} (h : Header) (e : End) → h.ack ≤ e.sender.seq → Resting more e → Resting more (on_ack h e)
resting_ack h e l r =
    let w = r.facts.ranges.window in
    record {
      facts =
          facts_window e (max e.sender.largest_ack h.ack) (cond (ltb e.sender.remote_acked h.ack) (grown e.sender.cwnd) e.sender.cwnd)
          (let u = r.facts.numbers.largest_seq in omega arith)
          (by-test CwndInRange (ltb e.sender.remote_acked h.ack) (grown e.sender.cwnd) e.sender.cwnd (λ q. grown_range e.sender.cwnd w) (λ q. w)) r.facts;
      none_left = r.none_left;
      rest = r.rest;
    }

-- a delivery that no test refuses

module _ {more : Bool} (clock : ℕ) (datagram : Bytes) (h : Header) (payload : Bytes) (e : End) (g : InvariantWith more e)
    (tests : (n : ℕ) → (get_or (deliver_tests clock datagram h payload e) n no_test).holds ≡ false) where
  resting_data : (x : End) → Taking more 62 e.receiver e.sender.seq x → Resting more (on_ack h (on_data h payload x))
  unfolding count_data on_data
  resting_data x t =
      by-test (λ (z : End). Resting more (on_ack h z)) (has_type 1 h.typ) (send_state_packet y) x
      (λ q. resting_ack h (send_state_packet y) ack_le (resting_state y t.states (brought q)))
      (λ q. resting_ack h x ack_le t.resting)
    where
      r : Receiver
      r = absorb h.seq payload x.receiver

      y : End
      y = with_totals (count_data (length payload) x.totals) (with_receiver r x)

      ack_le : h.ack ≤ x.sender.seq
      ack_le = rw t.seq (ltb-false e.sender.seq h.ack (tests 7))

      brought : has_type 1 h.typ ≡ true → Resting more y
      brought q =
          record {
            facts =
                facts_receiver x r
                (receiver_absorbed h.seq payload x.receiver
                (rw t.receiver (leb-false (e.receiver.read_cursor + ceiling) h.seq (and-false (has_type 1 h.typ) (leb (e.receiver.read_cursor + ceiling) h.seq) (tests 9) q)))
                (leb-false 4_294_967_295 h.seq (and-false (has_type 1 h.typ) (leb 4_294_967_295 h.seq) (tests 8) q)) (ltb-false 1_380 (length payload) (tests 6))
                t.resting.facts.receiver)
                t.resting.facts;
            none_left = t.resting.none_left;
            rest = t.resting.rest;
          }

  resting_end : (x : End) → Taking more 61 e.receiver e.sender.seq x → Resting more (on_ack h (on_data h payload (on_end h x)))
  unfolding on_end
  resting_end x t =
      by-test (λ (z : End). Resting more (on_ack h (on_data h payload z))) (has_type 2 h.typ) (terminate error.UnexpectedEof y) x
      (λ q.
      resting_data (terminate error.UnexpectedEof y)
      (record {
        resting = resting_terminate error.UnexpectedEof y (let u = t.states in omega arith) t.resting;
        states = (let u = t.states in let v = states_append x.queue.entries (state (create_packet 2 [] x) ∷ []) in omega arith);
        receiver = t.receiver;
        seq = t.seq;
      }))
      (λ q. resting_data x (record { resting = t.resting; states = (let u = t.states in omega arith); receiver = t.receiver; seq = t.seq }))
    where
      y : End
      y = with_ending (remote_ended x.ending) x

  resting_incoming : Resting more (handle_incoming clock h payload e)
  unfolding count_received on_sack handle_incoming
  resting_incoming =
      by-test (λ (x : End). Resting more (on_ack h (on_data h payload (on_end h x)))) (has_type 4 h.typ) (ack_blocks clock (blocks payload) y) y
      (λ q.
      resting_end (ack_blocks clock (blocks payload) y)
      (by_blocks (Taking more 61 e.receiver e.sender.seq) clock (taking_acked clock 61 e.receiver e.sender.seq fits.0) (blocks payload) y start))
      (λ q. resting_end y start)
    where
      y : End
      y = with_totals (count_received e.totals) (with_clocks (at_clock clock e.clocks) e)

      fits : (clock < 2 ^ 60) × (e.clocks.last ≤ clock)
      fits = clock_fits clock e (tests 1)

      start : Taking more 61 e.receiver e.sender.seq y
      start =
          let r = resting_of e g (tests 3) in
          let l = r.facts.ranges.drive_last in
          let (u, v) = fits in
          record {
            resting = record { facts = facts_clocks e (at_clock clock e.clocks) v (omega arith) u r.facts; none_left = r.none_left; rest = r.rest };
            states = (let u = leb-false 62 (states e.queue.entries) (tests 10) in omega arith);
            receiver = refl;
            seq = refl;
          }

pub deliver_keeps : {more : Bool} (datagram : Bytes) (clock : ℕ) (e : End) → InvariantWith more e → InvariantWith more (deliver datagram clock e).end
unfolding deliver_refusal deliver
deliver_keeps {more} datagram clock e g =
    let h = fields datagram in
    let payload = drop 20 datagram in
    by_gate (λ (a : Answer). InvariantWith more a.end) (deliver_refusal datagram clock e) e (answered Ready (handle_incoming clock h payload e)) (λ why. g)
    (λ z.
    invariant_of (handle_incoming clock h payload e)
    (resting_incoming clock datagram h payload e g (clear (deliver_tests clock datagram h payload e) z)))
