-- A read keeps the invariant of both directions, as does any replacement of an end's receiving part: in the incoming direction the receiver
-- changed, in the outgoing one the end's own ack grew.
use Prim.Native.Nat.{ℕ, ◌≤◌}
use native.Mathlib.Omega.{arith}
use mathlib.Core.Path.{◌≡◌, sym, subst}
use mathlib.Core.List.{List, [], ◌++◌, append-nil}
use Rattle.model.specs.Lists.{Bytes}
use Rattle.model.specs.Slots.{Slots, ceiling}
use Rattle.model.specs.Stream.{Packet, Receiver, End, with_receiver}
use Rattle.model.specs.Answers.{Answer}
use Rattle.model.specs.Receiving.{read_next, read_refusal, read}
use Rattle.model.specs.Calls.{read_call}
use Rattle.model_ends.specs.TwoEnds.{History, noted}
use Rattle.model.proofs.Gate.{by_gate}
use Rattle.model_ends.proofs.Line.{Outstanding, Both, ReceivedBy, AckMissing}
use Rattle.model_ends.proofs.LineReceiver.{read_gives}
use Rattle.model_ends.proofs.LineSender.{queue_acked, taken_acked, stored_acked}

outstanding_acked : {seq remote_acked largest_ack : ℕ} {outgoing : Slots Packet} {ack later : ℕ} → ack ≤ later
    → Outstanding seq remote_acked largest_ack outgoing ack → Outstanding seq remote_acked largest_ack outgoing later
outstanding_acked l c =
    let u = c.settled_to_ack in
    let v = c.largest_to_ack in
    record {
      slots = c.slots;
      window = c.window;
      settled_to_ack = omega arith;
      largest_to_ack = omega arith;
      still_stored = λ n p q. c.still_stored n (omega arith) q;
    }

-- a history with other bytes read and other numbers brought
abbrev pub with_received : Bytes → List ℕ → History → History
with_received reads brought g = record { accepted = g.accepted; pieces = g.pieces; reads = reads; taken = g.taken; brought = brought }

-- an end's receiving part is replaced
pub both_received : (e : End) (g : History) (f : End) (k : History) (r : Receiver) (reads : Bytes) (brought : List ℕ) → e.receiver.ack ≤ r.ack
    → ReceivedBy r k.pieces reads brought → AckMissing r
    → Both e g f k → Both (with_receiver r e) (with_received reads brought g) f k
both_received e g f k r reads brought l i missing j =
    record {
      out =
          record {
            pieces = j.out.pieces;
            stored = stored_acked e.ids.remote g.pieces e.receiver.ack r.ack l e.sender.remote_acked e.sender.outgoing j.out.stored;
            queue = queue_acked e.ids.remote g.pieces e.receiver.ack r.ack l e.queue.entries j.out.queue;
            taken = taken_acked e.ids.remote g.pieces e.receiver.ack r.ack l g.taken j.out.taken;
            received = j.out.received;
            ack_missing = j.out.ack_missing;
            outstanding = j.out.outstanding;
          };
      back =
          record {
            pieces = j.back.pieces;
            stored = j.back.stored;
            queue = j.back.queue;
            taken = j.back.taken;
            received = i;
            ack_missing = missing;
            outstanding = outstanding_acked l j.back.outstanding;
          };
    }

module _ (f : End) (k : History) where
  same_reads : (e : End) (g : History) (reads : Bytes) → g.reads ≡ reads → Both e g f k → Both e (with_received reads g.brought g) f k
  same_reads e g reads p i = subst (λ (reads : Bytes). Both e (with_received reads g.brought g) f k) p i

  pub both_read : (room : ℕ) (e : End) (g : History) → Both e g f k → Both (read room e).end (noted (read_call room) (read room e) g) f k
  unfolding read read_next
  both_read room e g i =
      by_gate (λ (a : Answer). Both a.end (noted (read_call room) a g) f k) (read_refusal e) e _
      (λ why. same_reads e g (g.reads ++ []) (sym (append-nil g.reads)) i)
      (λ z.
      let t = read_gives ceiling room e.receiver g.reads i.back.ack_missing i.back.received in
      let s = t.ack_same in
      let x = read_next room e.receiver in
      both_received e g f k x.receiver (g.reads ++ x.bytes) g.brought (omega arith) t.received t.ack_missing i)
