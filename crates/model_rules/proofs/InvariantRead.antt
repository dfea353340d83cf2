-- A read keeps the invariant. It changes only the receiver, and stops before number ack, which is not held; so the read cursor stays at
-- most ack.
use Prim.Native.Nat.{ℕ, zero, suc, ◌+◌, ◌-◌, ◌<◌}
use native.Mathlib.Decide.{ℕ_discrete}
use native.Mathlib.Omega.{arith}
use mathlib.Core.Path.{◌≡◌, refl, sym, ap, ◌∙◌}
use mathlib.Core.Logic.{◌≢◌}
use mathlib.Core.Option.{Option, none, some}
use mathlib.Core.Bool.{Bool, true, cond}
use lib.Dec.{ltb}
use borrow.Author.Tests.{ltb-true}
use lib.ListN.{length, length-drop}
use Rattle.model.specs.Lists.{on}
use Rattle.model.specs.Slots.{ceiling, get, remove}
use Rattle.model.specs.Stream.{Held, Receiver, End, with_receiver}
use Rattle.model.specs.Answers.{Answer}
use Rattle.model.specs.Receiving.{rest, read_to, finished, Got, got_none, got_front, got_whole, read_loop, read_next, read_answer, read_refusal, read}
use Rattle.model.proofs.Lists.{by-test}
use Rattle.model.proofs.Slots.{no_some, insert_length, remove_length, insert_none, remove_none}
use Rattle.model.proofs.SlotSums.{slots_look, slots_map, slots_insert, slots_remove}
use Rattle.model.proofs.Gate.{by_gate}
use Rattle.model_rules.proofs.Invariant.{HeldFacts, ReceiverFacts, FactsWith, Left, at_rest, to_take, Invariant}

pub facts_receiver : {more : Bool} (e : End) (r : Receiver) → ReceiverFacts more r → FactsWith more e → FactsWith more (with_receiver r e)
facts_receiver e r x g =
    record {
      numbers = g.numbers;
      slots = g.slots;
      stored = g.stored;
      spare = g.spare;
      sums = g.sums;
      receiver = x;
      ranges = g.ranges;
      segments = g.segments;
      entries = g.entries;
      fits = g.fits;
    }

left_receiver : (e : End) (r : Receiver) → Left true e → Left true (with_receiver r e)
left_receiver e r (at_rest a h) = at_rest a h
left_receiver e r (to_take p a h) = to_take p a h

-- a packet is finished: it is held, so it is not number ack
receiver_finished : (r : Receiver) (h : Held) → get r.incoming r.read_cursor ≡ some h → ReceiverFacts true r → ReceiverFacts true (finished r)
receiver_finished r h e x =
    record {
      slots = remove_length r.incoming r.read_cursor ∙ x.slots;
      held =
          slots_map (λ m v. HeldFacts r.read_cursor m v × (m ≢ r.read_cursor)) (HeldFacts (suc r.read_cursor)) (remove r.incoming r.read_cursor)
          (λ m v (s, ne).
          let a = s.from in
          let b = s.below in
          record { from = omega arith; below = omega arith; fits = s.fits; most = s.most; offset = s.offset })
          (slots_remove (HeldFacts r.read_cursor) r.incoming r.read_cursor x.slots x.held);
      cursor_ack = less (ℕ_discrete r.read_cursor r.ack);
      ack_near = (let a = x.ack_near in omega arith);
      gap = λ y. remove_none r.incoming r.read_cursor r.ack x.slots (x.gap y);
    }
  where
    less : Dec (r.read_cursor ≡ r.ack) → r.read_cursor < r.ack
    less (yes q) = absurd (no_some (x.gap refl) (ap (get r.incoming) (sym q) ∙ e))
    less (no q) = let a = x.cursor_ack in omega arith

-- a packet is read in part
receiver_front : (r : Receiver) (h : Held) (room : ℕ)
    → get r.incoming r.read_cursor ≡ some h
    → room < length (rest h)
    → ReceiverFacts true r
    → ReceiverFacts true (read_to (h.offset + room) h r)
receiver_front r h room e l x =
    let k = slots_look (HeldFacts r.read_cursor) r.incoming r.read_cursor h x.held e in
    let v : Held = record { payload = h.payload; offset = h.offset + room } in
    record {
      slots = insert_length r.incoming r.read_cursor v ∙ x.slots;
      held =
          slots_insert (HeldFacts r.read_cursor) r.incoming r.read_cursor v x.slots x.held
          (record { from = k.from; below = k.below; fits = k.fits; most = k.most; offset = (let u = length-drop h.offset h.payload in omega arith) });
      cursor_ack = x.cursor_ack;
      ack_near = x.ack_near;
      gap = λ y. insert_none r.incoming r.read_cursor r.ack v x.slots (x.gap y) (λ q. no_some (x.gap y) (ap (get r.incoming) q ∙ e));
    }

receiver_read : (k room : ℕ) (r : Receiver) → ReceiverFacts true r → ReceiverFacts true (read_loop k room r).receiver
unfolding read_loop
receiver_read zero room r x = x
receiver_read (suc k) room r x =
    go (get r.incoming r.read_cursor) refl (λ h e. receiver_read k (room - length (rest h)) (finished r) (receiver_finished r h e x))
  where
    Q : Got → Type 0
    Q t = ReceiverFacts true t.receiver

    more : Held → Got
    more h = read_loop k (room - length (rest h)) (finished r)

    go : (o : Option Held) → get r.incoming r.read_cursor ≡ o → ((h : Held) → get r.incoming r.read_cursor ≡ some h → Q (more h))
        → Q (on o (got_none r) (λ h. cond (ltb room (length (rest h))) (got_front room h r) (got_whole h (more h))))
    go none e rec = x
    go (some h) e rec =
        by-test Q (ltb room (length (rest h))) (got_front room h r) (got_whole h (more h)) (λ q. receiver_front r h room e (ltb-true room (length (rest h)) q) x)
        (λ q. rec h e)

pub read_keeps : (room : ℕ) (e : End) → Invariant e → Invariant (read room e).end
unfolding read_next read
read_keeps room e g =
    let t = read_next room e.receiver in
    by_gate (λ (a : Answer). Invariant a.end) (read_refusal e) e (read_answer t e) (λ why. g)
    (λ z.
    record {
      facts = facts_receiver e t.receiver (receiver_read ceiling room e.receiver g.facts.receiver) g.facts;
      left = left_receiver e t.receiver g.left;
    })
