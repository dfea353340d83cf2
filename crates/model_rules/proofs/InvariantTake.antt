-- A take keeps the invariant: each entry taken turns one queue entry into one transmit, and afterwards the whole queue is left to take or
-- the queue is empty.
use Prim.Native.Nat.{ℕ, zero, suc, ◌≤◌, ◌<◌, zero-le}
use native.Mathlib.Nat.{le_refl}
use native.Mathlib.Omega.{arith}
use mathlib.Core.Path.{◌≡◌, refl, ◌∙◌}
use mathlib.Core.List.{List, [], ◌∷◌, ◌++◌}
use mathlib.Core.Option.{Option, none, some}
use mathlib.Core.Bool.{Bool, true, cond}
use lib.Dec.{ltb}
use borrow.Author.Tests.{ltb-true}
use lib.ListN.{length, drop, length-drop}
use Rattle.error.specs.declared.Outcome.TheVariants.{Nothing}
use Rattle.model.specs.Lists.{on}
use Rattle.model.specs.Slots.{Slots, get}
use Rattle.model.specs.Stream.{Packet, Entry, state, packet, End, with_sender}
use Rattle.model.specs.Rules.{states, numbers}
use Rattle.model.specs.Driving.{taken_marks, remarked, with_entries, batch, Taken, take_entry, take_loop, take_refusal, taken_from, take_answer, take}
use Rattle.model.specs.Answers.{Answer, answered}
use Rattle.model.proofs.Lists.{by-test}
use Rattle.model.proofs.SlotSums.{SlotsOk, slots_map}
use Rattle.model_rules.proofs.Invariant.{QueuedOnce, AtRest, StoredIn, FactsWith, Facts, ToTake, Left, at_rest, to_take, Invariant}
use Rattle.model.proofs.Gate.{by_gate}
use Rattle.model_rules.proofs.InvariantMarks.{facts_taken, facts_popped}

-- what is left to take

-- an empty queue is at rest
rest_empty : (more : Bool) (remote_acked seq : ℕ) (outgoing : Slots Packet) (q : List Entry) → SlotsOk (λ n p. Unit {0}) outgoing → length q ≡ 0
    → AtRest more remote_acked seq outgoing q
rest_empty more remote_acked seq outgoing [] s z =
    record {
      once = refl;
      known = tt;
      states = zero-le;
      queued = λ y. slots_map (λ n p. Unit {0}) (QueuedOnce []) outgoing (λ n p u. record { once = λ y. absurd (omega arith) }) s;
    }
rest_empty more remote_acked seq outgoing (x ∷ q) s z = absurd (omega arith)

-- the whole queue is left to take, or it is empty
pub left_all : {more : Bool} (e : End) → FactsWith more e → e.queue.left ≡ length e.queue.entries → ToTake e.queue.entries → Left more e
left_all {more} e g z t = go e.queue.left refl
  where
    go : (n : ℕ) → e.queue.left ≡ n → Left more e
    go zero y =
        at_rest y
        (rest_empty more e.sender.remote_acked e.sender.seq e.sender.outgoing e.queue.entries
        (slots_map (StoredIn e) (λ n p. Unit {0}) e.sender.outgoing (λ n p s. tt) g.stored)
        (omega arith))
    go (suc n) y = to_take (omega arith) z t

-- some entries are taken

record TakenFacts (n : ℕ) (q : List Entry) (e : End) (t : Taken) : Type 0 where
  pub facts : Facts t.end
  pub left : t.end.queue.left ≡ e.queue.left
  pub entries : t.end.queue.entries ≡ drop n q

facts_takes : (n : ℕ) (q : List Entry) (e : End) → Facts (with_entries q e) → TakenFacts n q e (take_loop n q e)
unfolding take_loop take_entry
facts_takes zero q e g = record { facts = g; left = refl; entries = refl }
facts_takes (suc n) [] e g = record { facts = g; left = refl; entries = refl }
facts_takes (suc n) (x ∷ q) e g = go x (take_entry x e) (one x g) (facts_takes n q (take_entry x e).end)
  where
    One : Taken → Type 0
    One t = Facts (with_entries q t.end) × (t.end.queue.left ≡ e.queue.left)

    one : (x : Entry) → Facts (with_entries (x ∷ q) e) → One (take_entry x e)
    one (state b) g = (facts_popped e (state b) q g, refl)
    one (packet m l) g = at (get e.sender.outgoing m) refl
      where
        at : (o : Option Packet) → get e.sender.outgoing m ≡ o
            → One
            (on o (record { datagrams = []; end = e })
            (λ p. record { datagrams = p.bytes ∷ []; end = with_sender (remarked m e.sender.inflight (taken_marks e.clocks.drive) p e.sender) e }))
        at none z = (facts_popped e (packet m l) q g, refl)
        at (some p) z = (facts_taken e m l q p z g, refl)

    go : (x : Entry) (t : Taken) → One t → (Facts (with_entries q t.end) → TakenFacts n q t.end (take_loop n q t.end))
        → TakenFacts (suc n) (x ∷ q) e (record { datagrams = t.datagrams ++ (take_loop n q t.end).datagrams; end = (take_loop n q t.end).end })
    go x t (a, b) rec = let r = rec a in record { facts = r.facts; left = r.left ∙ b; entries = r.entries }

drop_states : (n : ℕ) (q : List Entry) → states (drop n q) ≤ states q
drop_states zero q = le_refl _
drop_states (suc n) [] = le_refl _
drop_states (suc n) (state b ∷ q) = let u = drop_states n q in omega arith
drop_states (suc n) (packet m l ∷ q) = drop_states n q

drop_numbers : (n : ℕ) (q : List Entry) → length (numbers (drop n q)) ≤ length (numbers q)
drop_numbers zero q = le_refl _
drop_numbers (suc n) [] = le_refl _
drop_numbers (suc n) (state b ∷ q) = drop_numbers n q
drop_numbers (suc n) (packet m l ∷ q) = let u = drop_numbers n q in omega arith

pub take_keeps : (room : ℕ) (e : End) → Invariant e → Invariant (take room e).end
unfolding take
take_keeps room e g =
    by_gate (λ (a : Answer). Invariant a.end) (take_refusal room e) e (cond (ltb 0 e.queue.left) (take_answer t e) (answered Nothing e)) (λ why. g)
    (λ z.
    by-test (λ (a : Answer). Invariant a.end) (ltb 0 e.queue.left) (take_answer t e) (answered Nothing e)
    (λ y. some_left (ltb-true 0 e.queue.left y) g.left) (λ y. g))
  where
    t : Taken
    t = take_loop (batch e) e.queue.entries e

    some_left : 0 < e.queue.left → Left true e → Invariant (taken_from (batch e) t.end)
    some_left p (at_rest a h) = absurd (omega arith)
    some_left p (to_take p' a h) =
        let r = facts_takes (batch e) e.queue.entries e g.facts in
        let l = r.left in
        record {
          facts = r.facts;
          left =
              left_all (taken_from (batch e) t.end) r.facts (rw r.entries (rw length-drop (omega arith)))
              (rw r.entries
              (let u = drop_states (batch e) e.queue.entries in
              let v = drop_numbers (batch e) e.queue.entries in
              let x = h.states in
              let y = h.packets in
              record { states = omega arith; packets = omega arith }));
        }
