-- The loops over numbers and over blocks. Invariant: running the model on what is left gives the model's whole run. A block is the run
-- over those of its numbers that are in the window (Clipped).
use Prim.Native.Nat.{ℕ, suc, ◌+◌, ◌-◌, ◌≤◌, ◌<◌, max, min}
use native.Mathlib.Omega.{arith}
use mathlib.Core.Path.{◌≡◌, ap, sym, ◌∙◌}
use mathlib.Core.List.{List, [], ◌∷◌}
use Rattle.packet.specs.Blocks.{Span, blocks}
use Rattle.rtt.specs.Estimate.{InRange}
use Rattle.model.specs.Lists.{Bytes}
use Rattle.model.specs.Stream as model
use Rattle.model.specs.Receiving.{ack_number, ack_numbers, ack_blocks}
use Rattle.records.specs.declared.Sender.{Sender}
use Rattle.records.specs.declared.Stream.{Stream}
use Rattle.records.specs.Seen.{Lent, seen}
use Rattle.records.specs.Setters.{with_words}
use Rattle.records.proofs.SeenOutgoing.{outgoing_length, get_settled, get_unsent}
use Rattle.deliver_acks.specs.declared.Acks.{Acks}
use Rattle.deliver_acks.specs.Acked.{with_acks, SameNumbers, AcksOne}
use Rattle.deliver_acks.specs.Sacks.{AcksRun, AcksBlocks}
use Rattle.deliver_acks.proofs.Clipped.{clipped}

abbrev seen_of : Acks → List ℕ → Stream → Lent → model.End
seen_of a sent s l = seen (with_acks a s) a.totals (with_words sent l)

same_trans : {a b c : Sender} → SameNumbers a b → SameNumbers b c → SameNumbers a c
same_trans p q =
    record { seq = q.seq ∙ p.seq; acked = q.acked ∙ p.acked; largest = q.largest ∙ p.largest; cwnd = q.cwnd ∙ p.cwnd }

-- numbers

pub record Running (clock from to : ℕ) (a₀ : Acks) (sent₀ : List ℕ) (a : Acks) (sent : List ℕ) (n : ℕ) : Type 0 where
  pub same : SameNumbers a₀.sender a.sender
  pub range : InRange a.rtt
  pub goes_on : (s : Stream) (l : Lent) → ack_numbers clock (to - n) n (seen_of a sent s l) ≡ ack_numbers clock (to - from) from (seen_of a₀ sent₀ s l)

module _ {clock from to : ℕ} {a₀ : Acks} {sent₀ : List ℕ} {a : Acks} {sent : List ℕ} {n : ℕ} (g : Running clock from to a₀ sent₀ a sent n) where
  pub run_turn : n < to → {r : Acks} {sent' : List ℕ} → AcksOne clock n a sent r sent' → Running clock from to a₀ sent₀ r sent' (n + 1)
  unfolding ack_numbers
  run_turn less x =
      record {
        same = same_trans g.same x.same;
        range = x.range;
        goes_on = λ s l.
            let next : n + 1 ≡ suc n = omega arith in
            let count : suc (to - (n + 1)) ≡ to - n = omega arith in
            ap (ack_numbers clock (to - (n + 1)) (n + 1)) (x.seen_after s l)
            ∙ ap (λ (m : ℕ). ack_numbers clock (to - (n + 1)) m (ack_number clock n (seen_of a sent s l))) next
            ∙ ap (λ (k : ℕ). ack_numbers clock k n (seen_of a sent s l)) count
            ∙ g.goes_on s l;
      }

  pub run_ends : to ≤ n → AcksRun clock from to a₀ sent₀ a sent
  unfolding ack_numbers
  run_ends past =
      record {
        seen_after = λ s l.
            let none : 0 ≡ to - n = omega arith in
            ap (λ (k : ℕ). ack_numbers clock k n (seen_of a sent s l)) none ∙ g.goes_on s l;
        same = g.same;
        range = g.range;
      }

-- a block

module _ (clock start end : ℕ) (a : Acks) (sent : List ℕ) where
  block_clipped : (s : Stream) (l : Lent)
      → ack_numbers clock (end - start) start (seen_of a sent s l)
      ≡ ack_numbers clock (min end a.sender.seq - max start a.sender.remote_acked) (max start a.sender.remote_acked) (seen_of a sent s l)
  unfolding seen
  block_clipped s l =
      let acked = a.sender.remote_acked in
      let seq = a.sender.seq in
      clipped clock acked seq (seen_of a sent s l) (get_settled acked seq sent l.outgoing) (get_unsent acked seq sent l.outgoing)
      (outgoing_length acked seq sent l.outgoing) start end

  pub span_acked : {from to : ℕ} {r : Acks} {sent' : List ℕ} → from ≡ max start a.sender.remote_acked → to ≡ min end a.sender.seq
      → AcksRun clock from to a sent r sent' → AcksRun clock start end a sent r sent'
  span_acked f t x =
      record { seen_after = λ s l. (rw (f, t) at x.seen_after) s l ∙ sym (block_clipped s l); same = x.same; range = x.range }

-- blocks

pub record Sacking (clock : ℕ) (payload : Bytes) (a₀ : Acks) (sent₀ : List ℕ) (a : Acks) (sent : List ℕ) (left : List Span) : Type 0 where
  pub same : SameNumbers a₀.sender a.sender
  pub range : InRange a.rtt
  pub goes_on : (s : Stream) (l : Lent)
      → ack_blocks clock left (seen_of a sent s l) ≡ ack_blocks clock (blocks payload) (seen_of a₀ sent₀ s l)

module _ {clock : ℕ} {payload : Bytes} {a₀ : Acks} {sent₀ : List ℕ} {a : Acks} {sent : List ℕ} {left : List Span} (g : Sacking clock payload a₀ sent₀ a sent left) where
  pub sack_turn : {b : Span} {rest : List Span} → left ≡ b ∷ rest
      → {r : Acks} {sent' : List ℕ} → AcksRun clock b.start b.end a sent r sent' → Sacking clock payload a₀ sent₀ r sent' rest
  unfolding ack_blocks
  sack_turn {b} {rest} first x =
      record {
        same = same_trans g.same x.same;
        range = x.range;
        goes_on = λ s l.
            ap (ack_blocks clock rest) (x.seen_after s l)
            ∙ ap (λ (bs : List Span). ack_blocks clock bs (seen_of a sent s l)) (sym first)
            ∙ g.goes_on s l;
      }

  pub sack_end : left ≡ [] → AcksBlocks clock payload a₀ sent₀ a sent
  unfolding ack_blocks
  sack_end none =
      record {
        seen_after = λ s l. ap (λ (bs : List Span). ack_blocks clock bs (seen_of a sent s l)) (sym none) ∙ g.goes_on s l;
        same = g.same;
        range = g.range;
      }
