-- Acking runs of numbers on the records: a run in the window, a SACK block, and all blocks of a payload. Each agrees with the model,
-- which visits every number.
use Rattle.std.specs.Prelude.{ℕ, ◌+◌, ◌-◌, ◌≤◌, ◌≡◌, List}
use Rattle.packet.specs.Blocks.{blocks}
use Rattle.rtt.specs.Estimate.{InRange}
use Rattle.model.specs.Lists.{Bytes}
use Rattle.model.specs.Receiving.{ack_numbers, ack_blocks}
use Rattle.records.specs.declared.Sender.{Sender}
use Rattle.records.specs.declared.Stream.{Stream}
use Rattle.records.specs.Seen.{Lent, seen}
use Rattle.records.specs.Setters.{with_words}
use Rattle.deliver_acks.specs.declared.Acks.{Acks}
use Rattle.deliver_acks.specs.Acked.{with_acks, SameNumbers}

-- numbers that may be stored
pub record RunInWindow (s : Sender) (from to : ℕ) : Type 0 where
  pub low : s.remote_acked ≤ from
  pub high : to ≤ s.seq
  pub width : s.seq ≤ s.remote_acked + 32

-- acking the numbers from `from` to below `to`
pub record AcksRun (clock from to : ℕ) (a : Acks) (sent : List ℕ) (r : Acks) (sent' : List ℕ) : Type 0 where
  pub seen_after : (s : Stream) (l : Lent)
      → seen (with_acks r s) r.totals (with_words sent' l) ≡ ack_numbers clock (to - from) from (seen (with_acks a s) a.totals (with_words sent l))
  pub same : SameNumbers a.sender r.sender
  pub range : InRange r.rtt

-- 01, call 3: "Blocks are start (4) and end (4), end excluded": handle_incoming_sacks
pub record AcksBlocks (clock : ℕ) (payload : Bytes) (a : Acks) (sent : List ℕ) (r : Acks) (sent' : List ℕ) : Type 0 where
  pub seen_after : (s : Stream) (l : Lent)
      → seen (with_acks r s) r.totals (with_words sent' l) ≡ ack_blocks clock (blocks payload) (seen (with_acks a s) a.totals (with_words sent l))
  pub same : SameNumbers a.sender r.sender
  pub range : InRange r.rtt
