-- The loop's invariant: k entries of one size are counted, and the total is k plus what is still to count.
use Prim.Native.Nat.{◌+◌, ◌-◌}
use mathlib.Core.Path.{◌≡◌}
use Rattle.records.specs.Seen.{entry_words}
use Rattle.take_batch.proofs.SameSize.{same_from}
use Rattle.take_batch.proofs.batch.Given as goal

abbrev pub invariant-loop-k : goal.invariant-loop-k
invariant-loop-k l =
    same_from (entry_words l.q l.queue) l.most l.size 0 ≡ l.k + same_from (entry_words l.q l.queue) (l.most - l.k) l.size l.k
