-- A sample keeps an estimate in range. Both new values are weighted means of values below 2^60 (the weights add up to the divisor), so they
-- are below 2^60 too; and the rto that follows from two such values is 1,000 ms to 5 x 2^60.
use Rattle.std.proofs.Common.{ℕ, ◌^◌, ◌<◌, arith}
use Rattle.rtt.specs.declared.estimate.Rtt.{Rtt}
use Rattle.rtt.specs.Estimate.{sampled, InRange}

pub sampled_range : (e : Rtt) (r : ℕ) → InRange e → r < 2 ^ 60 → InRange (sampled e r)
unfolding sampled
sampled_range e r k h = grind arith
