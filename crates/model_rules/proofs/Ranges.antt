-- The ranges of a fresh estimate and of the congestion window: growth and halving keep the window in its range. (That a sample
-- keeps the estimate in its range is crate rtt's `sampled_range`.)
use Prim.Native.Nat.{ℕ, ◌+◌, ◌/◌, ◌≤◌, min, max}
use native.Mathlib.Omega.{arith}
use mathlib.Core.Bool.{cond}
use lib.Dec.{ltb}
use Rattle.rtt.specs.Estimate as estimate
use Rattle.rtt.specs.Estimate.{InRange}
use Rattle.rtt.specs.Window.{grown, halved}

pub fresh_range : InRange estimate.fresh
fresh_range = record { srtt = omega arith; rttvar = omega arith; least = omega arith; most = omega arith }

-- 01: "the window is 1,400 to 4,294,967,295"
pub record CwndInRange (cwnd : ℕ) : Type 0 where
  pub least : 1_400 ≤ cwnd
  pub most : cwnd ≤ 4_294_967_295

-- 01: "the segment ceiling is 1 to 10"
pub record InSegments (segments : ℕ) : Type 0 where
  pub least : 1 ≤ segments
  pub most : segments ≤ 10

pub grown_range : (cwnd : ℕ) → CwndInRange cwnd → CwndInRange (grown cwnd)
unfolding grown
grown_range cwnd k = at (cond (ltb cwnd 65_535) 1_400 (max (1_960_000 / cwnd) 1))
  where
    at : (more : ℕ) → CwndInRange (min 4_294_967_295 (cwnd + more))
    at more = let a = k.least in record { least = omega arith; most = omega arith }

pub halved_range : (cwnd : ℕ) → CwndInRange cwnd → CwndInRange (halved cwnd)
unfolding halved
halved_range cwnd k = let b = k.most in record { least = omega arith; most = omega arith }
