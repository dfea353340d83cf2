-- The spare stores that the drill's command 18 lends to its calls.
use Rattle.std.specs.Prelude.{◌≡◌, replicate}
use Rattle.drill_broken.specs.declared.Spare.{Spare}

-- docs/DRILL.md, "What 18 breaks": "the outgoing store .. 2 one byte long; the incoming store .. 4 long; the header store .. 6 long". So each
-- is a byte longer than a store: 44,801, 44,161 and 1,281, every byte 0.
pub record FreshSpare (s : Spare) : Type 0 where
  pub outgoing : s.outgoing ≡ replicate 44_801 0
  pub incoming : s.incoming ≡ replicate 44_161 0
  pub headers : s.headers ≡ replicate 1_281 0
