-- `packet_blocks::next_at` meets its contract: the result of `packet::block_at` decides what is read. A block is inside the payload, so the
-- place after it fits a usize.
use native.Mathlib.Omega.{arith}
use mathlib.Core.Path.{sym, ◌∙◌}
use Rattle.packet.proofs.Blocks.{range_inside}
use Rattle.packet_blocks.proofs.next_at.Goals as goal

-- src/lib.rt:30:17
pub overflow_add-result : goal.overflow_add-result
overflow_add-result c =
    let a = c.args in
    omega (arith, range_inside a.payload.now a.at _ _ (sym c.block_at.ensures ∙ c.in-Some.is))
