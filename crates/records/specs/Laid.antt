-- How the receiver's numbers are laid out, as facts; equivalent to the test `formed_receiver` (proofs/LaidLaws.antt).
use Rattle.std.specs.Prelude.{◌+◌, ◌≤◌}
use Rattle.model.specs.Slots.{ceiling}
use Rattle.records.specs.declared.Receiver.{Receiver}

-- held numbers are below top, which is at most 32 past the read cursor
pub record LaidReceiver (r : Receiver) : Type 0 where
  pub from : r.read_cursor ≤ r.top
  pub width : r.top ≤ r.read_cursor + ceiling
