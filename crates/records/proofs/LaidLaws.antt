-- `LaidReceiver` is equivalent to the test `formed_receiver`: callers have run the test, and contracts require and ensure the facts.
use Rattle.std.proofs.Common.{◌≡◌, true, arith}
use Rattle.records.specs.declared.Receiver.{Receiver}
use Rattle.records.specs.Seen.{formed_receiver}
use Rattle.records.specs.Laid.{LaidReceiver}

module _ (r : Receiver) where
  pub laid_said : LaidReceiver r → formed_receiver r ≡ true
  laid_said l = grind arith

  pub laid_says : formed_receiver r ≡ true → LaidReceiver r
  laid_says e = grind arith
