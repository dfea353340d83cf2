-- The timer's test on the records agrees with the model's on what is seen: it compares the records' own numbers.
use Prim.Native.Nat.{ℕ}
use mathlib.Core.Path.{◌≡◌}
use mathlib.Core.Bool.{Bool, ◌&&◌, not}
use lib.Dec.{leb, eqb}
use Rattle.model.specs.Driving.{due}
use Rattle.records.specs.declared.Timing.{Timing}
use Rattle.records.specs.declared.Sender.{Sender}
use Rattle.records.specs.Seen.{seen}
use Rattle.drive_timer.specs.Timer.{IsDue}

module _ (t : Timing) (clock : ℕ) (s : Sender) where
  pub tested : (r : Bool) → r ≡ (leb t.deadline.0.0 clock && not (eqb s.remote_acked s.seq)) → IsDue t clock s r
  unfolding due seen
  tested r e = record { test = λ st totals l p q. rw (p, q) e }
