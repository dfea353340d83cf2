use Prim.Native.Nat.{◌≤◌, max}
use Rattle.deliver_data.proofs.AbsorbLaws.{Clearing}
use Rattle.deliver_data.proofs.clear_gap.Given as goal

abbrev pub invariant-loop-m : goal.invariant-loop-m
invariant-loop-m l = Clearing l.initial.held l.top l.m l.held × (l.m ≤ max l.top l.n)
