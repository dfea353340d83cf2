use Prim.Native.Nat.{◌-◌}
use mathlib.Core.Path.{◌≡◌}
use Rattle.rules_packets.specs.Packets.{every_from, held_ok}
use Rattle.rules_packets.proofs.receiver.all_held.Given as goal

abbrev pub invariant-loop-n : goal.invariant-loop-n
invariant-loop-n l =
    every_from (l.top - l.n) l.n (held_ok l.cursor l.held) ≡ every_from (l.top - l.cursor) l.cursor (held_ok l.cursor l.held)
