use Rattle.std.proofs.Common.{◌≡◌, ℕ, ◌+◌, ◌<◌, get_or, length}
use Rattle.session_script.proofs.bytes_at.Given as goal

abbrev pub invariant-loop-i : goal.invariant-loop-i
invariant-loop-i g l = (length l.bytes ≡ g.row.N) × ((k : ℕ) → k < l.i → get_or l.bytes k 0 ≡ get_or l.s (l.place + k) 0)
