use Prim.Native.Nat.{ℕ, ◌≤◌, max}
use mathlib.Core.Path.{◌≡◌}
use Rattle.std.specs.Prelude.{Option, None, Some}
use mathlib.Core.List.{List, ◌++◌, map}
use lib.ListN.{length}
use Rattle.std.specs.Slice.Iter.{chunks_rest, chunks_size}
use Rattle.model.specs.Lists.{Bytes}
use Rattle.model.specs.Driving.{datagrams_of}
use Rattle.session_kept.specs.Kept.{kept_of, last_kept, fitted, kept_segment}
use Rattle.session_kept.proofs.keep.Given as goal

-- the last 32 of some datagrams followed by those of the bytes
abbrev pub last_with : List Bytes → Option ℕ → Bytes → List Bytes
last_with ds segment bytes = last_kept (ds ++ map fitted (datagrams_of (kept_segment segment) bytes))

abbrev pub invariant-loop-datagram : goal.invariant-loop-datagram
invariant-loop-datagram l =
    let it = l.datagram-iterator in
    goal.iterator-loop-datagram.can_next it
    × goal.iterator-loop-datagram.is_finite it
    × (l.fn.segment ≡ None → length (chunks_rest it) ≤ chunks_size it)
    × ((size : ℕ) → l.fn.segment ≡ Some size → chunks_size it ≡ max size 1)
    × (last_with (kept_of l.r l.kept) l.fn.segment (chunks_rest it) ≡ last_with (kept_of l.initial.r l.initial.kept) l.fn.segment l.batch)
