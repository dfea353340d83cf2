-- `session_kept::put_in` meets its contract: what is copied is the datagram as it is kept, and its length is recorded.
use Prim.Native.Nat.{◌+◌, ◌*◌, ◌≤◌}
use native.Mathlib.Omega.{arith}
use mathlib.Core.Path.{◌≡◌, refl}
use borrow.Author.Rules.{rules}
use lib.ListN.{length, take}
use Rattle.session_kept.specs.Kept.{slot_size}
use Rattle.session_kept.proofs.KeptLaws.{copied, put_slot}
use Rattle.session_kept.proofs.put_in.Goals as goal

pub returns : goal.returns
unfolding slot_size
returns c =
    let a = c.args in
    let n = c.min-n.result in
    let (is, size, short) = copied a.datagram.now n c.min-n.ensures in
    let room : a.i * slot_size + slot_size ≤ length a.kept.now = omega arith in
    let long : length a.k.lengths ≡ 32 = search rules in
    put_slot a.k _ a.i n (take n a.datagram.now) a.kept.now c.put_at.new.dst refl refl long refl (omega arith) size short room
    c.put_at.ensures a.datagram.now is
