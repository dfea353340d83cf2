-- A turn keeps what was read before it, and puts what it reads behind that.
use Rattle.std.proofs.Common.{◌≡◌, ℕ, ◌+◌, ◌-◌, ◌≤◌, List, ◌++◌, rules, length, take, sym, ap, ◌∙◌, subst, length-take-le}
use Rattle.std.specs.Io.KnownBytes.{Consumes}
use Rattle.std.proofs.KnownBytes.{Consumes-trans}
use borrow.Rule.Slice.PartMut.{put_mid, post_of}
use lib.Seq.{take-append-add, take-append-le}
use Rattle.program_io.proofs.read_full.Goals as goal

-- after a read of n bytes into the part from a on
read_on : (xs ys : List ℕ) (a k n : ℕ) → a ≤ length xs → n ≤ length ys → take (a + n) (put_mid a k xs ys) ≡ take a xs ++ take n ys
read_on xs ys a k n within fits =
    rw (length-take-le a xs within) at (take-append-add (take a xs) (ys ++ post_of a k xs) n)
    ∙ ap (λ l. take a xs ++ l) (take-append-le n ys (post_of a k xs) fits)

pub loop-done-preserved : goal.loop-done-preserved
loop-done-preserved g c =
    let l = c.loop-done in
    let read = c.in_ok-n.ensures in
    let bytes = read_on l.buf c.read.new.buf l.done (length l.buf - l.done) c.in_ok-n.n l.invariant.1 read.bound.0 in
    (search rules, search rules, subst (Consumes _ _) (sym bytes) (Consumes-trans _ _ _ _ _ l.invariant.2 read.bytes.0))
