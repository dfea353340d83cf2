-- `session_kept::keep` meets its contract: what is kept so far plus the datagrams left in the batch has the same last 32 as what was
-- kept before plus all its datagrams.
use Prim.Native.Nat.{ℕ, ◌+◌, ◌≤◌, ◌<◌, min, max}
use native.Mathlib.Omega.{arith}
use mathlib.Core.Path.{◌≡◌, refl, sym, ap, ap₂, ◌∙◌}
use Rattle.std.specs.Prelude.{Option, None, Some}
use mathlib.Core.List.{List, [], ◌∷◌, ◌++◌, map, append_assoc, append-nil}
use lib.ListN.{length, take, drop, length-append}
use lib.Seq.{take_at, drop_at}
use Rattle.model.specs.Lists.{Bytes}
use Rattle.model.specs.Driving.{datagrams_of}
use Rattle.session_kept.specs.Kept.{kept_of, last_kept, fitted, kept_segment}
use Rattle.session_kept.proofs.Pieces.{next_piece, next_none}
use Rattle.session_kept.proofs.KeptLaws.{kept_few, last_all, last_last}
use Rattle.session_kept.proofs.keep.Invariants.{last_with}
use Rattle.session_kept.proofs.keep.Goals as goal

-- a piece d kept, with the bytes after it left
turn : (xs ys : List Bytes) (segment : Option ℕ) (size : ℕ) (left d after : Bytes) → left ≡ d ++ after → length d ≡ min size (length left)
    → 0 < length left → (segment ≡ None → length left ≤ size) → ((m : ℕ) → segment ≡ Some m → size ≡ max m 1) → ys ≡ last_kept (xs ++ (fitted d ∷ []))
    → last_with ys segment after ≡ last_with xs segment left
turn xs ys segment size left d after is long some all cut e =
    let ds : (Bytes → List Bytes) = datagrams_of (kept_segment segment) in
    let rest : List Bytes = map fitted (ds after) in
    let front : take (length d) left ≡ d = ap (take (length d)) is ∙ take_at d after (length d) refl in
    let back : drop (length d) left ≡ after = ap (drop (length d)) is ∙ drop_at d after (length d) refl in
    let next : ds left ≡ d ∷ ds after =
    (next_piece segment size (length left) (length d) long some all cut).next left refl
    ∙ ap₂ {C = List Bytes} (λ (u v : Bytes). u ∷ ds v) front back in
    ap (λ (l : List Bytes). last_kept (l ++ rest)) e
    ∙ last_last (xs ++ (fitted d ∷ [])) rest ∙ ap last_kept (append_assoc xs (fitted d ∷ []) rest)
    ∙ ap (λ (l : List Bytes). last_kept (xs ++ map fitted l)) (sym next)

-- nothing left
done : (xs : List Bytes) (segment : Option ℕ) (left : Bytes) → length xs ≤ 32 → length left ≡ 0 → xs ≡ last_with xs segment left
done xs segment (b ∷ left) few none = absurd (omega arith)
done xs segment [] few none =
    sym (last_all xs few) ∙ ap last_kept (sym (append-nil xs))
    ∙ ap (λ (l : List Bytes). last_kept (xs ++ map fitted l)) (sym (next_none (kept_segment segment)))

pub loop-datagram-preserved : goal.loop-datagram-preserved
loop-datagram-preserved c =
    let a = c.args in
    let l = c.loop-datagram in
    let i = l.invariant in
    let steps = c.in-Some.ensures.steps in
    let one = c.keep_one-r in
    let shorter : length l.datagram-iterator.rest.now ≡ length c.in-Some.datagram.now + length c.next.new.self.rest.now =
    ap length steps.1.0 ∙ length-append c.in-Some.datagram.now c.next.new.self.rest.now in
    let next = turn (kept_of l.r l.kept) (kept_of one.result one.new.kept) a.segment l.datagram-iterator.size l.datagram-iterator.rest.now
    c.in-Some.datagram.now c.next.new.self.rest.now steps.1.0 steps.1.1 steps.1.2 i.2 i.3 one.ensures in
    (omega (arith, steps.0, i.0), tt, (λ z. omega (arith, i.2 z, steps.0, shorter)), (λ size e. steps.0 ∙ i.3 size e), next ∙ i.4)

pub returns : goal.returns
returns c =
    let a = c.args in
    let l = c.loop-datagram in
    done (kept_of l.r l.kept) a.segment l.datagram-iterator.rest.now (kept_few l.r l.kept) c.in-None.ensures.steps.1.0 ∙ l.invariant.4
