-- Laws of the blocks of a payload, in the form that a loop over them needs: the next block and those after it, the end, and the count. The
-- idea: any number of steps that covers the bytes left gives the same blocks.
use Prim.Native.Nat.{ℕ, zero, suc, ◌+◌, ◌-◌, ◌/◌, ◌≤◌, ◌<◌}
use mathlib.Core.Path.{◌≡◌, refl, sym, ap, ◌∙◌}
use mathlib.Core.List.{List, [], ◌∷◌}
use mathlib.Core.Bool.{Bool, true, false, cond}
use native.Mathlib.Omega.{arith}
use borrow.Author.Tests.{lt-ltb, le-ltb, ltb-true, ltb-false}
use lib.Dec.{ltb}
use lib.ListN.{length, drop, length-drop}
use lib.Seq.{drop-drop}
use Rattle.std.specs.Prelude.{Option, None, Some}
use Rattle.packet.specs.declared.sack.Block.{Block}
use Rattle.packet.specs.LittleEndian.{word}
use Rattle.packet.specs.Blocks.{Span, span_of, blocks_in, blocks_from, next_block, BlockCount}

-- one step: a block and the blocks after it, or the end
abbrev step : List ℕ → List Span → List Span
step rest more = cond (ltb 8 (length rest)) (span_of rest ∷ more) []

-- with at most 8 bytes left there is no block, whatever the number of steps
none : (k : ℕ) (rest : List ℕ) → length rest ≤ 8 → blocks_in k rest ≡ []
unfolding blocks_in
none zero rest h = refl
none (suc k) rest h = simp (le-ltb 8 (length rest) h)

pub enough : (j k : ℕ) (rest : List ℕ) → length rest ≤ j → length rest ≤ k → blocks_in j rest ≡ blocks_in k rest
unfolding blocks_in
enough zero k rest f g = sym (none k rest (omega arith))
enough (suc j) zero rest f g = none (suc j) rest (omega arith)
enough (suc j) (suc k) rest f g =
    ap (step rest) (enough j k (drop 8 rest) (simp length-drop (omega arith)) (simp length-drop (omega arith)))

-- one step unrolled, with the same number of steps left
unrolled : (k : ℕ) (rest : List ℕ) → length rest ≤ k → blocks_in k rest ≡ step rest (blocks_in k (drop 8 rest))
unfolding blocks_in
unrolled k rest f = enough k (suc k) rest f (omega arith)

pub blocks_next : (payload : List ℕ) (at : ℕ) → at + 8 < length payload
    → blocks_from payload at ≡ span_of (drop at payload) ∷ blocks_from payload (at + 8)
blocks_next payload at h =
    unrolled (length payload) (drop at payload) (simp length-drop (omega arith))
    ∙ simp (lt-ltb 8 (length (drop at payload)) (simp length-drop (omega arith)), drop-drop 8 at payload)

pub blocks_end : (payload : List ℕ) (at : ℕ) → length payload ≤ at + 8 → blocks_from payload at ≡ []
blocks_end payload at h = none (length payload) (drop at payload) (simp length-drop (omega arith))

-- what is read at a place, by how many bytes are left there
pub next_range : (payload : List ℕ) (at : ℕ) {start end : ℕ} → at + 8 < length payload
    → start ≡ word payload at → end ≡ word payload (at + 4) → Some record { start = start; end = end } ≡ next_block (blocks_from payload at)
next_range payload at h p q = simp (p, q, blocks_next payload at h, drop-drop 4 at payload)

pub next_end : (payload : List ℕ) (at : ℕ) → length payload ≤ at + 8 → None ≡ next_block (blocks_from payload at)
next_end payload at h = simp (blocks_end payload at h)

-- what a result says about the blocks left: a range is the first of them and is inside the payload; at the end there is none
pub range_inside : (payload : List ℕ) (at start end : ℕ) → next_block (blocks_from payload at) ≡ Some record { start = start; end = end } → at + 8 < length payload
range_inside payload at start end e = go (ltb (at + 8) (length payload)) refl
  where
    go : (t : Bool) → ltb (at + 8) (length payload) ≡ t → at + 8 < length payload
    go true f = ltb-true (at + 8) (length payload) f
    go false f =
        let g = next_end payload at (ltb-false (at + 8) (length payload) f) in
        absurd (let z : ◌≡◌ {A = ℕ} 0 1 = cc in omega arith)

pub range_first : (payload : List ℕ) (at start end : ℕ) → next_block (blocks_from payload at) ≡ Some record { start = start; end = end }
    → blocks_from payload at ≡ record { start = start; end = end } ∷ blocks_from payload (at + 8)
range_first payload at start end e =
    let f = blocks_next payload at (range_inside payload at start end e) in
    f ∙ ap (λ (b : Span). b ∷ blocks_from payload (at + 8)) (same (word (drop at payload) 0) (word (drop at payload) 4) (rw f at e))
  where
    same : (a b : ℕ) → ◌≡◌ {A = Option Block} (Some record { start = a; end = b }) (Some record { start = start; end = end }) → ◌≡◌ {A = Span} record { start = a; end = b } record { start = start; end = end }
    same a b g =
        let h : ◌≡◌ {A = Block} record { start = a; end = b } record { start = start; end = end } = cc in
        let p : a ≡ start = ap (λ (x : Block). x.start) h in
        let q : b ≡ end = ap (λ (x : Block). x.end) h in
        rw (p, q) refl

pub end_none : (payload : List ℕ) (at : ℕ) → next_block (blocks_from payload at) ≡ None → blocks_from payload at ≡ []
end_none payload at e = go (blocks_from payload at) e
  where
    go : (bs : List Span) → next_block bs ≡ None → bs ≡ []
    go [] f = refl
    go (b ∷ bs) f = absurd (let z : ◌≡◌ {A = ℕ} 0 1 = cc in omega arith)

count : (k : ℕ) (rest : List ℕ) → length rest ≤ k → length (blocks_in k rest) ≡ (length rest - 1) / 8
unfolding blocks_in
count zero rest f = omega arith
count (suc k) rest f = go (ltb 8 (length rest)) refl (count k (drop 8 rest) (simp length-drop (omega arith)))
  where
    go : (t : Bool) → ltb 8 (length rest) ≡ t
        → length (blocks_in k (drop 8 rest)) ≡ (length (drop 8 rest) - 1) / 8
        → length (cond t (span_of rest ∷ blocks_in k (drop 8 rest)) []) ≡ (length rest - 1) / 8
    go true e r = omega (arith, ltb-true 8 (length rest) e, simp length-drop at r)
    go false e r = omega (arith, ltb-false 8 (length rest) e)

pub blocks_count : BlockCount
blocks_count payload = count (length payload) payload (omega arith)
