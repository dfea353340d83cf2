-- A store cut into pieces of z bytes: a cut piece has the length asked for, bytes put at the start of a piece are found there, and they
-- change no other piece and nothing past them. Two pieces do not overlap, since (j + 1) * z ≤ i * z for j < i.
use Rattle.std.proofs.Common.{◌≡◌, ℕ, zero, suc, ◌+◌, ◌-◌, ◌*◌, ◌<◌, ◌≤◌, Bool, true, false, ltb, ◌≢◌, List, [], ◌∷◌, ◌++◌, length, take, drop, replicate, sym, refl, ap, ◌∙◌, mul-le-mul_right, suc-mul, arith, length-append, length-drop, length-take, take-take, drop-drop, ltb-false, ltb-true}
use lib.ListN.{length-replicate}
use lib.Seq.{take-append-le, take-nil}
use Rattle.records.specs.Put.{put}
use Rattle.records.specs.Cut.{cut, beyond, outgoing_slot, incoming_slot, header_slot}
use Rattle.records.proofs.Put.{put_length, put_same, put_before, put_drop, put_after}

-- the sizes of the pieces

pub out_is : outgoing_slot ≡ 1_400
unfolding outgoing_slot
out_is = refl

pub in_is : incoming_slot ≡ 1_380
unfolding incoming_slot
in_is = refl

pub head_is : header_slot ≡ 20
unfolding header_slot
head_is = refl

pub cut_length : (z : ℕ) (store : List ℕ) (i k : ℕ) → length (cut z store i k) ≡ k
unfolding cut
cut_length z store i k = simp (length-take, length-append, length-replicate) (omega arith)

-- a piece within the store
pub cut_whole : (z : ℕ) (store : List ℕ) (i k : ℕ) → i * z + k ≤ length store → k ≤ z → cut z store i k ≡ take k (drop (i * z) store)
unfolding cut
cut_whole z store i k h l =
    let n : k ≤ length (take z (drop (i * z) store)) = simp (length-take, length-drop) (omega arith) in
    take-append-le k (take z (drop (i * z) store)) (replicate k 0) n ∙ take-take k z (drop (i * z) store) l

drop_take : (m n : ℕ) (l : List ℕ) → drop m (take n l) ≡ take (n - m) (drop m l)
drop_take zero n l = ap (λ (k : ℕ). take k l) (let p : n ≡ n - 0 = omega arith in p)
drop_take (suc m) zero l = ap (λ (k : ℕ). take k (drop (suc m) l)) (let p : 0 ≡ 0 - suc m = omega arith in p)
drop_take (suc m) (suc n) [] = sym (take-nil (suc n - suc m))
drop_take (suc m) (suc n) (x ∷ l) = drop_take m n l ∙ ap (λ (k : ℕ). take k (drop m l)) (let p : n - m ≡ suc n - suc m = omega arith in p)

-- such a piece from an offset on
pub cut_drop : (z : ℕ) (store : List ℕ) (i k m : ℕ) → i * z + k ≤ length store → k ≤ z → drop m (cut z store i k) ≡ take (k - m) (drop (i * z + m) store)
cut_drop z store i k m h l = rw (cut_whole z store i k h l, drop_take m k (drop (i * z) store), drop-drop)

-- the bytes past the first k of a piece
beyond_is : (z : ℕ) (store : List ℕ) (i k : ℕ) → beyond z store i k ≡ take (z - k) (drop (i * z + k) store)
unfolding beyond
beyond_is z store i k = drop_take k z (drop (i * z) store) ∙ ap (take (z - k)) (drop-drop k (i * z) store)

earlier : (j i z : ℕ) → j < i → j * z + z ≤ i * z
earlier j i z h = let m = mul-le-mul_right {m = suc j} {n = i} z (omega arith) in rw suc-mul at m

module _ (z : ℕ) (store pkt : List ℕ) (i : ℕ) (short : length pkt ≤ z) (room : i * z + length pkt ≤ length store) where
  pub cut_same : cut z (put store (i * z) pkt) i (length pkt) ≡ pkt
  cut_same = cut_whole z (put store (i * z) pkt) i (length pkt) (rw (put_length store (i * z) pkt room) room) short ∙ put_same store (i * z) pkt room

  piece_other : (j : ℕ) → j ≢ i → take z (drop (j * z) (put store (i * z) pkt)) ≡ take z (drop (j * z) store)
  piece_other j ne = go (ltb j i) refl
    where
      go : (b : Bool) → ltb j i ≡ b → take z (drop (j * z) (put store (i * z) pkt)) ≡ take z (drop (j * z) store)
      go true e = put_before store (i * z) pkt room (j * z) z (earlier j i z (ltb-true j i e))
      go false e =
          let h : i ≤ j = ltb-false j i e in
          let l : i < j = omega (arith, ne) in
          let m = earlier i j z l in
          put_after store (i * z) pkt room (j * z) z (omega arith)

  pub cut_other : (j k : ℕ) → j ≢ i → cut z (put store (i * z) pkt) j k ≡ cut z store j k
  unfolding cut
  cut_other j k ne = ap (λ (l : List ℕ). take k (l ++ replicate k 0)) (piece_other j ne)

  -- the bytes past it in its own piece, and in any other piece

  pub beyond_same : beyond z (put store (i * z) pkt) i (length pkt) ≡ beyond z store i (length pkt)
  beyond_same =
      beyond_is z (put store (i * z) pkt) i (length pkt)
      ∙ ap (take (z - length pkt)) (put_drop store (i * z) pkt room (i * z + length pkt) (omega arith))
      ∙ sym (beyond_is z store i (length pkt))

  pub beyond_other : (j k : ℕ) → j ≢ i → beyond z (put store (i * z) pkt) j k ≡ beyond z store j k
  unfolding beyond
  beyond_other j k ne = ap (drop k) (piece_other j ne)
