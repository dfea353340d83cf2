-- A lent store with new bytes at the front of each of its pieces and the rest kept: cutting a piece returns its new bytes, and past them
-- nothing changed. The new store is its pieces joined, all of one length.
use Prim.Native.Nat.{ℕ, zero, suc, ◌+◌, ◌*◌, ◌≤◌, ◌<◌}
use native.Mathlib.Nat.{mul-le-mul_right, suc-mul}
use native.Mathlib.Omega.{arith}
use mathlib.Core.Path.{◌≡◌, ap, ◌∙◌}
use mathlib.Core.List.{◌++◌}
use lib.ListN.{length, take, drop, replicate, length-take, length-drop, length-append}
use lib.Seq.{take_at, drop_at, drop-drop, take-append_seam, drop-append_seam, take-append-le}
use Rattle.model.specs.Lists.{Bytes, joined}
use Rattle.records.specs.Table.{table}
use Rattle.records.specs.Cut.{cut, beyond}

-- pieces of z bytes, joined

module _ (z : ℕ) where
  joined_length : (k : ℕ) (f : ℕ → Bytes) → ((i : ℕ) → i < k → length (f i) ≡ z) → length (joined (table k f)) ≡ k * z
  joined_length zero f h = omega arith
  joined_length (suc k) f h =
      let rest = joined_length k (λ i. f (suc i)) (λ i l. h (suc i) (omega arith)) in
      let one = h 0 (omega arith) in
      length-append (f 0) (joined (table k (λ i. f (suc i)))) ∙ rw (rest, one, suc-mul) (omega arith)

  joined_piece : (k : ℕ) (f : ℕ → Bytes) → ((i : ℕ) → i < k → length (f i) ≡ z) → (i : ℕ) → i < k → take z (drop (i * z) (joined (table k f))) ≡ f i
  joined_piece zero f h i l = absurd (omega arith)
  joined_piece (suc k) f h zero l = let e : 0 * z ≡ 0 = omega arith in rw e (take_at (f 0) (joined (table k (λ i. f (suc i)))) z (h 0 l))
  joined_piece (suc k) f h (suc i) l =
      let e : suc i * z ≡ z + i * z = rw suc-mul (omega arith) in
      rw (e, ← drop-drop (i * z) z (joined (table (suc k) f)), drop_at (f 0) (joined (table k (λ i. f (suc i)))) z (h 0 (omega arith)))
      (joined_piece k (λ i. f (suc i)) (λ j m. h (suc j) (omega arith)) i (omega arith))

module _ (z k : ℕ) (store : Bytes) (f : ℕ → Bytes) where
  -- a piece with new bytes at its front
  abbrev piece_at : ℕ → Bytes
  piece_at i = f i ++ beyond z store i (length (f i))

  unfoldable pub with_pieces : Bytes
  with_pieces = joined (table k piece_at)

  module _ (short : (i : ℕ) → i < k → length (f i) ≤ z) (size : k * z ≤ length store) where
    piece_length : (i : ℕ) → i < k → length (piece_at i) ≡ z
    unfolding beyond
    piece_length i l =
        let m = mul-le-mul_right {m = suc i} {n = k} z (omega arith) in
        let within : i * z + z ≤ length store = (let m' = rw suc-mul at m in omega arith) in
        let s = short i l in
        length-append (f i) (beyond z store i (length (f i))) ∙ simp (length-drop, length-take) (omega arith)

    pub pieces_length : length with_pieces ≡ k * z
    unfolding with_pieces
    pieces_length = joined_length z k piece_at piece_length

    piece_is : (i : ℕ) → i < k → take z (drop (i * z) with_pieces) ≡ piece_at i
    unfolding with_pieces
    piece_is i l = joined_piece z k piece_at piece_length i l

    -- the bytes at the front
    pub pieces_cut : (i : ℕ) → i < k → cut z with_pieces i (length (f i)) ≡ f i
    unfolding cut
    pieces_cut i l =
        ap (λ (p : Bytes). take (length (f i)) (p ++ replicate (length (f i)) 0)) (piece_is i l)
        ∙ take-append-le (length (f i)) (piece_at i) (replicate (length (f i)) 0) (simp length-append (omega arith))
        ∙ take-append_seam (f i) (beyond z store i (length (f i)))

    -- what is past them
    pub pieces_beyond : (i : ℕ) → i < k → beyond z with_pieces i (length (f i)) ≡ beyond z store i (length (f i))
    unfolding beyond
    pieces_beyond i l = ap (drop (length (f i))) (piece_is i l) ∙ drop-append_seam (f i) (beyond z store i (length (f i)))
