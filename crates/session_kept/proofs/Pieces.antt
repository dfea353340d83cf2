-- The next datagram of a batch is the front of what is left of it. Without a segment size that is all of it; with one, the rest is cut as
-- if it were a batch of its own, whatever the bound on the number of pieces.
use Prim.Native.Nat.{ℕ, zero, suc, ◌-◌, ◌≤◌, ◌<◌, min, max}
use native.Mathlib.Omega.{arith}
use mathlib.Core.Path.{◌≡◌, refl, sym, ap, ap₂, ◌∙◌, subst}
use mathlib.Core.List.{List, [], ◌∷◌}
use mathlib.Core.Bool.{Bool, true, false}
use mathlib.Core.Option.{Option, none, some}
use Rattle.std.specs.Prelude as rust
use Rattle.std.specs.Prelude.{None, Some}
use lib.Dec.{ltb}
use borrow.Author.Tests.{ltb-true, ltb-false}
use lib.ListN.{length, take, drop, length-drop, drop_of_length-le}
use lib.Seq.{take_all, drop-length}
use Rattle.model.specs.Lists.{Bytes, cut}
use Rattle.model.specs.Driving.{whole, datagrams_of}
use Rattle.session_kept.specs.Kept.{kept_segment}

-- the first `size` of a batch's `left` bytes are its next datagram
pub record NextPiece (segment : Option ℕ) (left size : ℕ) : Type 0 where
  pub some_bytes : 0 < size
  pub within : size ≤ left
  pub next : (bytes : Bytes) → length bytes ≡ left
      → datagrams_of segment bytes ≡ take size bytes ∷ datagrams_of segment (drop size bytes)

-- any bound that covers the bytes gives the same pieces
cut_same : (j k n : ℕ) (bytes : Bytes) → 0 < n → length bytes ≤ j → length bytes ≤ k → cut j n bytes ≡ cut k n bytes
cut_same zero zero n bytes p h l = refl
cut_same zero (suc k) n [] p h l = refl
cut_same zero (suc k) n (b ∷ bytes) p h l = absurd (omega arith)
cut_same (suc j) zero n [] p h l = refl
cut_same (suc j) zero n (b ∷ bytes) p h l = absurd (omega arith)
cut_same (suc j) (suc k) n [] p h l = refl
cut_same (suc j) (suc k) n (b ∷ bytes) p h l =
    let rest : length (drop n (b ∷ bytes)) ≡ length (b ∷ bytes) - n = length-drop n (b ∷ bytes) in
    ap (λ (ds : List Bytes). take n (b ∷ bytes) ∷ ds) (cut_same j k n (drop n (b ∷ bytes)) p (omega arith) (omega arith))

-- a batch cut into pieces of n bytes
cut_next : (n : ℕ) (bytes : Bytes) → 0 < n → 0 < length bytes → cut (length bytes) n bytes ≡ take n bytes ∷ cut (length (drop n bytes)) n (drop n bytes)
cut_next n [] p h = absurd (omega arith)
cut_next n (b ∷ bytes) p h =
    let rest : length (drop n (b ∷ bytes)) ≡ length (b ∷ bytes) - n = length-drop n (b ∷ bytes) in
    ap (λ (ds : List Bytes). take n (b ∷ bytes) ∷ ds) (cut_same (length bytes) (length (drop n (b ∷ bytes))) n (drop n (b ∷ bytes)) p (omega arith) (omega arith))

-- a whole batch
whole_next : (bytes : Bytes) → 0 < length bytes → whole bytes ≡ take (length bytes) bytes ∷ whole (drop (length bytes) bytes)
whole_next [] h = absurd (omega arith)
whole_next (b ∷ bytes) h =
    ap₂ {C = List Bytes} (λ (u v : Bytes). u ∷ whole v) (sym (take_all (length (b ∷ bytes)) (b ∷ bytes) (omega arith))) (sym (drop-length (b ∷ bytes)))

-- no segment size: all that is left
pub next_whole : (left : ℕ) → 0 < left → NextPiece none left left
next_whole left h = record { some_bytes = h; within = omega arith; next = next }
  where
    next : (bytes : Bytes) → length bytes ≡ left → datagrams_of none bytes ≡ take left bytes ∷ datagrams_of none (drop left bytes)
    next bytes e = rw (← e) (whole_next bytes (omega arith))

-- a segment size that fits in what is left: that many bytes
pub next_cut : (segment left : ℕ) → 0 < segment → segment ≤ left → NextPiece (some segment) left segment
next_cut segment left p l = record { some_bytes = p; within = l; next = λ bytes e. cut_next segment bytes p (omega arith) }

-- the last piece, no longer than the segment size
pub next_last : (segment left : ℕ) → 0 < segment → left ≤ segment → 0 < left → NextPiece (some segment) left left
next_last segment left p l h = record { some_bytes = h; within = omega arith; next = next }
  where
    next : (bytes : Bytes) → length bytes ≡ left → datagrams_of (some segment) bytes ≡ take left bytes ∷ datagrams_of (some segment) (drop left bytes)
    next bytes e =
        let short : length bytes ≤ segment = omega arith in
        let exact : length bytes ≤ left = omega arith in
        let t : take segment bytes ≡ take left bytes = take_all segment bytes short ∙ sym (take_all left bytes exact) in
        let d : drop segment bytes ≡ drop left bytes = drop_of_length-le bytes short ∙ sym (drop_of_length-le bytes exact) in
        cut_next segment bytes p (omega arith) ∙ ap₂ {C = List Bytes} (λ (u v : Bytes). u ∷ cut (length v) segment v) t d

-- as many bytes as the pieces have, or all that is left
pub next_piece : (segment : rust.Option ℕ) (size left n : ℕ) → n ≡ min size left → 0 < left → (segment ≡ None → left ≤ size)
    → ((m : ℕ) → segment ≡ Some m → size ≡ max m 1) → NextPiece (kept_segment segment) left n
next_piece None size left n is h all cut = let covers : left ≤ size = all refl in let q : left ≡ n = omega arith in subst (NextPiece none left) q (next_whole left h)
next_piece (Some m) size left n is h all cut = subst (λ (k : ℕ). NextPiece (some k) left n) whole (go (ltb size left) refl)
  where
    whole : size ≡ max m 1
    whole = cut m refl

    positive : 0 < size
    positive = omega (arith, whole)

    go : (d : Bool) → ltb size left ≡ d → NextPiece (some size) left n
    go true l =
        let less : size < left = ltb-true size left l in let q : size ≡ n = omega arith in subst (NextPiece (some size) left) q (next_cut size left positive (omega arith))
    go false l =
        let less : left ≤ size = ltb-false size left l in let q : left ≡ n = omega arith in subst (NextPiece (some size) left) q (next_last size left positive less h)

-- nothing left
pub next_none : (segment : Option ℕ) → datagrams_of segment [] ≡ []
next_none none = refl
next_none (some size) = refl
