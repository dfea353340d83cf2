-- The model's loop of a write without its fuel (`write_all`): any fuel that covers the bytes gives the same, since each iteration takes a
-- byte or more. It stops where no byte is left or the next piece does not go, and otherwise sends that piece and continues. A chunk of
-- 1,380 bytes is the model's piece (`piece_is`).
use Prim.Native.Nat.{ℕ, zero, suc, ◌+◌, ◌≤◌, ◌<◌, min}
use native.Mathlib.Omega.{arith}
use mathlib.Core.Path.{◌≡◌, refl, ap, sym, ◌∙◌}
use mathlib.Core.List.{[], ◌∷◌, ◌++◌}
use mathlib.Core.Bool.{Bool, true, false, cond, ◌&&◌, not}
use lib.Dec.{leb}
use lib.ListN.{length, take, drop, length-drop, drop_of_length-le}
use lib.Seq.{take-length, take_all, drop-length, take-append_seam, drop-append_seam}
use borrow.Author.Tests.{leb-true, leb-false}
use Rattle.model.specs.Lists.{Bytes, is_empty}
use Rattle.model.specs.Stream.{End}
use Rattle.model.specs.Sending.{piece, goes, send_data_packet, Written, write_loop}

none_left : (bytes : Bytes) → length bytes ≤ 0 → bytes ≡ []
none_left [] h = refl
none_left (b ∷ bytes) h = absurd (omega arith)

rest_less : (bytes : Bytes) (k : ℕ) → length bytes ≤ suc k → length (drop 1_380 bytes) ≤ k
rest_less bytes k h = rw length-drop (omega arith)

-- one iteration, given the result for the rest
abbrev turned : Bytes → End → Written → Written
turned bytes e w =
    cond (not (is_empty bytes) && goes (piece bytes) e.sender) (record { count = length (piece bytes) + w.count; end = w.end })
    (record { count = 0; end = e })

loop_empty : (k : ℕ) (e : End) → write_loop k [] e ≡ record { count = 0; end = e }
unfolding write_loop
loop_empty zero e = refl
loop_empty (suc k) e = refl

-- any fuel that covers the bytes
enough : (k m : ℕ) (bytes : Bytes) (e : End) → length bytes ≤ k → length bytes ≤ m → write_loop k bytes e ≡ write_loop m bytes e
unfolding write_loop
enough zero m bytes e h l = rw (none_left bytes h) (sym (loop_empty m e))
enough (suc k) zero bytes e h l = rw (none_left bytes l) (loop_empty (suc k) e)
enough (suc k) (suc m) bytes e h l =
    ap (turned bytes e) (enough k m (drop 1_380 bytes) (send_data_packet (piece bytes) e) (rest_less bytes k h) (rest_less bytes m l))

-- the model's whole write of some bytes
unfoldable pub write_all : Bytes → End → Written
write_all bytes e = write_loop (length bytes) bytes e

-- no byte is left
pub all_empty : (bytes : Bytes) (e : End) → length bytes ≤ 0 → write_all bytes e ≡ record { count = 0; end = e }
unfolding write_all
all_empty bytes e h = rw (none_left bytes h) (loop_empty 0 e)

-- the next piece does not go
pub all_stop : (bytes : Bytes) (e : End) → goes (piece bytes) e.sender ≡ false → write_all bytes e ≡ record { count = 0; end = e }
unfolding write_all write_loop
all_stop [] e g = refl
all_stop (b ∷ bytes) e g = rw g refl

-- a result after n bytes went before
abbrev pub joined : ℕ → Written → Written
joined n w = record { count = n + w.count; end = w.end }

-- it goes, and has k bytes
pub all_turn : (bytes : Bytes) (e : End) (n k : ℕ) → 0 < length bytes → goes (piece bytes) e.sender ≡ true → length (piece bytes) ≡ k
    → joined (n + k) (write_all (drop 1_380 bytes) (send_data_packet (piece bytes) e)) ≡ joined n (write_all bytes e)
unfolding write_all write_loop
all_turn [] e n k l g z = absurd (omega arith)
all_turn (b ∷ bytes) e n k l g z =
    let rest = drop 1_380 (b ∷ bytes) in
    let e' = send_data_packet (piece (b ∷ bytes)) e in
    let w = write_loop (length bytes) rest e' in
    let m : n + k + w.count ≡ n + (length (piece (b ∷ bytes)) + w.count) = omega arith in
    rw g (ap (joined (n + k)) (enough (length rest) (length bytes) rest e' (omega arith) (rest_less (b ∷ bytes) (length bytes) (omega arith)))
    ∙ ap (λ (i : ℕ). record { count = i; end = w.end }) m)

-- a chunk of some bytes, and the bytes after it
pub record Cuts (bytes p rest : Bytes) : Type 0 where
  pub parts : bytes ≡ p ++ rest
  pub size : length p ≡ min 1_380 (length bytes)
  pub some : 0 < length bytes

-- what an iterator over chunks of 1,380 bytes gives where `left` is left to it
pub chunk_cuts : {left bytes p rest : Bytes} {size : ℕ} → left ≡ bytes → size ≡ 1_380 → left ≡ p ++ rest → length p ≡ min size (length left) → 0 < length left
    → Cuts bytes p rest
chunk_cuts {left} {bytes} {p} {rest} {size} e z parts l some =
    let n = ap length e in
    record { parts = sym e ∙ parts; size = omega arith; some = omega arith }

-- it is the model's piece, and the rest is what the model goes on with

module _ {bytes p rest : Bytes} (c : Cuts bytes p rest) where
  pub after_piece : drop (length p) bytes ≡ rest
  after_piece = ap (drop (length p)) c.parts ∙ drop-append_seam p rest

  front : p ≡ take (length p) bytes
  front = sym (ap (take (length p)) c.parts ∙ take-append_seam p rest)

  pub piece_is : p ≡ piece bytes
  piece_is = go (leb 1_380 (length bytes)) refl
    where
      go : (b : Bool) → leb 1_380 (length bytes) ≡ b → p ≡ piece bytes
      go true e =
          let h : 1_380 ≤ length bytes = leb-true _ _ e in
          let n : length p ≡ 1_380 = omega (arith, c.size) in
          front ∙ ap (λ (k : ℕ). take k bytes) n
      go false e =
          let h : length bytes < 1_380 = leb-false _ _ e in
          let n : length p ≡ length bytes = omega (arith, c.size) in
          front ∙ ap (λ (k : ℕ). take k bytes) n ∙ take-length bytes ∙ sym (take_all 1_380 bytes (omega arith))

  pub rest_is : rest ≡ drop 1_380 bytes
  rest_is = go (leb 1_380 (length bytes)) refl
    where
      go : (b : Bool) → leb 1_380 (length bytes) ≡ b → rest ≡ drop 1_380 bytes
      go true e =
          let h : 1_380 ≤ length bytes = leb-true _ _ e in
          let n : length p ≡ 1_380 = omega (arith, c.size) in
          sym after_piece ∙ ap (λ (k : ℕ). drop k bytes) n
      go false e =
          let h : length bytes < 1_380 = leb-false _ _ e in
          let n : length p ≡ length bytes = omega (arith, c.size) in
          let m : length bytes ≤ 1_380 = omega arith in
          sym after_piece ∙ ap (λ (k : ℕ). drop k bytes) n ∙ drop-length bytes ∙ sym (drop_of_length-le bytes m)
