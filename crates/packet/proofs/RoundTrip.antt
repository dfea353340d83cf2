-- Encoding and decoding undo each other, as stated in specs/RoundTrip.antt. Decoding reads each field's bytes back; encoding writes the
-- four runs of four bytes that decoding read, and the first four bytes are known.
use Prim.Native.Nat.{ℕ, ◌+◌, ◌≤◌}
use mathlib.Core.Path.{◌≡◌, ap, ◌∙◌}
use mathlib.Core.List.{List, ◌∷◌, ◌++◌, append_assoc}
use native.Mathlib.Omega.{arith}
use borrow.Author.Tests.{le-leb}
use lib.ListN.{length, get_or, take, drop}
use lib.Seq.{take-add, drop-drop}
use Rattle.packet.specs.Header.{header_bytes, decoded}
use Rattle.packet.specs.RoundTrip.{DecodeEncode, EncodeDecode}
use Rattle.packet.proofs.LittleEndian.{le_le_bytes, four, word_bytes}
use Rattle.packet.proofs.HeaderLaws.{laid, decoded_accepted, encoded_long}

pub decode_encode : DecodeEncode
unfolding header_bytes decoded
decode_encode h buf w long =
    simp (
      encoded_long h buf long,
      le-leb 20 (length (header_bytes h ++ drop 20 buf)) (omega arith),
      le_le_bytes 4 h.stream_id w.stream_id,
      le_le_bytes 4 h.recv_win w.recv_win,
      le_le_bytes 4 h.seq w.seq,
      le_le_bytes 4 h.ack w.ack,
    )

-- four elements at a place, and then k more
cut : (s : List ℕ) (at k : ℕ) → take (4 + k) (drop at s) ≡ take 4 (drop at s) ++ take k (drop (at + 4) s)
cut s at k = take-add 4 k (drop at s) ∙ ap (λ (r : List ℕ). take 4 (drop at s) ++ take k r) (drop-drop 4 at s)

-- the first 20 bytes, split into the parts of a header
front : (s : List ℕ) → 20 ≤ length s
    → take 20 s
    ≡ get_or s 0 0
    ∷ get_or s 1 0
    ∷ get_or s 2 0
    ∷ get_or s 3 0
    ∷ take 4 (drop 4 s) ++ take 4 (drop 8 s) ++ take 4 (drop 12 s) ++ take 4 (drop 16 s)
front s h = simp (cut s 0 16, cut s 4 12, cut s 8 8, cut s 12 4, four s 0 (omega arith), append_assoc)

pub encode_decode : EncodeDecode
unfolding header_bytes
encode_decode h s buf b e long =
    let d = decoded_accepted s h e in
    simp (encoded_long h buf long, ← d.same, front s d.long, d.magic, d.version)
    (ap (λ (r : List ℕ). r ++ drop 20 buf)
    (laid 255 1 (get_or s 2 0) (get_or s 3 0)
    (word_bytes s 4 b (omega arith))
    (word_bytes s 8 b (omega arith))
    (word_bytes s 12 b (omega arith))
    (word_bytes s 16 b (omega arith))))
