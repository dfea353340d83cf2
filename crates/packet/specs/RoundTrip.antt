-- Encoding and decoding undo each other: the statements. The proofs are in proofs/RoundTrip.antt.
use Rattle.std.specs.Prelude.{ℕ, ◌^◌, ◌≤◌, ◌<◌, ◌≡◌, List, ◌++◌, length, get_or, take, drop, Ok}
use Rattle.packet.specs.declared.header.Header.{Header}
use Rattle.packet.specs.Header.{decoded, encoded_in}

-- each field fits its bytes in the header, as in every header of the code
pub record HeaderFits (h : Header) : Type 0 where
  pub typ : h.typ < 256
  pub data_offset : h.data_offset < 256
  pub stream_id : h.stream_id < 2 ^ 32
  pub recv_win : h.recv_win < 2 ^ 32
  pub seq : h.seq < 2 ^ 32
  pub ack : h.ack < 2 ^ 32

-- each element is a byte, as in every slice of the code; past the end `get_or` gives 0
abbrev pub AllBytes : List ℕ → Type 0
AllBytes s = (i : ℕ) → get_or s i 0 < 256

-- Decoding an encoded header gives it back.
abbrev pub DecodeEncode : Type 0
DecodeEncode = (h : Header) (buf : List ℕ) → HeaderFits h → 20 ≤ length buf → decoded (encoded_in h buf) ≡ Ok h

-- Encoding a decoded header gives its first 20 bytes back.
abbrev pub EncodeDecode : Type 0
EncodeDecode =
    (h : Header) (s buf : List ℕ) → AllBytes s → decoded s ≡ Ok h → 20 ≤ length buf
    → encoded_in h buf ≡ take 20 s ++ drop 20 buf
