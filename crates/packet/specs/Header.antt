-- The header: its 20 bytes, what decoding returns, what encoding returns and leaves in the buffer.
use Rattle.std.specs.Prelude.{ℕ, ◌/◌, ◌%◌, ◌≡◌, List, ◌∷◌, ◌++◌, Bool, cond, ◌&&◌, length, get_or, drop, ltb, leb, eqb, ⊤, Result, Ok, Err}
use Rattle.error.specs.declared.Refusal.{Refusal}
use Rattle.error.specs.declared.Refusal.TheVariants.{ShortBuffer, BadHeader}
use Rattle.packet.specs.declared.header.Header.{Header}
use Rattle.packet.specs.LittleEndian.{le_bytes, word}

-- 01, 'Records': "Header, 20 bytes, little-endian: 255, 1, type, data offset, stream id (4), window (4), seq (4), ack (4)."
unfoldable pub header_bytes : Header → List ℕ
header_bytes h =
    255
    ∷ 1
    ∷ h.typ
    ∷ h.data_offset
    ∷ le_bytes 4 h.stream_id ++ le_bytes 4 h.recv_win ++ le_bytes 4 h.seq ++ le_bytes 4 h.ack

-- the fields in the first 20 bytes
abbrev pub fields : List ℕ → Header
fields s =
    record {
      typ = get_or s 2 0;
      data_offset = get_or s 3 0;
      stream_id = word s 4;
      recv_win = word s 8;
      seq = word s 12;
      ack = word s 16;
    }

-- 01, refusal 7: "A header is under 20 bytes or its first bytes aren't 255, 1."
abbrev pub has_header : List ℕ → Bool
has_header s = leb 20 (length s) && (eqb (get_or s 0 0) 255 && eqb (get_or s 1 0) 1)

-- Header::from_bytes
unfoldable pub decoded : List ℕ → Result Header Refusal
decoded s = cond (has_header s) (Ok (fields s)) (Err BadHeader)

-- Header::encode: its result. 01, refusal 2: "Encode has under 20 bytes".
unfoldable pub encode_answer : List ℕ → Result ⊤ Refusal
encode_answer buf = cond (ltb (length buf) 20) (Err ShortBuffer) (Ok tt)

-- Header::encode: the buffer afterwards. A short one is unchanged; "An output buffer's bytes past the count stay."
unfoldable pub encoded_in : Header → List ℕ → List ℕ
encoded_in h buf = cond (ltb (length buf) 20) buf (header_bytes h ++ drop 20 buf)

-- the contract of an encode: its result, and the buffer before and after
pub record Encodes (h : Header) (before after : List ℕ) (r : Result ⊤ Refusal) : Type 0 where
  pub answer : r ≡ encode_answer before
  pub buffer : after ≡ encoded_in h before

-- 01, 'Records': "Type bits: 1 DATA, 2 END, 4 SACK." (IncomingPacket::has_type)
abbrev pub has_type : ℕ → ℕ → Bool
has_type bit typ = eqb (typ / bit % 2) 1
