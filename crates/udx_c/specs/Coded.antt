-- Headers as plain numbers.
use Rattle.error.specs.declared.Refusal.{Refusal}
use Rattle.std.specs.Prelude.{ℕ, ◌≡◌, ⊤, Result, Ok, Err}
use Rattle.model.specs.Lists.{Bytes}
use Rattle.error.specs.Answers.{number_of}
use Rattle.packet.specs.declared.header.Header.{Header}
use Rattle.packet.specs.Header.{Encodes}
use Rattle.udx_c_numbers.specs.Bytes.{refusal_byte}
use Rattle.udx_c.specs.declared.header.FlatHeader.{FlatHeader}
use Rattle.udx_c.specs.declared.header.FlatDecoded.{FlatDecoded}

abbrev pub header_of : FlatHeader → Header
header_of f = record { typ = f.typ; data_offset = f.data_offset; stream_id = f.stream_id; recv_win = f.recv_win; seq = f.seq; ack = f.ack }

abbrev pub flat_header : Header → FlatHeader
flat_header h = record { stream_id = h.stream_id; recv_win = h.recv_win; seq = h.seq; ack = h.ack; typ = h.typ; data_offset = h.data_offset }

-- a refused header is all 0
abbrev pub flat_decoded : Result Header Refusal → FlatDecoded
flat_decoded (Ok h) = record { header = flat_header h; outcome = 0; refusal = 0 }
flat_decoded (Err why) =
    record { header = record { stream_id = 0; recv_win = 0; seq = 0; ack = 0; typ = 0; data_offset = 0 }; outcome = 4; refusal = number_of why }

-- an encode returns its refusal's number, or 0
pub record FlatEncodes (f : FlatHeader) (before after : Bytes) (r : ℕ) : Type 0 where
  pub outcome : Result ⊤ Refusal
  pub does : Encodes (header_of f) before after outcome
  pub flat : r ≡ refusal_byte outcome
