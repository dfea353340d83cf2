-- A header and a payload as bytes: their length, and that both are read back.
use Prim.Native.Nat.{◌+◌, ◌^◌, ◌<◌}
use native.Mathlib.Omega.{arith}
use mathlib.Core.Path.{◌≡◌, refl}
use mathlib.Core.List.{◌++◌}
use mathlib.Core.Bool.{true}
use borrow.Author.Tests.{le-leb}
use lib.ListN.{length, drop, length-append}
use lib.Seq.{drop_at}
use Rattle.packet.specs.declared.header.Header.{Header}
use Rattle.packet.specs.Header.{header_bytes, fields, has_header}
use Rattle.packet.proofs.LittleEndian.{le_le_bytes}
use Rattle.packet.proofs.HeaderLaws.{header_length}
use Rattle.model.specs.Lists.{Bytes}

pub packet_length : (h : Header) (payload : Bytes) → length (header_bytes h ++ payload) ≡ 20 + length payload
packet_length h payload = let u = header_length h in rw length-append (omega arith)

pub payload_back : (h : Header) (payload : Bytes) → drop 20 (header_bytes h ++ payload) ≡ payload
payload_back h payload = drop_at (header_bytes h) payload 20 (header_length h)

-- fields that fit their bytes are read back
pub fields_back : (h : Header) (payload : Bytes)
    → h.typ < 256 → h.data_offset < 256 → h.stream_id < 2 ^ 32 → h.recv_win < 2 ^ 32 → h.seq < 2 ^ 32 → h.ack < 2 ^ 32
    → fields (header_bytes h ++ payload) ≡ h
unfolding header_bytes
fields_back h payload typ offset id window seq ack =
    simp (le_le_bytes 4 h.stream_id id, le_le_bytes 4 h.recv_win window, le_le_bytes 4 h.seq seq, le_le_bytes 4 h.ack ack)

pub header_back : (h : Header) (payload : Bytes) → has_header (header_bytes h ++ payload) ≡ true
unfolding header_bytes
header_back h payload = let u = packet_length h payload in rw (le-leb 20 (length (header_bytes h ++ payload)) (omega arith)) refl
