-- Look for C: the part of a store as numbers (`Looks`), and that its bytes are those that look shows (`LooksShown`, proved in
-- proofs/ShownLaws.antt).
use Rattle.std.specs.Prelude.{ℕ, Option, None, Some, ◌+◌, ◌≤◌, ◌≡◌, true, false, cond, eqb, length, take, drop}
use Rattle.model.specs.Lists.{Bytes}
use Rattle.records.specs.Seen.{Lent}
use Rattle.udx.specs.Look.{shown_of}
use Rattle.udx_c_part.specs.declared.Store.{Store}
use Rattle.udx_c_part.specs.declared.Store.TheVariants.{Outgoing, Headers}
use Rattle.udx_c_part.specs.declared.Part.{Part}
use Rattle.udx_c_part.specs.Place.{looked_part}
use Rattle.udx_c_numbers.specs.declared.structs.FlatStream.{FlatStream}
use Rattle.udx_c_numbers.specs.declared.structs.FlatTotals.{FlatTotals}
use Rattle.udx_c_numbers.specs.Bytes.{is_strange}
use Rattle.udx_c_numbers.specs.Flat.{stream_of, totals_of}
use Rattle.udx_c.specs.declared.look.FlatPart.{FlatPart}

abbrev pub no_part : FlatPart
no_part = record { start = 0; length = 0; header = 0 }

-- 1 for the header store
abbrev pub header_byte : Store → ℕ
header_byte Outgoing = 0
header_byte Headers = 1

abbrev pub flat_part : Option Part → FlatPart
flat_part None = no_part
flat_part (Some p) = record { start = p.start; length = p.length; header = header_byte p.store }

-- 01, 'Added by design': "look, in which the next datagram .. is shown as a part of the outgoing store or of the header store, an empty
-- part when nothing is left to take and also in place of refusal 1", to which a strange byte leads too
pub record Looks (s : FlatStream) (t : FlatTotals) (l : Lent) (r : FlatPart) : Type 0 where
  pub known : is_strange s.ending ≡ false → r ≡ flat_part (looked_part (stream_of s) (totals_of t) l)
  pub strange : is_strange s.ending ≡ true → r ≡ no_part

-- its bytes

-- the store that a part is in
abbrev pub store_of : FlatPart → (outgoing headers : Bytes) → Bytes
store_of p outgoing headers = cond (eqb p.header 1) headers outgoing

abbrev pub bytes_of : FlatPart → (outgoing headers : Bytes) → Bytes
bytes_of p outgoing headers = take p.length (drop p.start (store_of p outgoing headers))

-- a part that shows these bytes: they are there, all of the part is in its store, and its length is theirs
pub record ShownBy (shown outgoing headers : Bytes) (p : FlatPart) : Type 0 where
  pub bytes : bytes_of p outgoing headers ≡ shown
  pub within : p.start + p.length ≤ length (store_of p outgoing headers)
  pub long : p.length ≡ length shown
  -- 1 or 0, so that a binding may test for either
  pub flag : p.header ≤ 1

-- the bytes there are those that `look` shows
abbrev pub LooksShown : Type 0
LooksShown =
    (s : FlatStream) (t : FlatTotals) (l : Lent) (r : FlatPart)
    → Looks s t l r
    → is_strange s.ending ≡ false
    → ShownBy (shown_of (stream_of s) (totals_of t) l) l.outgoing l.headers r
