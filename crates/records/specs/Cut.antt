-- A lent store cut into pieces of equal size.
use Rattle.std.specs.Prelude.{ℕ, ◌*◌, List, ◌++◌, take, drop, replicate}

-- the first k bytes of piece i of a store whose pieces have z bytes, padded with zeros where the piece is shorter: it always has k bytes,
-- so a rule about lengths means the same for the records and for what is seen of them
unfoldable pub cut : (z : ℕ) → List ℕ → (i k : ℕ) → List ℕ
cut z store i k = take k (take z (drop (i * z) store) ++ replicate k 0)

-- the bytes of piece i past its first k
unfoldable pub beyond : (z : ℕ) → List ℕ → (i k : ℕ) → List ℕ
beyond z store i k = drop k (take z (drop (i * z) store))

-- 01, 'Records': the piece sizes of the three stores. Opaque, so that no proof counts 1,400 bytes; `out_is`, `in_is`, `head_is` in
-- proofs/Cut.antt give the values.
unfoldable pub outgoing_slot : ℕ
outgoing_slot = 1_400

unfoldable pub incoming_slot : ℕ
incoming_slot = 1_380

unfoldable pub header_slot : ℕ
header_slot = 20
