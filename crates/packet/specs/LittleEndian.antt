-- Numbers as lists of bytes, least significant first: the value of a list, the bytes of a number, the number at a place. The laws (each
-- undoes the other) are in proofs/LittleEndian.antt.
use Rattle.std.specs.Prelude.{ℕ, zero, suc, ◌+◌, ◌*◌, ◌/◌, ◌%◌, List, [], ◌∷◌, take, drop}

-- the value of a list of bytes
abbrev pub le : List ℕ → ℕ
le [] = 0
le (b ∷ bs) = b + 256 * le bs

-- the k lowest bytes of n
abbrev pub le_bytes : ℕ → ℕ → List ℕ
le_bytes zero n = []
le_bytes (suc k) n = n % 256 ∷ le_bytes k (n / 256)

-- the value of the four bytes at a place (read_u32_le)
abbrev pub word : List ℕ → ℕ → ℕ
word s at = le (take 4 (drop at s))
