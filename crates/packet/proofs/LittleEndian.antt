-- Laws of numbers as bytes: value and bytes undo each other, by induction on the number of bytes; and the number at a place is that of the
-- four elements there.
use Prim.Native.Nat.{ℕ, zero, suc, ◌+◌, ◌*◌, ◌/◌, ◌%◌, ◌^◌, ◌≤◌, ◌<◌}
use mathlib.Core.Path.{◌≡◌, refl, ap, ◌∙◌}
use mathlib.Core.List.{List, [], ◌∷◌}
use native.Mathlib.Nat.{add_assoc, pow-suc}
use native.Mathlib.Numerals.{add-one}
use native.Mathlib.Omega.{arith}
use lib.Dec.{lit<}
use lib.ListN.{length, get_or, take, drop, length-take, length-drop}
use lib.Seq.{drop-cons, get_or-drop}
use Rattle.std.specs.Int.{w32, to_le_bytes}
use Rattle.packet.specs.LittleEndian.{le, le_bytes, word}
use Rattle.packet.specs.RoundTrip.{AllBytes}

-- the value of a number's bytes is the number
pub le_le_bytes : (k n : ℕ) → n < 256 ^ k → le (le_bytes k n) ≡ n
le_le_bytes zero n h = omega arith
le_le_bytes (suc k) n h = omega (arith, le_le_bytes k (n / 256) (omega (arith, pow-suc 256 k)))

-- the bytes of a list's value are the list
pub le_bytes_le : (s : List ℕ) → AllBytes s → le_bytes (length s) (le s) ≡ s
le_bytes_le [] h = refl
le_bytes_le (b ∷ bs) h =
    let byte : b < 256 = h zero in
    let first : (b + 256 * le bs) % 256 ≡ b = omega arith in
    let rest : (b + 256 * le bs) / 256 ≡ le bs = omega arith in
    simp (first, rest, le_bytes_le bs (λ i. h (suc i)))

-- the bytes that std's `to_le_bytes` gives
pub std_bytes : (n : ℕ) → to_le_bytes w32 n ≡ le_bytes 4 n
std_bytes n =
    let second : n / 256 ^ 2 ≡ n / 256 / 256 = omega arith in
    let third : n / 256 ^ 3 ≡ n / 256 / 256 / 256 = omega arith in
    rw (second, third) refl

-- the first of k + 1 elements at a place, and the others at the next place
pub next : (s : List ℕ) (at k : ℕ) → at < length s → take (suc k) (drop at s) ≡ get_or s at 0 ∷ take k (drop (at + 1) s)
next s at k h = rw (add-one, drop-cons s at 0)

-- the four elements at a place
pub four : (s : List ℕ) (at : ℕ) → at + 4 ≤ length s
    → take 4 (drop at s) ≡ get_or s at 0 ∷ get_or s (at + 1) 0 ∷ get_or s (at + 2) 0 ∷ get_or s (at + 3) 0 ∷ []
four s at h =
    next s at 3 (omega arith)
    ∙ ap (λ (l : List ℕ). get_or s at 0 ∷ l)
    (next s (at + 1) 2 (omega arith)
    ∙ ap (λ (l : List ℕ). get_or s (at + 1) 0 ∷ l)
    (simp add_assoc
    (next s (at + 2) 1 (omega arith)
    ∙ ap (λ (l : List ℕ). get_or s (at + 2) 0 ∷ l) (simp add_assoc (next s (at + 3) 0 (omega arith))))))

take_bytes : (n : ℕ) (s : List ℕ) → AllBytes s → AllBytes (take n s)
take_bytes zero s b i = lit< tt
take_bytes (suc n) [] b i = lit< tt
take_bytes (suc n) (x ∷ xs) b zero = b zero
take_bytes (suc n) (x ∷ xs) b (suc i) = take_bytes n xs (λ j. b (suc j)) i

-- the bytes of the number at a place are the four elements there
pub word_bytes : (s : List ℕ) (at : ℕ) → AllBytes s → at + 4 ≤ length s → le_bytes 4 (word s at) ≡ take 4 (drop at s)
word_bytes s at b h =
    let e : length (take 4 (drop at s)) ≡ 4 = simp (length-take, length-drop) (omega arith) in
    rw e at (le_bytes_le (take 4 (drop at s)) (take_bytes 4 (drop at s) (λ i. rw get_or-drop (b (at + i)))))
