-- Laws of the header: that it has 20 bytes, and that equal runs of bytes make equal headers (`laid`); that a decode refuses fewer than 20
-- bytes, and what follows from an accepted one; what an encode returns and what it leaves in the buffer, each for a buffer that is long
-- enough and for one that is too short; and that the code's `&` on the type finds the bits of END and of SACK that `has_type` defines.
use Prim.Native.Nat.{ℕ, ◌+◌, ◌*◌, ◌/◌, ◌%◌, ◌^◌, ◌≤◌, ◌<◌}
use lib.Bits.{bit_and}
use Rattle.std.specs.Int.Bits.{and_zero_r}
use Rattle.std.proofs.lemmas.Nat.{pow_pos, mod_below, shr_split, and_block, and_mask}
use mathlib.Core.Path.{◌≡◌, refl}
use mathlib.Core.List.{List, ◌∷◌, ◌++◌}
use mathlib.Core.Bool.{Bool, true, false, cond, not, ◌&&◌}
use native.Mathlib.Omega.{arith}
use borrow.Author.Tests.{lt-ltb, le-ltb, lt-leb, leb-true, eqb-true}
use lib.Dec.{leb, eqb}
use lib.ListN.{length, get_or, drop}
use Rattle.error.specs.declared.Refusal.TheVariants.{ShortBuffer, BadHeader}
use Rattle.std.specs.Prelude.{Ok, Err}
use Rattle.packet.specs.declared.header.Header.{Header}
use Rattle.packet.specs.Header.{header_bytes, fields, has_header, decoded, encode_answer, encoded_in, has_type}

pub header_length : (h : Header) → length (header_bytes h) ≡ 20
unfolding header_bytes
header_length h = refl

-- four bytes, then four runs of bytes
pub laid : (x y z w : ℕ) {a a' b b' c c' d d' : List ℕ} → a ≡ a' → b ≡ b' → c ≡ c' → d ≡ d'
    → x ∷ y ∷ z ∷ w ∷ a ++ b ++ c ++ d ≡ x ∷ y ∷ z ∷ w ∷ a' ++ b' ++ c' ++ d'
laid x y z w p q r s = cc

-- what a decode returns for a short list
pub decoded_short : (s : List ℕ) → length s < 20 → Err BadHeader ≡ decoded s
unfolding decoded
decoded_short s short = simp (lt-leb 20 (length s) short)

-- what an accepted decode implies about its list
pub record DecodeAccepted (s : List ℕ) (h : Header) : Type 0 where
  pub long : 20 ≤ length s
  pub magic : get_or s 0 0 ≡ 255
  pub version : get_or s 1 0 ≡ 1
  pub same : fields s ≡ h

both : (a b : Bool) → (a && b) ≡ true → (a ≡ true) × (b ≡ true)
both true b e = (refl, e)
both false b e = absurd (let z : ◌≡◌ {A = ℕ} 0 1 = cc in omega arith)

accepted : (t : Bool) (f h : Header) → cond t (Ok f) (Err BadHeader) ≡ Ok h → (t ≡ true) × (f ≡ h)
accepted true f h e = (refl, cc)
accepted false f h e = absurd (let z : ◌≡◌ {A = ℕ} 0 1 = cc in omega arith)

pub decoded_accepted : (s : List ℕ) (h : Header) → decoded s ≡ Ok h → DecodeAccepted s h
unfolding decoded
decoded_accepted s h e =
    let a : (has_header s ≡ true) × (fields s ≡ h) = accepted (has_header s) (fields s) h e in
    let p = both (leb 20 (length s)) _ a.0 in
    let q = both (eqb (get_or s 0 0) 255) _ p.1 in
    record { long = leb-true _ _ p.0; magic = eqb-true _ _ q.0; version = eqb-true _ _ q.1; same = a.1 }

-- what an encode returns
pub answer_long : (buf : List ℕ) → 20 ≤ length buf → Ok tt ≡ encode_answer buf
unfolding encode_answer
answer_long buf long = simp (le-ltb (length buf) 20 long)

pub answer_short : (buf : List ℕ) → length buf < 20 → Err ShortBuffer ≡ encode_answer buf
unfolding encode_answer
answer_short buf short = simp (lt-ltb (length buf) 20 short)

-- what an encode leaves in the buffer
pub encoded_long : (h : Header) (buf : List ℕ) → 20 ≤ length buf → encoded_in h buf ≡ header_bytes h ++ drop 20 buf
unfolding encoded_in
encoded_long h buf long = simp (le-ltb (length buf) 20 long)

pub encoded_short : (h : Header) (buf : List ℕ) → length buf < 20 → encoded_in h buf ≡ buf
unfolding encoded_in
encoded_short h buf short = simp (lt-ltb (length buf) 20 short)

-- a bit of the type, by `&` as in the code and by division as in `has_type`
bit_of : (n k : ℕ) → bit_and n (2 ^ k) ≡ n / 2 ^ k % 2 * 2 ^ k
bit_of n k =
    let low : n % 2 ^ k < 2 ^ k = mod_below n (2 ^ k) (pow_pos k) in
    let none : 0 < 2 ^ k = pow_pos k in
    let parts : n / 2 ^ k * 2 ^ k + n % 2 ^ k ≡ n = shr_split n k in
    let one : 1 * 2 ^ k + 0 ≡ 2 ^ k = omega arith in
    let e = and_block k (n / 2 ^ k) 1 (n % 2 ^ k) 0 low none in
    let f : bit_and (n / 2 ^ k) 1 ≡ n / 2 ^ k % 2 = and_mask (n / 2 ^ k) 1 in
    let z : bit_and (n % 2 ^ k) 0 ≡ 0 = and_zero_r (n % 2 ^ k) in
    omega (arith, rw (parts, one, f, z) at e)

pub end_bit : (n : ℕ) → not (eqb (bit_and n 2) 0) ≡ has_type 2 n
end_bit n = grind (arith, bit_of n 1)

pub sack_bit : (n : ℕ) → not (eqb (bit_and n 4) 0) ≡ has_type 4 n
sack_bit n = grind (arith, bit_of n 2)
