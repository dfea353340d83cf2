-- The laws of `decimal_of` and `hex_of`.
use Prim.Native.Nat.{ℕ, zero, suc, ◌+◌, ◌-◌, ◌*◌, ◌/◌, ◌%◌, ◌^◌, ◌≤◌, ◌<◌}
use mathlib.Core.Path.{◌≡◌, refl, sym, ap, ◌∙◌, subst}
use mathlib.Core.List.{List, [], ◌∷◌, ◌++◌}
use native.Mathlib.Omega.{arith}
use borrow.Author.Tests.{lt-ltb, le-ltb}
use lib.ListN.{length, get_or, take, drop}
use Rattle.std.specs.Prelude.{slice_index, Result, Ok, OnOk}
use Rattle.std.proofs.Common.{Fits, w8}
use Rattle.std.specs.Fmt.{decimal}
use Rattle.std.proofs.lemmas.Fmt.{decimal_by_steps, length-decimal-le}
use Rattle.std.proofs.lemmas.List.FromFn.{get_or-map-range_with_len}
use Rattle.hex.specs.Hex.{IsBytes, lower_digits, encode_with, encode_lower}
use native.Mathlib.Nat.{pow-suc}
use Rattle.session_text.specs.Put.{put, Wrote}
use Rattle.session_text.proofs.PutLaws.{put_part, wrote}
use Rattle.session_text.specs.Text.{decimal_to, decimal_of, hex_of, digit}

-- enough digits: all of them
all_digits : (n : ℕ) → n < 2 ^ 64 → (f : ℕ) → n < 10 ^ suc f → decimal_to f n ≡ decimal n
all_digits n h = decimal_by_steps (λ n ds. (f : ℕ) → n < 10 ^ suc f → decimal_to f n ≡ ds) one more n h
  where
    one : (n : ℕ) → n < 10 → (f : ℕ) → n < 10 ^ suc f → decimal_to f n ≡ (48 + n) ∷ []
    one n h zero p = let e : n % 10 ≡ n = omega arith in ap (λ (d : ℕ). (48 + d) ∷ []) e
    one n h (suc f) p = let e : n % 10 ≡ n = omega arith in rw (lt-ltb n 10 h) (ap (λ (d : ℕ). (48 + d) ∷ []) e)

    more : (n : ℕ) (ds : List ℕ) → 10 ≤ n → ((f : ℕ) → n / 10 < 10 ^ suc f → decimal_to f (n / 10) ≡ ds) → (f : ℕ) → n < 10 ^ suc f
        → decimal_to f n ≡ ds ++ ((48 + n % 10) ∷ [])
    more n ds h rest zero p = absurd (omega arith)
    more n ds h rest (suc f) p =
        rw (le-ltb n 10 h) (ap (λ (l : List ℕ). l ++ ((48 + n % 10) ∷ [])) (rest f (omega (arith, pow-suc 10 (suc f)))))

-- std's digits of a number, put into a buffer
pub digits_put : {d d' : List ℕ} {at r : ℕ} (n : ℕ) (t : List ℕ) → n < 2 ^ 64 → t ≡ decimal n → (r ≡ at + length t) × (d' ≡ put d at t)
    → Wrote d d' at r 20 (decimal_of n)
digits_put {d} {d'} {at} {r} n t h e p =
    subst (λ (u : List ℕ). Wrote d d' at r 20 u) (e ∙ sym (all_digits n h 19 (omega arith)))
    (wrote p (rw e (length-decimal-le 20 n (omega arith) (omega arith) h)))

-- the bytes in hexadecimal
pub hex_length : (a : List ℕ) → length (hex_of a) ≡ 2 * length a
hex_length [] = refl
hex_length (x ∷ a) = omega (arith, hex_length a)

-- a digit of the crate hex
same_digit : (d : ℕ) → d < 16 → slice_index lower_digits d ≡ digit d
same_digit d h = get_or-map-range_with_len digit 0 16 d d 0 h (omega arith)

-- the text of the crate hex
same_hex : (bytes : List ℕ) → IsBytes bytes → encode_lower bytes ≡ hex_of bytes
unfolding encode_with
same_hex [] h = refl
same_hex (b ∷ bytes) h =
    let byte : b < 256 = h 0 in
    rw (same_digit (b / 16) (omega arith), same_digit (b % 16) (omega arith), same_hex bytes (λ i. h (suc i))) refl

-- what the crate hex wrote into a part of the buffer
pub hex_put : {E : Type 0} (d t bytes : List ℕ) (at : ℕ) (r : Result Unit E) (u : Unit) → ((i : ℕ) → Fits w8 (get_or bytes i 0)) → r ≡ Ok u → OnOk r (t ≡ encode_lower bytes)
    → (at + 2 * length bytes ≡ at + length (hex_of bytes)) × (take at d ++ (t ++ drop (at + 2 * length bytes - at) (drop at d)) ≡ put d at (hex_of bytes))
hex_put d t bytes at r u fits ok e =
    let long = hex_length bytes in
    (omega arith, rw ((rw ok at e) ∙ same_hex bytes (λ i. (fits i).fits)) (put_part d at _ _ long))
