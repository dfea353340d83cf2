-- A store after some bytes were put into it: as many bytes as before, the new ones at their place, and the old ones before and after it.
-- The store is two lists joined, and each part is within one of them.
use Rattle.std.proofs.Common.{◌≡◌, ℕ, ◌+◌, ◌-◌, ◌≤◌, List, ◌++◌, length, take, drop, sym, ap, ◌∙◌, append_assoc, arith, length-append, length-drop, take-append-drop, length-take-le, drop-drop, take_at, drop_at}
use lib.Seq.{take-append-le, drop-append-le, drop-append-add, take-append_seam}
use Rattle.records.specs.Put.{put}

-- a part within the first of two lists
front : (x y : List ℕ) (b n : ℕ) → b + n ≤ length x → take n (drop b (x ++ y)) ≡ take n (drop b x)
front x y b n h =
    let h₁ : b ≤ length x = omega arith in
    let h₂ : n ≤ length (drop b x) = simp length-drop (omega arith) in
    rw (drop-append-le b x y h₁, take-append-le n (drop b x) y h₂)

-- everything past the first of two lists
back : (x y : List ℕ) (b : ℕ) → length x ≤ b → drop b (x ++ y) ≡ drop (b - length x) y
back x y b h =
    let e : b ≡ length x + (b - length x) = omega arith in
    ap (λ (k : ℕ). drop k (x ++ y)) e ∙ drop-append-add x y (b - length x)

module _ (store : List ℕ) (at : ℕ) (bytes : List ℕ) (fits : at + length bytes ≤ length store) where
  head-length : length (take at store) ≡ at
  head-length = length-take-le at store (omega arith)

  pub put_length : length (put store at bytes) ≡ length store
  unfolding put
  put_length = simp (length-append, head-length, length-drop) (omega arith)

  -- the part that was put
  pub put_same : take (length bytes) (drop at (put store at bytes)) ≡ bytes
  unfolding put
  put_same = rw (drop_at (take at store) (bytes ++ drop (at + length bytes) store) at head-length, take-append_seam)

  -- a part before it
  pub put_before : (b n : ℕ) → b + n ≤ at → take n (drop b (put store at bytes)) ≡ take n (drop b store)
  unfolding put
  put_before b n h =
      let h₁ : b + n ≤ length (take at store) = rw head-length h in
      front (take at store) (bytes ++ drop (at + length bytes) store) b n h₁ ∙ sym (front (take at store) (drop at store) b n h₁)
      ∙ ap (λ (x : List ℕ). take n (drop b x)) (take-append-drop at store)

  -- everything after it
  pub put_drop : (b : ℕ) → at + length bytes ≤ b → drop b (put store at bytes) ≡ drop b store
  unfolding put
  put_drop b h =
      let h₁ : length (take at store ++ bytes) ≤ b = simp (length-append, head-length) h in
      let e : at + length bytes + (b - length (take at store ++ bytes)) ≡ b = simp (length-append, head-length) (omega arith) in
      ap (drop b) (sym (append_assoc (take at store) bytes (drop (at + length bytes) store))) ∙ back (take at store ++ bytes) (drop (at + length bytes) store) b h₁
      ∙ drop-drop (b - length (take at store ++ bytes)) (at + length bytes) store ∙ ap (λ (k : ℕ). drop k store) e

  pub put_after : (b n : ℕ) → at + length bytes ≤ b → take n (drop b (put store at bytes)) ≡ take n (drop b store)
  put_after b n h = ap (take n) (put_drop b h)

  pub put_take : take (at + length bytes) (put store at bytes) ≡ take at store ++ bytes
  unfolding put
  put_take =
      let e : length (take at store ++ bytes) ≡ at + length bytes = simp (length-append, head-length) in
      ap (take (at + length bytes)) (sym (append_assoc (take at store) bytes (drop (at + length bytes) store)))
      ∙ take_at (take at store ++ bytes) (drop (at + length bytes) store) (at + length bytes) e

-- bytes put right after bytes that were put
pub put_put : (store : List ℕ) (at k : ℕ) (x y : List ℕ) → length x ≡ k → at + k + length y ≤ length store → put (put store at x) (at + k) y ≡ put store at (x ++ y)
unfolding put
put_put store at k x y e h =
    let h₁ : at + length x ≤ length store = omega arith in
    let h₂ : at + length x ≤ at + k + length y = omega arith in
    let e₂ : at + k + length y ≡ at + length (x ++ y) = simp length-append (omega arith) in
    ap (λ (z : List ℕ). z ++ (y ++ drop (at + k + length y) (put store at x))) (ap (λ (j : ℕ). take (at + j) (put store at x)) (sym e) ∙ put_take store at x h₁)
    ∙ ap (λ (z : List ℕ). (take at store ++ x) ++ (y ++ z)) (put_drop store at x h₁ (at + k + length y) h₂ ∙ ap (λ (j : ℕ). drop j store) e₂)
    ∙ append_assoc (take at store) x (y ++ drop (at + length (x ++ y)) store)
    ∙ ap (λ (z : List ℕ). take at store ++ z) (sym (append_assoc x y (drop (at + length (x ++ y)) store)))
