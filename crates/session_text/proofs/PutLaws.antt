-- The laws of `put`: how several writes into one buffer combine.
use Prim.Native.Nat.{ℕ, ◌+◌, ◌-◌, ◌≤◌}
use mathlib.Core.Path.{◌≡◌, sym, ap, ◌∙◌}
use mathlib.Core.List.{List, ◌++◌, append_assoc}
use native.Mathlib.Nat.{add_assoc}
use native.Mathlib.Omega.{arith}
use lib.ListN.{length, take, drop, length-append}
use lib.Seq.{length-take-le, take_at, drop-append-add, drop-drop}
use Rattle.session_text.specs.Put.{put, Wrote}

length_head : (d : List ℕ) (at : ℕ) (a : List ℕ) → at ≤ length d → length (take at d ++ a) ≡ at + length a
length_head d at a h = length-append (take at d) a ∙ ap (λ (k : ℕ). k + length a) (length-take-le at d h)

-- one write right after another is one write of both
pub put_put : (d : List ℕ) (at : ℕ) (a b : List ℕ) → at ≤ length d → put (put d at a) (at + length a) b ≡ put d at (a ++ b)
put_put d at a b h =
    let k = at + length a in
    let p = take at d ++ a in
    let e : length p ≡ k = length_head d at a h in
    let rest : drop (k + length b) (p ++ drop k d) ≡ drop (k + length b) d =
    ap (λ (m : ℕ). drop (m + length b) (p ++ drop k d)) (sym e) ∙ drop-append-add p (drop k d) (length b) ∙ drop-drop (length b) k d in
    rw (take_at p (drop k d) k e, rest, append_assoc (take at d) a b, length-append, add_assoc)

-- a part of the buffer, written whole
pub put_part : (d : List ℕ) (at n : ℕ) (t : List ℕ) → length t ≡ n → take at d ++ (t ++ drop (at + n - at) (drop at d)) ≡ put d at t
put_part d at n t e =
    let long : at + n - at ≡ length t = omega (arith, e) in
    rw (long, drop-drop (length t) at d) (sym (append_assoc (take at d) t (drop (at + length t) d)))

-- two writes, the second where the first ended
pub then : {d d₁ d₂ : List ℕ} {at k r m n : ℕ} {a b : List ℕ} → at ≤ length d → Wrote d d₁ at k m a → Wrote d₁ d₂ k r n b → Wrote d d₂ at r (m + n) (a ++ b)
then {d} {d₁} {d₂} {at} {k} {r} {m} {n} {a} {b} h v w = record {
  past = omega (arith, v.past, w.past, length-append a b);
  bytes = w.bytes ∙ rw (v.past, v.bytes) (put_put d at a b h);
  room = omega (arith, v.room, w.room);
}

-- what `put_word` ensures, with a bound on the text
pub wrote : {d d' : List ℕ} {at r m : ℕ} {t : List ℕ} → (r ≡ at + length t) × (d' ≡ put d at t) → length t ≤ m → Wrote d d' at r m t
wrote e h = record { past = e.0; bytes = e.1; room = omega (arith, e.0) }

-- a larger bound
pub at_most : {d d' : List ℕ} {at r m n : ℕ} {t : List ℕ} → Wrote d d' at r m t → m ≤ n → Wrote d d' at r n t
at_most w h = record { past = w.past; bytes = w.bytes; room = omega (arith, w.room) }
