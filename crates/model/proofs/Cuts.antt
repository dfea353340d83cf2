-- Joining datagrams of equal length and cutting the bytes again gives the datagrams back.
use Prim.Native.Nat.{ℕ, zero, suc, ◌≤◌, ◌<◌, zero-le}
use native.Mathlib.Omega.{arith}
use mathlib.Core.Path.{◌≡◌, refl, ap, ap₂, ◌∙◌}
use mathlib.Core.List.{List, [], ◌∷◌, ◌++◌, append-nil}
use lib.ListN.{length, length-append}
use lib.Seq.{take_at, drop_at}
use Rattle.model.specs.Lists.{Bytes, joined, cut}
use Rattle.model.specs.Driving.{whole}
use Rattle.model.proofs.Lists.{All}

cut_one : (k l : ℕ) (d more : Bytes) → length d ≡ l → 0 < l → cut (suc k) l (d ++ more) ≡ d ∷ cut k l more
cut_one k l [] more e p = absurd (omega arith)
cut_one k l (x ∷ d) more e p = ap₂ {C = List Bytes} (λ (u : Bytes) (v : Bytes). u ∷ cut k l v) (take_at (x ∷ d) more l e) (drop_at (x ∷ d) more l e)

pub cut_joined : (l : ℕ) → 0 < l → (ds : List Bytes) → All (λ d. length d ≡ l) ds → (k : ℕ) → length ds ≤ k → cut k l (joined ds) ≡ ds
cut_joined l p [] a zero b = refl
cut_joined l p [] a (suc k) b = refl
cut_joined l p (d ∷ ds) a zero b = absurd (omega arith)
cut_joined l p (d ∷ ds) a (suc k) b = cut_one k l d (joined ds) a.0 p ∙ ap (λ (z : List Bytes). d ∷ z) (cut_joined l p ds a.1 k (omega arith))

-- no more datagrams than bytes
pub count_joined : (l : ℕ) → 0 < l → (ds : List Bytes) → All (λ d. length d ≡ l) ds → length ds ≤ length (joined ds)
count_joined l p [] a = zero-le
count_joined l p (d ∷ ds) a = let u = a.0 in let v = count_joined l p ds a.1 in rw length-append (omega arith)

pub whole_joined : (ds : List Bytes) → length ds ≤ 1 → All (λ d. 0 < length d) ds → whole (joined ds) ≡ ds
whole_joined [] b a = refl
whole_joined ([] ∷ []) b a = let u = a.0 in absurd (omega arith)
whole_joined ((x ∷ d) ∷ []) b a = ap (λ (z : Bytes). (x ∷ z) ∷ []) (append-nil d)
whole_joined (d ∷ (c ∷ ds)) b a = absurd (omega arith)
