-- Laws of lists: properties of every element, joined sequences, and a value picked by a test.
use Prim.Native.Nat.{ℕ, suc, ◌≤◌, ◌<◌}
use native.Mathlib.Omega.{arith}
use mathlib.Core.Path.{◌≡◌, refl, sym, ap, ◌∙◌, subst}
use mathlib.Core.List.Memᴰ
use mathlib.Core.List.{List, [], ◌∷◌, ◌++◌, append_assoc, append-nil, Memᴰ}
use mathlib.Core.Logic.{◌⊎◌, inl, inr}
use mathlib.Core.Bool.{Bool, true, false, cond, true≢false}
use lib.ListN.{length, take, drop, get_or, take-append-drop}
use lib.Seq.{take-suc}
use Rattle.model.specs.Lists.{Bytes, joined, is_empty}

-- P holds for every element
abbrev pub All : {A : Type 0} → (A → Type 0) → List A → Type 0
All P [] = Unit {0}
All P (x ∷ xs) = P x × All P xs

pub all_append : {A : Type 0} (P : A → Type 0) (xs ys : List A) → All P xs → All P ys → All P (xs ++ ys)
all_append P [] ys a b = b
all_append P (x ∷ xs) ys a b = (a.0, all_append P xs ys a.1 b)

pub all_map : {A : Type 0} {P Q : A → Type 0} (f : (x : A) → P x → Q x) (xs : List A) → All P xs → All Q xs
all_map f [] a = tt
all_map f (x ∷ xs) a = (f x a.0, all_map f xs a.1)

pub all_mem : {A : Type 0} (P : A → Type 0) (xs : List A) (x : A) → All P xs → Memᴰ x xs → P x
all_mem P [] x a m = absurd (Memᴰ.not-nil m)
all_mem P (y ∷ ys) x a m = go (Memᴰ.cases_cons m) (λ k. all_mem P ys x a.1 k)
  where
    go : (x ≡ y) ⊎ Memᴰ x ys → (Memᴰ x ys → P x) → P x
    go (inl e) r = subst P (sym e) a.0
    go (inr k) r = r k

-- whether a list is empty
pub empty_nil : {A : Type 0} (xs : List A) → is_empty xs ≡ true → xs ≡ []
empty_nil [] e = refl
empty_nil (x ∷ xs) e = absurd (true≢false (sym e))

pub not_empty : {A : Type 0} (xs : List A) → 1 ≤ length xs → is_empty xs ≡ false
not_empty [] l = absurd (omega arith)
not_empty (x ∷ xs) l = refl

-- a case split on a test
pub by-test {ℓ} : {A : Type 0} (Q : A → Type ℓ) (b : Bool) (x y : A) → (b ≡ true → Q x) → (b ≡ false → Q y) → Q (cond b x y)
by-test Q true x y f g = f refl
by-test Q false x y f g = g refl

-- joined
pub joined_append : (xs ys : List Bytes) → joined (xs ++ ys) ≡ joined xs ++ joined ys
joined_append [] ys = refl
joined_append (x ∷ xs) ys = rw (joined_append xs ys) (sym (append_assoc x (joined xs) (joined ys)))

pub joined_take_suc : (P : List Bytes) (n : ℕ) → n < length P → joined (take (suc n) P) ≡ joined (take n P) ++ get_or P n []
joined_take_suc P n h = rw (take-suc P n [] h) (joined_append (take n P) (get_or P n [] ∷ []) ∙ ap (λ (z : Bytes). joined (take n P) ++ z) (append-nil (get_or P n [])))

pub joined_split : (P : List Bytes) (n : ℕ) → joined P ≡ joined (take n P) ++ joined (drop n P)
joined_split P n = ap joined (sym (take-append-drop n P)) ∙ joined_append (take n P) (drop n P)
