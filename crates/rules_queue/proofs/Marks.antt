-- Distinctness by marks: with one mark per slot, the numbers of a window of 32 are distinct exactly if none finds its mark already set.
use Prim.Native.Nat.{ℕ, ◌+◌, ◌%◌, ◌≤◌}
use native.Mathlib.Omega.{arith}
use mathlib.Core.Path.{◌≡◌, refl, ap, ◌∙◌}
use mathlib.Core.Logic.{◌≢◌}
use mathlib.Core.List.{List, [], ◌∷◌}
use mathlib.Core.Bool.{Bool, true, false, ◌&&◌, not, and-true, and-false}
use lib.Dec.{leb, ltb, eqb}
use lib.ListN.{length, get_or, set, replicate, length-set, get_or-replicate}
use lib.Seq.{get_or-set_same, get_or-set_other}
use borrow.Author.Tests.{eqb-true, eqb-false, leb-true, ltb-true}
use Rattle.model.specs.Rules.{absent, distinct, every}
use Rattle.rules_packets.proofs.Bools.{and_left, and_right}
use Rattle.rules_queue.specs.Passes.{known}

-- a number's mark is not set
abbrev pub free : List Bool → ℕ → Bool
free marks n = not (get_or marks (n % 32) false)

-- the pass: each number is in the window and finds its mark not set, and sets it
unfoldable pub fresh : (acked seq : ℕ) → List Bool → List ℕ → Bool
fresh acked seq marks [] = true
fresh acked seq marks (n ∷ ns) = (known acked seq n && free marks n) && fresh acked seq (set marks (n % 32) true) ns

module _ (acked seq : ℕ) (near : seq ≤ acked + 32) where
  module _ (n : ℕ) (marks : List Bool) (l : length marks ≡ 32) (k : known acked seq n ≡ true) where
    -- a number's mark after setting n's
    free_set : (m : ℕ) → known acked seq m ≡ true → free (set marks (n % 32) true) m ≡ (not (eqb n m) && free marks m)
    free_set m j = go (eqb n m) refl
      where
        go : (b : Bool) → eqb n m ≡ b → free (set marks (n % 32) true) m ≡ (not b && free marks m)
        go true e = rw (← eqb-true n m e, get_or-set_same marks (n % 32) true false (omega arith))
        go false e =
            let ne : n ≢ m = eqb-false n m e in
            let n-from = leb-true acked n (and_left (leb acked n) (ltb n seq) k) in
            let n-below = ltb-true n seq (and_right (leb acked n) (ltb n seq) k) in
            let m-from = leb-true acked m (and_left (leb acked m) (ltb m seq) j) in
            let m-below = ltb-true m seq (and_right (leb acked m) (ltb m seq) j) in
            let apart : m % 32 ≢ n % 32 = λ w. (let z : ⊥ = omega (arith, ne) in z) in
            ap not (get_or-set_other marks (n % 32) (m % 32) true false apart)

    every_set : (ns : List ℕ) → every (known acked seq) ns ≡ true → every (free (set marks (n % 32) true)) ns ≡ (absent n ns && every (free marks) ns)
    every_set [] h = refl
    every_set (m ∷ ns) h =
        rw (
          free_set m (and_left (known acked seq m) (every (known acked seq) ns) h),
          every_set ns (and_right (known acked seq m) (every (known acked seq) ns) h),
        ) (mix (not (eqb n m)) (free marks m) (absent n ns) (every (free marks) ns))
      where
        mix : (p q r s : Bool) → ((p && q) && (r && s)) ≡ ((p && r) && (q && s))
        mix true q true s = refl
        mix true true false s = refl
        mix true false false s = refl
        mix false q r s = refl

  pub fresh_is : (marks : List Bool) → length marks ≡ 32 → (ns : List ℕ)
      → fresh acked seq marks ns ≡ (distinct ns && (every (known acked seq) ns && every (free marks) ns))
  unfolding fresh
  fresh_is marks l [] = refl
  fresh_is marks l (n ∷ ns) =
      go (known acked seq n) refl (every (known acked seq) ns) refl (fresh_is (set marks (n % 32) true) (length-set marks (n % 32) true ∙ l) ns)
    where
      mix : (f a d e : Bool) → (f && (d && (a && e))) ≡ ((a && d) && (f && e))
      mix f true true e = refl
      mix true true false e = refl
      mix false true false e = refl
      mix true false true e = refl
      mix false false true e = refl
      mix true false false e = refl
      mix false false false e = refl

      go : (k : Bool) → known acked seq n ≡ k → (j : Bool) → every (known acked seq) ns ≡ j
          → fresh acked seq (set marks (n % 32) true) ns ≡ (distinct ns && (every (known acked seq) ns && every (free (set marks (n % 32) true)) ns))
          → fresh acked seq marks (n ∷ ns) ≡ (distinct (n ∷ ns) && (every (known acked seq) (n ∷ ns) && every (free marks) (n ∷ ns)))
      go false e j e2 ih = rw e (simp and-false)
      go true e false e2 ih = rw (e, ih, e2) (simp and-false)
      go true e true e2 ih = rw (e, ih, every_set n marks l e ns e2, e2) (mix (free marks n) (absent n ns) (distinct ns) (every (free marks) ns))

-- no mark is set at first
pub none_set : (ns : List ℕ) → every (free (replicate 32 false)) ns ≡ true
none_set [] = refl
none_set (n ∷ ns) = rw (get_or-replicate 32 (n % 32) false false (omega arith), none_set ns)

pub fresh_from_none : (acked seq : ℕ) → seq ≤ acked + 32 → (ns : List ℕ) → fresh acked seq (replicate 32 false) ns ≡ (distinct ns && every (known acked seq) ns)
fresh_from_none acked seq near ns = rw (fresh_is acked seq near (replicate 32 false) refl ns, none_set ns, and-true)
