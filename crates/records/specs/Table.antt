-- A list built from a function of the index.
use Rattle.std.specs.Prelude.{ℕ, zero, suc, List, [], ◌∷◌}

-- f 0, f 1, .., f (k - 1)
abbrev pub table : {A : Type 0} → ℕ → (ℕ → A) → List A
table zero f = []
table (suc k) f = f 0 ∷ table k (λ i. f (suc i))
