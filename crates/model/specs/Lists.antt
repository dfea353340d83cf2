-- Bytes, pieces and optional values, used by the definitions of a stream.
use Rattle.std.specs.Prelude.{ℕ, zero, suc, List, [], ◌∷◌, ◌++◌, Bool, true, false, take, drop}
use Rattle.std.proofs.Math.Option.{Option, none, some}

-- bytes, as natural numbers
abbrev pub Bytes : Type 0
Bytes = List ℕ

-- byte sequences joined, in order
abbrev pub joined : List Bytes → Bytes
joined [] = []
joined (p ∷ ps) = p ++ joined ps

-- cut into pieces of n bytes, the last one possibly shorter; the first argument bounds how many
abbrev pub cut : ℕ → ℕ → Bytes → List Bytes
cut zero n bytes = []
cut (suc k) n [] = []
cut (suc k) n (b ∷ bytes) = take n (b ∷ bytes) ∷ cut k n (drop n (b ∷ bytes))

abbrev pub is_empty : {A : Type 0} → List A → Bool
is_empty [] = true
is_empty (x ∷ xs) = false

-- f of the value if there is one, else the default
abbrev pub on : {A B : Type 0} → Option A → B → (A → B) → B
on none b f = b
on (some a) b f = f a
