-- What it means to put a text into a buffer.
use Rattle.std.specs.Prelude.{ℕ, ◌+◌, ◌≤◌, ◌≡◌, List, ◌++◌, length, take, drop}

-- d overwritten with the list t from index `at` on
abbrev pub put : List ℕ → ℕ → List ℕ → List ℕ
put d at t = take at d ++ t ++ drop (at + length t) d

-- putting a text t of at most `most` bytes at `at` turned d into d', and r is the place past it
pub record Wrote (d d' : List ℕ) (at r most : ℕ) (t : List ℕ) : Type 0 where
  pub past : r ≡ at + length t
  pub bytes : d' ≡ put d at t
  pub room : r ≤ at + most

-- r counts bytes at the start of d. The second part follows from the first; both are stated so that slicing d up to r needs nothing more
abbrev pub Counts : ℕ → List ℕ → Type 0
Counts r d = (r ≤ length d) × (r ≡ length (take r d))
