-- A store with the bytes from a place on replaced by others.
use Rattle.std.specs.Prelude.{ℕ, ◌+◌, List, ◌++◌, length, take, drop}

unfoldable pub put : List ℕ → ℕ → List ℕ → List ℕ
put store at bytes = take at store ++ (bytes ++ drop (at + length bytes) store)
