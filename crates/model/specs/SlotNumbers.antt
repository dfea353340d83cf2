-- Tests and sums over the values of a store by number, through `get` alone: the order of code that looks every number up. If the numbers
-- cover the store, they equal the tests and sums over its slots (proofs/SlotNumbers.antt).
use Rattle.std.specs.Prelude.{ℕ, zero, suc, ◌+◌, Bool, true, ◌&&◌}
use Rattle.model.specs.Lists.{on}
use Rattle.model.specs.Slots.{Slots, get}

-- every value under one of the k numbers from n on passes a test of its number and itself
unfoldable pub every_number : {A : Type 0} → (k n : ℕ) → (ℕ → A → Bool) → Slots A → Bool
every_number zero n f s = true
every_number (suc k) n f s = on (get s n) true (f n) && every_number k (suc n) f s

-- the sum of w over the values under the k numbers from n on
unfoldable pub sum_number : {A : Type 0} → (k n : ℕ) → (A → ℕ) → Slots A → ℕ
sum_number zero n w s = 0
sum_number (suc k) n w s = on (get s n) 0 w + sum_number k (suc n) w s
