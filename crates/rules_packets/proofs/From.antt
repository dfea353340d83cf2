-- Tests and sums over the numbers from n to below e, as an upward loop computes them: the first test that fails ends it, and the sum so far
-- plus the rest is the whole.
use Prim.Native.Nat.{ℕ, suc, ◌+◌, ◌-◌, ◌<◌, ◌≤◌}
use native.Mathlib.Numerals.{add-one}
use native.Mathlib.Nat.{add_assoc, add-zero, zero-add}
use native.Mathlib.Omega.{arith}
use mathlib.Core.Path.{◌≡◌}
use mathlib.Core.Bool.{Bool, true, false}
use Rattle.rules_packets.specs.Packets.{every_from, sum_from}

-- one more number: how many are left
left : (n e : ℕ) → n < e → e - n ≡ suc (e - (n + 1))
left n e h = omega arith

none : (n e : ℕ) → e ≤ n → e - n ≡ 0
none n e h = omega arith

module _ (f : ℕ → Bool) (n e : ℕ) where
  pub every_done : e ≤ n → true ≡ every_from (e - n) n f
  unfolding every_from
  every_done h = rw (none n e h)

  pub every_turn : n < e → f n ≡ true → every_from (e - (n + 1)) (n + 1) f ≡ every_from (e - n) n f
  unfolding every_from
  every_turn h k = rw (left n e h, k, add-one)

  pub every_stop : n < e → f n ≡ false → false ≡ every_from (e - n) n f
  unfolding every_from
  every_stop h k = rw (left n e h, k)

module _ (f : ℕ → ℕ) (n e so_far : ℕ) where
  pub sum_done : e ≤ n → so_far + sum_from (e - n) n f ≡ so_far
  unfolding sum_from
  sum_done h = rw (none n e h) (add-zero so_far)

  pub sum_turn : (x : ℕ) → n < e → x ≡ f n → (so_far + x) + sum_from (e - (n + 1)) (n + 1) f ≡ so_far + sum_from (e - n) n f
  unfolding sum_from
  sum_turn x h k = rw (left n e h, k, add-one, add_assoc)

  pub sum_skip : n < e → f n ≡ 0 → so_far + sum_from (e - (n + 1)) (n + 1) f ≡ so_far + sum_from (e - n) n f
  unfolding sum_from
  sum_skip h k = rw (left n e h, k, add-one, zero-add)
