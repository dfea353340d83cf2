-- The congestion window: growth and halving.
use Rattle.std.specs.Prelude.{ℕ, ◌+◌, ◌/◌, min, max, cond, ltb}

-- 01, call 3: "the window grows by 1,400 below 65,535, else by max(1,960,000 / window, 1)"; 'Added by design': "The window
-- stops at 4,294,967,295".
unfoldable pub grown : ℕ → ℕ
grown cwnd = min 4_294_967_295 (cwnd + cond (ltb cwnd 65_535) 1_400 (max (1_960_000 / cwnd) 1))

-- 01, call 4: at a due timeout "the window becomes max(1,400, half)"
unfoldable pub halved : ℕ → ℕ
halved cwnd = max 1_400 (cwnd / 2)
