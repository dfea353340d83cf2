-- The run over all numbers of a block is the run over those in the window: no other number is stored, and acking a number that is not
-- stored changes nothing. A run can be split anywhere.
use Prim.Native.Nat.{ℕ, zero, suc, ◌+◌, ◌-◌, ◌≤◌, ◌<◌, max, min}
use native.Mathlib.Decide.{dec_le}
use native.Mathlib.Omega.{arith}
use mathlib.Core.Path.{◌≡◌, refl, ap, ap₂, sym, ◌∙◌}
use mathlib.Core.Option.{none}
use lib.ListN.{length}
use Rattle.model.specs.Lists.{on}
use Rattle.model.specs.Slots.{ceiling, get}
use Rattle.model.specs.Stream.{End}
use Rattle.model.specs.Receiving.{handle_remote_ack, ack_number, ack_numbers}
use Rattle.model.proofs.SackBlocks.{outside}

run_split : (clock j k n : ℕ) (e : End) → ack_numbers clock (j + k) n e ≡ ack_numbers clock k (n + j) (ack_numbers clock j n e)
unfolding ack_numbers
run_split clock zero k n e =
    let z : n ≡ n + 0 = omega arith in
    let y : 0 + k ≡ k = omega arith in
    ap₂ (λ (c m : ℕ). ack_numbers clock c m e) y z
run_split clock (suc j) k n e =
    let z : suc n + j ≡ n + suc j = omega arith in
    let y : suc j + k ≡ suc (j + k) = omega arith in
    ap (λ (c : ℕ). ack_numbers clock c n e) y
    ∙ run_split clock j k (suc n) (ack_number clock n e)
    ∙ ap (λ (m : ℕ). ack_numbers clock k m (ack_numbers clock j (suc n) (ack_number clock n e))) z

-- numbers that are not stored
run_none : (clock k n : ℕ) (e : End) → ((m : ℕ) → n ≤ m → m < n + k → get e.sender.outgoing m ≡ none) → ack_numbers clock k n e ≡ e
unfolding ack_numbers ack_number
run_none clock zero n e free = refl
run_none clock (suc k) n e free =
    ap (λ o. ack_numbers clock k (suc n) (on o e (λ p. handle_remote_ack clock n p e))) (free n (omega arith) (omega arith))
    ∙ run_none clock k (suc n) e (λ m a b. free m (omega arith) (omega arith))

-- nothing is stored outside the window
module _ (clock low high : ℕ) (e : End) (below : (m : ℕ) → m < low → get e.sender.outgoing m ≡ none) (above : (m : ℕ) → high ≤ m → get e.sender.outgoing m ≡ none)
    (slots : length e.sender.outgoing ≡ ceiling) where
  -- part of the run is in the window: the numbers before it, in it and after it
  crossing : (start before inside after : ℕ) → start + before ≡ max start low → (0 < after → high ≤ start + before + inside)
      → ack_numbers clock (before + (inside + after)) start e ≡ ack_numbers clock inside (start + before) e
  crossing start before inside after lo hi =
      run_split clock before (inside + after) start e
      ∙ ap (λ (x : End). ack_numbers clock (inside + after) (start + before) x) (run_none clock before start e (λ m a b. below m (omega arith)))
      ∙ run_split clock inside after (start + before) e
      ∙ run_none clock after (start + before + inside) (ack_numbers clock inside (start + before) e)
      (λ m a b. outside clock inside (start + before) e slots m (λ c d. absurd (omega arith)) ∙ above m (let h : high ≤ start + before + inside = hi (omega arith) in omega arith))

  pub clipped : (start end : ℕ) → ack_numbers clock (end - start) start e ≡ ack_numbers clock (min end high - max start low) (max start low) e
  unfolding ack_numbers
  clipped start end = go (dec_le (min end high) (max start low))
    where
      go : Dec (min end high ≤ max start low) → ack_numbers clock (end - start) start e ≡ ack_numbers clock (min end high - max start low) (max start low) e
      go (yes d) =
          let z : min end high - max start low ≡ 0 = omega arith in
          run_none clock (end - start) start e (free d)
          ∙ ap (λ (c : ℕ). ack_numbers clock c (max start low) e) (sym z)
        where
          free : min end high ≤ max start low → (m : ℕ) → start ≤ m → m < start + (end - start) → get e.sender.outgoing m ≡ none
          free d m a b = by (dec_le low m)
            where
              by : Dec (low ≤ m) → get e.sender.outgoing m ≡ none
              by (yes x) = above m (omega arith)
              by (no x) = below m (omega arith)
      go (no d) =
          let lo : start + (max start low - start) ≡ max start low = omega arith in
          let total : end - start ≡ (max start low - start) + ((min end high - max start low) + (end - min end high)) = omega arith in
          ap (λ (c : ℕ). ack_numbers clock c start e) total
          ∙ crossing start (max start low - start) (min end high - max start low) (end - min end high) lo (λ p. omega arith)
          ∙ ap (λ (m : ℕ). ack_numbers clock (min end high - max start low) m e) lo
