-- SACK blocks take exactly their numbers out of the store: one number by the laws of `remove`, a run of them and then a list of runs by
-- induction.
use Prim.Native.Nat.{ℕ, zero, suc, ◌+◌, ◌-◌, ◌≤◌, ◌<◌}
use native.Mathlib.Decide.{ℕ_discrete, dec_le, dec_lt}
use native.Mathlib.Omega.{arith}
use mathlib.Core.Path.{◌≡◌, refl, sym, ap, ◌∙◌}
use mathlib.Core.Logic.{◌≢◌}
use mathlib.Core.Option.{Option, none, some}
use mathlib.Core.List.{[], ◌∷◌}
use mathlib.Core.Bool.{Bool, true, false, cond, ◌&&◌, ◌||◌}
use lib.Dec.{ltb, leb}
use lib.ListN.{length}
use borrow.Author.Tests.{le-leb, lt-leb, lt-ltb, le-ltb}
use Rattle.packet.specs.Blocks.{Span}
use Rattle.model.specs.Lists.{on}
use Rattle.model.specs.Slots.{Slots, ceiling, get, remove}
use Rattle.model.specs.Stream.{Packet, End}
use Rattle.model.specs.Receiving.{handle_remote_ack, ack_number, ack_numbers, ack_blocks}
use Rattle.model.specs.SackBlocks.{covers, BlocksExact}
use Rattle.model.proofs.Slots.{remove_length, remove_cases, remove_keep, remove_none}

-- one number

gone : (s : Slots Packet) (n : ℕ) → length s ≡ ceiling → get (remove s n) n ≡ none
gone s n l = go (get (remove s n) n) refl
  where
    go : (o : Option Packet) → get (remove s n) n ≡ o → o ≡ none
    go none e = refl
    go (some p) e = absurd ((remove_cases s n n p l e).0 refl)

spared : (s : Slots Packet) (n m : ℕ) → length s ≡ ceiling → m ≢ n → get (remove s n) m ≡ get s m
spared s n m l ne = go (get s m) refl
  where
    go : (o : Option Packet) → get s m ≡ o → get (remove s n) m ≡ get s m
    go none e = remove_none s n m l e ∙ sym e
    go (some p) e = remove_keep s n m p ne e ∙ sym e

module _ (clock n : ℕ) (e : End) (l : length e.sender.outgoing ≡ ceiling) where
  pub one_length : length (ack_number clock n e).sender.outgoing ≡ ceiling
  unfolding ack_number
  one_length = go (get e.sender.outgoing n)
    where
      go : (o : Option Packet) → length (on o e (λ p. handle_remote_ack clock n p e)).sender.outgoing ≡ ceiling
      go none = l
      go (some p) = remove_length e.sender.outgoing n ∙ l

  one_gone : get (ack_number clock n e).sender.outgoing n ≡ none
  unfolding ack_number
  one_gone = go (get e.sender.outgoing n) refl
    where
      go : (o : Option Packet) → get e.sender.outgoing n ≡ o → get (on o e (λ p. handle_remote_ack clock n p e)).sender.outgoing n ≡ none
      go none z = z
      go (some p) z = gone e.sender.outgoing n l

  one_spared : (m : ℕ) → m ≢ n → get (ack_number clock n e).sender.outgoing m ≡ get e.sender.outgoing m
  unfolding ack_number
  one_spared m ne = go (get e.sender.outgoing n)
    where
      go : (o : Option Packet) → get (on o e (λ p. handle_remote_ack clock n p e)).sender.outgoing m ≡ get e.sender.outgoing m
      go none = refl
      go (some p) = spared e.sender.outgoing n m l ne

-- a run of numbers

pub outside : (clock k n : ℕ) (e : End) → length e.sender.outgoing ≡ ceiling → (m : ℕ) → (n ≤ m → m < n + k → ⊥)
    → get (ack_numbers clock k n e).sender.outgoing m ≡ get e.sender.outgoing m
unfolding ack_numbers
outside clock zero n e l m out = refl
outside clock (suc k) n e l m out =
    outside clock k (suc n) (ack_number clock n e) (one_length clock n e l) m (λ a b. out (omega arith) (omega arith))
    ∙ one_spared clock n e l m (λ q. out (omega arith) (omega arith))

inside : (clock k n : ℕ) (e : End) → length e.sender.outgoing ≡ ceiling → (m : ℕ) → n ≤ m → m < n + k → get (ack_numbers clock k n e).sender.outgoing m ≡ none
unfolding ack_numbers
inside clock zero n e l m a b = absurd (omega arith)
inside clock (suc k) n e l m a b = go (ℕ_discrete m n) (λ c d. inside clock k (suc n) (ack_number clock n e) (one_length clock n e l) m c d)
  where
    go : Dec (m ≡ n) → (suc n ≤ m → m < suc n + k → get (ack_numbers clock k (suc n) (ack_number clock n e)).sender.outgoing m ≡ none)
        → get (ack_numbers clock k (suc n) (ack_number clock n e)).sender.outgoing m ≡ none
    go (yes q) rec =
        outside clock k (suc n) (ack_number clock n e) (one_length clock n e l) m (λ x y. absurd (omega arith))
        ∙ ap (get (ack_number clock n e).sender.outgoing) q
        ∙ one_gone clock n e l
    go (no q) rec = rec (omega arith) (omega arith)

run_length : (clock k n : ℕ) (e : End) → length e.sender.outgoing ≡ ceiling → length (ack_numbers clock k n e).sender.outgoing ≡ ceiling
unfolding ack_numbers
run_length clock zero n e l = l
run_length clock (suc k) n e l = run_length clock k (suc n) (ack_number clock n e) (one_length clock n e l)

-- one block, then the others

in_block : Span → ℕ → Bool
in_block b m = leb b.start m && ltb m b.end

one_block : (clock : ℕ) (b : Span) (e : End) → length e.sender.outgoing ≡ ceiling → (m : ℕ)
    → get (ack_numbers clock (b.end - b.start) b.start e).sender.outgoing m ≡ cond (in_block b m) none (get e.sender.outgoing m)
unfolding in_block
one_block clock b e l m = go (dec_le b.start m) (dec_lt m b.end)
  where
    go : Dec (b.start ≤ m) → Dec (m < b.end)
        → get (ack_numbers clock (b.end - b.start) b.start e).sender.outgoing m ≡ cond (leb b.start m && ltb m b.end) none (get e.sender.outgoing m)
    go (yes x) (yes y) = rw (le-leb b.start m x, lt-ltb m b.end y) (inside clock (b.end - b.start) b.start e l m x (omega arith))
    go (yes x) (no y) =
        rw (le-leb b.start m x, le-ltb m b.end (omega arith)) (outside clock (b.end - b.start) b.start e l m (λ u v. absurd (omega arith)))
    go (no x) d = rw (lt-leb b.start m (omega arith)) (outside clock (b.end - b.start) b.start e l m (λ u v. x u))

pub blocks_exact : BlocksExact
unfolding ack_blocks in_block
blocks_exact clock [] e l m = refl
blocks_exact clock (b ∷ bs) e l m =
    blocks_exact clock bs (ack_numbers clock (b.end - b.start) b.start e) (run_length clock (b.end - b.start) b.start e l) m
    ∙ ap (λ (o : Option Packet). cond (covers bs m) none o) (one_block clock b e l m)
    ∙ either (in_block b m) (covers bs m) (get e.sender.outgoing m)
  where
    either : (x y : Bool) (o : Option Packet) → cond y none (cond x none o) ≡ cond (x || y) none o
    either true true o = refl
    either true false o = refl
    either false y o = refl
