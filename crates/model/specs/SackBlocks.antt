-- What SACK blocks acknowledge, as a set of numbers rather than a loop over them. Statement only: the proof is proofs/SackBlocks.antt.
use Rattle.std.specs.Prelude.{ℕ, ◌≡◌, List, [], ◌∷◌, Bool, false, cond, ◌&&◌, ◌||◌, ltb, leb, length}
use Rattle.std.proofs.Math.Option.{none}
use Rattle.packet.specs.Blocks.{Span}
use Rattle.model.specs.Slots.{ceiling, get}
use Rattle.model.specs.Stream.{End}
use Rattle.model.specs.Receiving.{ack_blocks}

-- SACK blocks take exactly their numbers out of the store, "end excluded".
abbrev pub covers : List Span → ℕ → Bool
covers [] n = false
covers (b ∷ bs) n = (leb b.start n && ltb n b.end) || covers bs n

abbrev pub BlocksExact : Type 0
BlocksExact =
    (clock : ℕ) (blocks : List Span) (e : End)
    → length e.sender.outgoing ≡ ceiling
    → (n : ℕ)
    → get (ack_blocks clock blocks e).sender.outgoing n ≡ cond (covers blocks n) none (get e.sender.outgoing n)
