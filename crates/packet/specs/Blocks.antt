-- The SACK blocks of a payload, all of them and the next one.
use Rattle.std.specs.Prelude.{ℕ, zero, suc, ◌-◌, ◌/◌, ◌≡◌, List, [], ◌∷◌, cond, length, drop, ltb, Option, None, Some}
use Rattle.packet.specs.declared.sack.Block.{Block}
use Rattle.packet.specs.LittleEndian.{word}

-- numbers from start to below end
pub record Span : Type 0 where
  pub start : ℕ
  pub end : ℕ

-- 01, call 3: "Blocks are start (4) and end (4), end excluded"
abbrev pub span_of : List ℕ → Span
span_of rest = record { start = word rest 0; end = word rest 4 }

-- 01, call 3: "read while place + 8 is below the payload length": there is a block where more than 8 bytes are left, so the last 8 bytes of
-- a payload are never one. Each block is 8 bytes, so as many steps as there are bytes are enough.
unfoldable pub blocks_in : ℕ → List ℕ → List Span
blocks_in zero rest = []
blocks_in (suc steps) rest = cond (ltb 8 (length rest)) (span_of rest ∷ blocks_in steps (drop 8 rest)) []

-- the blocks from a place on
abbrev pub blocks_from : List ℕ → ℕ → List Span
blocks_from payload at = blocks_in (length payload) (drop at payload)

-- every block of a payload, in order (handle_incoming_sacks)
abbrev pub blocks : List ℕ → List Span
blocks payload = blocks_from payload 0

-- the first of some blocks, if there is one
abbrev pub next_block : List Span → Option Block
next_block [] = None
next_block (b ∷ bs) = Some record { start = b.start; end = b.end }

-- How many blocks a payload has; proved in proofs/Blocks.antt.
abbrev pub BlockCount : Type 0
BlockCount = (payload : List ℕ) → length (blocks payload) ≡ (length payload - 1) / 8
