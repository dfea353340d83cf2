-- What a block reader reads at a place, in terms of the blocks of its payload.
use Rattle.std.specs.Prelude.{ℕ, ◌+◌, ◌≡◌, List, [], ◌∷◌, Option}
use Rattle.packet.specs.declared.sack.Block.{Block}
use Rattle.packet.specs.Blocks.{Span, blocks_from, next_block}
use Rattle.packet_blocks.specs.declared.Next.{Next}
use Rattle.packet_blocks.specs.declared.BlockReader.{BlockReader}

-- the place after the first of some blocks, or the same place at the end
abbrev pub place_after : List Span → ℕ → ℕ
place_after [] at = at
place_after (b ∷ bs) at = at + 8

-- 01, call 3: "Blocks are start (4) and end (4)": the next block, and the place 8 bytes on
abbrev pub read_at : List ℕ → ℕ → Next
read_at payload at = record { block = next_block (blocks_from payload at); at = place_after (blocks_from payload at) at }

-- A reader reads on: what is read at its place, with the place after it, of the same payload. "The block reader keeps its payload and its
-- place together"
pub record ReadsOn (before : BlockReader) (block : Option Block) (after : BlockReader) : Type 0 where
  pub read : record { block = block; at = after.at } ≡ read_at before.payload.now before.at
  pub payload : after.payload ≡ before.payload

-- the blocks that a reader has not read yet
abbrev pub blocks_left : BlockReader → List Span
blocks_left r = blocks_from r.payload.now r.at
