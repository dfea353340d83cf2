-- Laws of what is read at a place: a block and the place 8 bytes on, or the end and the same place.
use Prim.Native.Nat.{ℕ, ◌+◌, ◌<◌}
use mathlib.Core.Path.{◌≡◌, refl, sym, ap, ◌∙◌}
use mathlib.Core.List.{List, [], ◌∷◌}
use native.Mathlib.Omega.{arith}
use lib.ListN.{length}
use Rattle.std.specs.Prelude.{⊤, Option, None, Some}
use Rattle.std.specs.Iterator.{MakesProgress, item_count}
use Rattle.packet.specs.declared.sack.Block.{Block}
use Rattle.packet.specs.Blocks.{blocks_from, next_block}
use Rattle.packet.proofs.Blocks.{range_first, end_none}
use Rattle.packet_blocks.specs.declared.Next.{Next}
use Rattle.packet_blocks.specs.declared.BlockReader.{BlockReader}
use Rattle.packet_blocks.specs.Reader.{read_at, ReadsOn, blocks_left}

-- from the block at a place to what is read there

pub reads_range : (payload : List ℕ) (at : ℕ) {b : Block} → next_block (blocks_from payload at) ≡ Some b
    → ◌≡◌ {A = Next} record { block = Some b; at = at + 8 } (read_at payload at)
reads_range payload at {b} is = simp (range_first payload at b.start b.end is)

-- and back, as a loop over the blocks needs it

module _ (payload : List ℕ) (at : ℕ) {n : Next} (read : n ≡ read_at payload at) where
  stands : next_block (blocks_from payload at) ≡ n.block
  stands = sym (ap (λ (m : Next). m.block) read)

  moves : {b : Block} → n.block ≡ Some b → at + 8 ≡ n.at
  moves is = ap (λ (m : Next). m.at) (reads_range payload at (stands ∙ is) ∙ sym read)

  -- after a block come the blocks from the place after it
  pub read_first : {b : Block} → n.block ≡ Some b
      → blocks_from payload at ≡ record { start = b.start; end = b.end } ∷ blocks_from payload n.at
  read_first {b} is =
      range_first payload at b.start b.end (stands ∙ is)
      ∙ ap (λ (k : ℕ). record { start = b.start; end = b.end } ∷ blocks_from payload k) (moves is)

  pub read_none : n.block ≡ None → blocks_from payload at ≡ []
  read_none is = end_none payload at (stands ∙ is)

-- one step of a reader: the first of the blocks that it has left, or none is left

pub left_first : {r t : BlockReader} {b : Block} → ReadsOn r (Some b) t
    → blocks_left r ≡ record { start = b.start; end = b.end } ∷ blocks_left t
left_first {r} {t} x = rw x.payload (read_first r.payload.now r.at x.read refl)

pub left_none : {r t : BlockReader} → ReadsOn r None t → blocks_left r ≡ []
left_none {r} {t} x = read_none r.payload.now r.at x.read refl

-- so fewer blocks are left after each
pub left_fewer : {r t : BlockReader} (o : Option Block) → ReadsOn r o t → MakesProgress (λ _. ⊤) (item_count blocks_left) r o t
left_fewer {r} {t} (Some b) x =
    let fewer : length (blocks_left t) < length (blocks_left r) = omega (arith, ap length (left_first x)) in
    record { on = λ _. (tt, tt, fewer); keeps = tt; rests = λ _. tt }
left_fewer None x = record { on = λ _. tt; keeps = tt; rests = λ _. tt }
