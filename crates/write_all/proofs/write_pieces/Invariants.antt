use lib.ListN.{drop}
use mathlib.Core.Path.{◌≡◌}
use Rattle.std.specs.Slice.Iter.{chunks_rest, chunks_size}
use Rattle.write_all.proofs.Going.{Going}
use Rattle.write_all.proofs.write_pieces.Given as goal

abbrev pub invariant-loop-piece : goal.invariant-loop-piece
invariant-loop-piece l = record {
  going : Going l.remote l.ack l.bytes l.initial.out l.initial.sent l.initial.queue l.initial.outgoing l.out l.sent l.queue l.outgoing l.count;
  rest : chunks_rest l.piece-iterator ≡ drop l.count l.bytes;
  size : chunks_size l.piece-iterator ≡ 1_380;
}
