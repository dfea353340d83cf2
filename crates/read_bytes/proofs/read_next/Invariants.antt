use Rattle.read_bytes.proofs.ReadLaws.{Going}
use Rattle.read_bytes.proofs.read_next.Given as goal

abbrev pub invariant-loop-n : goal.invariant-loop-n
invariant-loop-n l = Going l.fn.r l.initial.held l.incoming l.initial.buf l.n l.held l.buf l.count l.finished
