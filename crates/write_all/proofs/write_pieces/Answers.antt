-- `write_all::write_pieces` meets its contract. The loop's invariant is `Going`: what went, joined to what the model does with the bytes
-- left, is what it does with all of them. Those bytes are what the chunks have left.
use mathlib.Core.Path.{ap, sym, ◌∙◌}
use lib.ListN.{length}
use Rattle.model.specs.Lists.{Bytes}
use Rattle.write_all.proofs.Going.{again, next_rest, ends_full, ends_empty}
use Rattle.write_all.proofs.WriteLoop.{chunk_cuts}
use Rattle.write_all.proofs.write_pieces.Goals as goal

pub loop-piece-preserved : goal.loop-piece-preserved
loop-piece-preserved c =
    let i = c.loop-piece.invariant in
    let s = c.in-Some.ensures.steps in
    let cut = chunk_cuts i.rest i.size s.1.0 s.1.1 s.1.2 in
    let free = sym c.goes.ensures ∙ c.if-not-goes.false in
    record {
      going = again i.going cut free c.send_data_packet-out.ensures;
      rest = next_rest i.going cut free;
      size = s.0 ∙ i.size;
    }

pub returns-then-not-goes : goal.returns-then-not-goes
returns-then-not-goes c =
    let i = c.loop-piece.invariant in
    let s = c.in-Some.ensures.steps in
    ends_full i.going (chunk_cuts i.rest i.size s.1.0 s.1.1 s.1.2) (sym c.goes.ensures ∙ c.if-not-goes.true)

pub returns : goal.returns
returns c =
    let i = c.loop-piece.invariant in
    ends_empty i.going (ap (λ (b : Bytes). length b) (sym i.rest) ∙ c.in-None.ensures.steps.1.0)
