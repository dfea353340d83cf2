-- `rules_packets::sender::stored` meets its contract: what was found below n, plus what the numbers from n on add, is the total.
use native.Mathlib.Omega.{arith}
use mathlib.Core.Path.{sym, ◌∙◌}
use Rattle.rules_packets.proofs.Stored.{kept_by, skip, turn, stop, done, ended}
use Rattle.rules_packets.proofs.sender.stored.Goals.{then-sized-few, else-sized-few+else-here, then-p, else-p}
use Rattle.rules_packets.proofs.sender.stored.Goals as goal

pub loop-n-preserved : goal.loop-n-preserved
loop-n-preserved c =
    let p = c.get_sent-p in
    let l = c.loop-n in
    let t = c.loop-n-test.true in
    let is = kept_by c.args.sent.now l.n c.args.clock.0 p.result _ _ p.ensures c.is_sized-sized.ensures c.in_time-timely.ensures in
    elim c.if-sized-few.branch [
      | then-sized-few w ↦
          rw (w.inflight-is, w.packets-is, w.lengths-is)
          (turn _ _ _ _ l.n l.inflight l.packets l.lengths p.result l.invariant p.ensures t c.requires _
          (sym is ∙ w.if-sized-few.true)
          (elim w.if-p.branch [ then-p v ↦ rw v.if-p.true v.inflight-is | else-p v ↦ rw v.if-p.false v.inflight-is ])
          (omega arith))
      | else-sized-few+else-here w ↦
          rw (w.inflight-is, w.packets-is, w.lengths-is)
          (skip _ _ _ _ l.n l.inflight l.packets l.lengths p.result l.invariant p.ensures t c.requires (sym c.is_stored-here.ensures ∙ w.if-here.false))
    ]

pub returns-then-here : goal.returns-then-here
returns-then-here c =
    let p = c.get_sent-p in
    let l = c.loop-n in
    let is = kept_by c.args.sent.now l.n c.args.clock.0 p.result _ _ p.ensures c.is_sized-sized.ensures c.in_time-timely.ensures in
    ended _ _ _ _
    (stop _ _ _ _ l.n l.inflight l.packets l.lengths p.result l.invariant p.ensures c.loop-n-test.true c.requires (sym is ∙ c.if-sized-few.false)
    (sym c.is_stored-here.ensures ∙ c.if-here.true))

pub returns : goal.returns
returns c = let l = c.loop-n in done _ _ _ _ l.n l.inflight l.packets l.lengths l.invariant c.loop-n-test.false
