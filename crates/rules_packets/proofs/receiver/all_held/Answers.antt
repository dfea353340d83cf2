-- `rules_packets::receiver::all_held` meets its contract: the packets below n keep their rules, so the rest decides.
use Prim.Native.Nat.{◌≤◌}
use native.Mathlib.Omega.{arith}
use mathlib.Core.Path.{refl, sym, ◌∙◌}
use Rattle.rules_packets.proofs.From.{every_done, every_turn, every_stop}
use Rattle.rules_packets.proofs.Held.{kept_by, kept, broken, absent}
use Rattle.rules_packets.proofs.receiver.all_held.Goals.{else-not-kept-via-then-not-kept+else-is_held, else-not-kept-via-else-not-kept}
use Rattle.rules_packets.proofs.receiver.all_held.Goals as goal

pub returns-then-is_held : goal.returns-then-is_held
returns-then-is_held c =
    let r = c.get_held-p in
    let t = c.loop-n-test.true in
    let n = c.loop-n.n in
    let top-fits : c.args.top ≤ 4_294_967_295 = omega (arith, c.ranges.top) in
    let is = kept_by c.args.held.now n r.result c.is_short-short.result _ r.ensures c.is_short-short.ensures refl in
    let here = sym c.is_held.ensures ∙ c.if-is_held.true in
    every_stop _ n _ t (broken _ _ n c.args.held.now r.result r.ensures c.loop-n.auto.n t c.requires top-fits (sym is ∙ c.if-not-kept.true) here)
    ∙ c.loop-n.invariant

pub loop-n-preserved : goal.loop-n-preserved
loop-n-preserved c =
    let r = c.get_held-p in
    let t = c.loop-n-test.true in
    let n = c.loop-n.n in
    let top-fits : c.args.top ≤ 4_294_967_295 = omega (arith, c.ranges.top) in
    let is = kept_by c.args.held.now n r.result c.is_short-short.result _ r.ensures c.is_short-short.ensures refl in
    elim c.else-not-kept.branch [
      | else-not-kept-via-then-not-kept+else-is_held w ↦
          every_turn _ n _ t (absent _ _ n c.args.held.now r.result r.ensures c.loop-n.auto.n t c.requires top-fits (sym w.is_held.ensures ∙ w.if-is_held.false))
          ∙ c.loop-n.invariant
      | else-not-kept-via-else-not-kept w ↦
          every_turn _ n _ t (kept _ _ n c.args.held.now r.result r.ensures c.loop-n.auto.n t c.requires top-fits (sym is ∙ w.if-not-kept.false))
          ∙ c.loop-n.invariant
    ]

pub returns : goal.returns
returns c = every_done _ c.loop-n.n _ c.loop-n-test.false ∙ c.loop-n.invariant
