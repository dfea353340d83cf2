-- `rules_queue::queue::ok_queue` meets its contract: the tests in order, with what the pass found.
use native.Mathlib.Omega.{arith}
use mathlib.Core.Path.{◌≡◌}
use mathlib.Core.Bool.{cond}
use lib.Dec.{eqb}
use Rattle.std.proofs.lemmas.Bool.Decides.{nat_tests}
use Rattle.rules_queue.specs.Entries.{ok_queue}
use Rattle.rules_queue.proofs.Queued.{passed}
use Rattle.rules_queue.proofs.queue.ok_queue.Goals as goal

pub returns-then-q-gt-QUEUE_WORDS : goal.returns-then-q-gt-QUEUE_WORDS
unfolding ok_queue
returns-then-q-gt-QUEUE_WORDS c = grind (arith, nat_tests)

pub returns-then-kinds : goal.returns-then-kinds
returns-then-kinds c =
    let q = c.args.q in
    let r = c.entries-found in
    let many : c.if-rest.many ≡ cond (eqb q.left 0) q.count q.left = grind (arith, nat_tests) in
    grind (
      arith,
      nat_tests,
      passed q c.args.s c.args.queue.now c.args.sent.now c.if-rest.many r.result.good r.result.fresh r.result.states
          c.told-queue (omega arith) (omega arith) many r.ensures,
    )

pub returns-else-kinds : goal.returns-else-kinds
returns-else-kinds c =
    let q = c.args.q in
    let r = c.entries-found in
    let many : c.if-rest.many ≡ cond (eqb q.left 0) q.count q.left = grind (arith, nat_tests) in
    grind (
      arith,
      nat_tests,
      passed q c.args.s c.args.queue.now c.args.sent.now c.if-rest.many r.result.good r.result.fresh r.result.states
          c.told-queue (omega arith) (omega arith) many r.ensures,
    )
