-- `udx_c_part::look_place` meets its contract: no part in place of refusal 1, else the part that the search finds.
use mathlib.Core.Path.{sym, ◌∙◌}
use Rattle.std.proofs.Common.{rules}
use Rattle.records.specs.Seen.{Lent}
use Rattle.rules_lent.specs.Broken.{lent}
use Rattle.udx.proofs.Unbroken.{unbroken}
use Rattle.udx_c_part.proofs.Looked.{looked_broken, looked_found}
use Rattle.udx_c_part.proofs.look_place.Goals as goal

pub returns-then-broken : goal.returns-then-broken
returns-then-broken c =
    let a = c.args in
    let l : Lent = lent a.sent.now a.held.now a.queue.now a.outgoing.now a.incoming.now a.headers.now in
    let (is, len) = c.broken.ensures in
    looked_broken a.s a.t l len (sym is ∙ c.if-broken.true)

pub next_shown-requires : goal.next_shown-requires
next_shown-requires c =
    let a = c.args in
    let l : Lent = lent a.sent.now a.held.now a.queue.now a.outgoing.now a.incoming.now a.headers.now in
    let (is, len) = c.broken.ensures in
    (unbroken a.s a.t l len (sym is ∙ c.if-broken.false)).queue

pub returns : goal.returns
returns c =
    let a = c.args in
    let l : Lent = lent a.sent.now a.held.now a.queue.now a.outgoing.now a.incoming.now a.headers.now in
    let (is, len) = c.broken.ensures in
    let found = looked_found a.s a.t l len (sym is ∙ c.if-broken.false) c.next_shown.result c.next_shown.ensures in
    search rules
