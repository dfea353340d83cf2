-- `session_turn::running::run_one` meets its contract: the command runs on the end it is for, or the run ends (TurnLaws.antt).
use mathlib.Core.Path.{sym, ◌∙◌}
use Rattle.session_kept.specs.Kept.{kept_of}
use Rattle.session_turn.proofs.TurnLaws.{has-datagram, parsed_at, reads_short, turn_zero, turn_one, turn_ends, turn_for_none, plays_stopped}
use Rattle.session_turn.proofs.running.run_one.Goals as goal

pub returns-in_default-clause-plays : goal.returns-in_default-clause-plays
returns-in_default-clause-plays c =
    let p = parsed_at c.args.script.now c.args.at _ c.in_default.ensures in
    let (same, rest) = c.stop.ensures in
    let (next, line) = rest in
    (λ inside zero one. plays_stopped _ _ _ _ _ _ _ (turn_ends _ _ _ _ p) zero one same next line)

pub returns-then-is_for-clause-plays : goal.returns-then-is_for-clause-plays
returns-then-is_for-clause-plays c =
    let k = c.in-Some in
    let g = c.args in
    let p = parsed_at g.script.now g.at _ k.ensures in
    let theirs = kept_of g.ends.one.kept g.one.now.kept in
    let a = c.act-a.ensures in
    (λ inside zero one.
    let is = sym (c.is_for.ensures _) ∙ c.if-is_for.true in
    turn_zero _ _ _ _ _ p _ _ _ _ _ is one (a.acts zero (has-datagram 0 k.p.command theirs is) (reads_short g.script.now g.at _ k.ensures)))

pub returns-then-is_for-2-clause-plays : goal.returns-then-is_for-2-clause-plays
returns-then-is_for-2-clause-plays c =
    let k = c.in-Some in
    let g = c.args in
    let p = parsed_at g.script.now g.at _ k.ensures in
    let theirs = kept_of g.ends.zero.kept g.zero.now.kept in
    let a = c.act-a-then-is_for-2.ensures in
    (λ inside zero one.
    let no_zero = sym (c.is_for.ensures _) ∙ c.if-is_for.false in
    let is = sym (c.is_for-2.ensures _) ∙ c.if-is_for-2.true in
    turn_one _ _ _ _ _ p _ _ _ _ _ no_zero is zero (a.acts one (has-datagram 1 k.p.command theirs is) (reads_short g.script.now g.at _ k.ensures)))

pub returns-clause-plays : goal.returns-clause-plays
returns-clause-plays c =
    let p = parsed_at c.args.script.now c.args.at _ c.in-Some.ensures in
    let (same, rest) = c.stop-2.ensures in
    let (next, line) = rest in
    (λ inside zero one.
    let no_zero = sym (c.is_for.ensures _) ∙ c.if-is_for.false in
    let no_one = sym (c.is_for-2.ensures _) ∙ c.if-is_for-2.false in
    plays_stopped _ _ _ _ _ _ _ (turn_for_none _ _ _ _ _ p no_zero no_one) zero one same next line)
