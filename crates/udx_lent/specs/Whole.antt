-- An answer and the totals after it, as a step of udx: the contracts of udx's calls apply to it.
use Rattle.records.specs.declared.Totals.{Totals}
use Rattle.udx_steps.specs.declared.step.Step.{Step}
use Rattle.udx_lent.specs.declared.answer.Answer.{Answer}

abbrev pub whole : Answer → Totals → Step
whole r t = record { stream = r.stream; totals = t; outcome = r.outcome; count = r.count; segment = r.segment }
