-- Each sentence is one case of `RulesStay` or one field of `RulesBreak` (model_rules/specs/NeverBroken.antt).
use mathlib.Core.Path.{refl}
use Rattle.model.specs.Calls.{write_call, deliver_call, drive_call, close_call}
use Rattle.model_rules.proofs.RulesStay.{rules_stay, rules_break}
use Rattle.promise_sentences.specs.Rules.{RuleSentences}

pub rule_sentences : RuleSentences
rule_sentences =
    record {
      write_keeps = λ bytes e. rules_stay (write_call bytes) e refl;
      deliver_keeps = λ datagram clock e. rules_stay (deliver_call datagram clock) e refl;
      drive_keeps = λ clock e. rules_stay (drive_call clock) e refl;
      close_keeps = λ e. rules_stay close_call e refl;
      read_breaks = let b = rules_break.reads in (b.before, b.slots, b.kept, b.broken);
      take_breaks = let b = rules_break.takes in (b.before, b.slots, b.kept, b.broken);
    }
