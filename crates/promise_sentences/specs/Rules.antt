-- Which calls keep the rules of the records from any end that keeps them, call by call; a read and a take need not. Statement only: the
-- proof is in proofs/Rules.antt.
use Rattle.std.specs.Prelude.{ℕ, ◌≡◌, true, false}
use Rattle.model.specs.Lists.{Bytes}
use Rattle.model.specs.Stream.{End}
use Rattle.model.specs.Rules.{rules}
use Rattle.model.specs.Sending.{write, close}
use Rattle.model.specs.Receiving.{deliver, read}
use Rattle.model.specs.Driving.{drive, take}
use Rattle.model_rules.specs.NeverBroken.{HasSlots}

-- if the rules hold before, they hold after
abbrev pub KeepRules : (before after : End) → Type 0
KeepRules before after = HasSlots before → rules before ≡ true → HasSlots after × (rules after ≡ true)

pub record RuleSentences : Type 0 where
  pub write_keeps : (bytes : Bytes) (e : End) → KeepRules e (write bytes e).end
  pub deliver_keeps : (datagram : Bytes) (clock : ℕ) (e : End) → KeepRules e (deliver datagram clock e).end
  pub drive_keeps : (clock : ℕ) (e : End) → KeepRules e (drive clock e).end
  pub close_keeps : (e : End) → KeepRules e (close e).end
  -- these break a rule at some end
  pub read_breaks : (e : End) × HasSlots e × (rules e ≡ true) × (rules (read 1 e).end ≡ false)
  pub take_breaks : (e : End) × HasSlots e × (rules e ≡ true) × (rules (take 14_000 e).end ≡ false)
