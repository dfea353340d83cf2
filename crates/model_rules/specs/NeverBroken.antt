-- Which calls keep the rules of the records: from a fresh stream all of them do; from any end that keeps the rules, a write, a delivery, a
-- drive and a close do, but a read and a take need not. Statements only: the proofs are proofs/NeverBroken.antt and RulesStay.antt.
use Rattle.std.specs.Prelude.{ℕ, ◌≡◌, List, Bool, true, false, length, Err}
use Rattle.std.proofs.Math.Option.{none}
use Rattle.error.specs.declared.Refusal.TheVariants.{BrokenRecords}
use Rattle.model.specs.Slots.{ceiling}
use Rattle.model.specs.Stream.{End, fresh}
use Rattle.model.specs.Rules.{rules}
use Rattle.model.specs.Sending.{open_refusal}
use Rattle.model.specs.Calls.{Call, write_call, deliver_call, drive_call, take_call, read_call, close_call, answer, after}

-- 01, refusal 1: "(never so after calls from a fresh stream)". For every stream that open accepts and every list of calls, with
-- any bytes delivered, the rules hold and the next call does not meet refusal 1.
abbrev pub NeverBroken : Type 0
NeverBroken =
    (local remote segments clock : ℕ)
    → open_refusal segments clock ≡ none
    → (calls : List Call)
    → let e = after calls (fresh local remote segments clock) in
    (rules e ≡ true) × ((c : Call) → (answer c e).outcome ≡ Err BrokenRecords → ⊥)

-- from any end

-- 01, 'Records': "32 slots", in either store; this is not one of the rules. With fewer, a written packet may count as inflight without
-- being stored.
pub record HasSlots (e : End) : Type 0 where
  pub outgoing : length e.sender.outgoing ≡ ceiling
  pub incoming : length e.receiver.incoming ≡ ceiling

-- a write, a delivery, a drive or a close
abbrev pub keeping : Call → Bool
keeping (write_call bytes) = true
keeping (deliver_call datagram clock) = true
keeping (drive_call clock) = true
keeping (take_call room) = false
keeping (read_call room) = false
keeping close_call = true

-- 01, refusal 1: "a rule of the records is broken". An end that keeps the rules, reachable from a fresh stream or not, keeps them after a
-- write, a delivery, a drive or a close: one test is enough for any number of these calls.
abbrev pub RulesStay : Type 0
RulesStay =
    (c : Call) (e : End)
    → keeping c ≡ true
    → HasSlots e
    → rules e ≡ true
    → let next = (answer c e).end in HasSlots next × (rules next ≡ true)

-- an end that keeps the rules before the call but not after it
pub record Breaks (c : Call) : Type 0 where
  pub before : End
  pub slots : HasSlots before
  pub kept : rules before ≡ true
  pub broken : rules (answer c before).end ≡ false

-- A read and a take do not keep the rules from every end that keeps them: if number ack is held, a read moves the read cursor past ack; if
-- a packet's transmits and queue entries together exceed 7, a take breaks "transmits are at most 7". Calls from a fresh stream lead to no
-- such end (`NeverBroken`).
pub record RulesBreak : Type 0 where
  pub reads : Breaks (read_call 1)
  pub takes : Breaks (take_call 14_000)
