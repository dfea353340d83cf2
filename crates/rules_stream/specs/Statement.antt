-- What refusal 1 checks: on any records, words and stores, the test that the calls run (`ok_stream`) is exactly that the records are laid
-- out properly (`formed`) and that what is seen of them keeps 01's rules (`rules`). And that calls from a fresh stream never meet it.
-- Statements only; the proofs are in proofs/Seen.antt.
use Rattle.std.specs.Prelude.{ℕ, ◌≡◌, List, true, ◌&&◌, length}
use Rattle.std.proofs.Math.Option.{none}
use Rattle.model.specs.Stream.{fresh}
use Rattle.model.specs.Rules.{rules}
use Rattle.model.specs.RulesKept.{KeepsRules}
use Rattle.model.specs.Sending.{open_refusal}
use Rattle.model.specs.Calls.{Call, after}
use Rattle.records.specs.declared.Stream.{Stream}
use Rattle.records.specs.declared.Totals.{Totals}
use Rattle.records.specs.Seen.{Lent, seen, formed}
use Rattle.rules_stream.specs.Ok.{ok_stream}

-- Only the queue must have all its words: a packet's word past the end of its list reads as 0, which is no packet.
abbrev pub RefusalOne : Type 0
RefusalOne =
    (s : Stream) (t : Totals) (l : Lent)
    → length l.queue ≡ 128
    → ok_stream s t l.sent l.held l.queue ≡ (formed s l.queue && rules (seen s t l))

-- 01, refusal 1: "(never so after calls from a fresh stream)". Records that are properly laid out and are seen as the end after any list of
-- calls keep every rule, each a field of `KeepsRules`, and pass the test.
abbrev pub NeverRefused : Type 0
NeverRefused =
    (local remote segments clock : ℕ)
    → open_refusal segments clock ≡ none
    → (calls : List Call)
    → (s : Stream) (t : Totals) (l : Lent)
    → length l.queue ≡ 128
    → formed s l.queue ≡ true
    → seen s t l ≡ after calls (fresh local remote segments clock)
    → KeepsRules (seen s t l) × (ok_stream s t l.sent l.held l.queue ≡ true)
