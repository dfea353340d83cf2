-- The numbers that represent enums and flags at the C boundary; include/udx.h has the same list.
use Rattle.error.specs.declared.Refusal.{Refusal}
use Rattle.error.specs.declared.Refusal.TheVariants as refusal
use Rattle.std.specs.Prelude.{ℕ, Bool, cond, ◌||◌, eqb, ltb, Result, Ok, Err, None, Some, Option}
use Rattle.error.specs.declared.UdxError.{UdxError}
use Rattle.error.specs.declared.UdxError.TheVariants as error
use Rattle.error.specs.declared.Outcome.{Outcome}
use Rattle.error.specs.declared.Outcome.TheVariants as outcome
use Rattle.error.specs.Answers.{number_of}
use Rattle.records.specs.declared.StreamState.{StreamState}
use Rattle.records.specs.declared.StreamState.TheVariants as state
use Rattle.records.specs.declared.Ending.{Ending}
use Rattle.udx_c_numbers.specs.declared.structs.FlatEnding.{FlatEnding}

abbrev pub error_byte : Option UdxError → ℕ
error_byte None = 0
error_byte (Some error.ConnectionReset) = 1
error_byte (Some error.UnexpectedEof) = 2
error_byte (Some error.TimedOut) = 3

abbrev pub error_of : ℕ → Option UdxError
error_of n = cond (eqb n 0) None (cond (eqb n 1) (Some error.ConnectionReset) (cond (eqb n 2) (Some error.UnexpectedEof) (Some error.TimedOut)))

abbrev pub state_byte : StreamState → ℕ
state_byte state.Open = 0
state_byte state.LocalClosed = 1
state_byte state.RemoteClosed = 2
state_byte state.BothClosed = 3

abbrev pub state_of : ℕ → StreamState
state_of n = cond (eqb n 0) state.Open (cond (eqb n 1) state.LocalClosed (cond (eqb n 2) state.RemoteClosed state.BothClosed))

-- whether a byte is invalid
abbrev pub is_strange : FlatEnding → Bool
is_strange e = ltb 3 e.error || (ltb 3 e.state || ltb 1 e.ended)

-- an invalid byte is a broken record, so refusal 1 applies
abbrev pub broken_if : {A : Type 0} → Bool → A → Result A Refusal
broken_if strange x = cond strange (Err refusal.BrokenRecords) (Ok x)

abbrev pub ending_of : FlatEnding → Ending
ending_of e = record { error = error_of e.error; state = state_of e.state; ended = eqb e.ended 1 }

abbrev pub flat_ending : Ending → FlatEnding
flat_ending e = record { error = error_byte e.error; state = state_byte e.state; ended = cond e.ended 1 0 }

-- 01, 'The session program': "outcome (ok, wait, done, none or the refusal's number)"
abbrev pub outcome_byte : Result Outcome Refusal → ℕ
outcome_byte (Ok outcome.Ready) = 0
outcome_byte (Ok outcome.Waiting) = 1
outcome_byte (Ok outcome.Done) = 2
outcome_byte (Ok outcome.Nothing) = 3
outcome_byte (Err why) = 4

abbrev pub refusal_byte : {A : Type 0} → Result A Refusal → ℕ
refusal_byte (Ok x) = 0
refusal_byte (Err why) = number_of why
