-- The numbers of 01's refusals, and how a stream's error is answered.
use Rattle.std.specs.Prelude.{ℕ, Option, None, Some, Result, Ok, Err}
use Rattle.error.specs.declared.UdxError.{UdxError}
use Rattle.error.specs.declared.UdxError.TheVariants as error
use Rattle.error.specs.declared.Refusal.{Refusal}
use Rattle.error.specs.declared.Refusal.TheVariants as refusal
use Rattle.error.specs.declared.Outcome.{Outcome}

-- 01, 'Seventeen refusals, in checking order': the number that each returns.
abbrev pub number_of : Refusal → ℕ
number_of refusal.BrokenRecords = 1
number_of refusal.ShortBuffer = 2
number_of refusal.SegmentCeiling = 3
number_of refusal.BadClock = 4
number_of refusal.AfterDone = 5
number_of refusal.BatchesLeft = 6
number_of refusal.BadHeader = 7
number_of refusal.OtherStream = 8
number_of refusal.LongPayload = 9
number_of refusal.AckPastSeq = 10
number_of refusal.SeqEnd = 11
number_of refusal.PastIncoming = 12
number_of refusal.StateQueueFull = 13
number_of refusal.ConnectionReset = 14
number_of refusal.UnexpectedEof = 15
number_of refusal.TimedOut = 16
number_of refusal.SeqExhausted = 17

-- 01, 14 to 16: "Write or read meets ConnectionReset" (UnexpectedEof, TimedOut).
abbrev pub met : UdxError → Refusal
met error.ConnectionReset = refusal.ConnectionReset
met error.UnexpectedEof = refusal.UnexpectedEof
met error.TimedOut = refusal.TimedOut

-- The refusal for the stream's error; without one, the call's own answer.
abbrev pub error_or : Option UdxError → Outcome → Result Outcome Refusal
error_or None otherwise = Ok otherwise
error_or (Some error) otherwise = Err (met error)
