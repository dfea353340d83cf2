-- The calls as values, and a list of them.
use Rattle.std.specs.Prelude.{ℕ, List, [], ◌∷◌}
use Rattle.model.specs.Lists.{Bytes}
use Rattle.model.specs.Stream.{End}
use Rattle.model.specs.Answers.{Answer}
use Rattle.model.specs.Sending.{write, close}
use Rattle.model.specs.Receiving.{deliver, read}
use Rattle.model.specs.Driving.{drive, take}

-- 01, 'Calls', 2 to 7, each with its arguments: bytes; a datagram and a clock; a clock; the room in a buffer
pub data Call : Type 0 where
  write_call : Bytes → Call
  deliver_call : Bytes → ℕ → Call
  drive_call : ℕ → Call
  take_call : ℕ → Call
  read_call : ℕ → Call
  close_call : Call

abbrev pub answer : Call → End → Answer
answer (write_call bytes) e = write bytes e
answer (deliver_call datagram clock) e = deliver datagram clock e
answer (drive_call clock) e = drive clock e
answer (take_call room) e = take room e
answer (read_call room) e = read room e
answer close_call e = close e

-- the end after a list of calls
abbrev pub after : List Call → End → End
after [] e = e
after (c ∷ cs) e = after cs (answer c e).end
