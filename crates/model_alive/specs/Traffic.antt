-- The hypotheses of the two-end theorem (`OverALine` of two opened ends, model_ends/specs/TwoEnds.antt) are satisfiable by runs in which
-- bytes written at one end are read at the other: 01's example session, and one piece of any bytes. Statements only: the proofs are
-- proofs/Traffic.antt.
use Rattle.std.specs.Prelude.{ℕ, ◌≤◌, ◌≡◌, List, [], ◌∷◌, length}
use Rattle.std.proofs.Math.Option.{none}
use Rattle.model.specs.Lists.{Bytes}
use Rattle.model.specs.Stream.{fresh}
use Rattle.model.specs.Sending.{open_refusal, write}
use Rattle.model.specs.Driving.{drive, take}
use Rattle.model.specs.Calls.{write_call, deliver_call, drive_call, take_call, read_call, close_call}
use Rattle.model_ends.specs.TwoEnds.{Ends, Command, on_a, on_b, run, OverALine, Id, both_opened}
use Rattle.model.specs.Examples.{aaa, datagram}

-- a run over a line after which end a has sent these bytes in one datagram, and end b has read them
pub record CarriesOnce (bytes sent : Bytes) (commands : List Command) (start : Ends) : Type 0 where
  pub line : OverALine commands start
  pub accepted : (run commands start).a.past.accepted ≡ bytes
  pub pieces : (run commands start).a.past.pieces ≡ bytes ∷ []
  pub taken : (run commands start).a.past.taken ≡ sent ∷ []
  pub reads : (run commands start).b.past.reads ≡ bytes
  pub brought : (run commands start).b.past.brought ≡ 0 ∷ []
  pub ack : (run commands start).b.end.receiver.ack ≡ 1

-- 01, 'The session program': the example's commands; `hand` delivers the datagram that end 0 took
abbrev pub session : List Command
session =
    on_a (write_call aaa)
    ∷ on_a (drive_call 0)
    ∷ on_a (take_call 14_000)
    ∷ on_a (take_call 14_000)
    ∷ on_b (deliver_call datagram 5)
    ∷ on_b (read_call 8)
    ∷ on_b (read_call 8)
    ∷ on_b close_call
    ∷ []

abbrev pub SessionCarries : Type 0
SessionCarries = CarriesOnce aaa datagram session (both_opened 1 2 10 10 0 0)

-- one piece: what the take at end a gives is handed to end b
abbrev pub piece_commands : (bytes sent : Bytes) (clockA clockB : ℕ) → List Command
piece_commands bytes sent clockA clockB =
    on_a (write_call bytes) ∷ on_a (drive_call clockA) ∷ on_a (take_call 14_000) ∷ on_b (deliver_call sent clockB) ∷ on_b (read_call 1_380) ∷ []

abbrev pub PieceCarries : Type 0
PieceCarries =
    (i j segmentsA segmentsB clockA clockB : ℕ)
    → Id i
    → Id j
    → open_refusal segmentsA clockA ≡ none
    → open_refusal segmentsB clockB ≡ none
    → (bytes : Bytes)
    → 1 ≤ length bytes
    → length bytes ≤ 1_380
    → let sent = (take 14_000 (drive clockA (write bytes (fresh i j segmentsA clockA)).end).end).bytes in
    CarriesOnce bytes sent (piece_commands bytes sent clockA clockB) (both_opened i j segmentsA segmentsB clockA clockB)
