-- A whole session: the turns of a script, one after another from two fresh ends, print what the definition says (`session`). All that is
-- known of a turn is the contract of `run_one`, and of the ends that of `open_ends`, word for word (proofs/Contracts.antt). The statement
-- is `WholeSession`, at the bottom; the proof is in proofs/Whole.antt.
use Rattle.std.specs.Prelude.{ℕ, ◌≤◌, ◌<◌, ◌≡◌, false, List, [], ◌∷◌, ◌++◌, length, take}
use Rattle.model.specs.Lists.{Bytes}
use Rattle.records.specs.Open.{stores_test}
use Rattle.session_ends.specs.Calls.{Stores, Fresh}
use Rattle.session_commands.specs.Acts.{LaidEnd}
use Rattle.session_turn.specs.declared.running.Ends.{Ends}
use Rattle.session_turn.specs.declared.running.Turn.{Turn}
use Rattle.session_turn.specs.Session.{turn, session}
use Rattle.session_turn.specs.Turned.{Turned, SessionLends, sides_of, Plays}

-- a turn that was made: what `run_one` returned, what is lent with the ends after it, and the line's buffer
pub record MadeTurn : Type 0 where
  pub turn : Turn
  pub lends : SessionLends
  pub text : Bytes

-- the contract of `run_one` for a turn at `at`: it advances within the script, and it is the session's
abbrev pub TurnGoesOn : Bytes → ℕ → MadeTurn → Type 0
TurnGoesOn script at t = Turned (length script) at t.turn

abbrev pub IsTurn : Bytes → ℕ → Ends → SessionLends → MadeTurn → Type 0
IsTurn script at w d t =
    at < length script → LaidEnd w.zero d.zero → LaidEnd w.one d.one → Plays (turn script at (sides_of w d)) t.turn t.lends t.text

pub record MakesTurn (script : Bytes) (at : ℕ) (w : Ends) (d : SessionLends) (t : MadeTurn) : Type 0 where
  pub turned : TurnGoesOn script at t
  pub plays : IsTurn script at w d t

-- turns from a place to the script's end, each on what the last one left
abbrev pub RunsFrom : Bytes → ℕ → Ends → SessionLends → List MadeTurn → Type 0
RunsFrom script at w d [] = length script ≤ at
RunsFrom script at w d (t ∷ ts) =
    (at < length script) × (MakesTurn script at w d t × RunsFrom script t.turn.next t.turn.ends t.lends ts)

-- what they put into the line's buffer, one after another
abbrev pub printed_by : List MadeTurn → List ℕ
printed_by [] = []
printed_by (t ∷ ts) = take t.turn.len t.text ++ printed_by ts

-- the stores have 01's lengths
abbrev pub StoreLengths : Stores → Type 0
StoreLengths b = stores_test b.outgoing b.incoming b.headers ≡ false

-- the contract of `open_ends`, whatever is lent for kept datagrams: "ends 0 (id 1) and 1 (id 2), opened at clock 0 with ceiling 10"
pub record OpenedEnds (w : Ends) (b₀ b₁ : Stores) : Type 0 where
  pub zero : Fresh 1 2 b₀ w.zero
  pub one : Fresh 2 1 b₁ w.one
  pub sized_zero : StoreLengths b₀
  pub sized_one : StoreLengths b₁

abbrev pub WholeSession : Type 0
WholeSession =
    (input : Bytes) (w : Ends) (d : SessionLends)
    → OpenedEnds w d.zero d.one
    → (ts : List MadeTurn)
    → RunsFrom (take 65_536 input) 0 w d ts
    → printed_by ts ≡ session input
