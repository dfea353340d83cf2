-- One turn of the code is the session's, on what is seen of the ends.
use Rattle.std.specs.Prelude.{ℕ, ◌<◌, ◌≤◌, ◌≡◌, take}
use Rattle.model.specs.Lists.{Bytes}
use Rattle.session_ends.specs.Calls.{Stores, stores}
use Rattle.session_commands.specs.Acts.{side_of, LaidEnd}
use Rattle.session_turn.specs.declared.running.Ends.{Ends}
use Rattle.session_turn.specs.declared.running.Turn.{Turn}
use Rattle.session_turn.specs.Session.{Sides, Played}

-- what a loop over a script needs: in a script of `size` bytes, a turn at `at` ends past `at` but not past the script, and its line fits
pub record Turned (size at : ℕ) (r : Turn) : Type 0 where
  pub on : at < size → at < r.next
  pub within : r.next ≤ size
  pub fits : r.len ≤ 8_400

-- what is lent with both ends: the stores of each, and the bytes of its kept datagrams
pub record SessionLends : Type 0 where
  pub zero : Stores
  pub kept-zero : Bytes
  pub one : Stores
  pub kept-one : Bytes

abbrev pub lends : (outgoing-zero incoming-zero headers-zero kept-zero outgoing-one incoming-one headers-one kept-one : Bytes) → SessionLends
lends outgoing-zero incoming-zero headers-zero kept-zero outgoing-one incoming-one headers-one kept-one =
    record {
      zero = stores outgoing-zero incoming-zero headers-zero;
      kept-zero = kept-zero;
      one = stores outgoing-one incoming-one headers-one;
      kept-one = kept-one;
    }

-- what is seen of both ends
abbrev pub sides_of : Ends → SessionLends → Sides
sides_of w d = record { zero = side_of w.zero d.zero d.kept-zero; one = side_of w.one d.one d.kept-one }

-- a turn is the session's: the ends, the next place, and the line at the front of its buffer
pub record Plays (due : Played) (r : Turn) (d : SessionLends) (text : Bytes) : Type 0 where
  pub sides : sides_of r.ends d ≡ due.sides
  pub next : r.next ≡ due.next
  pub line : take r.len text ≡ due.line
  pub laid_zero : LaidEnd r.ends.zero d.zero
  pub laid_one : LaidEnd r.ends.one d.one
