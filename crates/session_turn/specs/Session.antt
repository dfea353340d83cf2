-- The session of 01 as a function of its script: what each command does to the two ends, and what is printed. `turn` is one command,
-- `session` a whole script; what a command does to the end it is for is `acted` (session_commands/specs/Acting.antt).
use Rattle.std.specs.Prelude.{ℕ, zero, suc, ◌+◌, Bool, cond, ◌&&◌, List, [], ◌++◌, eqb, ltb, length, take, drop, Option, Some, None}
use Rattle.model.specs.Lists.{Bytes}
use Rattle.model.specs.Stream.{fresh}
use Rattle.session_script.specs.declared.Command.{Command}
use Rattle.session_script.specs.declared.Command.TheVariants as command
use Rattle.session_script.specs.declared.Parsed.{Parsed}
use Rattle.session_script.specs.Script.{parsed_of}
use Rattle.session_text.specs.Text.{script_line_of}
use Rattle.session_commands.specs.Acting.{KeptEnd, Acted, acted, has_datagram}

pub record Sides : Type 0 where
  pub zero : KeptEnd
  pub one : KeptEnd

abbrev pub opened : (local remote : ℕ) → KeptEnd
opened local remote = record { end = fresh local remote 10 0; kept = [] }

-- "ends 0 (id 1) and 1 (id 2), opened at clock 0 with ceiling 10"
abbrev pub opened_sides : Sides
opened_sides = record { zero = opened 1 2; one = opened 2 1 }

-- one command

-- the end that a command is for, 0 or 1
abbrev pub end_of : Command → ℕ
end_of (command.Write number size fill) = number
end_of (command.Drive number clock) = number
end_of (command.Take number) = number
end_of (command.Hand number which clock) = number
end_of (command.Read number size) = number
end_of (command.Close number) = number

-- it is for this end and, if it is a hand, its datagram is one of the other end's kept ones
abbrev pub is_for : ℕ → Command → List Bytes → Bool
is_for number c theirs = eqb (end_of c) number && has_datagram c theirs

-- the ends after a command, where the next one starts, and the command's line
pub record Played : Type 0 where
  pub sides : Sides
  pub next : ℕ
  pub line : List ℕ

abbrev pub on_zero : Sides → ℕ → Acted → Played
on_zero w next a = record { sides = record { zero = a.side; one = w.one }; next = next; line = a.line }

abbrev pub on_one : Sides → ℕ → Acted → Played
on_one w next a = record { sides = record { zero = w.zero; one = a.side }; next = next; line = a.line }

-- "ends the run ..; the last line is then `script` and its command's offset"
abbrev pub stopped : Sides → (size at : ℕ) → Played
stopped w size at = record { sides = w; next = size; line = script_line_of at }

abbrev pub played_with : Option Parsed → Sides → (size at : ℕ) → Played
played_with None w size at = stopped w size at
played_with (Some p) w size at =
    cond (is_for 0 p.command w.one.kept) (on_zero w (at + p.size) (acted p.command w.zero w.one.kept))
    (cond (is_for 1 p.command w.zero.kept) (on_one w (at + p.size) (acted p.command w.one w.zero.kept))
    (stopped w size at))

-- the command at `at`, a place in the script
unfoldable pub turn : Bytes → ℕ → Sides → Played
turn script at w = played_with (parsed_of (drop at script)) w (length script) at

-- a whole script

-- what is printed from `at` on. Every turn advances, so there are at most as many turns as bytes left: the first argument.
abbrev pub printed_from : ℕ → Bytes → ℕ → Sides → List ℕ
printed_from zero script at w = []
printed_from (suc k) script at w =
    cond (ltb at (length script)) ((turn script at w).line ++ printed_from k script (turn script at w).next (turn script at w).sides) []

-- "It reads at most 65,536 bytes from standard input": what a session prints for its input
unfoldable pub session : Bytes → List ℕ
session input = printed_from (length (take 65_536 input)) (take 65_536 input) 0 opened_sides
