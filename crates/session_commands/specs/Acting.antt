-- What each command of a session does to the end it is for, and its line (01, 'The session program').
use Rattle.std.specs.Prelude.{ℕ, Bool, true, List, [], map, ◌++◌, leb, ltb, length, get_or, replicate}
use Rattle.model.specs.Lists.{Bytes}
use Rattle.model.specs.Stream.{End}
use Rattle.model.specs.Answers.{Answer}
use Rattle.model.specs.Sending as model
use Rattle.model.specs.Receiving as model_in
use Rattle.model.specs.Driving as model_out
use Rattle.session_kept.specs.Kept.{last_kept, fitted}
use Rattle.session_script.specs.declared.Command.{Command}
use Rattle.session_script.specs.declared.Command.TheVariants as command
use Rattle.session_text.specs.declared.lines.Name.{Name}
use Rattle.session_text.specs.declared.lines.Name.TheVariants as name
use Rattle.session_text.specs.Text.{line_of, bytes_line_of}

-- an end with its kept datagrams, oldest first
pub record KeptEnd : Type 0 where
  pub end : End
  pub kept : List Bytes

-- the end after a command, and the command's line
pub record Acted : Type 0 where
  pub side : KeptEnd
  pub line : List ℕ

-- "A line has command, end, outcome .., count of bytes accepted, taken or put (else 0)"
abbrev pub lined : Name → ℕ → Answer → List Bytes → Acted
lined n number a kept = record { side = record { end = a.end; kept = kept }; line = line_of n number a.outcome a.count }

-- ".. and for reads the bytes"
abbrev pub lined_read : ℕ → Answer → List Bytes → Acted
lined_read number a kept =
    record { side = record { end = a.end; kept = kept }; line = bytes_line_of name.Read number a.outcome a.count a.bytes }

-- the datagrams kept after a take: "the other end's last 32 taken"
abbrev pub kept_after : Answer → List Bytes → List Bytes
kept_after a kept = last_kept (kept ++ map fitted (model_out.datagrams_of a.segment a.bytes))

-- a command on the end it is for; `theirs` are the other end's kept datagrams
unfoldable pub acted : Command → KeptEnd → List Bytes → Acted
acted (command.Write number size fill) s theirs = lined name.Write number (model.write (replicate size fill) s.end) s.kept
acted (command.Drive number clock) s theirs = lined name.Drive number (model_out.drive clock.0 s.end) s.kept
acted (command.Take number) s theirs =
    lined name.Take number (model_out.take 14_000 s.end) (kept_after (model_out.take 14_000 s.end) s.kept)
acted (command.Hand number which clock) s theirs =
    lined name.Hand number (model_in.deliver (get_or theirs which []) clock.0 s.end) s.kept
acted (command.Read number size) s theirs = lined_read number (model_in.read size s.end) s.kept
acted (command.Close number) s theirs = lined name.Close number (model.close s.end) s.kept

-- "or a datagram not kept": a hand needs one of the other end's
abbrev pub has_datagram : Command → List Bytes → Bool
has_datagram (command.Write number size fill) theirs = true
has_datagram (command.Drive number clock) theirs = true
has_datagram (command.Take number) theirs = true
has_datagram (command.Hand number which clock) theirs = ltb which (length theirs)
has_datagram (command.Read number size) theirs = true
has_datagram (command.Close number) theirs = true

-- a read of at most 4,096 bytes, as every read of a script is: a longer one ends the run when it is parsed
abbrev pub short_read : Command → Bool
short_read (command.Write number size fill) = true
short_read (command.Drive number clock) = true
short_read (command.Take number) = true
short_read (command.Hand number which clock) = true
short_read (command.Read number size) = leb size 4_096
short_read (command.Close number) = true
