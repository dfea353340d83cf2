-- When a command on an end's records does what the session says: what is seen of the end after it, and its line.
use Rattle.std.specs.Prelude.{ℕ, ◌≡◌, true, map, ◌++◌, take}
use Rattle.model.specs.Lists.{Bytes}
use Rattle.model.specs.Driving as model_out
use Rattle.records.specs.Seen.{seen}
use Rattle.udx.specs.Agree.{laid_out, Answers}
use Rattle.session_kept.specs.declared.Kept.{Kept}
use Rattle.session_kept.specs.Kept.{kept_of, last_kept, fitted, kept_segment}
use Rattle.session_ends.specs.declared.SessionEnd.{SessionEnd}
use Rattle.session_ends.specs.declared.calls.Called.{Called}
use Rattle.session_ends.specs.Calls.{Stores, lent_of, step_of}
use Rattle.session_commands.specs.Acting.{KeptEnd, Acted, kept_after}

-- what is seen of an end: `b` are the stores lent with it, `kept` the bytes of its kept datagrams
abbrev pub side_of : SessionEnd → Stores → Bytes → KeptEnd
side_of e b kept = record { end = seen e.stream e.totals (lent_of e b); kept = kept_of e.kept kept }

-- its records are laid out: they are after an open, and stay so
abbrev pub LaidEnd : SessionEnd → Stores → Type 0
LaidEnd e b = laid_out e.stream (lent_of e b) ≡ true

-- an end after a command, and the first `len` bytes of the line's buffer, are what the session says
pub record Acts (due : Acted) (e : SessionEnd) (b : Stores) (kept : Bytes) (len : ℕ) (text : Bytes) : Type 0 where
  pub side : side_of e b kept ≡ due.side
  pub line : take len text ≡ due.line
  pub laid : LaidEnd e b

-- a take whose datagrams are kept
pub record Keeps (e : SessionEnd) (b : Stores) (room : ℕ) (kept : Bytes) (r : Called) (kept' : Bytes) : Type 0 where
  pub answers : Answers (model_out.take room) e.stream e.totals (lent_of e b) (step_of r) (lent_of r.end b)
  pub keeps : LaidEnd e b → kept_of r.end.kept kept' ≡ kept_after (model_out.take room (seen e.stream e.totals (lent_of e b))) (kept_of e.kept kept)

-- what a call returned, with other datagrams kept
abbrev pub rekept : Called → Kept → Called
rekept c k =
    record {
      end = record { stream = c.end.stream; totals = c.end.totals; sent = c.end.sent; held = c.end.held; queue = c.end.queue; kept = k };
      outcome = c.outcome;
      count = c.count;
      segment = c.segment;
    }

-- the datagrams of the batch at the front of buf are kept
pub record KeepsBatch (c : Called) (kept buf : Bytes) (r : Called) (kept' : Bytes) : Type 0 where
  pub rest : r ≡ rekept c r.end.kept
  pub keeps : kept_of r.end.kept kept' ≡ last_kept (kept_of c.end.kept kept ++ map fitted (model_out.datagrams_of (kept_segment c.segment) (take c.count buf)))
