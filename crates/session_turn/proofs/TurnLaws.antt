-- One turn of the code is the session's: the parsed command runs on the end it is for, or the run ends.
use Prim.Native.Nat.{ℕ, ◌+◌, ◌-◌}
use native.Mathlib.Omega.{arith}
use mathlib.Core.Path.{◌≡◌, refl, sym, ap, ◌∙◌, subst}
use mathlib.Core.Bool.{Bool, true, false, ◌&&◌}
use mathlib.Core.List.{List}
use lib.Dec.{eqb}
use lib.ListN.{length, take, drop, length-drop}
use lib.Seq.{take_all}
use Rattle.std.proofs.Common.{Option, Some, None}
use Rattle.model.specs.Lists.{Bytes}
use Rattle.session_kept.specs.Kept.{kept_of}
use Rattle.session_ends.specs.declared.SessionEnd.{SessionEnd}
use Rattle.session_ends.specs.Calls.{Stores}
use Rattle.session_script.specs.declared.Command.{Command}
use Rattle.session_script.specs.declared.Parsed.{Parsed}
use Rattle.session_script.specs.Script.{parsed_of, Parses}
use Rattle.session_text.specs.Put.{Wrote}
use Rattle.session_text.specs.Text.{script_line_of}
use Rattle.session_commands.specs.Acting.{acted, has_datagram}
use Rattle.session_commands.specs.Acts.{side_of, LaidEnd, Acts}
use Rattle.session_commands.proofs.ActLaws.{first_of}
use Rattle.session_turn.specs.declared.running.Ends.{Ends}
use Rattle.session_turn.specs.declared.running.Turn.{Turn}
use Rattle.session_turn.specs.Session.{end_of, is_for, on_zero, on_one, stopped, played_with, turn}
use Rattle.session_turn.specs.Turned.{SessionLends, sides_of, Plays}
use Rattle.session_turn.proofs.ShortReads.{ShortParsed, short_parsed}

-- the rest of a script, as a part of it
pub rest : (l : Bytes) (at : ℕ) → take (length l - at) (drop at l) ≡ drop at l
rest l at = let n = length-drop at l in take_all (length l - at) (drop at l) (omega arith)

both_right : (a b : Bool) → (a && b) ≡ true → b ≡ true
both_right true b e = e
both_right false true e = refl
both_right false false e = e

-- a command that is for an end has its datagram
pub has-datagram : (number : ℕ) (c : Command) (theirs : List Bytes) → is_for number c theirs ≡ true → has_datagram c theirs ≡ true
has-datagram number c theirs e = both_right (eqb (end_of c) number) (has_datagram c theirs) e

-- the command of a script at a place
module _ (script : Bytes) (at : ℕ) (o : Option Parsed) (parses : Parses (take (length script - at) (drop at script)) o) where
  pub parsed_at : parsed_of (drop at script) ≡ o
  parsed_at = sym (ap parsed_of (rest script at)) ∙ sym parses.is

  pub reads_short : ShortParsed o
  reads_short = subst ShortParsed parsed_at (short_parsed (drop at script))

module _ (script : Bytes) (at : ℕ) (w : Ends) (d : SessionLends) where
  -- a command ends the run
  pub turn_ends : parsed_of (drop at script) ≡ None → turn script at (sides_of w d) ≡ stopped (sides_of w d) (length script) at
  unfolding turn
  turn_ends e = rw e refl

  -- nothing runs, and the line says so
  pub plays_stopped : (r : Turn) (old text : Bytes) → turn script at (sides_of w d) ≡ stopped (sides_of w d) (length script) at
      → LaidEnd w.zero d.zero → LaidEnd w.one d.one → r.ends ≡ w → r.next ≡ length script → Wrote old text 0 r.len 28 (script_line_of at)
      → Plays (turn script at (sides_of w d)) r d text
  plays_stopped r old text stop laid_zero laid_one same next line =
      rw stop
      (record {
        sides = rw same refl;
        next = next;
        line = first_of old text (script_line_of at) r.len 28 line;
        laid_zero = rw same laid_zero;
        laid_one = rw same laid_one;
      })

module _ (script : Bytes) (at : ℕ) (w : Ends) (d : SessionLends) (p : Parsed) (parsed : parsed_of (drop at script) ≡ Some p) where
  played_is : turn script at (sides_of w d) ≡ played_with (Some p) (sides_of w d) (length script) at
  unfolding turn
  played_is = rw parsed refl

  abbrev kept_one : List Bytes
  kept_one = kept_of w.one.kept d.kept-one

  abbrev kept_zero : List Bytes
  kept_zero = kept_of w.zero.kept d.kept-zero

  pub turn_zero : (e : SessionEnd) (b : Stores) (kept : Bytes) (len : ℕ) (text : Bytes) → is_for 0 p.command kept_one ≡ true → LaidEnd w.one d.one
      → Acts (acted p.command (side_of w.zero d.zero d.kept-zero) kept_one) e b kept len text
      → Plays (turn script at (sides_of w d)) (record { ends = record { zero = e; one = w.one }; next = at + p.size; len = len })
      (record { zero = b; kept-zero = kept; one = d.one; kept-one = d.kept-one }) text
  turn_zero e b kept len text is laid a =
      let S = sides_of w d in
      let due = on_zero S (at + p.size) (acted p.command S.zero kept_one) in
      let one : turn script at S ≡ due = played_is ∙ rw is refl in
      rw one
      (record { sides = rw a.side refl; next = refl; line = a.line; laid_zero = a.laid; laid_one = laid })

  pub turn_one : (e : SessionEnd) (b : Stores) (kept : Bytes) (len : ℕ) (text : Bytes) → is_for 0 p.command kept_one ≡ false
      → is_for 1 p.command kept_zero ≡ true → LaidEnd w.zero d.zero
      → Acts (acted p.command (side_of w.one d.one d.kept-one) kept_zero) e b kept len text
      → Plays (turn script at (sides_of w d)) (record { ends = record { zero = w.zero; one = e }; next = at + p.size; len = len })
      (record { zero = d.zero; kept-zero = d.kept-zero; one = b; kept-one = kept }) text
  turn_one e b kept len text no_zero is laid a =
      let S = sides_of w d in
      let due = on_one S (at + p.size) (acted p.command S.one kept_zero) in
      let one : turn script at S ≡ due = played_is ∙ rw (no_zero, is) refl in
      rw one
      (record { sides = rw a.side refl; next = refl; line = a.line; laid_zero = laid; laid_one = a.laid })

  -- it is for neither end
  pub turn_for_none : is_for 0 p.command kept_one ≡ false → is_for 1 p.command kept_zero ≡ false
      → turn script at (sides_of w d) ≡ stopped (sides_of w d) (length script) at
  turn_for_none no_zero no_one = played_is ∙ rw (no_zero, no_one) refl
