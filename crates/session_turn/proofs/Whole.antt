-- A whole session prints what the definition says: by induction over the turns. Each advances by at least one byte, so the definition's
-- count covers them; the ends that `open_ends` hands out are laid out and seen as the model's fresh ones.
use Prim.Native.Nat.{ℕ, zero, suc, ◌+◌, ◌≤◌, ◌<◌}
use native.Mathlib.Omega.{arith}
use mathlib.Core.Path.{◌≡◌, refl, sym, ap, ◌∙◌}
use mathlib.Core.List.{List, [], ◌∷◌, ◌++◌}
use mathlib.Core.Option.{none}
use lib.ListN.{length, take}
use borrow.Author.Tests.{lt-ltb, le-ltb}
use Rattle.model.specs.Lists.{Bytes}
use Rattle.model.specs.Stream.{fresh}
use Rattle.records.specs.Open.{open_why, opened_outcome}
use Rattle.records.specs.declared.«open».Opened.{Opened}
use Rattle.promise.proofs.Runs.{Stands, open_stands}
use Rattle.session_ends.specs.declared.SessionEnd.{SessionEnd}
use Rattle.session_ends.specs.Calls.{Stores, lent_of, Fresh}
use Rattle.session_commands.specs.Acts.{side_of, LaidEnd}
use Rattle.session_turn.specs.declared.running.Ends.{Ends}
use Rattle.session_turn.specs.Session.{Sides, opened, opened_sides, turn, printed_from, session}
use Rattle.session_turn.specs.Turned.{SessionLends, sides_of}
use Rattle.session_turn.specs.Whole.{MadeTurn, RunsFrom, printed_by, StoreLengths, WholeSession}

-- the turns

module _ (script : Bytes) where
  -- nothing is left, and nothing is printed
  at_the_end : (k at : ℕ) (s : Sides) → length script ≤ at → [] ≡ printed_from k script at s
  at_the_end zero at s h = refl
  at_the_end (suc k) at s h = rw (le-ltb at (length script) h) refl

  -- one more turn
  one_turn : (k at : ℕ) (s : Sides) → at < length script
      → printed_from (suc k) script at s ≡ (turn script at s).line ++ printed_from k script (turn script at s).next (turn script at s).sides
  one_turn k at s h = rw (lt-ltb at (length script) h) refl

  runs : (ts : List MadeTurn) (k at : ℕ) (w : Ends) (d : SessionLends) → length script ≤ at + k → LaidEnd w.zero d.zero → LaidEnd w.one d.one
      → RunsFrom script at w d ts → printed_by ts ≡ printed_from k script at (sides_of w d)
  runs [] k at w d enough laid_zero laid_one r = at_the_end k at (sides_of w d) r
  runs (t ∷ ts) zero at w d enough laid_zero laid_one r = absurd (let h = r.0 in omega arith)
  runs (t ∷ ts) (suc k) at w d enough laid_zero laid_one r =
      let inside = r.0 in
      let m = r.1.0 in
      let p = m.plays inside laid_zero laid_one in
      let on = m.turned.on inside in
      let s = sides_of w d in
      let more : length script ≤ t.turn.next + k = omega arith in
      let rest = runs ts k t.turn.next t.turn.ends t.lends more p.laid_zero p.laid_one r.1.1 in
      rw (p.line, rest, p.next, p.sides) (sym (one_turn k at s inside))

-- the ends handed out

module _ (local remote : ℕ) (b : Stores) (e : SessionEnd) (f : Fresh local remote b e) (fits : StoreLengths b) where
  open_ready : open_why 10 0 b.outgoing b.incoming b.headers ≡ none
  unfolding open_why
  open_ready = rw fits refl

  abbrev handed : Opened
  handed = record { outcome = f.outcome; stream = e.stream; totals = e.totals }

  stands : Stands (record { stream = e.stream; totals = e.totals; lent = lent_of e b }) (fresh local remote 10 0)
  stands =
      open_stands local remote 10 0 (lent_of e b) handed
      (record { opens = f.opens; ready = f.opens.outcome ∙ ap opened_outcome open_ready })

  fresh_side : (kept : Bytes) → side_of e b kept ≡ opened local remote
  fresh_side kept = rw (stands.end, f.kept kept) refl

pub whole_session : WholeSession
unfolding session
whole_session input w d o ts r =
    let script = take 65_536 input in
    let laid_zero = (stands 1 2 d.zero w.zero o.zero o.sized_zero).laid in
    let laid_one = (stands 2 1 d.one w.one o.one o.sized_one).laid in
    let sides : sides_of w d ≡ opened_sides =
    rw (fresh_side 1 2 d.zero w.zero o.zero o.sized_zero d.kept-zero, fresh_side 2 1 d.one w.one o.one o.sized_one d.kept-one) refl in
    runs script ts (length script) 0 w d (omega arith) laid_zero laid_one r ∙ ap (printed_from (length script) script 0) sides
