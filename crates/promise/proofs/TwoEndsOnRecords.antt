-- The proof of demand 3 on the records. Both ends behave as the model's (Line.antt), so the model's `two_ends` proves what concerns only
-- what is seen of them (`promised`). The rest is in Unread.antt and StoredOn.antt. One direction is proved; swapping the ends, in the
-- calls too, gives the other.
use Prim.Native.Nat.{ℕ}
use mathlib.Core.Path.{◌≡◌, refl, sym, ap, ap₂, ◌∙◌, subst}
use mathlib.Core.List.{List, [], ◌∷◌, ◌++◌}
use Rattle.model.specs.Stream.{End}
use Rattle.model_ends.specs.TwoEnds as model
use Rattle.model_ends.specs.TwoEnds.{no_history, Id}
use Rattle.model_rules.proofs.Invariant.{Invariant}
use Rattle.model_ends.proofs.TwoEnds.{two_ends}
use Rattle.records.specs.declared.«open».Opened.{Opened}
use Rattle.records.specs.Seen.{Lent, seen}
use Rattle.promise.specs.Runs.{OpenedBy}
use Rattle.promise.specs.TwoEndsOnRecords.{Ends, Turn, on_a, on_b, turned, last_of, OverALine, Carried, opened, both_opened, TwoEndsOnRecords}
use Rattle.promise.proofs.Runs.{open_clear, open_stands}
use Rattle.promise.proofs.Line.{seen_side, seen_ends, commands_of, LaidSide, BothLaid, turn_laid, run_same, line_same}
use Rattle.promise.proofs.Unread.{read_turns, reads_line, reads_last, unread_is}
use Rattle.promise.proofs.StoredOn.{stored_on, held_on}

-- one list of calls after another

last_append : (cs ds : List Turn) (w : Ends) → last_of (cs ++ ds) w ≡ last_of ds (last_of cs w)
last_append [] ds w = refl
last_append (c ∷ cs) ds w = last_append cs ds (turned c w)

line_append : (cs ds : List Turn) (w : Ends) → OverALine cs w → OverALine ds (last_of cs w) → OverALine (cs ++ ds) w
line_append [] ds w f g = g
line_append (c ∷ cs) ds w f g = (f.0, line_append cs ds (turned c w) f.1 g)

last_laid : (cs : List Turn) (w : Ends) → BothLaid w → OverALine cs w → BothLaid (last_of cs w)
last_laid [] w laid f = laid
last_laid (c ∷ cs) w laid f = last_laid cs (turned c w) (turn_laid c w laid f.0) f.1

-- one direction

open_laid : (local remote segments clock : ℕ) (l : Lent) (o : Opened) → OpenedBy local remote segments clock l o → LaidSide (opened o l)
open_laid local remote segments clock l o h =
    let s = open_stands local remote segments clock l o h in
    record { laid = s.laid; end = refl; keeps = subst Invariant (sym s.end) s.keeps }

module _ (i j segmentsA segmentsB clockA clockB : ℕ) (idI : Id i) (idJ : Id j) (lentA lentB : Lent) (a b : Opened)
    (openA : OpenedBy i j segmentsA clockA lentA a) (openB : OpenedBy j i segmentsB clockB lentB b) where
  abbrev start : Ends
  start = both_opened a b lentA lentB

  abbrev fresh : model.Ends
  fresh = model.both_opened i j segmentsA segmentsB clockA clockB

  from_fresh : seen_ends start ≡ fresh
  from_fresh =
      ap₂ (λ (x : End) (y : End). record { a = record { end = x; past = no_history }; b = record { end = y; past = no_history } })
      (open_stands i j segmentsA clockA lentA a openA).end (open_stands j i segmentsB clockB lentB b openB).end

  start_laid : BothLaid start
  start_laid = (open_laid i j segmentsA clockA lentA a openA, open_laid j i segmentsB clockB lentB b openB)

  -- what the model promises of what is seen
  promised : (turns : List Turn) → OverALine turns start → model.Carried (seen_side (last_of turns start).a) (seen_side (last_of turns start).b)
  promised turns line =
      let is : seen_ends (last_of turns start) ≡ model.run (commands_of turns) fresh = run_same turns start start_laid line ∙ ap (model.run (commands_of turns)) from_fresh in
      let (out, _) =
      two_ends i j segmentsA segmentsB clockA clockB idI idJ (open_clear i j segmentsA clockA lentA a openA) (open_clear j i segmentsB clockB lentB b openB) (commands_of turns)
      (subst (model.OverALine (commands_of turns)) from_fresh (line_same turns start start_laid line)) in
      subst (λ (z : model.Ends). model.Carried z.a z.b) (sym is) out

  one_way : (turns : List Turn) → OverALine turns start → Carried (last_of turns start).a (last_of turns start).b
  unfolding seen
  one_way turns line =
      let w = last_of turns start in
      let c = promised turns line in
      let (laid_a, laidB) = last_laid turns start start_laid line in
      record {
        reads_first = c.reads_first;
        accepted = c.accepted;
        unread = λ vs last h.
            unread_is w.a w.b vs last laidB h c
            (subst (λ (z : Ends). model.Carried (seen_side z.a) (seen_side z.b)) (last_append turns (read_turns vs) start ∙ reads_last vs w)
            (promised (turns ++ read_turns vs) (line_append turns (read_turns vs) start line (reads_line vs last w h))));
        pieces = c.pieces;
        numbered = c.numbered;
        kept = λ n l u. stored_on w.a laid_a n _ (c.kept n l u);
        stored = λ n p e. let (l, q) = c.stored n p e in (l, stored_on w.a laid_a n _ (p, e, q));
        held = λ n h e. let (l, q) = c.held n h e in (l, held_on w.b laidB n _ h e q);
        below_ack = c.below_ack;
        ack_missing = c.ack_missing;
      }

-- the other direction

abbrev over : Ends → Ends
over w = record { a = w.b; b = w.a }

abbrev over_turn : Turn → Turn
over_turn (on_a v) = on_b v
over_turn (on_b v) = on_a v

abbrev over_turns : List Turn → List Turn
over_turns [] = []
over_turns (c ∷ cs) = over_turn c ∷ over_turns cs

over_line : (cs : List Turn) (w : Ends) → OverALine cs w → OverALine (over_turns cs) (over w)
over_line [] w f = tt
over_line (on_a v ∷ cs) w f = (f.0, over_line cs (turned (on_a v) w) f.1)
over_line (on_b v ∷ cs) w f = (f.0, over_line cs (turned (on_b v) w) f.1)

over_last : (cs : List Turn) (w : Ends) → last_of (over_turns cs) (over w) ≡ over (last_of cs w)
over_last [] w = refl
over_last (on_a v ∷ cs) w = over_last cs (turned (on_a v) w)
over_last (on_b v ∷ cs) w = over_last cs (turned (on_b v) w)

pub two_ends_on_records : TwoEndsOnRecords
two_ends_on_records i j segmentsA segmentsB clockA clockB idI idJ lentA lentB a b openA openB turns line =
    let w = both_opened a b lentA lentB in (
      one_way i j segmentsA segmentsB clockA clockB idI idJ lentA lentB a b openA openB turns line,
      subst (λ (z : Ends). Carried z.a z.b) (over_last turns w)
          (one_way j i segmentsB segmentsA clockB clockA idJ idI lentB lentA b a openB openA (over_turns turns) (over_line turns w line)),
    )
