-- Two ends on the records behave as the model's two ends: what is seen of an end after a call, with its history, is what the model's call
-- leaves (`call_same`). The same holds after a list of calls (`run_same`), and a line on the records is a line of the model (`line_same`).
use mathlib.Core.Path.{◌≡◌, refl, sym, ap, ◌∙◌, subst}
use mathlib.Core.Logic.{inl, inr}
use mathlib.Core.List.{List, [], ◌∷◌}
use lib.Dec.{T}
use Rattle.error.specs.declared.Refusal.{Refusal}
use Rattle.std.specs.Prelude.{Result}
use Rattle.error.specs.declared.Outcome.{Outcome}
use Rattle.model.specs.Answers.{Answer}
use Rattle.model.specs.Calls.{answer}
use Rattle.model_ends.specs.TwoEnds as model
use Rattle.model_ends.specs.TwoEnds.{History, is_refused}
use Rattle.model_rules.proofs.Invariant.{Invariant}
use Rattle.promise.specs.Runs.{seen_of, Request, to_write, to_deliver, to_drive, to_take, to_read, to_close, call_of, Event, left, Did, answer_of}
use Rattle.promise.specs.TwoEndsOnRecords.{noted, Side, happened, Ends, Turn, on_a, on_b, turned, last_of, Brings, Fits, FitsEnds, OverALine}
use Rattle.promise.proofs.Runs.{Stands, stands_answer, stands_next}

-- what is seen of an end, with its past

abbrev pub seen_side : Side → model.Side
seen_side x = record { end = seen_of x.records; past = x.past }

abbrev pub seen_ends : Ends → model.Ends
seen_ends w = record { a = seen_side w.a; b = seen_side w.b }

abbrev pub command_of : Turn → model.Command
command_of (on_a v) = model.on_a (call_of v.request)
command_of (on_b v) = model.on_b (call_of v.request)

abbrev pub commands_of : List Turn → List model.Command
commands_of [] = []
commands_of (c ∷ cs) = command_of c ∷ commands_of cs

-- an end whose records are laid out and keep the model's invariant
abbrev pub LaidSide : Side → Type 0
LaidSide x = Stands x.records (seen_of x.records)

-- one call

noted_same : (v : Event) (h : History) → noted v.request v.step v.buf h ≡ model.noted (call_of v.request) (answer_of v) h
noted_same v h = go v.request
  where
    go : (q : Request) → noted q v.step v.buf h ≡ model.noted (call_of q) (answer_of (record { request = q; step = v.step; lent = v.lent; buf = v.buf })) h
    go (to_write bytes) = refl
    go (to_deliver datagram clock) = refl
    go (to_drive clock) = refl
    go (to_take buf) = refl
    go (to_read buf) = refl
    go to_close = refl

pub call_same : (v : Event) (x : Side) → LaidSide x → Did x.records v → seen_side (happened v x) ≡ model.called (call_of v.request) (seen_side x)
call_same v x laid d =
    let e = stands_answer x.records (seen_of x.records) v laid d in
    ap (λ (h : History). record { end = seen_of (left v); past = h }) (noted_same v x.past)
    ∙ ap (λ (a : Answer). record { end = a.end; past = model.noted (call_of v.request) a x.past }) e

pub call_laid : (v : Event) (x : Side) → LaidSide x → Did x.records v → LaidSide (happened v x)
call_laid v x laid d =
    let h = stands_next x.records (seen_of x.records) v laid d in
    record { laid = h.laid; end = refl; keeps = subst Invariant (sym h.end) h.keeps }

-- a delivery that is refused on the records is refused by the model
brings_same : (v : Event) (x y : Side) → LaidSide x → Fits v x y → model.Brings (call_of v.request) (seen_side x) (seen_side y)
brings_same v x y laid f = go v.request f.1 (ap (λ (a : Answer). a.outcome) (stands_answer x.records (seen_of x.records) v laid f.0))
  where
    go : (q : Request) → Brings q v.step.outcome y → v.step.outcome ≡ (answer (call_of q) (seen_of x.records)).outcome → model.Brings (call_of q) (seen_side x) (seen_side y)
    go (to_write bytes) b e = tt
    go (to_deliver datagram clock) (inl m) e = inl m
    go (to_deliver datagram clock) (inr t) e = inr (subst (λ (o : Result Outcome Refusal). T (is_refused o)) e t)
    go (to_drive clock) b e = tt
    go (to_take buf) b e = tt
    go (to_read buf) b e = tt
    go to_close b e = tt

-- both ends

abbrev pub BothLaid : Ends → Type 0
BothLaid w = LaidSide w.a × LaidSide w.b

turn_same : (c : Turn) (w : Ends) → BothLaid w → FitsEnds c w → seen_ends (turned c w) ≡ model.step (command_of c) (seen_ends w)
turn_same (on_a v) w laid f = ap (λ (x : model.Side). record { a = x; b = seen_side w.b }) (call_same v w.a laid.0 f.0)
turn_same (on_b v) w laid f = ap (λ (x : model.Side). record { a = seen_side w.a; b = x }) (call_same v w.b laid.1 f.0)

pub turn_laid : (c : Turn) (w : Ends) → BothLaid w → FitsEnds c w → BothLaid (turned c w)
turn_laid (on_a v) w laid f = (call_laid v w.a laid.0 f.0, laid.1)
turn_laid (on_b v) w laid f = (laid.0, call_laid v w.b laid.1 f.0)

turn_fits : (c : Turn) (w : Ends) → BothLaid w → FitsEnds c w → model.Fits (command_of c) (seen_ends w)
turn_fits (on_a v) w laid f = brings_same v w.a w.b laid.0 f
turn_fits (on_b v) w laid f = brings_same v w.b w.a laid.1 f

pub run_same : (cs : List Turn) (w : Ends) → BothLaid w → OverALine cs w → seen_ends (last_of cs w) ≡ model.run (commands_of cs) (seen_ends w)
run_same [] w laid f = refl
run_same (c ∷ cs) w laid f =
    run_same cs (turned c w) (turn_laid c w laid f.0) f.1 ∙ ap (model.run (commands_of cs)) (turn_same c w laid f.0)

pub line_same : (cs : List Turn) (w : Ends) → BothLaid w → OverALine cs w → model.OverALine (commands_of cs) (seen_ends w)
line_same [] w laid f = tt
line_same (c ∷ cs) w laid f =
    (turn_fits c w laid f.0, subst (model.OverALine (commands_of cs)) (turn_same c w laid f.0) (line_same cs (turned c w) (turn_laid c w laid f.0) f.1))
