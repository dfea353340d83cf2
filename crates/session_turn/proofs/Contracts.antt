-- What `WholeSession` (specs/Whole.antt) assumes is what the code promises, word for word: a turn that was made (`MakesTurn`) is the contract
-- of `run_one`, the ends it starts from (`OpenedEnds`) that of `open_ends`, and each of them (`Fresh`) that of `fresh_end`. With what each
-- function was lent and what it left, its `ensures` is exactly that, and it requires nothing. So a function that ensures less or requires
-- more fails here. `x` are the parameters, `y` their values at the end, `r` is the result. All are equal by computation.
use mathlib.Core.Path.{◌≡◌, refl}
use seplogic.Ra.Ura.{Ura}
use base.Logic.{SProp}
use prog.Memory.{Memory}
use prog.Routine.{Routine}
use types.Logic.{Logic}
use contract.Lifetimes.{Lfts}
use contract.Monad.{Fun}
use contract.Notation.{connectives}
use denote.Triple.Entry.{Args, Res}
use denote.Triple.Clauses.{AtExit}
use Rattle.model.specs.Lists.{Bytes}
use Rattle.session_ends.specs.Calls.{stores, Fresh}
use Rattle.session_ends.specs.contracts.fresh_end as fresh
use Rattle.session_turn.specs.Turned.{lends}
use Rattle.session_turn.specs.Whole.{MadeTurn, TurnGoesOn, IsTurn, OpenedEnds}
use Rattle.session_turn.specs.contracts.opening.open_ends as open-ends
use Rattle.session_turn.specs.contracts.running.run_one as run-one

module _ {M : Type 1} {𝓤 : Ura M} (𝓛 : Logic 𝓤) (mem : Memory → SProp 𝓤) (run : Routine → Fun 𝓤) where
  open connectives 𝓤 use {⌜◌⌝, ⊤ₛ, ◌∗◌}

  -- session_ends/src/lib.rt
  abbrev pub FreshEnd : Type 2
  FreshEnd =
      (κs : Lfts 3) (x : Args fresh.signature κs) (r : Res fresh.signature κs) (y : AtExit fresh.ended κs)
      → let (local, (remote, (outgoing, (incoming, (headers, _))))) = x in
      let c = fresh.clauses 𝓛 mem run κs x in
      (c.requires tt ≡ ⊤ₛ)
      × (c.ensures tt r y ≡ ⌜ Fresh local remote (stores outgoing.now incoming.now headers.now) r ⌝)

  pub fresh-end : FreshEnd
  fresh-end κs x r y = (refl, refl)

  -- session_turn/src/opening.rt; `k₀` and `k₁` are whatever is lent for kept datagrams
  abbrev pub OpensEnds : Type 2
  OpensEnds =
      (κs : Lfts 6) (x : Args open-ends.signature κs) (r : Res open-ends.signature κs) (y : AtExit open-ends.ended κs) (k₀ k₁ : Bytes)
      → let (o₀, (i₀, (h₀, (o₁, (i₁, (h₁, _)))))) = x in
      let d = lends o₀.now i₀.now h₀.now k₀ o₁.now i₁.now h₁.now k₁ in
      let c = open-ends.clauses 𝓛 mem run κs x in
      (c.requires tt ≡ ⊤ₛ) × (c.ensures tt r y ≡ ⌜ OpenedEnds r d.zero d.one ⌝)

  pub opens_ends : OpensEnds
  opens_ends κs x r y k₀ k₁ = (refl, refl)

  -- session_turn/src/running.rt
  abbrev pub RunOne : Type 2
  RunOne =
      (κs : Lfts 5) (x : Args run-one.signature κs) (r : Res run-one.signature κs) (y : AtExit run-one.ended κs)
      → let (w, (script, (at, (zero, (one, (_, (_, _))))))) = x in
      let (_, (_, (_, (zero', (one', (_, (line', _))))))) = y in
      let z = zero.now in
      let o = one.now in
      let z' = zero'.now in
      let o' = one'.now in
      let d = lends z.outgoing z.incoming z.headers z.kept o.outgoing o.incoming o.headers o.kept in
      let d' = lends z'.outgoing z'.incoming z'.headers z'.kept o'.outgoing o'.incoming o'.headers o'.kept in
      let t : MadeTurn = record { turn = r; lends = d'; text = line'.now } in
      let c = run-one.clauses 𝓛 mem run κs x in
      (c.requires tt ≡ ⊤ₛ) × (c.ensures tt r y ≡ (⌜ TurnGoesOn script.now at t ⌝ ∗ ⌜ IsTurn script.now at w d t ⌝))

  pub runs_one : RunOne
  runs_one κs x r y = (refl, refl)
