-- 'The session program' in 01's sentences: the ends it runs and one turn of it, from the contracts of `fresh_end`, `open_ends` and
-- `run_one` word for word (`FreshEnd`, `OpensEnds` and `RunOne`, session_turn/proofs/Contracts.antt). Statements only: the proofs are in
-- proofs/Sessions.antt.
use Rattle.std.specs.Prelude.{◌≤◌, ◌<◌, ◌≡◌, [], false, length, take, replicate}
use seplogic.Ra.Ura.{Ura}
use base.Logic.{SProp}
use prog.Memory.{Memory}
use prog.Routine.{Routine}
use types.Logic.{Logic}
use contract.Lifetimes.{Lfts}
use contract.Monad.{Fun}
use denote.Triple.Entry.{Args, Res}
use denote.Triple.Clauses.{AtExit}
use Rattle.model.specs.Lists.{Bytes}
use Rattle.records.specs.Open.{stores_test}
use Rattle.session_kept.specs.Kept.{kept_of}
use Rattle.session_ends.specs.contracts.fresh_end as fresh
use Rattle.session_commands.specs.Acts.{LaidEnd}
use Rattle.session_turn.specs.Session.{turn}
use Rattle.session_turn.specs.Turned.{lends, sides_of}
use Rattle.session_turn.specs.contracts.open_ends as open-ends
use Rattle.session_turn.specs.contracts.run_one as run-one
use Rattle.promise_sentences.specs.Answers.{numbers_on}
use Rattle.promise_sentences.specs.Calls.{fresh_numbers, Promises}

module _ {M : Type 1} {𝓤 : Ura M} (𝓛 : Logic 𝓤) (mem : Memory → SProp 𝓤) (run : Routine → Fun 𝓤) where
  -- "opened at clock 0 with ceiling 10", over stores of 01's lengths; none of its datagrams is kept yet
  abbrev pub Ends : Type 2
  Ends =
      (κs : Lfts 3) (x : Args fresh.signature κs) (r : Res fresh.signature κs) (y : AtExit fresh.ended κs)
      → let (local, (remote, (outgoing, (incoming, (headers, _))))) = x in
      let c = fresh.clauses 𝓛 mem run κs x in
      Promises 𝓤 (c.requires tt) (c.ensures tt r y)
      (stores_test outgoing.now incoming.now headers.now ≡ false
      → (numbers_on r.stream r.totals ≡ fresh_numbers local remote 10 0)
      × (r.sent ≡ replicate 64 0)
      × (r.held ≡ replicate 32 0)
      × (r.queue ≡ replicate 128 0)
      × ((store : Bytes) → kept_of r.kept store ≡ []))

  -- "ends 0 (id 1) and 1 (id 2), opened at clock 0 with ceiling 10": the two that the program runs, over its own stores
  abbrev pub Opening : Type 2
  Opening =
      (κs : Lfts 6) (x : Args open-ends.signature κs) (r : Res open-ends.signature κs) (y : AtExit open-ends.ended κs)
      → let c = open-ends.clauses 𝓛 mem run κs x in
      Promises 𝓤 (c.requires tt) (c.ensures tt r y)
      ((numbers_on r.zero.stream r.zero.totals ≡ fresh_numbers 1 2 10 0) × (numbers_on r.one.stream r.one.totals ≡ fresh_numbers 2 1 10 0))

  -- a turn advances in the script and puts the line that the definition has for it
  abbrev pub Turns : Type 2
  Turns =
      (κs : Lfts 5) (x : Args run-one.signature κs) (r : Res run-one.signature κs) (y : AtExit run-one.ended κs)
      → let (w, (script, (at, (zero, (one, (_, (_, _))))))) = x in
      let (_, (_, (_, (_, (_, (_, (line', _))))))) = y in
      let z = zero.now in
      let o = one.now in
      let d = lends z.outgoing z.incoming z.headers z.kept o.outgoing o.incoming o.headers o.kept in
      let c = run-one.clauses 𝓛 mem run κs x in
      Promises 𝓤 (c.requires tt) (c.ensures tt r y) (at < length script.now → (at < r.next) × (r.next ≤ length script.now))
      × Promises 𝓤 (c.requires tt) (c.ensures tt r y)
      (at < length script.now
      → LaidEnd w.zero d.zero
      → LaidEnd w.one d.one
      → (take r.len line'.now ≡ (turn script.now at (sides_of w d)).line) × (r.next ≡ (turn script.now at (sides_of w d)).next))

  pub record SessionSentences : Type 2 where
    pub ends : Ends
    pub opening : Opening
    pub turns : Turns
