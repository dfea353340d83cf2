-- Demand 1 in 01's sentences for the C functions, from `ContractsOfC`. A call on valid numbers (not `is_strange`) is the call on the
-- records, whose sentences are those of Calls.antt; its answer as numbers says the same, since valid numbers come back unchanged.
use Prim.Native.Nat.{ℕ, zero, suc, ◌+◌, ◌≤◌, ◌<◌}
use native.Mathlib.Omega.{arith}
use mathlib.Core.Path.{◌≡◌, refl, sym, ap, ◌∙◌}
use mathlib.Core.Option.{none, some}
use mathlib.Core.Bool.{Bool, true, false, cond}
use lib.Dec.{ltb, eqb}
use lib.ListN.{length, get_or}
use borrow.Author.Tests.{ltb-false}
use seplogic.Ra.Ura.{Ura}
use base.Logic.{SProp}
use prog.Memory.{Memory}
use prog.Routine.{Routine}
use types.Logic.{Logic}
use contract.Monad.{Fun}
use Rattle.std.specs.Prelude.{Result, Ok, Err}
use Rattle.error.specs.declared.Refusal.{Refusal}
use Rattle.error.specs.declared.Refusal.TheVariants.{BrokenRecords}
use Rattle.error.specs.declared.Outcome.{Outcome}
use Rattle.error.specs.declared.Outcome.TheVariants as outcome
use Rattle.packet.specs.declared.header.Header.{Header}
use Rattle.packet.specs.Header.{header_bytes, fields, decoded}
use Rattle.model.specs.Lists.{Bytes}
use Rattle.model.specs.Stream.{End}
use Rattle.model.specs.Answers.{Answer}
use Rattle.model.specs.Sending as model
use Rattle.model.specs.Receiving as model_in
use Rattle.model.specs.Driving as model_out
use Rattle.model.specs.Order.{refused_by, undecoded_by}
use Rattle.model.proofs.Slots.{no_some, some_inj}
use Rattle.model_rules.proofs.InvariantCalls.{or_false}
use Rattle.records.specs.declared.Stream.{Stream}
use Rattle.records.specs.declared.Totals.{Totals}
use Rattle.records.specs.declared.«open».Opened.{Opened}
use Rattle.records.specs.Seen.{Lent}
use Rattle.records.specs.Beside.{Beside}
use Rattle.udx_steps.specs.declared.step.Step.{Step}
use Rattle.udx.specs.Agree.{on_records, Agrees, Answers}
use Rattle.udx.specs.Read.{Gives}
use Rattle.udx.specs.Take.{Hands}
use Rattle.udx_c_numbers.specs.declared.structs.FlatStream.{FlatStream}
use Rattle.udx_c_numbers.specs.declared.structs.FlatTotals.{FlatTotals}
use Rattle.udx_c_numbers.specs.declared.structs.FlatStep.{FlatStep}
use Rattle.udx_c_numbers.specs.Bytes.{error_byte, error_of, state_byte, state_of, is_strange, outcome_byte, refusal_byte}
use Rattle.udx_c_numbers.specs.Flat.{stream_of, totals_of, flat_stream, flat_totals, flat_step, flat_opened, broken_step}
use Rattle.udx_c_numbers.proofs.RoundTrip.{comes_back}
use Rattle.udx_c.specs.declared.look.FlatPart.{FlatPart}
use Rattle.udx_c.specs.declared.header.FlatHeader.{FlatHeader}
use Rattle.udx_c.specs.declared.header.FlatDecoded.{FlatDecoded}
use Rattle.udx_c.specs.Coded.{header_of, flat_header, flat_decoded, FlatEncodes}
use Rattle.udx_c.specs.Crosses.{Crosses, FlatOpens}
use Rattle.udx_c.specs.Shown.{flat_part, store_of, bytes_of, Looks}
use Rattle.udx_c.proofs.ShownLaws.{looks_shown}
use Rattle.udx_c_part.specs.Place.{looked_part}
use Rattle.promise_ways.proofs.Contracts.{contracts_of_c}
use Rattle.promise_ways.specs.Calls.{outcome_of, opened_of}
use Rattle.promise_ways.proofs.FromC.{size_back, opened_back, step_known, opened_known, broken_is}
use Rattle.promise_sentences.specs.Answers.{numbers_in_c}
use Rattle.promise_sentences.specs.Calls.{Puts, fresh_numbers, OpenSays, LookShows}
use Rattle.promise_sentences.specs.CallsFromC.{AnswerInNumbers, EquationsInC, RefusedInC, bad_header, DemandOneFromC}
use Rattle.promise_sentences.proofs.Calls.{promises, take_says, read_says, look_shows, open_says, encodes, decodes}

-- valid numbers, turned into records and back, are unchanged

error_there : (n : ℕ) → ltb 3 n ≡ false → error_byte (error_of n) ≡ n
error_there zero h = refl
error_there (suc zero) h = refl
error_there (suc (suc zero)) h = refl
error_there (suc (suc (suc zero))) h = refl
error_there (suc (suc (suc (suc n)))) h = let l = ltb-false 3 (suc (suc (suc (suc n)))) h in absurd (omega arith)

state_there : (n : ℕ) → ltb 3 n ≡ false → state_byte (state_of n) ≡ n
state_there zero h = refl
state_there (suc zero) h = refl
state_there (suc (suc zero)) h = refl
state_there (suc (suc (suc zero))) h = refl
state_there (suc (suc (suc (suc n)))) h = let l = ltb-false 3 (suc (suc (suc (suc n)))) h in absurd (omega arith)

flag_there : (n : ℕ) → ltb 1 n ≡ false → cond (eqb n 1) 1 0 ≡ n
flag_there zero h = refl
flag_there (suc zero) h = refl
flag_there (suc (suc n)) h = let l = ltb-false 1 (suc (suc n)) h in absurd (omega arith)

stream_there : (s : FlatStream) → is_strange s.ending ≡ false → flat_stream (stream_of s) ≡ s
unfolding stream_of flat_stream
stream_there s h =
    let e = s.ending in
    let (error, rest) = or_false (ltb 3 e.error) _ h in
    let (state, flag) = or_false (ltb 3 e.state) _ rest in
    rw (error_there e.error error, state_there e.state state, flag_there e.ended flag) refl

totals_there : (t : FlatTotals) → flat_totals (totals_of t) ≡ t
unfolding totals_of flat_totals
totals_there t = refl

-- an answer as numbers

same_numbers : (a : Answer) (q : Step) (r : FlatStep) (after : Lent) → Agrees a q after → r ≡ flat_step q → AnswerInNumbers a r after
unfolding flat_step
same_numbers a q r after g is =
    record {
      outcome = rw is (ap outcome_byte g.outcome);
      refusal = rw is (ap refusal_byte g.outcome);
      count = rw is g.count;
      segment = rw (is, size_back q.segment g.not_zero) g.segment;
      end = rw (is, comes_back.stream q.stream, comes_back.totals q.totals) g.end;
      known = rw is (step_known q);
    }

-- outcome 4 is a refusal
refused_as : (o : Result Outcome Refusal) → outcome_byte o ≡ 4 → (why : Refusal) × (o ≡ Err why)
refused_as (Ok outcome.Ready) e = absurd (omega arith)
refused_as (Ok outcome.Waiting) e = absurd (omega arith)
refused_as (Ok outcome.Done) e = absurd (omega arith)
refused_as (Ok outcome.Nothing) e = absurd (omega arith)
refused_as (Err why) e = (why, refl)

-- refusals by number
byte_some : {A : Type 0} (o : Result A Refusal) (n : ℕ) → refused_by o ≡ some n → refusal_byte o ≡ n
byte_some (Ok x) n e = absurd (no_some refl e)
byte_some (Err why) n e = some_inj refl e

byte_none : {A : Type 0} (o : Result A Refusal) → refused_by o ≡ none → refusal_byte o ≡ 0
byte_none (Ok x) e = refl
byte_none (Err why) e = absurd (no_some e refl)

bad-header : (d : Result Header Refusal) → undecoded_by d ≡ some 7 → flat_decoded d ≡ bad_header
bad-header (Ok h) e = absurd (no_some refl e)
bad-header (Err why) e =
    ap (λ (n : ℕ). record { header = bad_header.header; outcome = 4; refusal = n }) (some_inj refl e)

-- a call from C

by_known : (s : FlatStream) (P : Type 0) → (is_strange s.ending ≡ false → P) → (is_strange s.ending ≡ true → P) → P
by_known s P known strange = go (is_strange s.ending) refl
  where
    go : (b : Bool) → is_strange s.ending ≡ b → P
    go true e = strange e
    go false e = known e

module _ (call : Stream → Totals → Lent → Step → Lent → Type 0) (s : FlatStream) (t : FlatTotals) (before : Lent) (r : FlatStep) (after : Lent)
    (c : Crosses call s t before r after) where
  equations_in_c : (definition : End → Answer)
      → ((q : Step) → call (stream_of s) (totals_of t) before q after → Agrees (on_records definition (stream_of s) (totals_of t) before) q after)
      → EquationsInC definition s t before r after
  unfolding broken_step
  equations_in_c definition agrees =
      record {
        known = λ k. let d = c.known k in same_numbers _ d.step r after (agrees d.step d.does) d.flat;
        strange = λ k.
            (let is = (c.strange k).answer in (
              ap (λ (z : FlatStep). z.outcome) is,
              ap (λ (z : FlatStep). z.refusal) is,
              ap (λ (z : FlatStep). z.count) is,
              ap (λ (z : FlatStep). z.segment) is,
            ));
      }

  beside_in_c : ((q : Step) → call (stream_of s) (totals_of t) before q after → Beside before after) → Beside before after
  beside_in_c beside =
      by_known s (Beside before after) (λ k. let d = c.known k in beside d.step d.does)
      (λ k. rw (c.strange k).lent (record { outgoing = λ i l. refl; incoming = λ i l. refl }))

  -- what a refused call leaves unchanged on the records is unchanged here
  numbers-in-c : ((q : Step) → call (stream_of s) (totals_of t) before q after → (why : Refusal) → q.outcome ≡ Err why → (q.stream ≡ stream_of s) × (q.totals ≡ totals_of t))
      → r.outcome ≡ 4 → (r.stream ≡ s) × (r.totals ≡ t)
  unfolding broken_step flat_step
  numbers-in-c same four =
      by_known s ((r.stream ≡ s) × (r.totals ≡ t))
      (λ k.
      (let d = c.known k in
      let (why, o) = refused_as d.step.outcome (sym (ap (λ (z : FlatStep). z.outcome) d.flat) ∙ four) in
      let (p, q) = same d.step d.does why o in (
        ap (λ (z : FlatStep). z.stream) d.flat ∙ ap flat_stream p ∙ stream_there s k,
        ap (λ (z : FlatStep). z.totals) d.flat ∙ ap flat_totals q ∙ totals_there t,
      )))
      (λ k. (ap (λ (z : FlatStep). z.stream) (c.strange k).answer, ap (λ (z : FlatStep). z.totals) (c.strange k).answer))

  where_refused : (P : Type 0) → ((q : Step) → call (stream_of s) (totals_of t) before q after → (why : Refusal) → q.outcome ≡ Err why → P)
      → (is_strange s.ending ≡ true → after ≡ before → P) → r.outcome ≡ 4 → P
  unfolding flat_step
  where_refused P known strange four =
      by_known s P
      (λ k.
      (let d = c.known k in
      let (why, o) = refused_as d.step.outcome (sym (ap (λ (z : FlatStep). z.outcome) d.flat) ∙ four) in
      known d.step d.does why o))
      (λ k. strange k (c.strange k).lent)

  where_one : (P : Type 0) → ((q : Step) → call (stream_of s) (totals_of t) before q after → q.outcome ≡ Err BrokenRecords → P)
      → (is_strange s.ending ≡ true → after ≡ before → P) → r.refusal ≡ 1 → P
  unfolding flat_step
  where_one P known strange one =
      by_known s P
      (λ k.
      (let d = c.known k in
      known d.step d.does (broken_is d.step.outcome (sym (ap (λ (z : FlatStep). z.refusal) d.flat) ∙ one))))
      (λ k. strange k (c.strange k).lent)

  counts_in_c : (k : is_strange s.ending ≡ false) → (c.known k).step.count ≡ r.count
  unfolding flat_step
  counts_in_c k = sym (ap (λ (z : FlatStep). z.count) (c.known k).flat)

module _ (s : FlatStream) (t : FlatTotals) (before : Lent) (r : FlatStep) (after : Lent) where
  -- write, deliver, drive and close
  answers_in_c : (definition : End → Answer) → Crosses (Answers definition) s t before r after
      → EquationsInC definition s t before r after × Beside before after × RefusedInC r ((r.stream ≡ s) × (r.totals ≡ t) × (after ≡ before))
  answers_in_c definition c = (
    equations_in_c (Answers definition) s t before r after c definition (λ q d. d.agrees),
    beside_in_c (Answers definition) s t before r after c (λ q d. d.beside),
    λ four.
        (let (p, q) = numbers-in-c (Answers definition) s t before r after c (λ q d why o. let u = d.changes_nothing why o in (u.stream, u.totals)) four in
        (p, q, where_refused (Answers definition) s t before r after c (after ≡ before) (λ q d why o. (d.changes_nothing why o).lent) (λ k same. same) four)),
  )

  write_in_c : (bytes : Bytes) → Crosses (Answers (model.write bytes)) s t before r after
      → EquationsInC (model.write bytes) s t before r after
      × Beside before after
      × RefusedInC r ((r.stream ≡ s) × (r.totals ≡ t) × (after.sent ≡ before.sent) × (after.queue ≡ before.queue) × (after.outgoing ≡ before.outgoing))
  write_in_c bytes c =
      let (equations, beside, refused) = answers_in_c (model.write bytes) c in (
        equations,
        beside,
        λ four.
            (let (p, q, u) = refused four in
            (p, q, ap (λ (l : Lent). l.sent) u, ap (λ (l : Lent). l.queue) u, ap (λ (l : Lent). l.outgoing) u)),
      )

  deliver_in_c : (datagram : Bytes) (clock : ℕ) → Crosses (Answers (model_in.deliver datagram clock)) s t before r after
      → EquationsInC (model_in.deliver datagram clock) s t before r after
      × Beside before after
      × RefusedInC r
      ((r.stream ≡ s)
      × (r.totals ≡ t)
      × (after.sent ≡ before.sent)
      × (after.held ≡ before.held)
      × (after.queue ≡ before.queue)
      × (after.incoming ≡ before.incoming)
      × (after.headers ≡ before.headers))
  deliver_in_c datagram clock c =
      let (equations, beside, refused) = answers_in_c (model_in.deliver datagram clock) c in (
        equations,
        beside,
        λ four.
            (let (p, q, u) = refused four in (
              p,
              q,
              ap (λ (l : Lent). l.sent) u,
              ap (λ (l : Lent). l.held) u,
              ap (λ (l : Lent). l.queue) u,
              ap (λ (l : Lent). l.incoming) u,
              ap (λ (l : Lent). l.headers) u,
            )),
      )

  drive_in_c : (clock : ℕ) → Crosses (Answers (model_out.drive clock)) s t before r after
      → EquationsInC (model_out.drive clock) s t before r after
      × Beside before after
      × RefusedInC r ((r.stream ≡ s) × (r.totals ≡ t) × (after.sent ≡ before.sent) × (after.queue ≡ before.queue) × (after.headers ≡ before.headers))
  drive_in_c clock c =
      let (equations, beside, refused) = answers_in_c (model_out.drive clock) c in (
        equations,
        beside,
        λ four.
            (let (p, q, u) = refused four in
            (p, q, ap (λ (l : Lent). l.sent) u, ap (λ (l : Lent). l.queue) u, ap (λ (l : Lent). l.headers) u)),
      )

  close_in_c : Crosses (Answers model.close) s t before r after
      → EquationsInC model.close s t before r after
      × Beside before after
      × RefusedInC r ((r.stream ≡ s) × (r.totals ≡ t) × (after.queue ≡ before.queue) × (after.headers ≡ before.headers))
  close_in_c c =
      let (equations, beside, refused) = answers_in_c model.close c in (
        equations,
        beside,
        λ four. let (p, q, u) = refused four in (p, q, ap (λ (l : Lent). l.queue) u, ap (λ (l : Lent). l.headers) u),
      )

  module _ (buf buf' : Bytes) where
    abbrev Taken : Stream → Totals → Lent → Step → Lent → Type 0
    Taken s t l q m = Hands s t l buf q m buf'

    abbrev Given : Stream → Totals → Lent → Step → Lent → Type 0
    Given s t l q m = Gives s t l buf q m buf'

    take_in_c : Crosses Taken s t before r after × (is_strange s.ending ≡ true → buf' ≡ buf)
        → EquationsInC (model_out.take (length buf)) s t before r after
        × Beside before after
        × (is_strange s.ending ≡ false → Puts r.count (on_records (model_out.take (length buf)) (stream_of s) (totals_of t) before).bytes buf buf')
        × RefusedInC r ((r.stream ≡ s) × (r.totals ≡ t) × (after.sent ≡ before.sent) × (buf' ≡ buf))
    take_in_c (c, strange) = (
      equations_in_c Taken s t before r after c (model_out.take (length buf)) (λ q d. d.answers.agrees),
      beside_in_c Taken s t before r after c (λ q d. d.answers.beside),
      λ k.
          (let d = c.known k in
          rw (counts_in_c Taken s t before r after c k) at (take_says (stream_of s) (totals_of t) before d.step after buf buf' d.does).1),
      λ four.
          (let (p, q) = numbers-in-c Taken s t before r after c (λ q d why o. let u = d.answers.changes_nothing why o in (u.stream, u.totals)) four in
          let (sent, same) =
          where_refused Taken s t before r after c ((after.sent ≡ before.sent) × (buf' ≡ buf))
          (λ q d why o. let (_, _, sent, same) = (take_says (stream_of s) (totals_of t) before q after buf buf' d).2 why o in (sent, same))
          (λ k same. (ap (λ (l : Lent). l.sent) same, strange k))
          four in
          (p, q, sent, same)),
    )

    read_in_c : Crosses Given s t before r after × (is_strange s.ending ≡ true → buf' ≡ buf)
        → EquationsInC (model_in.read (length buf)) s t before r after
        × (is_strange s.ending ≡ false → Puts r.count (on_records (model_in.read (length buf)) (stream_of s) (totals_of t) before).bytes buf buf')
        × RefusedInC r ((r.stream ≡ s) × (r.totals ≡ t))
        × (r.refusal ≡ 1 → (after.held ≡ before.held) × (buf' ≡ buf))
    read_in_c (c, strange) = (
      equations_in_c Given s t before r after c (model_in.read (length buf)) (λ q d. d.agrees),
      λ k.
          (let d = c.known k in
          rw (counts_in_c Given s t before r after c k) at (read_says (stream_of s) (totals_of t) before d.step after buf buf' d.does).1),
      numbers-in-c Given s t before r after c (λ q d. d.same_numbers),
      where_one Given s t before r after c ((after.held ≡ before.held) × (buf' ≡ buf))
          (λ q d o. (read_says (stream_of s) (totals_of t) before q after buf buf' d).3 o)
          (λ k same. (ap (λ (l : Lent). l.held) same, strange k)),
    )

-- look and open

look_in_c : (s : FlatStream) (t : FlatTotals) (l : Lent) (r : FlatPart) → Looks s t l r
    → (is_strange s.ending ≡ false
    → LookShows (bytes_of r l.outgoing l.headers) (stream_of s) (totals_of t) l
    × (r.start + r.length ≤ length (store_of r l.outgoing l.headers))
    × (r ≡ flat_part (looked_part (stream_of s) (totals_of t) l)))
    × (is_strange s.ending ≡ true → r.length ≡ 0)
look_in_c s t l r d = (
  λ k. (let shown = looks_shown s t l r d k in
      (look_shows (bytes_of r l.outgoing l.headers) (stream_of s) (totals_of t) l shown.bytes, shown.within, d.known k)),
  λ k. ap (λ (p : FlatPart). p.length) (d.strange k),
)

open_in_c : (local remote segments clock : ℕ) (outgoing incoming headers : Bytes) (r : FlatStep) → FlatOpens local remote segments clock outgoing incoming headers r
    → OpenSays local remote segments clock outgoing incoming headers (opened_of r)
    × (r.outcome ≡ 0
    → numbers_in_c r.stream r.totals ≡ fresh_numbers local remote segments clock)
    × (r.outcome ≡ outcome_byte (opened_of r).outcome)
    × (r.refusal ≡ refusal_byte (opened_of r).outcome)
    × (r.count ≡ 0)
    × (r.segment ≡ 0)
    × (is_strange r.stream.ending ≡ false)
unfolding flat_opened stream_of totals_of
open_in_c local remote segments clock outgoing incoming headers r d =
    let back : opened_of r ≡ d.opened = ap opened_of d.flat ∙ opened_back d.opened in
    let says : OpenSays local remote segments clock outgoing incoming headers (opened_of r) =
    open_says local remote segments clock outgoing incoming headers (opened_of r) (rw back d.does) in (
      says,
      λ ok. says.numbers (ap (λ (n : ℕ). outcome_of n r.refusal) ok),
      ap (λ (z : FlatStep). z.outcome) d.flat ∙ sym (ap (λ (o : Opened). outcome_byte o.outcome) back),
      ap (λ (z : FlatStep). z.refusal) d.flat ∙ sym (ap (λ (o : Opened). refusal_byte o.outcome) back),
      ap (λ (z : FlatStep). z.count) d.flat,
      ap (λ (z : FlatStep). z.segment) d.flat,
      ap (λ (z : FlatStep). is_strange z.stream.ending) d.flat ∙ opened_known d.opened,
    )

-- header coding

encode_in_c : (h : FlatHeader) (buf buf' : Bytes) (r : ℕ) → FlatEncodes h buf buf' r
    → (length buf < 20 → (r ≡ 2) × (buf' ≡ buf)) × (20 ≤ length buf → (r ≡ 0) × Puts 20 (header_bytes (header_of h)) buf buf')
encode_in_c h buf buf' r d =
    let (short, long) = encodes (header_of h) buf buf' d.outcome d.does in (
      λ l. let (two, same) = short l in (d.flat ∙ byte_some d.outcome 2 two, same),
      λ l. let (ok, puts) = long l in (d.flat ∙ byte_none d.outcome ok, puts),
    )

decode_in_c : (buf : Bytes) (r : FlatDecoded) → r ≡ flat_decoded (decoded buf)
    → (length buf < 20 → r ≡ bad_header)
    × ((get_or buf 0 0 ≡ 255 → get_or buf 1 0 ≡ 1 → ⊥) → r ≡ bad_header)
    × (20 ≤ length buf → get_or buf 0 0 ≡ 255 → get_or buf 1 0 ≡ 1 → (r.outcome ≡ 0) × (r.refusal ≡ 0) × (r.header ≡ flat_header (fields buf)))
decode_in_c buf r is =
    let (short, other, packet) = decodes buf (decoded buf) refl in (
      λ l. is ∙ bad-header (decoded buf) (short l),
      λ o. is ∙ bad-header (decoded buf) (other o),
      λ long magic version.
          (let whole : r ≡ flat_decoded (Ok (fields buf)) = is ∙ ap flat_decoded (packet long magic version) in
          (ap (λ (z : FlatDecoded). z.outcome) whole, ap (λ (z : FlatDecoded). z.refusal) whole, ap (λ (z : FlatDecoded). z.header) whole)),
    )

-- the functions

pub demand_one_from_c : {M : Type 1} {𝓤 : Ura M} (𝓛 : Logic 𝓤) (mem : Memory → SProp 𝓤) (run : Routine → Fun 𝓤) → DemandOneFromC 𝓛 mem run
demand_one_from_c {𝓤 = 𝓤} 𝓛 mem run =
    let c = contracts_of_c 𝓛 mem run in
    record {
      write = λ κs x r y. promises 𝓤 _ _ _ _ (c.write κs x r y) (write_in_c _ _ _ _ _ _);
      deliver = λ κs x r y. promises 𝓤 _ _ _ _ (c.deliver κs x r y) (deliver_in_c _ _ _ _ _ _ _);
      drive = λ κs x r y. promises 𝓤 _ _ _ _ (c.drive κs x r y) (drive_in_c _ _ _ _ _ _);
      take = λ κs x r y. promises 𝓤 _ _ _ _ (c.take κs x r y) (take_in_c _ _ _ _ _ _ _);
      read = λ κs x r y. promises 𝓤 _ _ _ _ (c.read κs x r y) (read_in_c _ _ _ _ _ _ _);
      close = λ κs x r y. promises 𝓤 _ _ _ _ (c.close κs x r y) (close_in_c _ _ _ _ _);
      look = λ κs x r y. promises 𝓤 _ _ _ _ (c.look κs x r y) (look_in_c _ _ _ _);
      opens = λ κs x r y. promises 𝓤 _ _ _ _ (c.opens κs x r y) (open_in_c _ _ _ _ _ _ _ r);
      encode = λ κs x r y. promises 𝓤 _ _ _ _ (c.encode κs x r y) (encode_in_c _ _ _ r);
      decode = λ κs x r y. promises 𝓤 _ _ _ _ (c.decode κs x r y) (decode_in_c _ r);
      layout_stream = λ κs x r y. promises 𝓤 _ _ _ _ (c.layout_stream κs x r y) (λ e. e);
      layout_totals = λ κs x r y. promises 𝓤 _ _ _ _ (c.layout_totals κs x r y) (λ e. e);
      layout_step = λ κs x r y. promises 𝓤 _ _ _ _ (c.layout_step κs x r y) (λ e. e);
    }
