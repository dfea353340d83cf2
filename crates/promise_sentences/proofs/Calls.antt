-- Demand 1 in 01's sentences: each exported function's contract is its field of `Contracts` word for word, and the sentences follow from
-- it.
use Prim.Native.Nat.{ℕ, ◌+◌, ◌≤◌, ◌<◌}
use native.Mathlib.Omega.{arith}
use mathlib.Core.Path.{◌≡◌, refl, sym, ap, ap₂, ◌∙◌, subst}
use mathlib.Core.List.{List, [], ◌++◌}
use mathlib.Core.Option.{Option, none, some}
use mathlib.Core.Bool.{Bool, true, false}
use lib.Dec.{ltb}
use lib.ListN.{length, take, drop, get_or}
use lib.Seq.{drop-append_seam, take_at, drop_at}
use borrow.Author.Tests.{le-leb, eq-eqb}
use seplogic.Ra.Ura.{Ura}
use base.Logic.{SProp, ent, id⊢, via}
use prog.Memory.{Memory}
use prog.Routine.{Routine}
use types.Logic.{Logic}
use contract.Conj.{top}
use contract.Monad.{Fun, fact_mono}
use contract.Notation.{connectives}
use Rattle.std.specs.Prelude as rust
use Rattle.std.specs.Prelude.{Result, Ok, Err, None, Some, ⊤}
use Rattle.error.specs.Answers.{error_or}
use Rattle.error.specs.declared.UdxError.{UdxError}
use Rattle.error.specs.declared.UdxError.TheVariants as error
use Rattle.error.specs.declared.Refusal.{Refusal}
use Rattle.error.specs.declared.Refusal.TheVariants.{BrokenRecords}
use Rattle.error.specs.declared.Outcome.{Outcome}
use Rattle.error.specs.declared.Outcome.TheVariants.{Ready, Waiting}
use Rattle.packet.specs.declared.header.Header.{Header}
use Rattle.packet.specs.Header.{header_bytes, fields, decoded, Encodes}
use Rattle.packet.specs.Blocks.{Span}
use Rattle.packet.proofs.HeaderLaws.{header_length, encoded_long, encoded_short}
use Rattle.packet.proofs.Blocks.{blocks_next, blocks_end, next_range, next_end}
use Rattle.packet_blocks.specs.declared.Next.{Next}
use Rattle.packet_blocks.specs.Reader.{place_after, read_at}
use Rattle.model.specs.Lists.{Bytes}
use Rattle.model.specs.Slots.{no_slots}
use Rattle.model.specs.Stream.{End, fresh}
use Rattle.model.specs.Answers.{Answer, refused, gate}
use Rattle.model.specs.Rules.{rules}
use Rattle.model.specs.Sending as model
use Rattle.model.specs.Receiving as model_in
use Rattle.model.specs.Driving as model_out
use Rattle.model.specs.Calls.{Call, write_call, deliver_call, drive_call, take_call, read_call, close_call, answer}
use Rattle.model.specs.Order.{refused_by, undecoded_by}
use Rattle.model.proofs.Lists.{by-test}
use Rattle.model.proofs.Gate.{by_gate}
use Rattle.model.proofs.Order.{refusals_in_order}
use Rattle.model.proofs.Slots.{no_some}
use Rattle.records.specs.declared.Stream.{Stream}
use Rattle.records.specs.declared.Totals.{Totals}
use Rattle.records.specs.declared.«open».Opened.{Opened}
use Rattle.records.specs.Put.{put}
use Rattle.records.specs.Seen.{Lent, seen_queue, seen}
use Rattle.records.specs.Beside.{Beside}
use Rattle.records.specs.Open.{fresh_stream, open_why, opened_stream, opened_outcome, Opens}
use Rattle.records.proofs.SeenFresh.{seen_fresh}
use Rattle.udx_steps.specs.declared.step.Step.{Step}
use Rattle.rules_lent.specs.Broken.{lent}
use Rattle.udx.specs.Agree.{laid_out, on_records, Answers}
use Rattle.udx.specs.Look.{shown_of}
use Rattle.udx.specs.Read.{Gives}
use Rattle.udx.specs.Take.{Hands}
use Rattle.promise.proofs.Contracts.{contracts}
use Rattle.promise.proofs.Runs.{take_counts, read_counts, front, open_stands}
use Rattle.promise_sentences.specs.Answers.{numbers_of, numbers_on}
use Rattle.promise_sentences.specs.Calls.{Equations, WhereRefused, Puts, fresh_numbers, OpenSays, LookShows, ReadsBlock, Promises, DemandOne}
use Rattle.promise_sentences.proofs.Answers.{shows}
use Rattle.promise_sentences.proofs.Refusals.{refusal_sentences}

-- an empty `requires` is met, and an `ensures` that contains a fact entails what follows from the fact
module _ {M : Type 1} (𝓤 : Ura M) where
  open connectives 𝓤 use {⌜◌⌝, ⊤ₛ}

  pub promises_by : (requires ensures whole : SProp 𝓤) (did sentence : Type 0) → (requires ≡ ⊤ₛ) × (ensures ≡ whole) → ent 𝓤 whole ⌜ did ⌝ → (did → sentence)
      → Promises 𝓤 requires ensures sentence
  promises_by requires ensures whole did sentence (nothing, is) has f = (
    λ held. subst (λ (p : SProp 𝓤). ent 𝓤 held p) (sym nothing) (top 𝓤 held),
    subst (λ (p : SProp 𝓤). ent 𝓤 p ⌜ sentence ⌝) (sym is) (via 𝓤 ⌜ did ⌝ has (fact_mono 𝓤 did sentence f)),
  )

  pub promises : (requires ensures : SProp 𝓤) (did sentence : Type 0) → (requires ≡ ⊤ₛ) × (ensures ≡ ⌜ did ⌝) → (did → sentence)
      → Promises 𝓤 requires ensures sentence
  promises requires ensures did sentence c f = promises_by requires ensures ⌜ did ⌝ did sentence c (id⊢ 𝓤 ⌜ did ⌝) f

-- buffers

pub put_puts : (count : ℕ) (bytes buf buf' : Bytes) → count ≡ length bytes → buf' ≡ put buf 0 bytes → Puts count bytes buf buf'
unfolding put
put_puts count bytes buf buf' e is =
    let zero-add : 0 + length bytes ≡ length bytes = omega arith in
    record {
      front = rw (e, is) (front buf bytes);
      past = rw (e, is) (drop-append_seam bytes (drop (0 + length bytes) buf) ∙ ap (λ (k : ℕ). drop k buf) zero-add);
    }

put_none : (bytes buf buf' : Bytes) → bytes ≡ [] → buf' ≡ put buf 0 bytes → buf' ≡ buf
unfolding put
put_none bytes buf buf' e is = is ∙ rw e refl

-- a call of the model on records

module _ (call : End → Answer) (s : Stream) (t : Totals) (l : Lent) where
  on_counts : ((e : End) → (call e).count ≡ length (call e).bytes) → (on_records call s t l).count ≡ length (on_records call s t l).bytes
  unfolding on_records
  on_counts h = by-test (λ (a : Answer). a.count ≡ length a.bytes) (laid_out s l) (call (seen s t l)) (refused BrokenRecords (seen s t l)) (λ z. h (seen s t l)) (λ z. refl)

  on_refused : (why : Refusal) → ((e : End) → (call e).outcome ≡ Err why → (call e).bytes ≡ []) → (on_records call s t l).outcome ≡ Err why
      → (on_records call s t l).bytes ≡ []
  unfolding on_records
  on_refused why h = by-test (λ (a : Answer). a.outcome ≡ Err why → a.bytes ≡ []) (laid_out s l) (call (seen s t l)) (refused BrokenRecords (seen s t l)) (λ z. h (seen s t l)) (λ z o. refl)

take_refused : (room : ℕ) (why : Refusal) (e : End) → (model_out.take room e).outcome ≡ Err why → (model_out.take room e).bytes ≡ []
unfolding model_out.take
take_refused room why e =
    by_gate (λ a. a.outcome ≡ Err why → a.bytes ≡ []) (model_out.take_refusal room e) e _ (λ w o. refl)
    (λ clear.
    by-test (λ (a : Answer). a.outcome ≡ Err why → a.bytes ≡ []) (ltb 0 e.queue.left) _ _
    (λ z o. let z : ◌≡◌ {A = ℕ} 0 1 = cc in absurd (omega arith)) (λ z o. refl))

-- refusals 14 to 16 are not refusal 1
error_not_one : (x : rust.Option UdxError) → error_or x Waiting ≡ Err BrokenRecords → ⊥
error_not_one None o = let z : ◌≡◌ {A = ℕ} 0 1 = cc in omega arith
error_not_one (Some error.ConnectionReset) o = let z : ◌≡◌ {A = ℕ} 0 1 = cc in omega arith
error_not_one (Some error.UnexpectedEof) o = let z : ◌≡◌ {A = ℕ} 0 1 = cc in omega arith
error_not_one (Some error.TimedOut) o = let z : ◌≡◌ {A = ℕ} 0 1 = cc in omega arith

read_not_one : (ready : Bool) (e : End) → model_in.read_outcome ready e ≡ Err BrokenRecords → ⊥
read_not_one true e o = let z : ◌≡◌ {A = ℕ} 0 1 = cc in omega arith
read_not_one false e o = error_not_one e.ending.error o

read_refused : (room : ℕ) (e : End) → (model_in.read room e).outcome ≡ Err BrokenRecords → (model_in.read room e).bytes ≡ []
unfolding model_in.read
read_refused room e =
    by_gate (λ a. a.outcome ≡ Err BrokenRecords → a.bytes ≡ []) (model_in.read_refusal e) e _ (λ w o. refl) (λ clear o. absurd (read_not_one (model_in.read_next room e.receiver).ready e o))

-- the calls on records

module _ (s : Stream) (t : Totals) (before : Lent) (r : Step) (after : Lent) where
  pub write_says : (bytes : Bytes) → Answers (model.write bytes) s t before r after
      → Equations (model.write bytes) s t before r after
      × Beside before after
      × WhereRefused r.outcome
      ((r.stream ≡ s) × (r.totals ≡ t) × (after.sent ≡ before.sent) × (after.queue ≡ before.queue) × (after.outgoing ≡ before.outgoing))
  write_says bytes d = (
    d.agrees,
    d.beside,
    λ why o.
        (let u = d.changes_nothing why o in
        (u.stream, u.totals, ap (λ (l : Lent). l.sent) u.lent, ap (λ (l : Lent). l.queue) u.lent, ap (λ (l : Lent). l.outgoing) u.lent)),
  )

  pub deliver_says : (datagram : Bytes) (clock : ℕ) → Answers (model_in.deliver datagram clock) s t before r after
      → Equations (model_in.deliver datagram clock) s t before r after
      × Beside before after
      × WhereRefused r.outcome
      ((r.stream ≡ s)
      × (r.totals ≡ t)
      × (after.sent ≡ before.sent)
      × (after.held ≡ before.held)
      × (after.queue ≡ before.queue)
      × (after.incoming ≡ before.incoming)
      × (after.headers ≡ before.headers))
  deliver_says datagram clock d = (
    d.agrees,
    d.beside,
    λ why o.
        (let u = d.changes_nothing why o in (
          u.stream,
          u.totals,
          ap (λ (l : Lent). l.sent) u.lent,
          ap (λ (l : Lent). l.held) u.lent,
          ap (λ (l : Lent). l.queue) u.lent,
          ap (λ (l : Lent). l.incoming) u.lent,
          ap (λ (l : Lent). l.headers) u.lent,
        )),
  )

  pub drive_says : (clock : ℕ) → Answers (model_out.drive clock) s t before r after
      → Equations (model_out.drive clock) s t before r after
      × Beside before after
      × WhereRefused r.outcome
      ((r.stream ≡ s) × (r.totals ≡ t) × (after.sent ≡ before.sent) × (after.queue ≡ before.queue) × (after.headers ≡ before.headers))
  drive_says clock d = (
    d.agrees,
    d.beside,
    λ why o.
        (let u = d.changes_nothing why o in
        (u.stream, u.totals, ap (λ (l : Lent). l.sent) u.lent, ap (λ (l : Lent). l.queue) u.lent, ap (λ (l : Lent). l.headers) u.lent)),
  )

  pub close_says : Answers model.close s t before r after
      → Equations model.close s t before r after
      × Beside before after
      × WhereRefused r.outcome ((r.stream ≡ s) × (r.totals ≡ t) × (after.queue ≡ before.queue) × (after.headers ≡ before.headers))
  close_says d = (
    d.agrees,
    d.beside,
    λ why o.
        (let u = d.changes_nothing why o in (u.stream, u.totals, ap (λ (l : Lent). l.queue) u.lent, ap (λ (l : Lent). l.headers) u.lent)),
  )

  module _ (buf buf' : Bytes) where
    take_puts : Hands s t before buf r after buf' → Puts r.count (on_records (model_out.take (length buf)) s t before).bytes buf buf'
    take_puts d =
        put_puts r.count _ buf buf' (d.answers.agrees.count ∙ on_counts (model_out.take (length buf)) s t before (take_counts (length buf))) d.bytes

    take_keeps : Hands s t before buf r after buf' → (why : Refusal) → r.outcome ≡ Err why → buf' ≡ buf
    take_keeps d why o =
        put_none _ buf buf'
        (on_refused (model_out.take (length buf)) s t before why (take_refused (length buf) why) (sym d.answers.agrees.outcome ∙ o)) d.bytes

    pub take_says : Hands s t before buf r after buf'
        → Equations (model_out.take (length buf)) s t before r after
        × Puts r.count (on_records (model_out.take (length buf)) s t before).bytes buf buf'
        × WhereRefused r.outcome ((r.stream ≡ s) × (r.totals ≡ t) × (after.sent ≡ before.sent) × (buf' ≡ buf))
    take_says d = (
      d.answers.agrees,
      take_puts d,
      λ why o. let u = d.answers.changes_nothing why o in (u.stream, u.totals, ap (λ (l : Lent). l.sent) u.lent, take_keeps d why o),
    )

    read_puts : Gives s t before buf r after buf' → Puts r.count (on_records (model_in.read (length buf)) s t before).bytes buf buf'
    read_puts d = put_puts r.count _ buf buf' (d.agrees.count ∙ on_counts (model_in.read (length buf)) s t before (read_counts (length buf))) d.bytes

    read_keeps : Gives s t before buf r after buf' → r.outcome ≡ Err BrokenRecords → buf' ≡ buf
    read_keeps d o =
        put_none _ buf buf'
        (on_refused (model_in.read (length buf)) s t before BrokenRecords (read_refused (length buf)) (sym d.agrees.outcome ∙ o)) d.bytes

    pub read_says : Gives s t before buf r after buf'
        → Equations (model_in.read (length buf)) s t before r after
        × Puts r.count (on_records (model_in.read (length buf)) s t before).bytes buf buf'
        × WhereRefused r.outcome ((r.stream ≡ s) × (r.totals ≡ t))
        × (r.outcome ≡ Err BrokenRecords → (after.held ≡ before.held) × (buf' ≡ buf))
    read_says d = (
      d.agrees,
      read_puts d,
      d.same_numbers,
      λ o. (ap (λ (l : Lent). l.held) (d.changes_nothing o).lent, read_keeps d o),
    )

-- look

pub look_shows : (shown : Bytes) (s : Stream) (t : Totals) (l : Lent) → shown ≡ shown_of s t l → LookShows shown s t l
unfolding shown_of model_out.look
look_shows shown s t l is =
    record {
      next = λ laid ok. shows shown (seen s t l) ok (is ∙ rw laid refl);
      not_laid_out = λ no. is ∙ rw no refl;
      broken = λ no. is ∙ by-test (λ (z : Bytes). z ≡ []) (laid_out s l) _ _ (λ z. rw no refl) (λ z. refl);
    }

-- open

pub opens_fresh : (local remote segments clock : ℕ) (outgoing incoming headers : Bytes) (r : Opened) → Opens local remote segments clock outgoing incoming headers r
    → r.outcome ≡ Ok Ready
    → numbers_on r.stream r.totals ≡ fresh_numbers local remote segments clock
unfolding seen_queue seen fresh
opens_fresh local remote segments clock outgoing incoming headers r does ready =
    let l = lent [] [] [] outgoing incoming headers in
    ap numbers_of (open_stands local remote segments clock l r (record { opens = does; ready = ready })).end

refused-open : (why : Option Refusal) (not : Refusal) (s : Stream) → opened_outcome why ≡ Err not → opened_stream why s ≡ fresh_stream 0 0 0 0
refused-open none not s o = let z : ◌≡◌ {A = ℕ} 0 1 = cc in absurd (omega arith)
refused-open (some why) not s o = refl

unless_refused : (why : Option Refusal) → refused_by (opened_outcome why) ≡ none → opened_outcome why ≡ Ok Ready
unless_refused none h = refl
unless_refused (some why) h = absurd (no_some h refl)

-- a segment ceiling of 0 breaks a rule
no_ceiling : rules (fresh 0 0 0 0) ≡ false
unfolding rules fresh no_slots
no_ceiling = refl

broken_call : (c : Call) (e : End) → rules e ≡ false → (answer c e).outcome ≡ Err BrokenRecords
unfolding model.write model.write_refusal model_in.deliver model_in.deliver_refusal model_out.drive model_out.drive_refusal model_out.take model_out.take_refusal model_in.read model_in.read_refusal model.close model.close_refusal gate
broken_call (write_call bytes) e h = rw h refl
broken_call (deliver_call datagram clock) e h = rw h refl
broken_call (drive_call clock) e h = rw h refl
broken_call (take_call room) e h = rw h refl
broken_call (read_call room) e h = rw h refl
broken_call close_call e h = rw h refl

broken_on : (c : Call) (s : Stream) (t : Totals) (l : Lent) → rules (seen s t l) ≡ false → refused_by (on_records (answer c) s t l).outcome ≡ some 1
unfolding on_records
broken_on c s t l h =
    by-test (λ (a : Answer). refused_by a.outcome ≡ some 1) (laid_out s l) (answer c (seen s t l)) (refused BrokenRecords (seen s t l))
    (λ z. ap refused_by (broken_call c (seen s t l) h)) (λ z. refl)

pub open_says : (local remote segments clock : ℕ) (outgoing incoming headers : Bytes) (r : Opened) → Opens local remote segments clock outgoing incoming headers r
    → OpenSays local remote segments clock outgoing incoming headers r
unfolding seen seen_queue fresh
open_says local remote segments clock outgoing incoming headers r does =
    let why = open_why segments clock outgoing incoming headers in
    let unused : (n : Refusal) → r.outcome ≡ Err n → (l : Lent) → seen r.stream r.totals l ≡ fresh 0 0 0 0 =
    λ n o l.
    ap₂ (λ (s : Stream) (t : Totals). seen s t l)
    (does.stream ∙ refused-open why n (fresh_stream local remote segments clock) (sym does.outcome ∙ o))
    does.totals
    ∙ seen_fresh 0 0 0 0 l (omega arith) in
    record {
      in_order = refusal_sentences.open_in_order local remote segments clock outgoing incoming headers r does;
      ready = λ h. does.outcome ∙ unless_refused why (sym (ap refused_by does.outcome) ∙ h);
      numbers = opens_fresh local remote segments clock outgoing incoming headers r does;
      empty = λ ready sent held queue.
          (open_stands local remote segments clock (lent sent held queue outgoing incoming headers) r (record { opens = does; ready = ready })).end;
      refused = λ n o. ap numbers_of (unused n o (lent [] [] [] outgoing incoming headers));
      unusable = λ n o c l. broken_on c r.stream r.totals l (ap rules (unused n o l) ∙ no_ceiling);
    }

-- header coding and blocks

pub encodes : (h : Header) (buf buf' : Bytes) (r : Result ⊤ Refusal) → Encodes h buf buf' r
    → (length buf < 20 → (refused_by r ≡ some 2) × (buf' ≡ buf)) × (20 ≤ length buf → (refused_by r ≡ none) × Puts 20 (header_bytes h) buf buf')
encodes h buf buf' r d = (
  λ short. (refusals_in_order.encode_short h buf buf' r d short, d.buffer ∙ encoded_short h buf short),
  λ long.
      (let is : buf' ≡ header_bytes h ++ drop 20 buf = d.buffer ∙ encoded_long h buf long in (
        refusals_in_order.encode_long h buf buf' r d long,
        record {
          front = rw is (take_at (header_bytes h) (drop 20 buf) 20 (header_length h));
          past = rw is (drop_at (header_bytes h) (drop 20 buf) 20 (header_length h));
        },
      )),
)

header_decoded : (buf : Bytes) → 20 ≤ length buf → get_or buf 0 0 ≡ 255 → get_or buf 1 0 ≡ 1 → decoded buf ≡ Ok (fields buf)
unfolding decoded
header_decoded buf long magic version = rw (le-leb 20 (length buf) long, eq-eqb (get_or buf 0 0) 255 magic, eq-eqb (get_or buf 1 0) 1 version) refl

pub decodes : (buf : Bytes) (r : Result Header Refusal) → r ≡ decoded buf
    → (length buf < 20 → undecoded_by r ≡ some 7)
    × ((get_or buf 0 0 ≡ 255 → get_or buf 1 0 ≡ 1 → ⊥) → undecoded_by r ≡ some 7)
    × (20 ≤ length buf → get_or buf 0 0 ≡ 255 → get_or buf 1 0 ≡ 1 → r ≡ Ok (fields buf))
decodes buf r is = (
  λ short. ap undecoded_by is ∙ refusals_in_order.decode_short buf short,
  λ other. ap undecoded_by is ∙ refusals_in_order.decode_other buf other,
  λ long magic version. is ∙ header_decoded buf long magic version,
)

reads_block : (payload : Bytes) (at : ℕ) (r : Next) → r ≡ read_at payload at → ReadsBlock payload at r
reads_block payload at r is =
    record {
      block = λ more. (
        ap (λ (z : Next). z.block) is ∙ sym (next_range payload at more refl refl),
        ap (λ (z : Next). z.at) is ∙ ap (λ (bs : List Span). place_after bs at) (blocks_next payload at more),
      );
      none_left = λ none. (
        ap (λ (z : Next). z.block) is ∙ sym (next_end payload at none),
        ap (λ (z : Next). z.at) is ∙ ap (λ (bs : List Span). place_after bs at) (blocks_end payload at none),
      );
    }

-- the functions

pub demand_one : {M : Type 1} {𝓤 : Ura M} (𝓛 : Logic 𝓤) (mem : Memory → SProp 𝓤) (run : Routine → Fun 𝓤) → DemandOne 𝓛 mem run
demand_one {𝓤 = 𝓤} 𝓛 mem run =
    let c = contracts 𝓛 mem run in
    record {
      write = λ κs x r y. promises 𝓤 _ _ _ _ (c.write κs x r y) (write_says _ _ _ _ _ _);
      deliver = λ κs x r y. promises 𝓤 _ _ _ _ (c.deliver κs x r y) (deliver_says _ _ _ _ _ _ _);
      drive = λ κs x r y. promises 𝓤 _ _ _ _ (c.drive κs x r y) (drive_says _ _ _ _ _ _);
      take = λ κs x r y. promises 𝓤 _ _ _ _ (c.take κs x r y) (take_says _ _ _ _ _ _ _);
      read = λ κs x r y. promises 𝓤 _ _ _ _ (c.read κs x r y) (read_says _ _ _ _ _ _ _);
      close = λ κs x r y. promises 𝓤 _ _ _ _ (c.close κs x r y) (close_says _ _ _ _ _);
      look = λ κs x r y. promises 𝓤 _ _ _ _ (c.look κs x r y) (look_shows _ _ _ _);
      opens = λ κs x r y. promises 𝓤 _ _ _ _ (c.opens κs x r y) (open_says _ _ _ _ _ _ _ r);
      encode = λ κs x r y. promises 𝓤 _ _ _ _ (c.encode κs x r y) (encodes _ _ _ r);
      decode = λ κs x r y. promises 𝓤 _ _ _ _ (c.decode κs x r y) (decodes _ r);
      next-at = λ κs x r y. promises 𝓤 _ _ _ _ (c.next-at κs x r y) (reads_block _ _ r);
      read-from = λ κs x r y. promises 𝓤 _ _ _ _ (c.read-from κs x r y) (reads_block _ _ r);
      new_reader = λ κs x r y. promises 𝓤 _ _ _ _ (c.new_reader κs x r y) (λ (p, q). (ap (λ x. x.now) p, q));
      moved_reader = λ κs x r y. promises 𝓤 _ _ _ _ (c.moved_reader κs x r y) (λ (p, q). (ap (λ x. x.now) p, q));
      next-block = λ κs x r y. promises 𝓤 _ _ _ _ (c.next-block κs x r y) (reads_block _ _ r);
    }
