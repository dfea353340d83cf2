-- Demand 1 in 01's sentences for the C functions: as in Calls.antt, each from the function's field of `ContractsOfC`
-- (promise_ways/specs/Contracts.antt), in the numbers that a caller in C or Rust has. Numbers that are no valid error, close state or flag
-- (`is_strange`) are broken records. Statements only: the proofs are in proofs/CallsFromC.antt.
use Rattle.std.specs.Prelude.{◌+◌, ◌≤◌, ◌<◌, ◌≡◌, ◌++◌, true, false, length, get_or, replicate}
use seplogic.Ra.Ura.{Ura}
use base.Logic.{SProp}
use prog.Memory.{Memory}
use prog.Routine.{Routine}
use types.Logic.{Logic}
use contract.Lifetimes.{Lfts}
use contract.Monad.{Fun}
use denote.Triple.Entry.{Args, Res}
use denote.Triple.Clauses.{AtExit}
use Rattle.packet.specs.Header.{header_bytes, fields}
use Rattle.model.specs.Stream.{End}
use Rattle.model.specs.Answers.{Answer}
use Rattle.model.specs.Sending as model
use Rattle.model.specs.Receiving as model_in
use Rattle.model.specs.Driving as model_out
use Rattle.records.specs.Seen.{Lent, seen}
use Rattle.records.specs.Beside.{Beside}
use Rattle.rules_lent.specs.Broken.{lent}
use Rattle.udx.specs.Agree.{on_records, segment_of}
use Rattle.udx_c_numbers.specs.declared.structs.FlatStream.{FlatStream}
use Rattle.udx_c_numbers.specs.declared.structs.FlatTotals.{FlatTotals}
use Rattle.udx_c_numbers.specs.declared.structs.FlatStep.{FlatStep}
use Rattle.udx_c_numbers.specs.Bytes.{is_strange, outcome_byte, refusal_byte}
use Rattle.udx_c_numbers.specs.Flat.{stream_of, totals_of}
use Rattle.udx_c.specs.declared.header.FlatDecoded.{FlatDecoded}
use Rattle.udx_c.specs.Coded.{header_of, flat_header}
use Rattle.udx_c.specs.Layout.{stream_fields, totals_fields, step_fields, count_from}
use Rattle.udx_c_part.specs.Place.{looked_part}
use Rattle.udx_c.specs.Shown.{flat_part, store_of, bytes_of}
use Rattle.udx_c.specs.contracts.udx_write as write
use Rattle.udx_c.specs.contracts.udx_deliver as deliver
use Rattle.udx_c.specs.contracts.udx_drive as drive
use Rattle.udx_c.specs.contracts.udx_take as take
use Rattle.udx_c.specs.contracts.udx_read as read
use Rattle.udx_c.specs.contracts.udx_close as close
use Rattle.udx_c.specs.contracts.udx_look as look
use Rattle.udx_c.specs.contracts.udx_open as opening
use Rattle.udx_c.specs.contracts.udx_encode as encode
use Rattle.udx_c.specs.contracts.udx_decode as decode
use Rattle.udx_c.specs.contracts.udx_layout_stream as layout_stream
use Rattle.udx_c.specs.contracts.udx_layout_totals as layout_totals
use Rattle.udx_c.specs.contracts.udx_layout_step as layout_step
use Rattle.promise_ways.specs.Calls.{size_of, opened_of}
use Rattle.promise_sentences.specs.Answers.{numbers_in_c}
use Rattle.promise_sentences.specs.Calls.{Puts, fresh_numbers, OpenSays, LookShows, Promises}

-- the model's answer as numbers; its end is what is seen of the records that the returned numbers stand for
pub record AnswerInNumbers (a : Answer) (r : FlatStep) (after : Lent) : Type 0 where
  pub outcome : r.outcome ≡ outcome_byte a.outcome
  pub refusal : r.refusal ≡ refusal_byte a.outcome
  pub count : r.count ≡ a.count
  pub segment : segment_of (size_of r.segment) ≡ a.segment
  pub end : seen (stream_of r.stream) (totals_of r.totals) after ≡ a.end
  pub known : is_strange r.stream.ending ≡ false

-- "Every exported function's result, stream, totals and store bytes are equations in the call's inputs, for refused calls too"
pub record EquationsInC (call : End → Answer) (s : FlatStream) (t : FlatTotals) (before : Lent) (r : FlatStep) (after : Lent) : Type 0 where
  pub known : is_strange s.ending ≡ false → AnswerInNumbers (on_records call (stream_of s) (totals_of t) before) r after
  -- refusal 1: "a rule of the records is broken"
  pub strange : is_strange s.ending ≡ true → (r.outcome ≡ 4) × (r.refusal ≡ 1) × (r.count ≡ 0) × (r.segment ≡ 0)

-- "Each returns its number and changes nothing": outcome 4 is a refusal
abbrev pub RefusedInC : FlatStep → Type 0 → Type 0
RefusedInC r unchanged = r.outcome ≡ 4 → unchanged

-- a header refused with 7 is all 0
abbrev pub bad_header : FlatDecoded
bad_header =
    record { header = record { stream_id = 0; recv_win = 0; seq = 0; ack = 0; typ = 0; data_offset = 0 }; outcome = 4; refusal = 7 }

module _ {M : Type 1} {𝓤 : Ura M} (𝓛 : Logic 𝓤) (mem : Memory → SProp 𝓤) (run : Routine → Fun 𝓤) where
  abbrev pub Write : Type 2
  Write =
      (κs : Lfts 7) (x : Args write.signature κs) (r : Res write.signature κs) (y : AtExit write.ended κs)
      → let (s, (t, (sent, (held, (queue, (outgoing, (incoming, (headers, (bytes, _))))))))) = x in
      let (_, (_, (sent', (_, (queue', (outgoing', (_, (_, (_, _))))))))) = y in
      let before = lent sent.now held.now queue.now outgoing.now incoming.now headers.now in
      let after = lent sent'.now held.now queue'.now outgoing'.now incoming.now headers.now in
      let c = write.clauses 𝓛 mem run κs x in
      Promises 𝓤 (c.requires tt) (c.ensures tt r y)
      (EquationsInC (model.write bytes.now) s t before r after
      × Beside before after
      × RefusedInC r ((r.stream ≡ s) × (r.totals ≡ t) × (sent'.now ≡ sent.now) × (queue'.now ≡ queue.now) × (outgoing'.now ≡ outgoing.now)))

  abbrev pub Deliver : Type 2
  Deliver =
      (κs : Lfts 7) (x : Args deliver.signature κs) (r : Res deliver.signature κs) (y : AtExit deliver.ended κs)
      → let (s, (t, (sent, (held, (queue, (outgoing, (incoming, (headers, (datagram, (clock, _)))))))))) = x in
      let (_, (_, (sent', (held', (queue', (_, (incoming', (headers', (_, (_, _)))))))))) = y in
      let before = lent sent.now held.now queue.now outgoing.now incoming.now headers.now in
      let after = lent sent'.now held'.now queue'.now outgoing.now incoming'.now headers'.now in
      let c = deliver.clauses 𝓛 mem run κs x in
      Promises 𝓤 (c.requires tt) (c.ensures tt r y)
      (EquationsInC (model_in.deliver datagram.now clock) s t before r after
      × Beside before after
      × RefusedInC r
      ((r.stream ≡ s)
      × (r.totals ≡ t)
      × (sent'.now ≡ sent.now)
      × (held'.now ≡ held.now)
      × (queue'.now ≡ queue.now)
      × (incoming'.now ≡ incoming.now)
      × (headers'.now ≡ headers.now)))

  abbrev pub Drive : Type 2
  Drive =
      (κs : Lfts 6) (x : Args drive.signature κs) (r : Res drive.signature κs) (y : AtExit drive.ended κs)
      → let (s, (t, (sent, (held, (queue, (outgoing, (incoming, (headers, (clock, _))))))))) = x in
      let (_, (_, (sent', (_, (queue', (_, (_, (headers', (_, _))))))))) = y in
      let before = lent sent.now held.now queue.now outgoing.now incoming.now headers.now in
      let after = lent sent'.now held.now queue'.now outgoing.now incoming.now headers'.now in
      let c = drive.clauses 𝓛 mem run κs x in
      Promises 𝓤 (c.requires tt) (c.ensures tt r y)
      (EquationsInC (model_out.drive clock) s t before r after
      × Beside before after
      × RefusedInC r ((r.stream ≡ s) × (r.totals ≡ t) × (sent'.now ≡ sent.now) × (queue'.now ≡ queue.now) × (headers'.now ≡ headers.now)))

  abbrev pub Take : Type 2
  Take =
      (κs : Lfts 7) (x : Args take.signature κs) (r : Res take.signature κs) (y : AtExit take.ended κs)
      → let (s, (t, (sent, (held, (queue, (outgoing, (incoming, (headers, (buf, _))))))))) = x in
      let (_, (_, (sent', (_, (_, (_, (_, (_, (buf', _))))))))) = y in
      let before = lent sent.now held.now queue.now outgoing.now incoming.now headers.now in
      let after = lent sent'.now held.now queue.now outgoing.now incoming.now headers.now in
      let c = take.clauses 𝓛 mem run κs x in
      Promises 𝓤 (c.requires tt) (c.ensures tt r y)
      (EquationsInC (model_out.take (length buf.now)) s t before r after
      × Beside before after
      × (is_strange s.ending ≡ false
      → Puts r.count (on_records (model_out.take (length buf.now)) (stream_of s) (totals_of t) before).bytes buf.now buf'.now)
      × RefusedInC r ((r.stream ≡ s) × (r.totals ≡ t) × (sent'.now ≡ sent.now) × (buf'.now ≡ buf.now)))

  -- "except that a read with 14 to 16 keeps the bytes it put and its new place": its numbers and totals stay too
  abbrev pub Read : Type 2
  Read =
      (κs : Lfts 7) (x : Args read.signature κs) (r : Res read.signature κs) (y : AtExit read.ended κs)
      → let (s, (t, (sent, (held, (queue, (outgoing, (incoming, (headers, (buf, _))))))))) = x in
      let (_, (_, (_, (held', (_, (_, (_, (_, (buf', _))))))))) = y in
      let before = lent sent.now held.now queue.now outgoing.now incoming.now headers.now in
      let after = lent sent.now held'.now queue.now outgoing.now incoming.now headers.now in
      let c = read.clauses 𝓛 mem run κs x in
      Promises 𝓤 (c.requires tt) (c.ensures tt r y)
      (EquationsInC (model_in.read (length buf.now)) s t before r after
      × (is_strange s.ending ≡ false
      → Puts r.count (on_records (model_in.read (length buf.now)) (stream_of s) (totals_of t) before).bytes buf.now buf'.now)
      × RefusedInC r ((r.stream ≡ s) × (r.totals ≡ t))
      × (r.refusal ≡ 1 → (held'.now ≡ held.now) × (buf'.now ≡ buf.now)))

  abbrev pub Close : Type 2
  Close =
      (κs : Lfts 6) (x : Args close.signature κs) (r : Res close.signature κs) (y : AtExit close.ended κs)
      → let (s, (t, (sent, (held, (queue, (outgoing, (incoming, (headers, _)))))))) = x in
      let (_, (_, (_, (_, (queue', (_, (_, (headers', _)))))))) = y in
      let before = lent sent.now held.now queue.now outgoing.now incoming.now headers.now in
      let after = lent sent.now held.now queue'.now outgoing.now incoming.now headers'.now in
      let c = close.clauses 𝓛 mem run κs x in
      Promises 𝓤 (c.requires tt) (c.ensures tt r y)
      (EquationsInC model.close s t before r after
      × Beside before after
      × RefusedInC r ((r.stream ≡ s) × (r.totals ≡ t) × (queue'.now ≡ queue.now) × (headers'.now ≡ headers.now)))

  -- look: "shown as a part of the outgoing store or of the header store": which, where it starts, and how long it is
  abbrev pub Look : Type 2
  Look =
      (κs : Lfts 6) (x : Args look.signature κs) (r : Res look.signature κs) (y : AtExit look.ended κs)
      → let (s, (t, (sent, (held, (queue, (outgoing, (incoming, (headers, _)))))))) = x in
      let l = lent sent.now held.now queue.now outgoing.now incoming.now headers.now in
      let c = look.clauses 𝓛 mem run κs x in
      Promises 𝓤 (c.requires tt) (c.ensures tt r y)
      ((is_strange s.ending ≡ false
      → LookShows (bytes_of r outgoing.now headers.now) (stream_of s) (totals_of t) l
      × (r.start + r.length ≤ length (store_of r outgoing.now headers.now))
      × (r ≡ flat_part (looked_part (stream_of s) (totals_of t) l)))
      × (is_strange s.ending ≡ true → r.length ≡ 0))

  -- the same as for open on the records that the numbers stand for; outcome 0 is ok
  abbrev pub Open : Type 2
  Open =
      (κs : Lfts 3) (x : Args opening.signature κs) (r : Res opening.signature κs) (y : AtExit opening.ended κs)
      → let (local, (remote, (segments, (clock, (outgoing, (incoming, (headers, _))))))) = x in
      let c = opening.clauses 𝓛 mem run κs x in
      Promises 𝓤 (c.requires tt) (c.ensures tt r y)
      (OpenSays local remote segments clock outgoing.now incoming.now headers.now (opened_of r)
      × (r.outcome ≡ 0
      → numbers_in_c r.stream r.totals ≡ fresh_numbers local remote segments clock)
      × (r.outcome ≡ outcome_byte (opened_of r).outcome)
      × (r.refusal ≡ refusal_byte (opened_of r).outcome)
      × (r.count ≡ 0)
      × (r.segment ≡ 0)
      × (is_strange r.stream.ending ≡ false))

  -- header coding: refusals 2 and 7 by number, otherwise 0

  abbrev pub Encode : Type 2
  Encode =
      (κs : Lfts 1) (x : Args encode.signature κs) (r : Res encode.signature κs) (y : AtExit encode.ended κs)
      → let (h, (buf, _)) = x in
      let (_, (buf', _)) = y in
      let c = encode.clauses 𝓛 mem run κs x in
      Promises 𝓤 (c.requires tt) (c.ensures tt r y)
      ((length buf.now < 20 → (r ≡ 2) × (buf'.now ≡ buf.now)) × (20 ≤ length buf.now → (r ≡ 0) × Puts 20 (header_bytes (header_of h)) buf.now buf'.now))

  abbrev pub Decode : Type 2
  Decode =
      (κs : Lfts 1) (x : Args decode.signature κs) (r : Res decode.signature κs) (y : AtExit decode.ended κs)
      → let (buf, _) = x in
      let c = decode.clauses 𝓛 mem run κs x in
      Promises 𝓤 (c.requires tt) (c.ensures tt r y)
      ((length buf.now < 20 → r ≡ bad_header)
      × ((get_or buf.now 0 0 ≡ 255 → get_or buf.now 1 0 ≡ 1 → ⊥) → r ≡ bad_header)
      × (20 ≤ length buf.now → get_or buf.now 0 0 ≡ 255 → get_or buf.now 1 0 ≡ 1
      → (r.outcome ≡ 0) × (r.refusal ≡ 0) × (r.header ≡ flat_header (fields buf.now))))

  -- how the structs are laid out in memory: the fields in order, then zeros; and a step whose fields count up from 1

  abbrev pub LayoutStream : Type 2
  LayoutStream =
      (κs : Lfts 0) (x : Args layout_stream.signature κs) (r : Res layout_stream.signature κs) (y : AtExit layout_stream.ended κs)
      → let (s, _) = x in
      let c = layout_stream.clauses 𝓛 mem run κs x in
      Promises 𝓤 (c.requires tt) (c.ensures tt r y) (r.n ≡ stream_fields s)

  abbrev pub LayoutTotals : Type 2
  LayoutTotals =
      (κs : Lfts 0) (x : Args layout_totals.signature κs) (r : Res layout_totals.signature κs) (y : AtExit layout_totals.ended κs)
      → let (_, (t, _)) = x in
      let c = layout_totals.clauses 𝓛 mem run κs x in
      Promises 𝓤 (c.requires tt) (c.ensures tt r y) (r.n ≡ totals_fields t ++ replicate 18 0)

  abbrev pub LayoutStep : Type 2
  LayoutStep =
      (κs : Lfts 0) (x : Args layout_step.signature κs) (r : Res layout_step.signature κs) (y : AtExit layout_step.ended κs)
      → let c = layout_step.clauses 𝓛 mem run κs x in
      Promises 𝓤 (c.requires tt) (c.ensures tt r y) (step_fields r ≡ count_from 34 1)

  pub record DemandOneFromC : Type 2 where
    pub write : Write
    pub deliver : Deliver
    pub drive : Drive
    pub take : Take
    pub read : Read
    pub close : Close
    pub look : Look
    pub opens : Open
    pub encode : Encode
    pub decode : Decode
    pub layout_stream : LayoutStream
    pub layout_totals : LayoutTotals
    pub layout_step : LayoutStep
