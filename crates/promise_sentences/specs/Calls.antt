-- Demand 1 in the sentences of 01, for each exported function: it requires nothing, and its `ensures` entails 01's sentences about the call
-- (`Promises`). Each follows from the call's field of `Contracts` (promise/specs/Contracts.antt), so if a contract said less, or a field
-- were missing, the proof would fail. `x` are the parameters, `y` their values at the end, `r` is the result. Statements only: the proofs
-- are in proofs/Calls.antt.
use Rattle.std.specs.Prelude.{ℕ, ◌+◌, ◌≤◌, ◌<◌, ◌≡◌, List, [], ◌∷◌, true, false, length, take, drop, get_or, Result, Ok, Err, None, Some}
use Rattle.std.proofs.Math.Option.{none, some}
use seplogic.Ra.Ura.{Ura}
use base.Logic.{SProp, ent}
use prog.Memory.{Memory}
use prog.Routine.{Routine}
use types.Logic.{Logic}
use contract.Lifetimes.{Lfts}
use contract.Monad.{Fun}
use contract.Notation.{connectives}
use denote.Triple.Entry.{Args, Res}
use denote.Triple.Clauses.{AtExit}
use Rattle.error.specs.declared.Refusal.{Refusal}
use Rattle.error.specs.declared.Refusal.TheVariants.{BrokenRecords}
use Rattle.error.specs.declared.Outcome.{Outcome}
use Rattle.error.specs.declared.Outcome.TheVariants.{Ready}
use Rattle.packet.specs.Header.{header_bytes, fields}
use Rattle.packet.specs.LittleEndian.{word}
use Rattle.packet.specs.contracts.header.Header.encode as encode
use Rattle.packet.specs.contracts.header.Header.from_bytes as decode
use Rattle.packet_blocks.specs.declared.Next.{Next}
use Rattle.packet_blocks.specs.contracts.next_at as next-at
use Rattle.packet_blocks.specs.contracts.read_from as read-from
use Rattle.packet_blocks.specs.contracts.BlockReader.new as new_reader
use Rattle.packet_blocks.specs.contracts.BlockReader.moved as moved_reader
use Rattle.packet_blocks.specs.contracts.BlockReader.next as next-block
use Rattle.model.specs.Lists.{Bytes}
use Rattle.model.specs.Stream as model-stream
use Rattle.model.specs.Answers.{Answer}
use Rattle.model.specs.Rules.{rules}
use Rattle.model.specs.Sending as model
use Rattle.model.specs.Sending.{open_tests_on}
use Rattle.model.specs.Receiving as model_in
use Rattle.model.specs.Driving as model_out
use Rattle.model.specs.Calls.{Call, answer}
use Rattle.model.specs.Order.{refused_by, undecoded_by}
use Rattle.records.specs.declared.Stream.{Stream}
use Rattle.records.specs.declared.Totals.{Totals}
use Rattle.records.specs.declared.«open».Opened.{Opened}
use Rattle.records.specs.Open.{stores_test}
use Rattle.records.specs.Seen.{Lent, seen}
use Rattle.records.specs.Beside.{Beside}
use Rattle.records.specs.contracts.«open».«open» as opening
use Rattle.udx_steps.specs.declared.step.Step.{Step}
use Rattle.rules_lent.specs.Broken.{lent}
use Rattle.udx.specs.Agree.{laid_out, on_records, Agrees}
use Rattle.udx.specs.contracts.write.write as write
use Rattle.udx.specs.contracts.deliver.deliver as deliver
use Rattle.udx.specs.contracts.drive.drive as drive
use Rattle.udx.specs.contracts.take.take as take-call
use Rattle.udx.specs.contracts.read.read as read
use Rattle.udx.specs.contracts.close.close as close
use Rattle.udx.specs.contracts.look.look as look
use Rattle.promise_sentences.specs.Answers.{StreamNumbers, numbers_on, Shows}
use Rattle.promise_sentences.specs.Refusals.{InOrder}

-- the sentences

-- "Every exported function's result, stream, totals and store bytes are equations in the call's inputs, for refused calls too"
abbrev pub Equations : (model-stream.End → Answer) → Stream → Totals → Lent → Step → Lent → Type 0
Equations call s t before r after = Agrees (on_records call s t before) r after

-- "Each returns its number and changes nothing"
abbrev pub WhereRefused : Result Outcome Refusal → Type 0 → Type 0
WhereRefused o unchanged = (why : Refusal) → o ≡ Err why → unchanged

-- bytes that a call put into a buffer: they are at its front, and "An output buffer's bytes past the count stay."
pub record Puts (count : ℕ) (bytes before after : Bytes) : Type 0 where
  pub front : take count after ≡ bytes
  pub past : drop count after ≡ drop count before

-- 01, 'Fresh': "numbers and totals 0, stores empty, no error, both sides open, window 2,800, rto 1,000 ms, deadline now + rto, queue empty"
abbrev pub fresh_numbers : (local remote segments clock : ℕ) → StreamNumbers
fresh_numbers local remote segments clock =
    record {
      local = local;
      remote = remote;
      segments = segments;
      seq = 0;
      remote_acked = 0;
      largest_ack = 0;
      inflight = 0;
      window = 2_800;
      ack = 0;
      read_cursor = 0;
      srtt = 0;
      rttvar = 0;
      rto = 1_000_000_000;
      deadline = clock + 1_000_000_000;
      left = 0;
      error = None;
      state = model-stream.both_open;
      ended = false;
      last_clock = clock;
      drive_clock = clock;
      tx_packets = 0;
      tx_bytes = 0;
      rx_packets = 0;
      rx_bytes = 0;
      inflight_packets = 0;
      inflight_bytes = 0;
    }

-- what an open returns
pub record OpenSays (local remote segments clock : ℕ) (outgoing incoming headers : Bytes) (r : Opened) : Type 0 where
  pub in_order : InOrder (open_tests_on (stores_test outgoing incoming headers) segments clock) (1 ∷ 3 ∷ 4 ∷ []) r.outcome
  pub ready : refused_by r.outcome ≡ none → r.outcome ≡ Ok Ready
  pub numbers : r.outcome ≡ Ok Ready → numbers_on r.stream r.totals ≡ fresh_numbers local remote segments clock
  -- 'Fresh': "stores empty", "queue empty", whatever the words hold: open is not lent them
  pub empty : r.outcome ≡ Ok Ready → (sent held queue : List ℕ)
      → seen r.stream r.totals (lent sent held queue outgoing incoming headers) ≡ model-stream.fresh local remote segments clock
  -- a refused open hands out a stream with ids, clock and segment ceiling 0, which every call refuses with 1, whatever it is lent
  pub refused : (why : Refusal) → r.outcome ≡ Err why → numbers_on r.stream r.totals ≡ fresh_numbers 0 0 0 0
  pub unusable : (why : Refusal) → r.outcome ≡ Err why → (c : Call) (l : Lent) → refused_by (on_records (answer c) r.stream r.totals l).outcome ≡ some 1

-- look: "the next datagram (first entry left to take whose packet is there) is shown .., an empty part when nothing is left to take and
-- also in place of refusal 1"
pub record LookShows (shown : Bytes) (s : Stream) (t : Totals) (l : Lent) : Type 0 where
  pub next : laid_out s l ≡ true → rules (seen s t l) ≡ true → Shows shown (seen s t l)
  pub not_laid_out : laid_out s l ≡ false → shown ≡ []
  pub broken : rules (seen s t l) ≡ false → shown ≡ []

-- "Blocks are start (4) and end (4), end excluded, read while place + 8 is below the payload length."
pub record ReadsBlock (payload : Bytes) (at : ℕ) (r : Next) : Type 0 where
  pub block : at + 8 < length payload → (r.block ≡ Some record { start = word payload at; end = word payload (at + 4) }) × (r.at ≡ at + 8)
  pub none_left : length payload ≤ at + 8 → (r.block ≡ None) × (r.at ≡ at)

module _ {M : Type 1} (𝓤 : Ura M) where
  open connectives 𝓤 use {⌜◌⌝}

  -- it requires nothing: whatever the caller holds entails it; and what it ensures entails the sentence
  abbrev pub Promises : (requires ensures : SProp 𝓤) → Type 0 → Type 2
  Promises requires ensures sentence = ((held : SProp 𝓤) → ent 𝓤 held requires) × ent 𝓤 ensures ⌜ sentence ⌝

-- the calls

module _ {M : Type 1} {𝓤 : Ura M} (𝓛 : Logic 𝓤) (mem : Memory → SProp 𝓤) (run : Routine → Fun 𝓤) where
  abbrev pub Write : Type 2
  Write =
      (κs : Lfts 7) (x : Args write.signature κs) (r : Res write.signature κs) (y : AtExit write.ended κs)
      → let (s, (t, (sent, (held, (queue, (outgoing, (incoming, (headers, (bytes, _))))))))) = x in
      let (_, (_, (sent', (_, (queue', (outgoing', (_, (_, (_, _))))))))) = y in
      let before = lent sent.now held.now queue.now outgoing.now incoming.now headers.now in
      let after = lent sent'.now held.now queue'.now outgoing'.now incoming.now headers.now in
      let c = write.clauses 𝓛 mem run κs x in
      Promises 𝓤 (c.requires tt) (c.ensures tt r y)
      (Equations (model.write bytes.now) s t before r after
      × Beside before after
      × WhereRefused r.outcome
      ((r.stream ≡ s) × (r.totals ≡ t) × (sent'.now ≡ sent.now) × (queue'.now ≡ queue.now) × (outgoing'.now ≡ outgoing.now)))

  abbrev pub Deliver : Type 2
  Deliver =
      (κs : Lfts 7) (x : Args deliver.signature κs) (r : Res deliver.signature κs) (y : AtExit deliver.ended κs)
      → let (s, (t, (sent, (held, (queue, (outgoing, (incoming, (headers, (datagram, (clock, _)))))))))) = x in
      let (_, (_, (sent', (held', (queue', (_, (incoming', (headers', (_, (_, _)))))))))) = y in
      let before = lent sent.now held.now queue.now outgoing.now incoming.now headers.now in
      let after = lent sent'.now held'.now queue'.now outgoing.now incoming'.now headers'.now in
      let c = deliver.clauses 𝓛 mem run κs x in
      Promises 𝓤 (c.requires tt) (c.ensures tt r y)
      (Equations (model_in.deliver datagram.now clock.0) s t before r after
      × Beside before after
      × WhereRefused r.outcome
      ((r.stream ≡ s)
      × (r.totals ≡ t)
      × (sent'.now ≡ sent.now)
      × (held'.now ≡ held.now)
      × (queue'.now ≡ queue.now)
      × (incoming'.now ≡ incoming.now)
      × (headers'.now ≡ headers.now)))

  abbrev pub Drive : Type 2
  Drive =
      (κs : Lfts 6) (x : Args drive.signature κs) (r : Res drive.signature κs) (y : AtExit drive.ended κs)
      → let (s, (t, (sent, (held, (queue, (outgoing, (incoming, (headers, (clock, _))))))))) = x in
      let (_, (_, (sent', (_, (queue', (_, (_, (headers', (_, _))))))))) = y in
      let before = lent sent.now held.now queue.now outgoing.now incoming.now headers.now in
      let after = lent sent'.now held.now queue'.now outgoing.now incoming.now headers'.now in
      let c = drive.clauses 𝓛 mem run κs x in
      Promises 𝓤 (c.requires tt) (c.ensures tt r y)
      (Equations (model_out.drive clock.0) s t before r after
      × Beside before after
      × WhereRefused r.outcome
      ((r.stream ≡ s) × (r.totals ≡ t) × (sent'.now ≡ sent.now) × (queue'.now ≡ queue.now) × (headers'.now ≡ headers.now)))

  abbrev pub Take : Type 2
  Take =
      (κs : Lfts 7) (x : Args take-call.signature κs) (r : Res take-call.signature κs) (y : AtExit take-call.ended κs)
      → let (s, (t, (sent, (held, (queue, (outgoing, (incoming, (headers, (buf, _))))))))) = x in
      let (_, (_, (sent', (_, (_, (_, (_, (_, (buf', _))))))))) = y in
      let before = lent sent.now held.now queue.now outgoing.now incoming.now headers.now in
      let after = lent sent'.now held.now queue.now outgoing.now incoming.now headers.now in
      let c = take-call.clauses 𝓛 mem run κs x in
      Promises 𝓤 (c.requires tt) (c.ensures tt r y)
      (Equations (model_out.take (length buf.now)) s t before r after
      × Puts r.count (on_records (model_out.take (length buf.now)) s t before).bytes buf.now buf'.now
      × WhereRefused r.outcome ((r.stream ≡ s) × (r.totals ≡ t) × (sent'.now ≡ sent.now) × (buf'.now ≡ buf.now)))

  -- "except that a read with 14 to 16 keeps the bytes it put and its new place": its numbers and totals stay too
  abbrev pub Read : Type 2
  Read =
      (κs : Lfts 7) (x : Args read.signature κs) (r : Res read.signature κs) (y : AtExit read.ended κs)
      → let (s, (t, (sent, (held, (queue, (outgoing, (incoming, (headers, (buf, _))))))))) = x in
      let (_, (_, (_, (held', (_, (_, (_, (_, (buf', _))))))))) = y in
      let before = lent sent.now held.now queue.now outgoing.now incoming.now headers.now in
      let after = lent sent.now held'.now queue.now outgoing.now incoming.now headers.now in
      let c = read.clauses 𝓛 mem run κs x in
      Promises 𝓤 (c.requires tt) (c.ensures tt r y)
      (Equations (model_in.read (length buf.now)) s t before r after
      × Puts r.count (on_records (model_in.read (length buf.now)) s t before).bytes buf.now buf'.now
      × WhereRefused r.outcome ((r.stream ≡ s) × (r.totals ≡ t))
      × (r.outcome ≡ Err BrokenRecords → (held'.now ≡ held.now) × (buf'.now ≡ buf.now)))

  abbrev pub Close : Type 2
  Close =
      (κs : Lfts 6) (x : Args close.signature κs) (r : Res close.signature κs) (y : AtExit close.ended κs)
      → let (s, (t, (sent, (held, (queue, (outgoing, (incoming, (headers, _)))))))) = x in
      let (_, (_, (_, (_, (queue', (_, (_, (headers', _)))))))) = y in
      let before = lent sent.now held.now queue.now outgoing.now incoming.now headers.now in
      let after = lent sent.now held.now queue'.now outgoing.now incoming.now headers'.now in
      let c = close.clauses 𝓛 mem run κs x in
      Promises 𝓤 (c.requires tt) (c.ensures tt r y)
      (Equations model.close s t before r after
      × Beside before after
      × WhereRefused r.outcome ((r.stream ≡ s) × (r.totals ≡ t) × (queue'.now ≡ queue.now) × (headers'.now ≡ headers.now)))

  abbrev pub Look : Type 2
  Look =
      (κs : Lfts 5) (x : Args look.signature κs) (r : Res look.signature κs) (y : AtExit look.ended κs)
      → let (s, (t, (sent, (held, (queue, (outgoing, (incoming, (headers, _)))))))) = x in
      let c = look.clauses 𝓛 mem run κs x in
      Promises 𝓤 (c.requires tt) (c.ensures tt r y)
      (LookShows r.now s t (lent sent.now held.now queue.now outgoing.now incoming.now headers.now))

  abbrev pub Open : Type 2
  Open =
      (κs : Lfts 3) (x : Args opening.signature κs) (r : Res opening.signature κs) (y : AtExit opening.ended κs)
      → let (local, (remote, (segments, (clock, (outgoing, (incoming, (headers, _))))))) = x in
      let c = opening.clauses 𝓛 mem run κs x in
      Promises 𝓤 (c.requires tt) (c.ensures tt r y) (OpenSays local remote segments clock.0 outgoing.now incoming.now headers.now r)

  -- header coding

  -- refusal 2: "Encode has under 20 bytes"; otherwise the header's 20 bytes are at the front
  abbrev pub Encode : Type 2
  Encode =
      (κs : Lfts 1) (x : Args encode.signature κs) (r : Res encode.signature κs) (y : AtExit encode.ended κs)
      → let (h, (buf, _)) = x in
      let (_, (buf', _)) = y in
      let c = encode.clauses 𝓛 mem run κs x in
      Promises 𝓤 (c.requires tt) (c.ensures tt r y)
      ((length buf.now < 20 → (refused_by r ≡ some 2) × (buf'.now ≡ buf.now))
      × (20 ≤ length buf.now → (refused_by r ≡ none) × Puts 20 (header_bytes h) buf.now buf'.now))

  -- refusal 7: "A header is under 20 bytes or its first bytes aren't 255, 1."
  abbrev pub Decode : Type 2
  Decode =
      (κs : Lfts 1) (x : Args decode.signature κs) (r : Res decode.signature κs) (y : AtExit decode.ended κs)
      → let (buf, _) = x in
      let c = decode.clauses 𝓛 mem run κs x in
      Promises 𝓤 (c.requires tt) (c.ensures tt r y)
      ((length buf.now < 20 → undecoded_by r ≡ some 7)
      × ((get_or buf.now 0 0 ≡ 255 → get_or buf.now 1 0 ≡ 1 → ⊥) → undecoded_by r ≡ some 7)
      × (20 ≤ length buf.now → get_or buf.now 0 0 ≡ 255 → get_or buf.now 1 0 ≡ 1 → r ≡ Ok (fields buf.now)))

  -- the block reader

  abbrev pub NextAt : Type 2
  NextAt =
      (κs : Lfts 1) (x : Args next-at.signature κs) (r : Res next-at.signature κs) (y : AtExit next-at.ended κs)
      → let (payload, (at, _)) = x in
      let c = next-at.clauses 𝓛 mem run κs x in
      Promises 𝓤 (c.requires tt) (c.ensures tt r y) (ReadsBlock payload.now at r)

  abbrev pub ReadFrom : Type 2
  ReadFrom =
      (κs : Lfts 1) (x : Args read-from.signature κs) (r : Res read-from.signature κs) (y : AtExit read-from.ended κs)
      → let (payload, (at, _)) = x in
      let c = read-from.clauses 𝓛 mem run κs x in
      Promises 𝓤 (c.requires tt) (c.ensures tt r y) (ReadsBlock payload.now at r)

  -- "The block reader keeps its payload and its place together"
  abbrev pub NewReader : Type 2
  NewReader =
      (κs : Lfts 1) (x : Args new_reader.signature κs) (r : Res new_reader.signature κs) (y : AtExit new_reader.ended κs)
      → let (payload, _) = x in
      let c = new_reader.clauses 𝓛 mem run κs x in
      Promises 𝓤 (c.requires tt) (c.ensures tt r y) ((r.payload.now ≡ payload.now) × (r.at ≡ 0))

  abbrev pub MovedReader : Type 2
  MovedReader =
      (κs : Lfts 1) (x : Args moved_reader.signature κs) (r : Res moved_reader.signature κs) (y : AtExit moved_reader.ended κs)
      → let (reader, (at, _)) = x in
      let c = moved_reader.clauses 𝓛 mem run κs x in
      Promises 𝓤 (c.requires tt) (c.ensures tt r y) ((r.payload.now ≡ reader.payload.now) × (r.at ≡ at))

  abbrev pub NextBlock : Type 2
  NextBlock =
      (κs : Lfts 1) (x : Args next-block.signature κs) (r : Res next-block.signature κs) (y : AtExit next-block.ended κs)
      → let (reader, _) = x in
      let c = next-block.clauses 𝓛 mem run κs x in
      Promises 𝓤 (c.requires tt) (c.ensures tt r y) (ReadsBlock reader.payload.now reader.at r)

  pub record DemandOne : Type 2 where
    pub write : Write
    pub deliver : Deliver
    pub drive : Drive
    pub take : Take
    pub read : Read
    pub close : Close
    pub look : Look
    pub opens : Open
    pub encode : Encode
    pub decode : Decode
    pub next-at : NextAt
    pub read-from : ReadFrom
    pub new_reader : NewReader
    pub moved_reader : MovedReader
    pub next-block : NextBlock
