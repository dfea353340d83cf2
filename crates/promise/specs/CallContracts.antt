-- A call on the records (`Did`, in Runs.antt) is the contract of the exported function, word for word: with the numbers, words, stores and
-- buffers before and after the call, its `ensures` is `Did`, and it requires nothing. So an exported function that ensures less or requires
-- more fails here. Covered are `write`, `deliver`, `drive`, `take`, `read` and `close`, and, each with its own definition, `look`, `open`,
-- header coding and, of the block reader, `next_at`, `read_from`, `new`, `moved` and the `next` that takes the reader by value. Its `next`
-- as an iterator reads by `read_from`, and what `deliver` ensures covers it. `x` are the parameters, `y` their values at the end, `r` is the
-- result. Statements only: the proof is in proofs/Contracts.antt.
use Rattle.std.specs.Prelude.{◌≡◌, []}
use seplogic.Ra.Ura.{Ura}
use base.Logic.{SProp}
use prog.Memory.{Memory}
use prog.Routine.{Routine}
use types.Logic.{Logic}
use contract.Lifetimes.{Lfts}
use contract.Monad.{Fun}
use contract.Notation.{connectives}
use denote.Triple.Entry.{Args, Res}
use denote.Triple.Clauses.{AtExit}
use Rattle.packet.specs.Header.{decoded, Encodes}
use Rattle.packet.specs.contracts.header.Header.encode as encode
use Rattle.packet.specs.contracts.header.Header.from_bytes as decode
use Rattle.packet_blocks.specs.Reader.{read_at}
use Rattle.packet_blocks.specs.contracts.next_at as next-at
use Rattle.packet_blocks.specs.contracts.read_from as read-from
use Rattle.packet_blocks.specs.contracts.BlockReader.new as new_reader
use Rattle.packet_blocks.specs.contracts.BlockReader.moved as moved_reader
use Rattle.packet_blocks.specs.contracts.BlockReader.next as next-block
use Rattle.model.specs.Lists.{Bytes}
use Rattle.records.specs.declared.Stream.{Stream}
use Rattle.records.specs.declared.Totals.{Totals}
use Rattle.records.specs.Seen.{Lent}
use Rattle.records.specs.Open.{Opens}
use Rattle.records.specs.contracts.«open».«open» as opening
use Rattle.udx_steps.specs.declared.step.Step.{Step}
use Rattle.rules_lent.specs.Broken.{lent}
use Rattle.udx.specs.Look.{shown_of}
use Rattle.udx.specs.contracts.write.write as write
use Rattle.udx.specs.contracts.deliver.deliver as deliver
use Rattle.udx.specs.contracts.drive.drive as drive
use Rattle.udx.specs.contracts.take.take as take
use Rattle.udx.specs.contracts.read.read as read
use Rattle.udx.specs.contracts.close.close as close
use Rattle.udx.specs.contracts.look.look as look
use Rattle.promise.specs.Runs.{Records, Request, to_write, to_deliver, to_drive, to_take, to_read, to_close, Event, Did}

abbrev pub records_of : Stream → Totals → Lent → Records
records_of s t l = record { stream = s; totals = t; lent = l }

abbrev pub event_of : Request → Step → Lent → Bytes → Event
event_of q r l buf = record { request = q; step = r; lent = l; buf = buf }

module _ {M : Type 1} {𝓤 : Ura M} (𝓛 : Logic 𝓤) (mem : Memory → SProp 𝓤) (run : Routine → Fun 𝓤) where
  open connectives 𝓤 use {⌜◌⌝, ⊤ₛ}

  -- udx/src/write.rt
  abbrev pub Write : Type 2
  Write =
      (κs : Lfts 7) (x : Args write.signature κs) (r : Res write.signature κs) (y : AtExit write.ended κs)
      → let (s, (t, (sent, (held, (queue, (outgoing, (incoming, (headers, (bytes, _))))))))) = x in
      let (_, (_, (sent', (_, (queue', (outgoing', (_, (_, (_, _))))))))) = y in
      let c = write.clauses 𝓛 mem run κs x in
      (c.requires tt ≡ ⊤ₛ)
      × (c.ensures tt r y
      ≡ ⌜ Did (records_of s t (lent sent.now held.now queue.now outgoing.now incoming.now headers.now))
      (event_of (to_write bytes.now) r (lent sent'.now held.now queue'.now outgoing'.now incoming.now headers.now) []) ⌝)

  -- udx/src/deliver.rt
  abbrev pub Deliver : Type 2
  Deliver =
      (κs : Lfts 7) (x : Args deliver.signature κs) (r : Res deliver.signature κs) (y : AtExit deliver.ended κs)
      → let (s, (t, (sent, (held, (queue, (outgoing, (incoming, (headers, (datagram, (clock, _)))))))))) = x in
      let (_, (_, (sent', (held', (queue', (_, (incoming', (headers', (_, (_, _)))))))))) = y in
      let c = deliver.clauses 𝓛 mem run κs x in
      (c.requires tt ≡ ⊤ₛ)
      × (c.ensures tt r y
      ≡ ⌜ Did (records_of s t (lent sent.now held.now queue.now outgoing.now incoming.now headers.now))
      (event_of (to_deliver datagram.now clock.0) r (lent sent'.now held'.now queue'.now outgoing.now incoming'.now headers'.now) []) ⌝)

  -- udx/src/drive.rt
  abbrev pub Drive : Type 2
  Drive =
      (κs : Lfts 6) (x : Args drive.signature κs) (r : Res drive.signature κs) (y : AtExit drive.ended κs)
      → let (s, (t, (sent, (held, (queue, (outgoing, (incoming, (headers, (clock, _))))))))) = x in
      let (_, (_, (sent', (_, (queue', (_, (_, (headers', (_, _))))))))) = y in
      let c = drive.clauses 𝓛 mem run κs x in
      (c.requires tt ≡ ⊤ₛ)
      × (c.ensures tt r y
      ≡ ⌜ Did (records_of s t (lent sent.now held.now queue.now outgoing.now incoming.now headers.now))
      (event_of (to_drive clock.0) r (lent sent'.now held.now queue'.now outgoing.now incoming.now headers'.now) []) ⌝)

  -- udx/src/take.rt
  abbrev pub Take : Type 2
  Take =
      (κs : Lfts 7) (x : Args take.signature κs) (r : Res take.signature κs) (y : AtExit take.ended κs)
      → let (s, (t, (sent, (held, (queue, (outgoing, (incoming, (headers, (buf, _))))))))) = x in
      let (_, (_, (sent', (_, (_, (_, (_, (_, (buf', _))))))))) = y in
      let c = take.clauses 𝓛 mem run κs x in
      (c.requires tt ≡ ⊤ₛ)
      × (c.ensures tt r y
      ≡ ⌜ Did (records_of s t (lent sent.now held.now queue.now outgoing.now incoming.now headers.now))
      (event_of (to_take buf.now) r (lent sent'.now held.now queue.now outgoing.now incoming.now headers.now) buf'.now) ⌝)

  -- udx/src/read.rt
  abbrev pub Read : Type 2
  Read =
      (κs : Lfts 7) (x : Args read.signature κs) (r : Res read.signature κs) (y : AtExit read.ended κs)
      → let (s, (t, (sent, (held, (queue, (outgoing, (incoming, (headers, (buf, _))))))))) = x in
      let (_, (_, (_, (held', (_, (_, (_, (_, (buf', _))))))))) = y in
      let c = read.clauses 𝓛 mem run κs x in
      (c.requires tt ≡ ⊤ₛ)
      × (c.ensures tt r y
      ≡ ⌜ Did (records_of s t (lent sent.now held.now queue.now outgoing.now incoming.now headers.now))
      (event_of (to_read buf.now) r (lent sent.now held'.now queue.now outgoing.now incoming.now headers.now) buf'.now) ⌝)

  -- udx/src/close.rt
  abbrev pub Close : Type 2
  Close =
      (κs : Lfts 6) (x : Args close.signature κs) (r : Res close.signature κs) (y : AtExit close.ended κs)
      → let (s, (t, (sent, (held, (queue, (outgoing, (incoming, (headers, _)))))))) = x in
      let (_, (_, (_, (_, (queue', (_, (_, (headers', _)))))))) = y in
      let c = close.clauses 𝓛 mem run κs x in
      (c.requires tt ≡ ⊤ₛ)
      × (c.ensures tt r y
      ≡ ⌜ Did (records_of s t (lent sent.now held.now queue.now outgoing.now incoming.now headers.now))
      (event_of to_close r (lent sent.now held.now queue'.now outgoing.now incoming.now headers'.now) []) ⌝)

  -- udx/src/look.rt
  abbrev pub Look : Type 2
  Look =
      (κs : Lfts 5) (x : Args look.signature κs) (r : Res look.signature κs) (y : AtExit look.ended κs)
      → let (s, (t, (sent, (held, (queue, (outgoing, (incoming, (headers, _)))))))) = x in
      let c = look.clauses 𝓛 mem run κs x in
      (c.requires tt ≡ ⊤ₛ)
      × (c.ensures tt r y
      ≡ ⌜ r.now ≡ shown_of s t (lent sent.now held.now queue.now outgoing.now incoming.now headers.now) ⌝)

  -- records/src/open.rt
  abbrev pub Open : Type 2
  Open =
      (κs : Lfts 3) (x : Args opening.signature κs) (r : Res opening.signature κs) (y : AtExit opening.ended κs)
      → let (local, (remote, (segments, (clock, (outgoing, (incoming, (headers, _))))))) = x in
      let c = opening.clauses 𝓛 mem run κs x in
      (c.requires tt ≡ ⊤ₛ)
      × (c.ensures tt r y
      ≡ ⌜ Opens local remote segments clock.0 outgoing.now incoming.now headers.now r ⌝)

  -- packet/src/header.rt
  abbrev pub Encode : Type 2
  Encode =
      (κs : Lfts 1) (x : Args encode.signature κs) (r : Res encode.signature κs) (y : AtExit encode.ended κs)
      → let (header, (buf, _)) = x in
      let (_, (buf', _)) = y in
      let c = encode.clauses 𝓛 mem run κs x in
      (c.requires tt ≡ ⊤ₛ) × (c.ensures tt r y ≡ ⌜ Encodes header buf.now buf'.now r ⌝)

  -- packet/src/header.rt
  abbrev pub Decode : Type 2
  Decode =
      (κs : Lfts 1) (x : Args decode.signature κs) (r : Res decode.signature κs) (y : AtExit decode.ended κs)
      → let (buf, _) = x in
      let c = decode.clauses 𝓛 mem run κs x in
      (c.requires tt ≡ ⊤ₛ) × (c.ensures tt r y ≡ ⌜ r ≡ decoded buf.now ⌝)

  -- packet_blocks/src/lib.rt, like the four below
  abbrev pub NextAt : Type 2
  NextAt =
      (κs : Lfts 1) (x : Args next-at.signature κs) (r : Res next-at.signature κs) (y : AtExit next-at.ended κs)
      → let (payload, (at, _)) = x in
      let c = next-at.clauses 𝓛 mem run κs x in
      (c.requires tt ≡ ⊤ₛ) × (c.ensures tt r y ≡ ⌜ r ≡ read_at payload.now at ⌝)

  abbrev pub ReadFrom : Type 2
  ReadFrom =
      (κs : Lfts 1) (x : Args read-from.signature κs) (r : Res read-from.signature κs) (y : AtExit read-from.ended κs)
      → let (payload, (at, _)) = x in
      let c = read-from.clauses 𝓛 mem run κs x in
      (c.requires tt ≡ ⊤ₛ) × (c.ensures tt r y ≡ ⌜ r ≡ read_at payload.now at ⌝)

  -- "The block reader keeps its payload and its place together"
  abbrev pub NewReader : Type 2
  NewReader =
      (κs : Lfts 1) (x : Args new_reader.signature κs) (r : Res new_reader.signature κs) (y : AtExit new_reader.ended κs)
      → let (payload, _) = x in
      let c = new_reader.clauses 𝓛 mem run κs x in
      (c.requires tt ≡ ⊤ₛ) × (c.ensures tt r y ≡ ⌜ (r.payload ≡ payload) × (r.at ≡ 0) ⌝)

  abbrev pub MovedReader : Type 2
  MovedReader =
      (κs : Lfts 1) (x : Args moved_reader.signature κs) (r : Res moved_reader.signature κs) (y : AtExit moved_reader.ended κs)
      → let (reader, (at, _)) = x in
      let c = moved_reader.clauses 𝓛 mem run κs x in
      (c.requires tt ≡ ⊤ₛ) × (c.ensures tt r y ≡ ⌜ (r.payload ≡ reader.payload) × (r.at ≡ at) ⌝)

  abbrev pub NextBlock : Type 2
  NextBlock =
      (κs : Lfts 1) (x : Args next-block.signature κs) (r : Res next-block.signature κs) (y : AtExit next-block.ended κs)
      → let (reader, _) = x in
      let c = next-block.clauses 𝓛 mem run κs x in
      (c.requires tt ≡ ⊤ₛ) × (c.ensures tt r y ≡ ⌜ r ≡ read_at reader.payload.now reader.at ⌝)

  pub record Contracts : Type 2 where
    pub write : Write
    pub deliver : Deliver
    pub drive : Drive
    pub take : Take
    pub read : Read
    pub close : Close
    pub look : Look
    pub opens : Open
    pub encode : Encode
    pub decode : Decode
    pub next-at : NextAt
    pub read-from : ReadFrom
    pub new_reader : NewReader
    pub moved_reader : MovedReader
    pub next-block : NextBlock
