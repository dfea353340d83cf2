-- A call from C on plain numbers (`PlainDid`, in Calls.antt) is the contract of the C function, word for word: with the numbers, words,
-- stores and buffers before and after the call, its `ensures` is `PlainDid`, and it requires nothing. So a C function that ensures less or
-- requires more fails here. `udx_look`, `udx_open`, header coding and the layout functions are covered too, each with its own definition.
-- `x` are the parameters, `y` their values at the end, `r` is the result. Statements only: the proof is in proofs/Contracts.antt.
use Rattle.std.specs.Prelude.{◌≡◌, [], ◌++◌, replicate}
use seplogic.Ra.Ura.{Ura}
use base.Logic.{SProp}
use prog.Memory.{Memory}
use prog.Routine.{Routine}
use types.Logic.{Logic}
use contract.Lifetimes.{Lfts}
use contract.Monad.{Fun}
use contract.Notation.{connectives}
use denote.Triple.Entry.{Args, Res}
use denote.Triple.Clauses.{AtExit}
use Rattle.packet.specs.Header.{decoded}
use Rattle.model.specs.Lists.{Bytes}
use Rattle.records.specs.Seen.{Lent}
use Rattle.rules_lent.specs.Broken.{lent}
use Rattle.promise.specs.Runs.{Request, to_write, to_deliver, to_drive, to_take, to_read, to_close}
use Rattle.udx_c_numbers.specs.declared.structs.FlatStream.{FlatStream}
use Rattle.udx_c_numbers.specs.declared.structs.FlatTotals.{FlatTotals}
use Rattle.udx_c_numbers.specs.declared.structs.FlatStep.{FlatStep}
use Rattle.udx_c.specs.Coded.{FlatEncodes, flat_decoded}
use Rattle.udx_c.specs.Crosses.{FlatOpens}
use Rattle.udx_c.specs.Layout.{stream_fields, totals_fields, step_fields, count_from}
use Rattle.udx_c.specs.Shown.{Looks}
use Rattle.udx_c.specs.contracts.udx_write as write
use Rattle.udx_c.specs.contracts.udx_deliver as deliver
use Rattle.udx_c.specs.contracts.udx_drive as drive
use Rattle.udx_c.specs.contracts.udx_take as take
use Rattle.udx_c.specs.contracts.udx_read as read
use Rattle.udx_c.specs.contracts.udx_close as close
use Rattle.udx_c.specs.contracts.udx_look as look
use Rattle.udx_c.specs.contracts.udx_open as opening
use Rattle.udx_c.specs.contracts.udx_encode as encode
use Rattle.udx_c.specs.contracts.udx_decode as decode
use Rattle.udx_c.specs.contracts.udx_layout_stream as layout_stream
use Rattle.udx_c.specs.contracts.udx_layout_totals as layout_totals
use Rattle.udx_c.specs.contracts.udx_layout_step as layout_step
use Rattle.promise_ways.specs.Calls.{Plain, PlainEvent, PlainDid}

abbrev pub plain_of : FlatStream → FlatTotals → Lent → Plain
plain_of s t l = record { stream = s; totals = t; lent = l }

abbrev pub plain_event : Request → FlatStep → Lent → Bytes → PlainEvent
plain_event q r l buf = record { request = q; step = r; lent = l; buf = buf }

module _ {M : Type 1} {𝓤 : Ura M} (𝓛 : Logic 𝓤) (mem : Memory → SProp 𝓤) (run : Routine → Fun 𝓤) where
  open connectives 𝓤 use {⌜◌⌝, ⊤ₛ}

  -- udx_c/src/write.rt
  abbrev pub Write : Type 2
  Write =
      (κs : Lfts 7) (x : Args write.signature κs) (r : Res write.signature κs) (y : AtExit write.ended κs)
      → let (s, (t, (sent, (held, (queue, (outgoing, (incoming, (headers, (bytes, _))))))))) = x in
      let (_, (_, (sent', (_, (queue', (outgoing', (_, (_, (_, _))))))))) = y in
      let c = write.clauses 𝓛 mem run κs x in
      (c.requires tt ≡ ⊤ₛ)
      × (c.ensures tt r y
      ≡ ⌜ PlainDid (plain_of s t (lent sent.now held.now queue.now outgoing.now incoming.now headers.now))
      (plain_event (to_write bytes.now) r (lent sent'.now held.now queue'.now outgoing'.now incoming.now headers.now) []) ⌝)

  -- udx_c/src/deliver.rt
  abbrev pub Deliver : Type 2
  Deliver =
      (κs : Lfts 7) (x : Args deliver.signature κs) (r : Res deliver.signature κs) (y : AtExit deliver.ended κs)
      → let (s, (t, (sent, (held, (queue, (outgoing, (incoming, (headers, (datagram, (clock, _)))))))))) = x in
      let (_, (_, (sent', (held', (queue', (_, (incoming', (headers', (_, (_, _)))))))))) = y in
      let c = deliver.clauses 𝓛 mem run κs x in
      (c.requires tt ≡ ⊤ₛ)
      × (c.ensures tt r y
      ≡ ⌜ PlainDid (plain_of s t (lent sent.now held.now queue.now outgoing.now incoming.now headers.now))
      (plain_event (to_deliver datagram.now clock) r (lent sent'.now held'.now queue'.now outgoing.now incoming'.now headers'.now) []) ⌝)

  -- udx_c/src/drive.rt
  abbrev pub Drive : Type 2
  Drive =
      (κs : Lfts 6) (x : Args drive.signature κs) (r : Res drive.signature κs) (y : AtExit drive.ended κs)
      → let (s, (t, (sent, (held, (queue, (outgoing, (incoming, (headers, (clock, _))))))))) = x in
      let (_, (_, (sent', (_, (queue', (_, (_, (headers', (_, _))))))))) = y in
      let c = drive.clauses 𝓛 mem run κs x in
      (c.requires tt ≡ ⊤ₛ)
      × (c.ensures tt r y
      ≡ ⌜ PlainDid (plain_of s t (lent sent.now held.now queue.now outgoing.now incoming.now headers.now))
      (plain_event (to_drive clock) r (lent sent'.now held.now queue'.now outgoing.now incoming.now headers'.now) []) ⌝)

  -- udx_c/src/take.rt
  abbrev pub Take : Type 2
  Take =
      (κs : Lfts 7) (x : Args take.signature κs) (r : Res take.signature κs) (y : AtExit take.ended κs)
      → let (s, (t, (sent, (held, (queue, (outgoing, (incoming, (headers, (buf, _))))))))) = x in
      let (_, (_, (sent', (_, (_, (_, (_, (_, (buf', _))))))))) = y in
      let c = take.clauses 𝓛 mem run κs x in
      (c.requires tt ≡ ⊤ₛ)
      × (c.ensures tt r y
      ≡ ⌜ PlainDid (plain_of s t (lent sent.now held.now queue.now outgoing.now incoming.now headers.now))
      (plain_event (to_take buf.now) r (lent sent'.now held.now queue.now outgoing.now incoming.now headers.now) buf'.now) ⌝)

  -- udx_c/src/read.rt
  abbrev pub Read : Type 2
  Read =
      (κs : Lfts 7) (x : Args read.signature κs) (r : Res read.signature κs) (y : AtExit read.ended κs)
      → let (s, (t, (sent, (held, (queue, (outgoing, (incoming, (headers, (buf, _))))))))) = x in
      let (_, (_, (_, (held', (_, (_, (_, (_, (buf', _))))))))) = y in
      let c = read.clauses 𝓛 mem run κs x in
      (c.requires tt ≡ ⊤ₛ)
      × (c.ensures tt r y
      ≡ ⌜ PlainDid (plain_of s t (lent sent.now held.now queue.now outgoing.now incoming.now headers.now))
      (plain_event (to_read buf.now) r (lent sent.now held'.now queue.now outgoing.now incoming.now headers.now) buf'.now) ⌝)

  -- udx_c/src/close.rt
  abbrev pub Close : Type 2
  Close =
      (κs : Lfts 6) (x : Args close.signature κs) (r : Res close.signature κs) (y : AtExit close.ended κs)
      → let (s, (t, (sent, (held, (queue, (outgoing, (incoming, (headers, _)))))))) = x in
      let (_, (_, (_, (_, (queue', (_, (_, (headers', _)))))))) = y in
      let c = close.clauses 𝓛 mem run κs x in
      (c.requires tt ≡ ⊤ₛ)
      × (c.ensures tt r y
      ≡ ⌜ PlainDid (plain_of s t (lent sent.now held.now queue.now outgoing.now incoming.now headers.now))
      (plain_event to_close r (lent sent.now held.now queue'.now outgoing.now incoming.now headers'.now) []) ⌝)

  -- udx_c/src/look.rt
  abbrev pub Look : Type 2
  Look =
      (κs : Lfts 6) (x : Args look.signature κs) (r : Res look.signature κs) (y : AtExit look.ended κs)
      → let (s, (t, (sent, (held, (queue, (outgoing, (incoming, (headers, _)))))))) = x in
      let c = look.clauses 𝓛 mem run κs x in
      (c.requires tt ≡ ⊤ₛ)
      × (c.ensures tt r y
      ≡ ⌜ Looks s t (lent sent.now held.now queue.now outgoing.now incoming.now headers.now) r ⌝)

  -- udx_c/src/open.rt
  abbrev pub Open : Type 2
  Open =
      (κs : Lfts 3) (x : Args opening.signature κs) (r : Res opening.signature κs) (y : AtExit opening.ended κs)
      → let (local, (remote, (segments, (clock, (outgoing, (incoming, (headers, _))))))) = x in
      let c = opening.clauses 𝓛 mem run κs x in
      (c.requires tt ≡ ⊤ₛ)
      × (c.ensures tt r y
      ≡ ⌜ FlatOpens local remote segments clock outgoing.now incoming.now headers.now r ⌝)

  -- udx_c/src/header.rt
  abbrev pub Encode : Type 2
  Encode =
      (κs : Lfts 1) (x : Args encode.signature κs) (r : Res encode.signature κs) (y : AtExit encode.ended κs)
      → let (header, (buf, _)) = x in
      let (_, (buf', _)) = y in
      let c = encode.clauses 𝓛 mem run κs x in
      (c.requires tt ≡ ⊤ₛ) × (c.ensures tt r y ≡ ⌜ FlatEncodes header buf.now buf'.now r ⌝)

  -- udx_c/src/header.rt
  abbrev pub Decode : Type 2
  Decode =
      (κs : Lfts 1) (x : Args decode.signature κs) (r : Res decode.signature κs) (y : AtExit decode.ended κs)
      → let (buf, _) = x in
      let c = decode.clauses 𝓛 mem run κs x in
      (c.requires tt ≡ ⊤ₛ) × (c.ensures tt r y ≡ ⌜ r ≡ flat_decoded (decoded buf.now) ⌝)

  -- udx_c/src/layout.rt
  abbrev pub LayoutStream : Type 2
  LayoutStream =
      (κs : Lfts 0) (x : Args layout_stream.signature κs) (r : Res layout_stream.signature κs) (y : AtExit layout_stream.ended κs)
      → let (s, _) = x in
      let c = layout_stream.clauses 𝓛 mem run κs x in
      (c.requires tt ≡ ⊤ₛ) × (c.ensures tt r y ≡ ⌜ r.n ≡ stream_fields s ⌝)

  -- udx_c/src/layout.rt
  abbrev pub LayoutTotals : Type 2
  LayoutTotals =
      (κs : Lfts 0) (x : Args layout_totals.signature κs) (r : Res layout_totals.signature κs) (y : AtExit layout_totals.ended κs)
      → let (_, (t, _)) = x in
      let c = layout_totals.clauses 𝓛 mem run κs x in
      (c.requires tt ≡ ⊤ₛ) × (c.ensures tt r y ≡ ⌜ r.n ≡ totals_fields t ++ replicate 18 0 ⌝)

  -- udx_c/src/layout.rt
  abbrev pub LayoutStep : Type 2
  LayoutStep =
      (κs : Lfts 0) (x : Args layout_step.signature κs) (r : Res layout_step.signature κs) (y : AtExit layout_step.ended κs)
      → let c = layout_step.clauses 𝓛 mem run κs x in
      (c.requires tt ≡ ⊤ₛ) × (c.ensures tt r y ≡ ⌜ step_fields r ≡ count_from 34 1 ⌝)

  pub record ContractsOfC : Type 2 where
    pub write : Write
    pub deliver : Deliver
    pub drive : Drive
    pub take : Take
    pub read : Read
    pub close : Close
    pub look : Look
    pub opens : Open
    pub encode : Encode
    pub decode : Decode
    pub layout_stream : LayoutStream
    pub layout_totals : LayoutTotals
    pub layout_step : LayoutStep
