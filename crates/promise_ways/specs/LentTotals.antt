-- A call with the totals lent (crate `udx_lent`) is a call on the records too, word for word: with the answer and the totals it left taken
-- as one step, its `ensures` is `Did` (promise/specs/Runs.antt), and it requires nothing. So the theorems over lists of calls hold for
-- these as for calls by value. `x` are the parameters, `y` their values at the end, `r` is the result. Statements only: the proof is in
-- proofs/LentTotals.antt.
use Rattle.std.specs.Prelude.{◌≡◌, []}
use seplogic.Ra.Ura.{Ura}
use base.Logic.{SProp}
use prog.Memory.{Memory}
use prog.Routine.{Routine}
use types.Logic.{Logic}
use contract.Lifetimes.{Lfts}
use contract.Monad.{Fun}
use contract.Notation.{connectives}
use denote.Triple.Entry.{Args, Res}
use denote.Triple.Clauses.{AtExit}
use Rattle.rules_lent.specs.Broken.{lent}
use Rattle.udx_lent.specs.Whole.{whole}
use Rattle.udx_lent.specs.contracts.write.write as write
use Rattle.udx_lent.specs.contracts.deliver.deliver as deliver
use Rattle.udx_lent.specs.contracts.drive.drive as drive
use Rattle.udx_lent.specs.contracts.take.take as take
use Rattle.udx_lent.specs.contracts.read.read as read
use Rattle.udx_lent.specs.contracts.close.close as close
use Rattle.promise.specs.Runs.{to_write, to_deliver, to_drive, to_take, to_read, to_close, Did}
use Rattle.promise.specs.CallContracts.{records_of, event_of}

module _ {M : Type 1} {𝓤 : Ura M} (𝓛 : Logic 𝓤) (mem : Memory → SProp 𝓤) (run : Routine → Fun 𝓤) where
  open connectives 𝓤 use {⌜◌⌝, ⊤ₛ}

  -- udx_lent/src/write.rt
  abbrev pub Write : Type 2
  Write =
      (κs : Lfts 8) (x : Args write.signature κs) (r : Res write.signature κs) (y : AtExit write.ended κs)
      → let (t, (s, (sent, (held, (queue, (outgoing, (incoming, (headers, (bytes, _))))))))) = x in
      let (t', (_, (sent', (_, (queue', (outgoing', (_, (_, (_, _))))))))) = y in
      let c = write.clauses 𝓛 mem run κs x in
      (c.requires tt ≡ ⊤ₛ)
      × (c.ensures tt r y
      ≡ ⌜ Did (records_of s t.now (lent sent.now held.now queue.now outgoing.now incoming.now headers.now))
      (event_of (to_write bytes.now) (whole r t'.now) (lent sent'.now held.now queue'.now outgoing'.now incoming.now headers.now) []) ⌝)

  -- udx_lent/src/deliver.rt
  abbrev pub Deliver : Type 2
  Deliver =
      (κs : Lfts 8) (x : Args deliver.signature κs) (r : Res deliver.signature κs) (y : AtExit deliver.ended κs)
      → let (t, (s, (sent, (held, (queue, (outgoing, (incoming, (headers, (datagram, (clock, _)))))))))) = x in
      let (t', (_, (sent', (held', (queue', (_, (incoming', (headers', (_, (_, _)))))))))) = y in
      let c = deliver.clauses 𝓛 mem run κs x in
      (c.requires tt ≡ ⊤ₛ)
      × (c.ensures tt r y
      ≡ ⌜ Did (records_of s t.now (lent sent.now held.now queue.now outgoing.now incoming.now headers.now))
      (event_of (to_deliver datagram.now clock.0) (whole r t'.now) (lent sent'.now held'.now queue'.now outgoing.now incoming'.now headers'.now) []) ⌝)

  -- udx_lent/src/drive.rt
  abbrev pub Drive : Type 2
  Drive =
      (κs : Lfts 7) (x : Args drive.signature κs) (r : Res drive.signature κs) (y : AtExit drive.ended κs)
      → let (t, (s, (sent, (held, (queue, (outgoing, (incoming, (headers, (clock, _))))))))) = x in
      let (t', (_, (sent', (_, (queue', (_, (_, (headers', (_, _))))))))) = y in
      let c = drive.clauses 𝓛 mem run κs x in
      (c.requires tt ≡ ⊤ₛ)
      × (c.ensures tt r y
      ≡ ⌜ Did (records_of s t.now (lent sent.now held.now queue.now outgoing.now incoming.now headers.now))
      (event_of (to_drive clock.0) (whole r t'.now) (lent sent'.now held.now queue'.now outgoing.now incoming.now headers'.now) []) ⌝)

  -- udx_lent/src/take.rt
  abbrev pub Take : Type 2
  Take =
      (κs : Lfts 8) (x : Args take.signature κs) (r : Res take.signature κs) (y : AtExit take.ended κs)
      → let (t, (s, (sent, (held, (queue, (outgoing, (incoming, (headers, (buf, _))))))))) = x in
      let (t', (_, (sent', (_, (_, (_, (_, (_, (buf', _))))))))) = y in
      let c = take.clauses 𝓛 mem run κs x in
      (c.requires tt ≡ ⊤ₛ)
      × (c.ensures tt r y
      ≡ ⌜ Did (records_of s t.now (lent sent.now held.now queue.now outgoing.now incoming.now headers.now))
      (event_of (to_take buf.now) (whole r t'.now) (lent sent'.now held.now queue.now outgoing.now incoming.now headers.now) buf'.now) ⌝)

  -- udx_lent/src/read.rt
  abbrev pub Read : Type 2
  Read =
      (κs : Lfts 8) (x : Args read.signature κs) (r : Res read.signature κs) (y : AtExit read.ended κs)
      → let (t, (s, (sent, (held, (queue, (outgoing, (incoming, (headers, (buf, _))))))))) = x in
      let (t', (_, (_, (held', (_, (_, (_, (_, (buf', _))))))))) = y in
      let c = read.clauses 𝓛 mem run κs x in
      (c.requires tt ≡ ⊤ₛ)
      × (c.ensures tt r y
      ≡ ⌜ Did (records_of s t.now (lent sent.now held.now queue.now outgoing.now incoming.now headers.now))
      (event_of (to_read buf.now) (whole r t'.now) (lent sent.now held'.now queue.now outgoing.now incoming.now headers.now) buf'.now) ⌝)

  -- udx_lent/src/close.rt
  abbrev pub Close : Type 2
  Close =
      (κs : Lfts 7) (x : Args close.signature κs) (r : Res close.signature κs) (y : AtExit close.ended κs)
      → let (t, (s, (sent, (held, (queue, (outgoing, (incoming, (headers, _)))))))) = x in
      let (t', (_, (_, (_, (queue', (_, (_, (headers', _)))))))) = y in
      let c = close.clauses 𝓛 mem run κs x in
      (c.requires tt ≡ ⊤ₛ)
      × (c.ensures tt r y
      ≡ ⌜ Did (records_of s t.now (lent sent.now held.now queue.now outgoing.now incoming.now headers.now))
      (event_of to_close (whole r t'.now) (lent sent.now held.now queue'.now outgoing.now incoming.now headers'.now) []) ⌝)

  pub record ContractsWithTotalsLent : Type 2 where
    pub write : Write
    pub deliver : Deliver
    pub drive : Drive
    pub take : Take
    pub read : Read
    pub close : Close
