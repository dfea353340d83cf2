-- Demand 1 in 01's sentences for the calls with the totals lent: "The totals are one record that each call is lent and updates". As in
-- Calls.antt, each from the call's field of `ContractsWithTotalsLent` (promise_ways/specs/LentTotals.antt). Statements only: the proofs are
-- in proofs/CallsWithTotalsLent.antt.
use Rattle.std.specs.Prelude.{◌≡◌, length, Err}
use seplogic.Ra.Ura.{Ura}
use base.Logic.{SProp}
use prog.Memory.{Memory}
use prog.Routine.{Routine}
use types.Logic.{Logic}
use contract.Lifetimes.{Lfts}
use contract.Monad.{Fun}
use denote.Triple.Entry.{Args, Res}
use denote.Triple.Clauses.{AtExit}
use Rattle.error.specs.declared.Refusal.TheVariants.{BrokenRecords}
use Rattle.model.specs.Sending as model
use Rattle.model.specs.Receiving as model_in
use Rattle.model.specs.Driving as model_out
use Rattle.records.specs.Beside.{Beside}
use Rattle.rules_lent.specs.Broken.{lent}
use Rattle.udx.specs.Agree.{on_records}
use Rattle.udx_lent.specs.Whole.{whole}
use Rattle.udx_lent.specs.contracts.write.write as write
use Rattle.udx_lent.specs.contracts.deliver.deliver as deliver
use Rattle.udx_lent.specs.contracts.drive.drive as drive
use Rattle.udx_lent.specs.contracts.take.take as take
use Rattle.udx_lent.specs.contracts.read.read as read
use Rattle.udx_lent.specs.contracts.close.close as close
use Rattle.promise_sentences.specs.Calls.{Equations, WhereRefused, Puts, Promises}

module _ {M : Type 1} {𝓤 : Ura M} (𝓛 : Logic 𝓤) (mem : Memory → SProp 𝓤) (run : Routine → Fun 𝓤) where
  abbrev pub Write : Type 2
  Write =
      (κs : Lfts 8) (x : Args write.signature κs) (r : Res write.signature κs) (y : AtExit write.ended κs)
      → let (t, (s, (sent, (held, (queue, (outgoing, (incoming, (headers, (bytes, _))))))))) = x in
      let (t', (_, (sent', (_, (queue', (outgoing', (_, (_, (_, _))))))))) = y in
      let before = lent sent.now held.now queue.now outgoing.now incoming.now headers.now in
      let after = lent sent'.now held.now queue'.now outgoing'.now incoming.now headers.now in
      let c = write.clauses 𝓛 mem run κs x in
      Promises 𝓤 (c.requires tt) (c.ensures tt r y)
      (Equations (model.write bytes.now) s t.now before (whole r t'.now) after
      × Beside before after
      × WhereRefused r.outcome
      ((r.stream ≡ s) × (t'.now ≡ t.now) × (sent'.now ≡ sent.now) × (queue'.now ≡ queue.now) × (outgoing'.now ≡ outgoing.now)))

  abbrev pub Deliver : Type 2
  Deliver =
      (κs : Lfts 8) (x : Args deliver.signature κs) (r : Res deliver.signature κs) (y : AtExit deliver.ended κs)
      → let (t, (s, (sent, (held, (queue, (outgoing, (incoming, (headers, (datagram, (clock, _)))))))))) = x in
      let (t', (_, (sent', (held', (queue', (_, (incoming', (headers', (_, (_, _)))))))))) = y in
      let before = lent sent.now held.now queue.now outgoing.now incoming.now headers.now in
      let after = lent sent'.now held'.now queue'.now outgoing.now incoming'.now headers'.now in
      let c = deliver.clauses 𝓛 mem run κs x in
      Promises 𝓤 (c.requires tt) (c.ensures tt r y)
      (Equations (model_in.deliver datagram.now clock.0) s t.now before (whole r t'.now) after
      × Beside before after
      × WhereRefused r.outcome
      ((r.stream ≡ s)
      × (t'.now ≡ t.now)
      × (sent'.now ≡ sent.now)
      × (held'.now ≡ held.now)
      × (queue'.now ≡ queue.now)
      × (incoming'.now ≡ incoming.now)
      × (headers'.now ≡ headers.now)))

  abbrev pub Drive : Type 2
  Drive =
      (κs : Lfts 7) (x : Args drive.signature κs) (r : Res drive.signature κs) (y : AtExit drive.ended κs)
      → let (t, (s, (sent, (held, (queue, (outgoing, (incoming, (headers, (clock, _))))))))) = x in
      let (t', (_, (sent', (_, (queue', (_, (_, (headers', (_, _))))))))) = y in
      let before = lent sent.now held.now queue.now outgoing.now incoming.now headers.now in
      let after = lent sent'.now held.now queue'.now outgoing.now incoming.now headers'.now in
      let c = drive.clauses 𝓛 mem run κs x in
      Promises 𝓤 (c.requires tt) (c.ensures tt r y)
      (Equations (model_out.drive clock.0) s t.now before (whole r t'.now) after
      × Beside before after
      × WhereRefused r.outcome
      ((r.stream ≡ s) × (t'.now ≡ t.now) × (sent'.now ≡ sent.now) × (queue'.now ≡ queue.now) × (headers'.now ≡ headers.now)))

  abbrev pub Take : Type 2
  Take =
      (κs : Lfts 8) (x : Args take.signature κs) (r : Res take.signature κs) (y : AtExit take.ended κs)
      → let (t, (s, (sent, (held, (queue, (outgoing, (incoming, (headers, (buf, _))))))))) = x in
      let (t', (_, (sent', (_, (_, (_, (_, (_, (buf', _))))))))) = y in
      let before = lent sent.now held.now queue.now outgoing.now incoming.now headers.now in
      let after = lent sent'.now held.now queue.now outgoing.now incoming.now headers.now in
      let c = take.clauses 𝓛 mem run κs x in
      Promises 𝓤 (c.requires tt) (c.ensures tt r y)
      (Equations (model_out.take (length buf.now)) s t.now before (whole r t'.now) after
      × Puts r.count (on_records (model_out.take (length buf.now)) s t.now before).bytes buf.now buf'.now
      × WhereRefused r.outcome ((r.stream ≡ s) × (t'.now ≡ t.now) × (sent'.now ≡ sent.now) × (buf'.now ≡ buf.now)))

  abbrev pub Read : Type 2
  Read =
      (κs : Lfts 8) (x : Args read.signature κs) (r : Res read.signature κs) (y : AtExit read.ended κs)
      → let (t, (s, (sent, (held, (queue, (outgoing, (incoming, (headers, (buf, _))))))))) = x in
      let (t', (_, (_, (held', (_, (_, (_, (_, (buf', _))))))))) = y in
      let before = lent sent.now held.now queue.now outgoing.now incoming.now headers.now in
      let after = lent sent.now held'.now queue.now outgoing.now incoming.now headers.now in
      let c = read.clauses 𝓛 mem run κs x in
      Promises 𝓤 (c.requires tt) (c.ensures tt r y)
      (Equations (model_in.read (length buf.now)) s t.now before (whole r t'.now) after
      × Puts r.count (on_records (model_in.read (length buf.now)) s t.now before).bytes buf.now buf'.now
      × WhereRefused r.outcome ((r.stream ≡ s) × (t'.now ≡ t.now))
      × (r.outcome ≡ Err BrokenRecords → (held'.now ≡ held.now) × (buf'.now ≡ buf.now)))

  abbrev pub Close : Type 2
  Close =
      (κs : Lfts 7) (x : Args close.signature κs) (r : Res close.signature κs) (y : AtExit close.ended κs)
      → let (t, (s, (sent, (held, (queue, (outgoing, (incoming, (headers, _)))))))) = x in
      let (t', (_, (_, (_, (queue', (_, (_, (headers', _)))))))) = y in
      let before = lent sent.now held.now queue.now outgoing.now incoming.now headers.now in
      let after = lent sent.now held.now queue'.now outgoing.now incoming.now headers'.now in
      let c = close.clauses 𝓛 mem run κs x in
      Promises 𝓤 (c.requires tt) (c.ensures tt r y)
      (Equations model.close s t.now before (whole r t'.now) after
      × Beside before after
      × WhereRefused r.outcome ((r.stream ≡ s) × (t'.now ≡ t.now) × (queue'.now ≡ queue.now) × (headers'.now ≡ headers.now)))

  pub record DemandOneWithTotalsLent : Type 2 where
    pub write : Write
    pub deliver : Deliver
    pub drive : Drive
    pub take : Take
    pub read : Read
    pub close : Close
