-- The parts of a delivery in sequence, then the largest ack and the window, are the model's `handle_incoming`.
use Prim.Native.Nat.{ℕ}
use mathlib.Core.Path.{◌≡◌, refl, ap, sym, subst, ◌∙◌}
use mathlib.Core.List.{List}
use mathlib.Core.Bool.{true}
use Rattle.packet.specs.declared.header.Header.{Header}
use Rattle.model.specs.Lists.{Bytes}
use Rattle.model.specs.Receiving.{count_received, on_end, on_data, on_ack, handle_incoming}
use Rattle.records.specs.declared.Queue.{Queue}
use Rattle.records.specs.declared.Sender.{Sender}
use Rattle.records.specs.declared.Stream.{Stream}
use Rattle.records.specs.declared.Totals.{Totals}
use Rattle.records.specs.Seen.{seen, formed_queue}
use Rattle.records.specs.Setters.{with_words}
use Rattle.close_state.specs.State.{with_state, Pushed}
use Rattle.records.specs.Laid.{LaidReceiver}
use Rattle.records.specs.declared.StreamAndTotals.{StreamAndTotals}
use Rattle.deliver_notes.specs.Numbers.{counted_received, clocked_stream, acked_sender}
use Rattle.deliver_parts.specs.Steps.{with_sender_and_timing, Sacked, Ended, TookData}
use Rattle.deliver_all.specs.Handle.{Began, CanDeliver, with_delivered, Handled}

-- everything before DATA

module _ {s z : Stream} {t n : Totals} {clock : ℕ} {h : Header} {payload : Bytes} {sent queue : List ℕ} {headers : Bytes} {a r : StreamAndTotals} {sent' queue' : List ℕ} {headers' : Bytes} where
  pub begins : Sacked z n clock h payload sent a sent' → z ≡ clocked_stream s clock → n ≡ counted_received t → Ended a.stream a.totals h queue headers r queue' headers'
      → Began s t clock h payload sent queue headers r sent' queue' headers'
  unfolding seen count_received
  begins x clocked counted y =
      let stream = x.others ∙ ap (with_sender_and_timing a.stream.sender a.stream.timing) clocked in
      let queue_same = ap (λ (z : Stream). z.queue) stream in
      record {
        seen_after = λ f l.
            y.seen_after (subst (λ (q : Queue). formed_queue q queue ≡ true) (sym queue_same) f) (with_words sent' l)
            ∙ ap (on_end h) (x.seen_after (with_state queue headers l) ∙ rw (clocked, counted) refl);
        receiver = ap (λ (z : Stream). z.receiver) y.others ∙ ap (λ (z : Stream). z.receiver) stream;
        pushed = subst (λ (q : Queue). Pushed q queue r.stream.queue queue' headers') queue_same y.pushed;
      }

-- DATA and what follows it

module _ {s : Stream} {t : Totals} {clock : ℕ} {h : Header} {payload : Bytes} {sent queue : List ℕ} {incoming headers : Bytes}
    {b : StreamAndTotals} {sent' queue' : List ℕ} {headers' : Bytes} {held : List ℕ} {e : StreamAndTotals} {x : Sender} {held' queue'' : List ℕ} {incoming' headers'' : Bytes} where
  pub handles : CanDeliver s clock h queue incoming headers payload → Began s t clock h payload sent queue headers b sent' queue' headers'
      → TookData b.stream b.totals h payload held queue' incoming headers' e held' queue'' incoming' headers''
      → x ≡ acked_sender e.stream.sender h.ack
      → Handled s t clock h payload sent held queue incoming headers
      (record { stream = with_sender_and_timing x e.stream.timing e.stream; totals = e.totals }) sent' held' queue'' incoming' headers''
  unfolding handle_incoming seen
  handles d x y acks =
      rw acks (record {
        seen_after = λ l.
            ap (on_ack h) (y.seen_after (x.pushed.formed d.formed) (with_delivered sent' held' queue'' incoming' headers'' l)
            ∙ ap (on_data h payload) (x.seen_after d.formed (with_delivered sent held queue incoming headers l)));
        formed = y.pushed.formed (x.pushed.formed d.formed);
        laid = λ z. y.laid (subst LaidReceiver (sym x.receiver) z);
        beside = y.beside;
      })
