-- Settling the lowest number: it is acked, so its packet is no longer stored, and what is seen from the next number on is the same store.
use Prim.Native.Nat.{ℕ, suc, ◌+◌}
use native.Mathlib.Numerals.{add-one}
use native.Mathlib.Omega.{arith}
use mathlib.Core.Path.{◌≡◌, refl, ap, ap₂, sym, ◌∙◌}
use mathlib.Core.Logic.{◌≢◌}
use mathlib.Core.List.{List}
use mathlib.Core.Option.{Option, none, some}
use lib.ListN.{length}
use Rattle.model.specs.Lists.{on}
use Rattle.model.specs.Slots.{Slots, ceiling, get}
use Rattle.model.specs.Stream as model
use Rattle.model.specs.Receiving.{handle_remote_ack, ack_number}
use Rattle.model.specs.Driving as drive
use Rattle.model.proofs.Slots.{no_some, remove_cases}
use Rattle.records.specs.declared.Stream.{Stream}
use Rattle.records.specs.Seen.{Lent, seen, seen_outgoing}
use Rattle.records.specs.Setters.{with_words}
use Rattle.records.proofs.SeenSlots.{remove_absent}
use Rattle.records.proofs.SeenOutgoing.{outgoing_length, settle_outgoing}
use Rattle.deliver_acks.specs.declared.Acks.{Acks}
use Rattle.deliver_acks.specs.Acked.{InWindow, with_acks, AcksOne}
use Rattle.drive_settle.specs.Settling.{past_one, SettlesOne}

-- a packet stored after n is acked was stored before, and is not n
pub ack_cases : (clock n : ℕ) (e : model.End) (m : ℕ) (p : model.Packet) → length e.sender.outgoing ≡ ceiling
    → get (ack_number clock n e).sender.outgoing m ≡ some p → (m ≢ n) × (get e.sender.outgoing m ≡ some p)
unfolding ack_number
ack_cases clock n e m p long = go (get e.sender.outgoing n) refl
  where
    go : (o : Option model.Packet) → get e.sender.outgoing n ≡ o
        → get (on o e (λ q. handle_remote_ack clock n q e)).sender.outgoing m ≡ some p → (m ≢ n) × (get e.sender.outgoing m ≡ some p)
    go none is z = (λ same. no_some is (ap (get e.sender.outgoing) (sym same) ∙ z), z)
    go (some q) is z = remove_cases e.sender.outgoing n m p long z

-- n is no longer stored
ack_gone : (clock n : ℕ) (e : model.End) → length e.sender.outgoing ≡ ceiling → get (ack_number clock n e).sender.outgoing n ≡ none
ack_gone clock n e long = go (get (ack_number clock n e).sender.outgoing n) refl
  where
    go : (o : Option model.Packet) → get (ack_number clock n e).sender.outgoing n ≡ o → o ≡ none
    go none z = refl
    go (some p) z = absurd ((ack_cases clock n e n p long z).0 refl)

module _ (clock : ℕ) (a : Acks) (sent : List ℕ) (b : Acks) (sent' : List ℕ) (w : InWindow a.sender a.sender.remote_acked)
    (x : AcksOne clock a.sender.remote_acked a sent b sent') where
  abbrev lowest : ℕ
  lowest = a.sender.remote_acked

  abbrev settled_acks : Acks
  settled_acks = record { sender = past_one b.sender; rtt = b.rtt; totals = b.totals }

  module _ (s : Stream) (l : Lent) where
    abbrev before : model.End
    before = seen (with_acks a s) a.totals (with_words sent l)

    abbrev after : model.End
    after = seen (with_acks b s) b.totals (with_words sent' l)

    abbrev outgoing_from : ℕ → Slots model.Packet
    outgoing_from n = seen_outgoing n b.sender.seq sent' l.outgoing

    gone : get (outgoing_from b.sender.remote_acked) lowest ≡ none
    unfolding seen
    gone =
        ap (λ (e : model.End). get e.sender.outgoing lowest) (x.seen_after s l)
        ∙ ack_gone clock lowest before (outgoing_length a.sender.remote_acked a.sender.seq sent l.outgoing)

    same_store : outgoing_from (suc b.sender.remote_acked) ≡ outgoing_from b.sender.remote_acked
    same_store =
        let acked = x.same.acked in
        let seq = x.same.seq in
        settle_outgoing b.sender.remote_acked b.sender.seq sent' l.outgoing (omega (arith, w.width)) (omega (arith, w.high))
        ∙ remove_absent (outgoing_from b.sender.remote_acked) b.sender.remote_acked
        (ap (get (outgoing_from b.sender.remote_acked)) acked ∙ gone)

    one_seen : seen (with_acks settled_acks s) b.totals (with_words sent' l) ≡ drive.settle_one clock before
    unfolding seen
    one_seen =
        ap₂ (λ (n : ℕ) (o : Slots model.Packet).
        model.with_sender (record {
          seq = b.sender.seq;
          remote_acked = n;
          largest_ack = b.sender.largest_ack;
          inflight = b.sender.inflight;
          cwnd = b.sender.cwnd;
          outgoing = o;
        }) after) (add-one b.sender.remote_acked) (ap outgoing_from (add-one b.sender.remote_acked) ∙ same_store)
        ∙ ap (λ (e : model.End). model.with_sender (drive.settled e.sender) e) (x.seen_after s l)

  pub settles_one : SettlesOne clock a sent settled_acks sent'
  settles_one =
      record {
        seen_after = one_seen;
        seq = x.same.seq;
        moved = ap (λ (n : ℕ). n + 1) x.same.acked;
        range = x.range;
      }
