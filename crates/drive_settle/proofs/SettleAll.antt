-- Settling all numbers up to the largest ack. Invariant: what the model still has to settle gives its whole result. The packets that stay
-- were stored before, so they are still within their bounds.
use Prim.Native.Nat.{ℕ, zero, suc, ◌-◌, ◌%◌, ◌^◌, ◌≤◌, ◌<◌}
use native.Mathlib.Omega.{arith}
use mathlib.Core.Path.{◌≡◌, refl, ap, sym, subst, ◌∙◌}
use mathlib.Core.List.{List, []}
use mathlib.Core.Option.{none, some}
use mathlib.Core.Bool.{Bool, true, false, cond}
use lib.Dec.{ltb}
use lib.ListN.{length}
use Rattle.std.specs.Prelude as rust
use Rattle.std.specs.Prelude.{None, Some}
use Rattle.std.specs.Option.{ForSome}
use Rattle.rtt.specs.declared.nanos.Nanos.{Nanos}
use Rattle.rtt.specs.Estimate.{InRange}
use Rattle.model.specs.Slots.{ceiling, get}
use Rattle.model.specs.Stream as model
use Rattle.model.specs.Driving as drive
use Rattle.model.proofs.Slots.{no_some, some_inj}
use Rattle.model.proofs.SackBlocks.{one_length}
use Rattle.records_words.specs.declared.Sent.{Sent}
use Rattle.records.specs.declared.Sender.{Sender}
use Rattle.records.specs.declared.Stream.{Stream}
use Rattle.records.specs.declared.Totals.{Totals}
use Rattle.records_words.specs.Words.{sent_in, is_stored}
use Rattle.records.specs.Cut.{outgoing_slot}
use Rattle.records.specs.Seen.{Lent, seen, seen_outgoing, seen_time, packet_of}
use Rattle.records.specs.Setters.{with_words}
use Rattle.records.proofs.Cut.{cut_length}
use Rattle.records.proofs.SeenOutgoing.{outgoing_length, get_outgoing}
use Rattle.deliver_acks.specs.declared.Acks.{Acks}
use Rattle.deliver_acks.specs.Acked.{with_acks}
use Rattle.drive_lost.specs.Packets.{SentBounds, AllSentBounds}
use Rattle.records.specs.declared.StreamAndTotals.{StreamAndTotals}
use Rattle.drive_settle.specs.Settling.{no_ack_sender, SettlesOne, Settles, Restarts, Settled}
use Rattle.drive_settle.proofs.SettleOne.{ack_cases}

abbrev seen_of : Acks → List ℕ → Stream → Lent → model.End
seen_of a sent s l = seen (with_acks a s) a.totals (with_words sent l)

-- the loop

pub record Going (clock to : ℕ) (a₀ : Acks) (sent₀ : List ℕ) (a : Acks) (sent : List ℕ) : Type 0 where
  pub seq : a.sender.seq ≡ a₀.sender.seq
  pub moved : a₀.sender.remote_acked ≤ a.sender.remote_acked
  pub range : InRange a.rtt
  pub goes_on : (s : Stream) (l : Lent)
      → drive.settle_loop clock (to - a.sender.remote_acked) (seen_of a sent s l)
      ≡ drive.settle_loop clock (to - a₀.sender.remote_acked) (seen_of a₀ sent₀ s l)

module _ {clock to : ℕ} {a₀ : Acks} {sent₀ : List ℕ} {a : Acks} {sent : List ℕ} (g : Going clock to a₀ sent₀ a sent) where
  pub settles_next : a.sender.remote_acked < to → {r : Acks} {sent' : List ℕ} → SettlesOne clock a sent r sent' → Going clock to a₀ sent₀ r sent'
  unfolding drive.settle_loop
  settles_next less {r} {sent'} x =
      record {
        seq = x.seq ∙ g.seq;
        moved = omega (arith, g.moved, x.moved);
        range = x.range;
        goes_on = λ s l.
            let count : suc (to - r.sender.remote_acked) ≡ to - a.sender.remote_acked = omega (arith, x.moved) in
            ap (drive.settle_loop clock (to - r.sender.remote_acked)) (x.seen_after s l)
            ∙ ap (λ (k : ℕ). drive.settle_loop clock k (seen_of a sent s l)) count
            ∙ g.goes_on s l;
      }

  pub all_settled : to ≤ a.sender.remote_acked → Settles clock to a₀ sent₀ a sent
  unfolding drive.settle_loop
  all_settled past =
      record {
        seen_after = λ s l.
            let none : 0 ≡ to - a.sender.remote_acked = omega arith in
            ap (λ (k : ℕ). drive.settle_loop clock k (seen_of a sent s l)) none ∙ g.goes_on s l;
        seq = g.seq;
        moved = g.moved;
        range = g.range;
      }

-- the packets that stay

settle_cases : (clock k : ℕ) (e : model.End) (m : ℕ) (p : model.Packet) → length e.sender.outgoing ≡ ceiling
    → get (drive.settle_loop clock k e).sender.outgoing m ≡ some p → get e.sender.outgoing m ≡ some p
unfolding drive.settle_loop
settle_cases clock zero e m p long z = z
settle_cases clock (suc k) e m p long z =
    let n = e.sender.remote_acked in
    (ack_cases clock n e m p long (settle_cases clock k (drive.settle_one clock e) m p (one_length clock n e long) z)).1

-- a packet with the same time sent as another has the same bound on it
time_within : (o o' : rust.Option Nanos) → seen_time o ≡ seen_time o' → ForSome o (λ t. t.0 < 2 ^ 60) → ForSome o' (λ t. t.0 < 2 ^ 60)
time_within (Some t) (Some u) same early v e = let a = early t refl in let b = some_inj refl same in let c : u ≡ v = cc in rw (← c) (omega arith)
time_within None (Some u) same early v e = absurd (no_some refl same)
time_within o None same early v e = absurd (cc)

module _ (s : Sender) (sent : List ℕ) (r : Sender) (sent' : List ℕ) (seq : r.seq ≡ s.seq) (moved : s.remote_acked ≤ r.remote_acked)
    (came : (m : ℕ) (p : model.Packet) → get (seen_outgoing r.remote_acked r.seq sent' []) m ≡ some p
    → get (seen_outgoing s.remote_acked s.seq sent []) m ≡ some p) where
  pub stays_stored : AllSentBounds s sent → AllSentBounds r sent'
  stays_stored stored m low high is = go (is_stored old m) refl
    where
      old : Sent
      old = sent_in sent (m % ceiling)

      new : Sent
      new = sent_in sent' (m % ceiling)

      was : get (seen_outgoing s.remote_acked s.seq sent []) m ≡ some (packet_of [] (m % ceiling) new)
      was = came m (packet_of [] (m % ceiling) new) (get_outgoing r.remote_acked r.seq sent' [] m low high ∙ rw is refl)

      below : m < s.seq
      below = omega arith

      above : s.remote_acked ≤ m
      above = omega arith

      is_old : cond (is_stored old m) (some (packet_of [] (m % ceiling) old)) none ≡ some (packet_of [] (m % ceiling) new)
      is_old = sym (get_outgoing s.remote_acked s.seq sent [] m above below) ∙ was

      go : (b : Bool) → is_stored old m ≡ b → SentBounds new
      go true e =
          let w = stored m above below e in
          let same : packet_of [] (m % ceiling) old ≡ packet_of [] (m % ceiling) new =
          some_inj refl (ap (λ (b : Bool). cond b (some (packet_of [] (m % ceiling) old)) none) (sym e) ∙ is_old) in
          let size : old.length ≡ new.length =
          sym (cut_length outgoing_slot [] (m % ceiling) old.length) ∙ ap (λ (p : model.Packet). length p.bytes) same ∙ cut_length outgoing_slot [] (m % ceiling) new.length in
          record {
            short = subst (λ (k : ℕ). k ≤ 1_400) size w.short;
            early = time_within old.sent_at new.sent_at (ap (λ (p : model.Packet). p.marks.sent) same) w.early;
          }
      go false e = absurd (no_some (ap (λ (b : Bool). cond b (some (packet_of [] (m % ceiling) old)) none) e) is_old)

-- the deadline afterwards

rto_stays : (clock : ℕ) (b : Bool) (t : model.Timing) → (drive.restarted clock b t).rtt ≡ t.rtt
unfolding drive.restarted
rto_stays clock true t = refl
rto_stays clock false t = refl

module _ (s : Stream) (t : Totals) (clock : ℕ) (sent : List ℕ) where
  -- the numbers before settling
  abbrev pub acks_of : Acks
  acks_of = record { sender = s.sender; rtt = s.timing.rtt; totals = t }

  module _ {a : Acks} {sent' : List ℕ} (x : Settles clock s.sender.largest_ack acks_of sent a sent') {r : StreamAndTotals} (y : Restarts s clock a r) where
    abbrev moves : Bool
    moves = ltb s.sender.remote_acked s.sender.largest_ack

    -- what settling does after the loop
    abbrev timed : model.End → model.End
    timed e = model.with_timing (drive.restarted clock moves e.timing) (model.with_sender (drive.no_ack e.sender) e)

    settle_seen : (l : Lent) → seen r.stream r.totals (with_words sent' l) ≡ drive.settle clock (seen s t (with_words sent l))
    unfolding seen drive.settle
    settle_seen l =
        rw (y.others, y.sender, y.totals)
        (ap (λ (z : model.Timing). model.with_timing z (model.with_sender (drive.no_ack (seen_of a sent' s l).sender) (seen_of a sent' s l))) y.timing
        ∙ ap timed (x.seen_after s l))

    came : (m : ℕ) (p : model.Packet) → get (seen_outgoing a.sender.remote_acked a.sender.seq sent' []) m ≡ some p
        → get (seen_outgoing s.sender.remote_acked s.sender.seq sent []) m ≡ some p
    unfolding seen
    came m p z =
        let l : Lent = record { sent = []; held = []; queue = []; outgoing = []; incoming = []; headers = [] } in
        settle_cases clock (s.sender.largest_ack - s.sender.remote_acked) (seen_of acks_of sent s l) m p
        (outgoing_length s.sender.remote_acked s.sender.seq sent [])
        (ap (λ (e : model.End). get e.sender.outgoing m) (sym (x.seen_after s l)) ∙ z)

    pub settled : Settled s t clock sent r sent'
    settled =
        record {
          seen_after = settle_seen;
          others = y.others;
          seq = ap (λ (z : Sender). z.seq) y.sender ∙ x.seq;
          moved = rw y.sender x.moved;
          range = subst InRange (sym (ap (λ (z : model.Timing). z.rtt) y.timing ∙ rto_stays clock moves (record { rtt = a.rtt; deadline = s.timing.deadline.0.0 }))) x.range;
          stored = rw y.sender (stays_stored s.sender sent (no_ack_sender a.sender) sent' x.seq x.moved came);
        }
