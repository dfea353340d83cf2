-- Every end of the model that satisfies the invariant can be laid out as records: numbers, words and stores that are seen as that end.
-- The stores have 01's lengths, and their bytes past the packets stay (`laid`).
use Prim.Native.Nat.{ℕ, ◌+◌, ◌≤◌, ◌<◌}
use native.Mathlib.Omega.{arith}
use mathlib.Core.Path.{◌≡◌, refl}
use mathlib.Core.List.{List, [], ◌∷◌}
use mathlib.Core.Logic.{◌⊎◌, inl, inr}
use mathlib.Core.Option.{none, some}
use mathlib.Core.Bool.{Bool, true, false, ◌||◌, not, true≢false}
use lib.Dec.{eqb}
use lib.ListN.{length, get_or}
use borrow.Author.Tests.{eqb-true, le-leb}
use Rattle.model.specs.Slots.{Numbered, ceiling}
use Rattle.model.specs.Rules.{states, numbers}
use Rattle.model.specs.RulesKept.{EntryKept}
use Rattle.model.specs.Stream as model
use Rattle.model.proofs.Lists.{All}
use Rattle.model_rules.proofs.Invariant.{FitIn, Left, at_rest, to_take, Invariant, rest_few}
use Rattle.records.specs.declared.StreamState.{StreamState}
use Rattle.records.specs.declared.StreamState.TheVariants as state
use Rattle.records.specs.declared.Stream.{Stream}
use Rattle.records.specs.declared.Totals.{Totals}
use Rattle.records.specs.Seen.{Lent, seen, seen_state, formed}
use Rattle.records.specs.Beside.{Beside}
use Rattle.records.specs.Open.{stores_test}
use Rattle.records.proofs.FormedQueue.{queue_said}
use Rattle.udx.specs.Agree.{laid_out}
use Rattle.promise.specs.Runs.{Records, seen_of}
use Rattle.promise.specs.Possible.{WordLengths}
use Rattle.promise.proofs.LaidPackets.{StoredFits, laid_sent, laid_outgoing, sent_length, outgoing_length, outgoing_stays, outgoing_seen, HeldFits, laid_held, laid_incoming, held_length, incoming_length, incoming_stays, incoming_seen}
use Rattle.promise.proofs.LaidQueue.{EntryFits, laid_queue, laid_entries, laid_headers, entries_length, laid_headers_length, queue_seen, queue_formed}

abbrev state_for : model.CloseState → StreamState
state_for model.both_open = state.Open
state_for model.local_closed = state.LocalClosed
state_for model.remote_closed = state.RemoteClosed
state_for model.both_closed = state.BothClosed

state_back : (s : model.CloseState) → seen_state (state_for s) ≡ s
state_back model.both_open = refl
state_back model.local_closed = refl
state_back model.remote_closed = refl
state_back model.both_closed = refl

-- every number from the read cursor on is below top
abbrev laid_stream : model.End → Stream
laid_stream e =
    record {
      ids = record { local = e.ids.local; remote = e.ids.remote; segments = e.ids.segments };
      sender =
          record {
            seq = e.sender.seq;
            remote_acked = e.sender.remote_acked;
            largest_ack = e.sender.largest_ack;
            inflight = e.sender.inflight;
            cwnd = e.sender.cwnd;
          };
      receiver = record { ack = e.receiver.ack; read_cursor = e.receiver.read_cursor; top = e.receiver.read_cursor + ceiling };
      queue = laid_queue e.queue;
      timing = record { rtt = e.timing.rtt; deadline = record { 0 = record { 0 = e.timing.deadline } } };
      ending = record { error = e.ending.error; state = state_for e.ending.state; ended = e.ending.ended };
      clocks = record { last = record { 0 = e.clocks.last }; drive = record { 0 = e.clocks.drive } };
    }

abbrev laid_totals : model.Totals → Totals
laid_totals t =
    record {
      tx_packets = t.tx_packets;
      tx_bytes = t.tx_bytes;
      rx_packets = t.rx_packets;
      rx_bytes = t.rx_bytes;
      inflight_packets = t.inflight_packets;
      inflight_bytes = t.inflight_bytes;
    }

abbrev laid_lent : model.End → Lent → Lent
laid_lent e l =
    record {
      sent = laid_sent e.sender.outgoing;
      held = laid_held e.receiver.incoming;
      queue = laid_entries e.queue;
      outgoing = laid_outgoing e.sender.outgoing l.outgoing;
      incoming = laid_incoming e.receiver.incoming l.incoming;
      headers = laid_headers e.queue l.headers;
    }

-- records over the stores of l that are this end
pub record LaidAs (e : model.End) (l : Lent) (x : Records) : Type 0 where
  pub seen : seen_of x ≡ e
  pub out : laid_out x.stream x.lent ≡ true
  pub beside : Beside l x.lent
  pub sized : WordLengths x.lent

-- the stores have 01's lengths
lengths : (a b c : Bool) → (not a || (not b || not c)) ≡ false → (a ≡ true) × (b ≡ true) × (c ≡ true)
lengths true true true e = (refl, refl, refl)
lengths true true false e = absurd (true≢false e)
lengths true false c e = absurd (true≢false e)
lengths false b c e = absurd (true≢false e)

kinds : (q : List model.Entry) → length q ≡ states q + length (numbers q)
kinds [] = refl
kinds (model.state b ∷ q) = let h = kinds q in omega arith
kinds (model.packet n l ∷ q) = let h = kinds q in omega arith

module _ (e : model.End) (g : Invariant e) (l : Lent) (stores : stores_test l.outgoing l.incoming l.headers ≡ false) where
  abbrev pub laid : Records
  laid = record { stream = laid_stream e; totals = laid_totals e.totals; lent = laid_lent e l }

  sizes : (length l.outgoing ≡ 44_800) × (length l.incoming ≡ 44_160) × (length l.headers ≡ 1_280)
  sizes =
      let (a, b, c) = lengths (eqb (length l.outgoing) 44_800) (eqb (length l.incoming) 44_160) (eqb (length l.headers) 1_280) stores in
      (eqb-true _ _ a, eqb-true _ _ b, eqb-true _ _ c)

  stored : (i : ℕ) (x : Numbered model.Packet) → get_or e.sender.outgoing i none ≡ some x → StoredFits e.sender.remote_acked e.sender.seq i x
  stored i x z =
      let (a, f) = g.facts.stored i x z in
      let t = f.transmits in
      let b = f.least in
      let last = g.facts.ranges.last_fits in
      record {
        in-slot = a;
        from = f.from;
        below = f.below;
        some_bytes = omega arith;
        short = f.most;
        transmits = omega arith;
        time = λ t u. let before = f.sent t u in omega arith;
      }

  held : (i : ℕ) (x : Numbered model.Held) → get_or e.receiver.incoming i none ≡ some x → HeldFits e.receiver.read_cursor (e.receiver.read_cursor + ceiling) i x
  held i x z =
      let (a, f) = g.facts.receiver.held i x z in
      let m = f.most in
      let o = f.offset in
      record { in-slot = a; from = f.from; below = f.below; fits = f.fits; short = f.most; offset = omega arith }

  numbers_fit : FitIn e
  numbers_fit = g.facts.fits refl

  fit : All EntryFits e.queue.entries
  fit = go e.queue.entries g.facts.entries numbers_fit.below
    where
      go : (q : List model.Entry) → All (EntryKept e.sender.outgoing) q → All (λ n. n < e.sender.seq) (numbers q) → All EntryFits q
      go [] h b = tt
      go (model.state x ∷ q) h b = (h.0, go q h.1 b)
      go (model.packet n k ∷ q) h b =
          let s = numbers_fit.seq_fits in
          let low = b.0 in
          let most = h.0.1 in
          ((omega arith, omega arith), go q h.1 b.1)

  -- at rest at most 32 packet entries; with entries left to take at most 64 of each kind
  few : Left true e → (length e.queue.entries ≤ 128) × (states e.queue.entries ≤ 64) × ((e.queue.left ≡ 0) ⊎ (e.queue.left ≡ length e.queue.entries))
  few (at_rest z h) =
      let k = kinds e.queue.entries in
      let n = rest_few e g.facts h in
      let s = h.states in
      (omega arith, omega arith, inl z)
  few (to_take p z h) =
      let k = kinds e.queue.entries in
      let n = h.packets in
      let s = h.states in
      (omega arith, s, inr z)

  laid_seen : seen_of laid ≡ e
  unfolding seen
  laid_seen =
      let f = few g.left in
      rw (
        outgoing_seen e.sender.outgoing e.sender.remote_acked e.sender.seq numbers_fit.seq_fits stored l.outgoing sizes.0 g.facts.slots,
        incoming_seen e.receiver.incoming e.receiver.read_cursor (e.receiver.read_cursor + ceiling) held l.incoming sizes.1 g.facts.receiver.slots,
        queue_seen e.queue fit f.0 f.1 f.2 l.headers sizes.2,
        state_back e.ending.state,
      ) refl

  laid_out_lem : laid_out (laid_stream e) (laid_lent e l) ≡ true
  unfolding laid_out formed
  laid_out_lem =
      let f = few g.left in
      let c = e.receiver.read_cursor in
      rw (
        outgoing_length e.sender.outgoing e.sender.remote_acked e.sender.seq numbers_fit.seq_fits stored l.outgoing sizes.0,
        incoming_length e.receiver.incoming c (c + ceiling) held l.incoming sizes.1,
        laid_headers_length e.queue fit f.0 f.1 f.2 l.headers sizes.2,
        le-leb c (c + ceiling) (omega arith),
        le-leb (c + ceiling) (c + ceiling) (omega arith),
      ) (queue_said (laid_queue e.queue) (laid_entries e.queue) (queue_formed e.queue fit f.0 f.1 f.2 l.headers sizes.2))

  pub laid_as : LaidAs e l laid
  laid_as =
      let f = few g.left in
      record {
        seen = laid_seen;
        out = laid_out_lem;
        beside =
            record {
              outgoing = outgoing_stays e.sender.outgoing e.sender.remote_acked e.sender.seq numbers_fit.seq_fits stored l.outgoing sizes.0;
              incoming = incoming_stays e.receiver.incoming e.receiver.read_cursor (e.receiver.read_cursor + ceiling) held l.incoming sizes.1;
            };
        sized =
            record {
              sent = sent_length e.sender.outgoing;
              held = held_length e.receiver.incoming;
              queue = entries_length e.queue fit f.0 f.1 f.2;
            };
      }
