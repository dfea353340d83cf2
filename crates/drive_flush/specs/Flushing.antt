-- Queuing the waiting packets of the records again: it agrees with the model's loop on what is seen.
use Rattle.std.specs.Prelude.{ℕ, ◌+◌, ◌-◌, ◌≤◌, ◌≡◌, List, false, set}
use Rattle.model.specs.Driving as drive
use Rattle.records_words.specs.declared.Sent.{Sent}
use Rattle.records_words.specs.declared.Entry.{Entry}
use Rattle.records_words.specs.declared.Entry.TheVariants.{Packet}
use Rattle.records.specs.declared.Sender.{Sender}
use Rattle.records.specs.declared.Queue.{Queue}
use Rattle.records.specs.declared.Stream.{Stream}
use Rattle.records.specs.declared.Totals.{Totals}
use Rattle.records_words.specs.Words.{entry_word}
use Rattle.records.specs.Seen.{Lent, seen, QueueFormed, with_sent}
use Rattle.drive_flush.specs.declared.Flushed.{Flushed}
use Rattle.drive_lost.specs.Packets.{AllSentBounds, with_inflight}

-- one packet

abbrev pub flushed_packet : Sent → Sent
flushed_packet p =
    record { number = p.number; length = p.length; transmits = p.transmits; waiting = false; sent_at = p.sent_at }

-- 01, 'Records', send queue: "a stored packet's number and length"
abbrev pub flushed_entry : Sent → Entry
flushed_entry p = Packet (record { number = p.number; length = p.length })

-- the packet is no longer waiting, and is the queue's entry `at`
pub record FlushesPacket (p : Sent) (at : ℕ) (sent queue sent' queue' : List ℕ) : Type 0 where
  pub sent_words : sent' ≡ with_sent sent p.number (flushed_packet p)
  pub queue_words : queue' ≡ set queue at (entry_word (flushed_entry p))

-- all of them

abbrev pub with_count : ℕ → Queue → Queue
with_count count q = record { count = count; left = q.left; states = q.states; gone = q.gone }

abbrev pub flushed_of : Sender → Queue → (inflight count : ℕ) → Flushed
flushed_of s q inflight count = record { sender = with_inflight inflight s; queue = with_count count q }

-- a stream with this sender and this queue
abbrev pub with_flushed : Sender → Queue → Stream → Stream
with_flushed s q st =
    record {
      ids = st.ids;
      sender = s;
      receiver = st.receiver;
      queue = q;
      timing = st.timing;
      ending = st.ending;
      clocks = st.clocks;
    }

abbrev pub with_queued : (sent queue : List ℕ) → Lent → Lent
with_queued sent queue l =
    record { sent = sent; held = l.held; queue = queue; outgoing = l.outgoing; incoming = l.incoming; headers = l.headers }

-- guaranteed by 01's rules: every stored packet obeys them, nothing is left to take, and the queue, "an array of entries, 128 at most",
-- has a place for each number. A queue at rest has at most 63 state packets and one entry for each of 32 numbers, and TimedOut adds a
-- state packet: 32 places are left.
pub record Roomy (s : Sender) (q : Queue) (sent : List ℕ) : Type 0 where
  pub stored : AllSentBounds s sent
  pub rest : q.left ≡ 0
  pub room : q.count + (s.seq - s.remote_acked) ≤ 128

-- 01, call 4: "waiting packets are queued ascending until inflight + length exceeds the window" (flush_waiting_packets)
pub record Flushes (s : Sender) (q : Queue) (sent queue : List ℕ) (r : Flushed) (sent' queue' : List ℕ) : Type 0 where
  -- for any stream with these numbers and words, the end is the model's
  pub end : (st : Stream) (t : Totals) (l : Lent)
      → seen (with_flushed r.sender r.queue st) t (with_queued sent' queue' l) ≡ drive.flush (seen (with_flushed s q st) t (with_queued sent queue l))
  -- only inflight differs in the sender
  pub numbers : r.sender ≡ with_inflight r.sender.inflight s
  -- nothing is left to take, and the queue stays laid out
  pub rest : r.queue.left ≡ 0
  pub formed : QueueFormed q queue → QueueFormed r.queue queue'
