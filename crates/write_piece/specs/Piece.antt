-- Sending one piece on the records: its header, its packet, its queue entry and the numbers after it; and a stream, and lent words and
-- bytes, with these changes.
use Rattle.std.specs.Prelude.{◌≡◌, ℕ, ◌+◌, ◌-◌, ◌*◌, ◌%◌, ◌^◌, ◌<◌, ◌≤◌, Bool, false, ◌&&◌, List, ◌++◌, length, nat_le, nat_lt, slice_set, None}
use Rattle.packet.specs.declared.header.Header.{Header}
use Rattle.packet.specs.Header.{header_bytes}
use Rattle.records_words.specs.declared.Sent.{Sent}
use Rattle.records_words.specs.declared.Entry.{Entry}
use Rattle.records_words.specs.declared.Entry.TheVariants.{Packet}
use Rattle.records.specs.declared.Sender.{Sender}
use Rattle.records.specs.declared.Queue.{Queue}
use Rattle.records.specs.declared.Stream.{Stream}
use Rattle.records.specs.declared.Totals.{Totals}
use Rattle.records_words.specs.Words.{sent_word, sent_time, entry_word}
use Rattle.records.specs.Put.{put}
use Rattle.records.specs.Seen.{Lent}
use Rattle.write_piece.specs.declared.Outbox.{Outbox}

-- create_header; 01: "the remote id, offset 0, window 4,294,967,295, and seq and ack as they are when it is made"
abbrev pub header_of : (typ remote seq ack : ℕ) → Header
header_of typ remote seq ack =
    record { typ = typ; data_offset = 0; stream_id = remote; recv_win = 4_294_967_295; seq = seq; ack = ack }

abbrev pub new_packet : (n payload : ℕ) → Sent
new_packet n payload = record { number = n; length = payload + 20; transmits = 0; waiting = false; sent_at = None }

abbrev pub new_entry : (n payload : ℕ) → Entry
new_entry n payload = Packet (record { number = n; length = payload + 20 })

abbrev pub sent_sender : Sender → ℕ → Sender
sent_sender s payload =
    record {
      seq = s.seq + 1;
      remote_acked = s.remote_acked;
      largest_ack = s.largest_ack;
      inflight = s.inflight + (payload + 20);
      cwnd = s.cwnd;
    }

abbrev pub pushed_queue : Queue → Queue
pushed_queue q = record { count = q.count + 1; left = q.left; states = q.states; gone = q.gone }

-- "The four running totals wrap at 2^64"
abbrev pub counted_totals : Totals → ℕ → Totals
counted_totals t payload =
    record {
      tx_packets = (t.tx_packets + 1) % 2 ^ 64;
      tx_bytes = (t.tx_bytes + payload) % 2 ^ 64;
      rx_packets = t.rx_packets;
      rx_bytes = t.rx_bytes;
      inflight_packets = t.inflight_packets + 1;
      inflight_bytes = t.inflight_bytes + payload;
    }

-- 01, call 2: "A piece goes when inflight + its payload is at most the window, seq − remote acked is below 32 and seq is below
-- 4,294,967,295"; the model's `goes` on the records' numbers
abbrev pub may_go : Sender → ℕ → Bool
may_go s payload = nat_le (s.inflight + payload) s.cwnd && (nat_lt (s.seq - s.remote_acked) 32 && nat_lt s.seq 4_294_967_295)

-- what a piece needs: a number, a place in the queue, and numbers that do not overflow
pub record Room (o : Outbox) (store size : ℕ) : Type 0 where
  pub whole : store ≡ 44_800
  pub short : size ≤ 1_380
  pub seq : o.sender.seq < 4_294_967_295
  pub inflight : o.sender.inflight ≤ 4_000_000_000
  pub queue : o.queue.count < 128
  pub packets : o.totals.inflight_packets ≤ 1_000_000
  pub bytes : o.totals.inflight_bytes ≤ 1_000_000_000

-- the words after putting a packet into the slot of its number
abbrev pub sent_put : List ℕ → Sent → List ℕ
sent_put words p = slice_set (slice_set words (p.number % 32) (sent_word p)) (32 + p.number % 32) (sent_time p)

-- send_data_packet, on the numbers, the words and the bytes
pub record SendsPiece (o : Outbox) (remote ack : ℕ) (piece sent queue outgoing : List ℕ) (r : Outbox) (sent' queue' outgoing' : List ℕ) : Type 0 where
  pub numbers : r.sender ≡ sent_sender o.sender (length piece)
  pub places : r.queue ≡ pushed_queue o.queue
  pub totals : r.totals ≡ counted_totals o.totals (length piece)
  pub sent_words : sent' ≡ sent_put sent (new_packet o.sender.seq (length piece))
  pub queue_words : queue' ≡ slice_set queue o.queue.count (entry_word (new_entry o.sender.seq (length piece)))
  pub bytes : outgoing' ≡ put outgoing (o.sender.seq % 32 * 1_400) (header_bytes (header_of 1 remote o.sender.seq ack) ++ piece)

-- a stream with the numbers of an outbox
abbrev pub with_outbox : Outbox → Stream → Stream
with_outbox o s =
    record {
      ids = s.ids;
      sender = o.sender;
      receiver = s.receiver;
      queue = o.queue;
      timing = s.timing;
      ending = s.ending;
      clocks = s.clocks;
    }

-- the lent words and bytes, with those that a write changes replaced
abbrev pub with_outbox_lent : (sent queue outgoing : List ℕ) → Lent → Lent
with_outbox_lent sent queue outgoing l =
    record { sent = sent; held = l.held; queue = queue; outgoing = outgoing; incoming = l.incoming; headers = l.headers }
