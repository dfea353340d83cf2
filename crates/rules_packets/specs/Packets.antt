-- 01's rules of the stored and the held packets, over the records' numbers and words, packets in number order. No byte of a store is read.
-- proofs/SeenPackets.antt proves that they are exactly the model's rules of what is seen, and the receiver's layout.
use Rattle.std.specs.Prelude.{ℕ, zero, suc, ◌+◌, ◌-◌, ◌%◌, List, Bool, true, cond, ◌&&◌, leb, eqb, get_or}
use Rattle.std.proofs.Math.Option.{Option}
use Rattle.model.specs.Slots.{ceiling}
use Rattle.model.specs.Rules.{stored_rule, held_rule, cwnd_range}
use Rattle.records_words.specs.declared.Sent.{Sent}
use Rattle.records.specs.declared.Sender.{Sender}
use Rattle.records.specs.declared.Receiver.{Receiver}
use Rattle.records.specs.declared.Totals.{Totals}
use Rattle.records_words.specs.Words.{sent_in, is_stored, held_of, is_held}
use Rattle.records.specs.Seen.{seen_time, formed_receiver}

-- tests and sums over `count` numbers from n on

unfoldable pub every_from : (count n : ℕ) → (ℕ → Bool) → Bool
every_from zero n f = true
every_from (suc k) n f = f n && every_from k (suc n) f

unfoldable pub sum_from : (count n : ℕ) → (ℕ → ℕ) → ℕ
sum_from zero n f = 0
sum_from (suc k) n f = f n + sum_from k (suc n) f

-- the stored packets

abbrev pub time_sent : Sent → Option ℕ
time_sent p = seen_time p.sent_at

-- "stored numbers lie from remote acked to below seq", "lengths are 21 to 1,400 stored", "transmits are at most 7", "neither a time sent ..
-- is past the last clock"
abbrev pub stored_ok : (remote_acked seq clock : ℕ) → List ℕ → ℕ → Bool
stored_ok remote_acked seq clock words n =
    let p = sent_in words (n % ceiling) in
    cond (is_stored p n) (stored_rule remote_acked seq clock (n % ceiling) n p.length p.transmits (time_sent p)) true

-- what number n adds to inflight, to the packets and to the payload bytes
abbrev pub inflight_at : List ℕ → ℕ → ℕ
inflight_at words n = let p = sent_in words (n % ceiling) in cond (is_stored p n) (cond p.waiting 0 p.length) 0

abbrev pub packets_at : List ℕ → ℕ → ℕ
packets_at words n = cond (is_stored (sent_in words (n % ceiling)) n) 1 0

abbrev pub payload_at : List ℕ → ℕ → ℕ
payload_at words n = let p = sent_in words (n % ceiling) in cond (is_stored p n) (p.length - 20) 0

-- "remote acked ≤ seq ≤ remote acked + 32"; "the largest ack is at most seq"
abbrev pub sender_numbers_ok : Sender → Bool
sender_numbers_ok s = leb s.remote_acked s.seq && (leb s.seq (s.remote_acked + ceiling) && leb s.largest_ack s.seq)

-- "inflight is the sum of lengths of stored packets not waiting"; "the two inflight totals are the number and payload bytes of the stored
-- packets"
abbrev pub sums_ok : Sender → Totals → List ℕ → Bool
sums_ok s t words =
    let k = s.seq - s.remote_acked in
    eqb s.inflight (sum_from k s.remote_acked (inflight_at words))
    && (eqb t.inflight_packets (sum_from k s.remote_acked (packets_at words))
    && eqb t.inflight_bytes (sum_from k s.remote_acked (payload_at words)))

unfoldable pub ok_sender : Sender → Totals → (clock : ℕ) → List ℕ → Bool
ok_sender s t clock words =
    sender_numbers_ok s
    && (every_from (s.seq - s.remote_acked) s.remote_acked (stored_ok s.remote_acked s.seq clock words)
    && (sums_ok s t words && cwnd_range s.cwnd))

-- the held packets

-- "held ones from read cursor to below read cursor + 32 and below 4,294,967,295"; "at most 1,380 held"; "offsets fit the lengths"
abbrev pub held_ok : (read_cursor : ℕ) → List ℕ → ℕ → Bool
held_ok read_cursor words n =
    let p = held_of (get_or words (n % ceiling) 0) in
    cond (is_held p n) (held_rule read_cursor (n % ceiling) n (p.past - 1) p.offset) true

-- "read cursor ≤ ack ≤ read cursor + 32"
unfoldable pub ok_receiver : Receiver → List ℕ → Bool
ok_receiver r words =
    leb r.read_cursor r.ack
    && (leb r.ack (r.read_cursor + ceiling)
    && (formed_receiver r && every_from (r.top - r.read_cursor) r.read_cursor (held_ok r.read_cursor words)))
