-- What the passes over the packets find: the rules of one packet, and what is known after a whole pass.
use Rattle.std.specs.Prelude.{ℕ, ◌-◌, List, Bool, true, cond, ◌&&◌, ltb, leb, Option, Some, None}
use Rattle.model.specs.Lists.{on}
use Rattle.records_words.specs.declared.Sent.{Sent}
use Rattle.records_words.specs.declared.Held.{Held}
use Rattle.records_words.specs.Words.{is_sized, is_short}
use Rattle.rules_packets.specs.declared.sender.Sums.{Sums}
use Rattle.rules_packets.specs.Packets.{every_from, sum_from, time_sent, stored_ok, inflight_at, packets_at, payload_at}

-- a stored packet

abbrev pub in_time : Sent → ℕ → Bool
in_time p clock = on (time_sent p) true (λ t. leb t clock)

abbrev pub packet_ok : Sent → ℕ → Bool
packet_ok p clock = leb 21 p.length && (leb p.length 1_400 && (leb p.transmits 7 && in_time p clock))

-- the same, with the word's combined test of number and length
abbrev pub kept_ok : Sent → (n clock : ℕ) → Bool
kept_ok p n clock = (is_sized p n 21 1_400 && leb p.transmits 7) && in_time p clock

-- the pass over the stored packets: the sums over them, or None if one of them breaks a rule
abbrev pub stored_sums : (acked seq clock : ℕ) → List ℕ → Option Sums
stored_sums acked seq clock words =
    let k = seq - acked in
    cond (every_from k acked (stored_ok acked seq clock words))
    (Some (record {
      inflight = sum_from k acked (inflight_at words);
      packets = sum_from k acked (packets_at words);
      bytes = sum_from k acked (payload_at words);
    }))
    None

-- a held packet

abbrev pub payload_ok : Held → Bool
payload_ok p = leb (p.past - 1) 1_380 && leb p.offset (p.past - 1)

-- the same, with the word's combined test of number and length
abbrev pub held_kept : Held → ℕ → Bool
held_kept p n = is_short p n 1_380 && ltb p.offset p.past
