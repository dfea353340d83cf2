-- Packets and queue entries as words of lent arrays: what a word decodes to, and the word of a packet or an entry. Only this file and
-- src/lib.rt know the bits; proofs/WordLaws.antt proves that decoding undoes encoding where each field is in its range.
use Rattle.std.specs.Prelude.{ℕ, ◌+◌, ◌-◌, ◌*◌, ◌/◌, ◌%◌, ◌^◌, Bool, cond, not, ◌&&◌, List, ◌==◌, nat_le, slice_index, Option, Some, None}
use Rattle.std.specs.Option.{option_map_or}
use Rattle.rtt.specs.Estimate.{nanos}
use Rattle.records_words.specs.declared.Sent.{Sent}
use Rattle.records_words.specs.declared.Held.{Held}
use Rattle.records_words.specs.declared.Entry.{Entry}
use Rattle.records_words.specs.declared.Entry.TheVariants.{State, Packet}

-- the upper and the lower 32 bits
abbrev pub high : ℕ → ℕ
high w = w / 4_294_967_296

abbrev pub low : ℕ → ℕ
low w = w % 4_294_967_296

-- stored packets: number * 2^32 + length * 64 + transmits * 2 + waiting, and the time sent + 1 in a second word

unfoldable pub sent_of : (w time : ℕ) → Sent
sent_of w time =
    record {
      number = high w;
      length = low w / 64;
      transmits = low w / 2 % 32;
      waiting = (low w % 2 == 1);
      sent_at = cond (time == 0) None (Some (nanos (time - 1)));
    }

-- the contents of slot i
abbrev pub sent_in : List ℕ → ℕ → Sent
sent_in words i = sent_of (slice_index words i) (slice_index words (32 + i))

unfoldable pub sent_word : Sent → ℕ
sent_word p = 4_294_967_296 * p.number + (p.length % 65_536 * 64 + p.transmits % 32 * 2 + cond p.waiting 1 0)

unfoldable pub sent_time : Sent → ℕ
sent_time p = option_map_or (λ t. (t.0 + 1) % 2 ^ 64) p.sent_at 0

-- p is packet n: it has that number, and a length
abbrev pub is_stored : Sent → ℕ → Bool
is_stored p n = not (p.length == 0) && p.number == n

-- packet n, if its slot holds it
abbrev pub found_sent : List ℕ → ℕ → Option Sent
found_sent words n = cond (is_stored (sent_in words (n % 32)) n) (Some (sent_in words (n % 32))) None

-- p is packet n with a length from least to most
abbrev pub is_sized : Sent → (n least most : ℕ) → Bool
is_sized p n least most = p.number == n && (nat_le least p.length && nat_le p.length most)

-- held packets: number * 2^32 + (length + 1) * 2^16 + offset

unfoldable pub held_of : ℕ → Held
held_of w = record { number = high w; past = low w / 65_536; offset = low w % 65_536 }

unfoldable pub held_word : Held → ℕ
held_word p = 4_294_967_296 * p.number + (p.past % 65_536 * 65_536 + p.offset % 65_536)

abbrev pub is_held : Held → ℕ → Bool
is_held p n = not (p.past == 0) && p.number == n

-- packet n, if its slot holds it
abbrev pub found_held : List ℕ → ℕ → Option Held
found_held words n = cond (is_held (held_of (slice_index words (n % 32))) n) (Some (held_of (slice_index words (n % 32)))) None

-- p is packet n with at most `most` bytes
abbrev pub is_short : Held → (n most : ℕ) → Bool
is_short p n most = is_held p n && nat_le (p.past - 1) most

-- queue entries: a word with its lowest bit set is a state packet, and its other bits mean nothing; any other is number * 2^32 + length * 64

unfoldable pub entry_of : ℕ → Entry
entry_of w = cond (low w % 2 == 1) State (Packet (record { number = high w; length = low w / 64 }))

unfoldable pub entry_word : Entry → ℕ
entry_word State = 20 * 64 + 1
entry_word (Packet x) = 4_294_967_296 * x.number + x.length % 65_536 * 64

-- the packet has the number and length of an entry's word
abbrev pub same_packet : Sent → ℕ → Bool
same_packet p w = p.number == high w && p.length == low w / 64
