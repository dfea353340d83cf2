-- Encoding and decoding a word undo each other where each field is in its range, and a zero word is no packet. Each word is n * 2^32 + r
-- with r below 2^32, and r is split by plain arithmetic.
use Rattle.std.specs.Prelude.{Some, None}
use Rattle.std.proofs.Common.{◌≡◌, ℕ, ◌+◌, ◌%◌, ◌^◌, ◌<◌, true, false, ◌≢◌, List, slice_index, refl, arith}
use Rattle.std.specs.Option.{ForSome}
use Rattle.records_words.specs.declared.Sent.{Sent}
use Rattle.records_words.specs.declared.Held.{Held}
use Rattle.records_words.specs.declared.QueuedPacket.{QueuedPacket}
use Rattle.records_words.specs.declared.Entry.TheVariants.{State, Packet}
use Rattle.records_words.specs.Words.{
  sent_of,
  sent_word,
  sent_time,
  is_stored,
  sent_in,
  found_sent,
  found_held,
  held_of,
  held_word,
  is_held,
  entry_of,
  entry_word,
}

-- a packet of the outgoing store

pub sent_back : (p : Sent) → p.length < 65_536 → p.transmits < 32 → p.number < 2 ^ 32 → ForSome p.sent_at (λ t. t.0 + 1 < 2 ^ 64)
    → sent_of (sent_word p) (sent_time p) ≡ p
unfolding sent_of sent_word sent_time
sent_back p hl ht hn hs = grind arith

pub no_sent : (time n : ℕ) → is_stored (sent_of 0 time) n ≡ false
unfolding sent_of
no_sent time n = refl

pub stored_number : (p : Sent) (n : ℕ) → is_stored p n ≡ true → p.number ≡ n
stored_number p n e = grind arith

pub stored_full : (p : Sent) (n : ℕ) → is_stored p n ≡ true → p.length ≢ 0
stored_full p n e = grind arith

-- what `found_sent` says
pub sent_found : (words : List ℕ) (n : ℕ) (p : Sent) → found_sent words n ≡ Some p → (p ≡ sent_in words (n % 32)) × (is_stored p n ≡ true)
sent_found words n p e = grind arith

pub sent_not_found : (words : List ℕ) (n : ℕ) → found_sent words n ≡ None → is_stored (sent_in words (n % 32)) n ≡ false
sent_not_found words n e = grind arith

-- a packet of the incoming store

pub held_back : (p : Held) → p.past < 65_536 → p.offset < 65_536 → p.number < 2 ^ 32 → held_of (held_word p) ≡ p
unfolding held_of held_word
held_back p hl ho hn = grind arith

pub no_held : (n : ℕ) → is_held (held_of 0) n ≡ false
unfolding held_of
no_held n = refl

pub held_number : (p : Held) (n : ℕ) → is_held p n ≡ true → p.number ≡ n
held_number p n e = grind arith

pub held_full : (p : Held) (n : ℕ) → is_held p n ≡ true → p.past ≢ 0
held_full p n e = grind arith

pub held_found : (words : List ℕ) (n : ℕ) (p : Held) → found_held words n ≡ Some p → (p ≡ held_of (slice_index words (n % 32))) × (is_held p n ≡ true)
held_found words n p e = grind arith

pub held_not_found : (words : List ℕ) (n : ℕ) → found_held words n ≡ None → is_held (held_of (slice_index words (n % 32))) n ≡ false
held_not_found words n e = grind arith

-- a queue entry

pub entry_back : (x : QueuedPacket) → x.length < 65_536 → x.number < 2 ^ 32 → entry_of (entry_word (Packet x)) ≡ Packet x
unfolding entry_of entry_word
entry_back x hl hn = grind arith

pub state_back : entry_of (entry_word State) ≡ State
unfolding entry_of entry_word
state_back = refl
