-- Giving a stored packet another waiting mark and transmit count: the words change in exactly that, what is seen is the model's store with
-- that packet marked, and every stored packet stays within its bounds.
use Prim.Native.Nat.{ℕ, ◌+◌, ◌%◌, ◌^◌, ◌≤◌, ◌<◌}
use native.Mathlib.Omega.{arith}
use mathlib.Core.Path.{◌≡◌, refl}
use mathlib.Core.Logic.{◌≢◌}
use mathlib.Core.List.{List}
use mathlib.Core.Bool.{Bool, true, false}
use lib.Dec.{eqb}
use borrow.Author.Tests.{eqb-true, eqb-false}
use lib.ListN.{length, set, length-set}
use lib.Seq.{get_or-set_same, get_or-set_other}
use Rattle.model.specs.Lists.{Bytes}
use Rattle.model.specs.Slots.{ceiling, insert}
use Rattle.model.specs.Stream as model
use Rattle.model.specs.Driving.{marked}
use Rattle.records_words.specs.declared.Sent.{Sent}
use Rattle.records.specs.declared.Sender.{Sender}
use Rattle.records_words.specs.Words.{sent_of, sent_in, sent_word, sent_time, is_stored}
use Rattle.records.specs.Seen.{marks_of, packet_of, seen_outgoing, with_sent}
use Rattle.records_words.proofs.WordLaws.{sent_back, stored_number, stored_full}
use Rattle.records.proofs.SeenOutgoing.{remark_outgoing}
use Rattle.drive_lost.specs.Packets.{SentBounds, AllSentBounds}

-- a packet read from a word fits a word again

pub transmits_fit : (w time : ℕ) → (sent_of w time).transmits < 32
unfolding sent_of
transmits_fit w time = omega arith

-- the packet with other marks
abbrev pub marking : (waiting : Bool) (transmits : ℕ) → Sent → Sent
marking waiting transmits p =
    record { number = p.number; length = p.length; transmits = transmits; waiting = waiting; sent_at = p.sent_at }

-- the words of one slot, and those of the others

module _ (words : List ℕ) (long : length words ≡ 64) (n : ℕ) (p : Sent) where
  slot_same : sent_in (with_sent words n p) (n % ceiling) ≡ sent_of (sent_word p) (sent_time p)
  slot_same =
      let i : n % ceiling < length words = omega arith in
      let j : 32 + n % ceiling < length (set words (n % ceiling) (sent_word p)) = simp length-set (omega arith) in
      rw (
        get_or-set_other (set words (n % ceiling) (sent_word p)) (32 + n % ceiling) (n % ceiling) (sent_time p) 0 (λ q. omega arith),
        get_or-set_same words (n % ceiling) (sent_word p) 0 i,
        get_or-set_same (set words (n % ceiling) (sent_word p)) (32 + n % ceiling) (sent_time p) 0 j,
      )

  slot_other : (i : ℕ) → i < ceiling → i ≢ n % ceiling → sent_in (with_sent words n p) i ≡ sent_in words i
  slot_other i l ne =
      rw (
        get_or-set_other (set words (n % ceiling) (sent_word p)) (32 + n % ceiling) i (sent_time p) 0 (λ q. omega arith),
        get_or-set_other words (n % ceiling) i (sent_word p) 0 ne,
        get_or-set_other (set words (n % ceiling) (sent_word p)) (32 + n % ceiling) (32 + i) (sent_time p) 0 (λ q. ne (omega arith)),
        get_or-set_other words (n % ceiling) (32 + i) (sent_word p) 0 (λ q. omega arith),
      )

  pub remark_length : length (with_sent words n p) ≡ 64
  remark_length = simp length-set long

module _ (s : Sender) (sent : List ℕ) (long : length sent ≡ 64) (stored : AllSentBounds s sent) (n : ℕ) (low : s.remote_acked ≤ n) (high : n < s.seq)
    (here : is_stored (sent_in sent (n % ceiling)) n ≡ true) (fits : n < 2 ^ 32) (waiting : Bool) (transmits : ℕ) (few : transmits < 32) where
  -- packet n, before and after it is marked
  abbrev old : Sent
  old = sent_in sent (n % ceiling)

  abbrev new : Sent
  new = marking waiting transmits old

  within : SentBounds new
  within = let w = stored n low high here in record { short = w.short; early = w.early }

  back : sent_of (sent_word new) (sent_time new) ≡ new
  back =
      let w = within in
      let a = w.short in
      let number = stored_number old n here in
      sent_back new (omega arith) few (rw number fits) (λ t e. let c = w.early t e in omega arith)

  pub remark_seen : (outgoing : Bytes) (f : model.Marks → model.Marks) → marks_of new ≡ f (marks_of old)
      → seen_outgoing s.remote_acked s.seq (with_sent sent n new) outgoing
      ≡ insert (seen_outgoing s.remote_acked s.seq sent outgoing) n (marked f (packet_of outgoing (n % ceiling) old))
  remark_seen outgoing f e =
      remark_outgoing s.remote_acked sent long n new (stored_number old n here) (stored_full old n here) back low s.seq outgoing f high refl e

  pub stored_again : AllSentBounds s (with_sent sent n new)
  stored_again m low' high' is = go (eqb (m % ceiling) (n % ceiling)) refl
    where
      go : (b : Bool) → eqb (m % ceiling) (n % ceiling) ≡ b → SentBounds (sent_in (with_sent sent n new) (m % ceiling))
      go true e = rw (eqb-true (m % ceiling) (n % ceiling) e, slot_same sent long n new, back) within
      go false e =
          let same = slot_other sent long n new (m % ceiling) (omega arith) (eqb-false (m % ceiling) (n % ceiling) e) in
          rw same (stored m low' high' (rw same at is))
