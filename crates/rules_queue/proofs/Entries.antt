-- The pass over the queue's entries: its invariant (`Going`), which each entry keeps, be it a state packet, a stored packet or any other.
use Prim.Native.Nat.{ℕ, ◌+◌, ◌%◌, ◌/◌, ◌<◌, ◌≤◌}
use native.Mathlib.Numerals.{add-one}
use native.Mathlib.Nat.{zero-add, add-zero}
use native.Mathlib.Omega.{arith}
use mathlib.Core.Path.{◌≡◌, refl, ◌∙◌, sym}
use mathlib.Core.List.{List, [], ◌∷◌}
use mathlib.Core.Bool.{Bool, true, false, ◌&&◌, not, and_assoc, and_comm, and-true}
use lib.Dec.{leb, ltb}
use lib.ListN.{length, get_or, set, take, drop, replicate, length-set, length-take, drop_of_length-le}
use lib.Seq.{slice-cons}
use Rattle.std.proofs.lemmas.Bool.Decides.{nat_tests}
use Rattle.model.specs.Rules.{distinct, every}
use Rattle.records_words.specs.declared.QueuedPacket.{QueuedPacket}
use Rattle.records_words.specs.declared.Entry.TheVariants.{State, Packet}
use Rattle.records_words.specs.Words.{high, low, sent_in, entry_of, same_packet}
use Rattle.rules_queue.specs.Entries.{state_count, packet_numbers}
use Rattle.rules_queue.specs.Passes.{known, sized, queued_ok, plain_ok, entries_rule, EntriesPassed}
use Rattle.rules_packets.proofs.Bools.{and_left, and_right}
use Rattle.rules_queue.proofs.Marks.{free, fresh, fresh_from_none}

-- the words from i to below end

abbrev rest : List ℕ → (end i : ℕ) → List ℕ
rest words end i = drop i (take end words)

one_more : (words : List ℕ) (end i : ℕ) → i < end → end ≤ length words → rest words end i ≡ get_or words i 0 ∷ rest words end (i + 1)
one_more words end i h k = slice-cons i end words 0 h k ∙ rw add-one

no_more : (words : List ℕ) (end i : ℕ) → end ≤ i → rest words end i ≡ []
no_more words end i h = drop_of_length-le (take end words) {i = i} (simp length-take (omega arith))

-- a packet's entry has its word's number and length
packet_is : (w : ℕ) (x : QueuedPacket) → entry_of w ≡ Packet x → (x.number ≡ high w) × (x.length ≡ low w / 64)
unfolding entry_of
packet_is w x e = grind arith

-- the test of a stored packet's entry as the code computes it
pub plain_by : (acked seq : ℕ) (sent words : List ℕ) (i : ℕ) (x : QueuedPacket) (t same : Bool) → entry_of (get_or words i 0) ≡ Packet x
    → same ≡ same_packet (sent_in sent (high (get_or words i 0) % 32)) (get_or words i 0)
    → t ≡ (leb acked x.number && (ltb x.number seq && (same && sized x.length))) → t ≡ plain_ok acked seq sent x
plain_by acked seq sent words i x t same is same_is t-is = let p = packet_is (get_or words i 0) x is in rw (t-is, same_is, ← p.0, ← p.1)

module _ (acked seq first end : ℕ) (sent words : List ℕ) where
  -- the invariant: what was found below i, plus what the entries from i on add, is the total
  pub record Going (i : ℕ) (marks : List Bool) (good new : Bool) (states : ℕ) : Type 0 where
    pub all : (good && entries_rule acked seq sent (rest words end i)) ≡ entries_rule acked seq sent (rest words end first)
    pub fresh_is : (new && fresh acked seq marks (packet_numbers (rest words end i)))
        ≡ (distinct (packet_numbers (rest words end first)) && every (known acked seq) (packet_numbers (rest words end first)))
    pub states_is : states + state_count (rest words end i) ≡ state_count (rest words end first)
    pub long : length marks ≡ 32
    pub few : states ≤ i

  pub begin : seq ≤ acked + 32 → Going first (replicate 32 false) true true 0
  begin h = record { all = refl; fresh_is = fresh_from_none acked seq h _; states_is = zero-add _; long = refl; few = omega arith }

module _
    {acked seq first end : ℕ} {sent words : List ℕ} {i : ℕ} {marks : List Bool} {good new : Bool} {states : ℕ}
    (g : Going acked seq first end sent words i marks good new states) where
  module _ (h : i < end) (k : end ≤ length words) where
    pub state : entry_of (get_or words i 0) ≡ State → Going acked seq first end sent words (i + 1) marks good new (states + 1)
    state is =
        let more = one_more words end i h k in
        record {
          all = rw (more, is) at g.all;
          fresh_is = rw (more, is) at g.fresh_is;
          states_is = omega (arith, rw (more, is) at g.states_is);
          long = g.long;
          few = omega arith;
        }

    pub packet : (x : QueuedPacket) (near q f : Bool) → entry_of (get_or words i 0) ≡ Packet x → near ≡ known acked seq x.number → q ≡ queued_ok near sent x
        → f ≡ (not (get_or marks (x.number % 32) false) && near)
        → Going acked seq first end sent words (i + 1) (set marks (x.number % 32) true) (good && q) (new && f) states
    unfolding fresh
    packet x near q f is near-is q-is f-is =
        let more = one_more words end i h k in
        let rule = queued_ok (known acked seq x.number) sent x in
        let new-here = known acked seq x.number && free marks x.number in
        let after = rest words end (i + 1) in
        let marked = set marks (x.number % 32) true in
        record {
          all = rw (q-is, near-is) (and_assoc good rule (entries_rule acked seq sent after) ∙ (rw (more, is) at g.all));
          fresh_is =
              rw (f-is, near-is, and_comm (free marks x.number) (known acked seq x.number))
              (and_assoc new new-here (fresh acked seq marked (packet_numbers after)) ∙ (rw (more, is) at g.fresh_is));
          states_is = omega (arith, rw (more, is) at g.states_is);
          long = length-set marks (x.number % 32) true ∙ g.long;
          few = omega arith;
        }

    -- the fast path: the entry of a stored packet with that packet's length, its mark not set
    pub alike : (x : QueuedPacket) (t same : Bool) → entry_of (get_or words i 0) ≡ Packet x
        → same ≡ same_packet (sent_in sent (high (get_or words i 0) % 32)) (get_or words i 0)
        → t ≡ (leb acked x.number && (ltb x.number seq && (same && sized x.length)))
        → (t && not (get_or marks (x.number % 32) false)) ≡ true
        → Going acked seq first end sent words (i + 1) (set marks (x.number % 32) true) good new states
    alike x t same is same_is t-is h =
        let unmarked = not (get_or marks (x.number % 32) false) in
        let plain : plain_ok acked seq sent x ≡ true = sym (plain_by acked seq sent words i x t same is same_is t-is) ∙ and_left t unmarked h in
        let near : known acked seq x.number ≡ true = grind (arith, nat_tests, plain) in
        let rule : true ≡ queued_ok true sent x = grind (arith, nat_tests, plain) in
        let free-here = and_right t unmarked h in
        rw (← and-true good, ← and-true new) (packet x true true true is (sym near) rule (sym (rw free-here refl)))

  pub done : end ≤ i → EntriesPassed acked seq sent (rest words end first) good new states
  unfolding fresh
  done h =
      let n = no_more words end i h in
      record {
        all = sym (and-true good) ∙ (rw n at g.all);
        fresh_is = sym (and-true new) ∙ (rw n at g.fresh_is);
        states_is = sym (add-zero states) ∙ (rw n at g.states_is);
      }
