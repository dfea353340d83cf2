-- What the pass over the queue's entries finds: the rules of one entry, and what is known after a whole pass.
use Rattle.std.specs.Prelude.{ℕ, ◌%◌, ◌≡◌, List, Bool, true, cond, ◌&&◌, ltb, leb, eqb}
use Rattle.model.specs.Slots.{ceiling}
use Rattle.model.specs.Rules.{distinct, every}
use Rattle.records_words.specs.declared.QueuedPacket.{QueuedPacket}
use Rattle.records_words.specs.declared.Entry.{Entry}
use Rattle.records_words.specs.declared.Entry.TheVariants.{State, Packet}
use Rattle.records_words.specs.Words.{sent_in, is_stored, entry_of}
use Rattle.rules_queue.specs.Entries.{state_count, packet_numbers}

-- a queue entry

-- a number from remote acked to below seq
abbrev pub known : (acked seq n : ℕ) → Bool
known acked seq n = leb acked n && ltb n seq

-- "lengths are 21 to 1,400 .. queued"
abbrev pub sized : ℕ → Bool
sized size = leb 21 size && leb size 1_400

-- the entry of a packet: its length, and "a queued length is its packet's while that is stored"
abbrev pub queued_ok : Bool → List ℕ → QueuedPacket → Bool
queued_ok near sent x =
    let p = sent_in sent (x.number % ceiling) in
    sized x.length && cond (near && is_stored p x.number) (eqb x.length p.length) true

-- the fast path: the entry of a stored packet with that packet's length, which therefore keeps its rules
abbrev pub plain_ok : (acked seq : ℕ) → List ℕ → QueuedPacket → Bool
plain_ok acked seq sent x =
    let p = sent_in sent (x.number % ceiling) in
    leb acked x.number && (ltb x.number seq && ((eqb p.number x.number && eqb p.length x.length) && sized x.length))

abbrev pub entry_rule : (acked seq : ℕ) → List ℕ → Entry → Bool
entry_rule acked seq sent State = true
entry_rule acked seq sent (Packet x) = queued_ok (known acked seq x.number) sent x

abbrev pub entries_rule : (acked seq : ℕ) → (sent ws : List ℕ) → Bool
entries_rule acked seq sent ws = every (λ w. entry_rule acked seq sent (entry_of w)) ws

-- the pass over the entries: whether each keeps its rules, whether the packets' numbers are distinct and from remote acked to below seq,
-- and how many state packets there are
pub record EntriesPassed (acked seq : ℕ) (sent ws : List ℕ) (good fresh : Bool) (states : ℕ) : Type 0 where
  pub all : good ≡ entries_rule acked seq sent ws
  pub fresh_is : fresh ≡ (distinct (packet_numbers ws) && every (known acked seq) (packet_numbers ws))
  pub states_is : states ≡ state_count ws
