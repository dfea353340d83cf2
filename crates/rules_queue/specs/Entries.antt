-- 01's rules of the queue, over the records' numbers and the queue's words. No byte of a store is read. proofs/SeenQueue.antt proves that
-- they are exactly the model's rules of what is seen, and the queue's layout.
use Rattle.std.specs.Prelude.{ℕ, ◌+◌, ◌%◌, List, [], ◌∷◌, ◌++◌, Bool, true, cond, ◌&&◌, ltb, leb, eqb, length}
use Rattle.std.proofs.Math.Option.{Option, none, some}
use Rattle.model.specs.Slots.{ceiling}
use Rattle.model.specs.Rules.{distinct, every}
use Rattle.records_words.specs.declared.Entry.{Entry}
use Rattle.records_words.specs.declared.Entry.TheVariants.{State, Packet}
use Rattle.records.specs.declared.Sender.{Sender}
use Rattle.records.specs.declared.Queue.{Queue}
use Rattle.records_words.specs.Words.{sent_in, is_stored, entry_of}
use Rattle.records.specs.Seen.{entry_words}

-- the queue

-- the length of the packet with this number, or none where it is not stored
abbrev pub stored_length : Sender → List ℕ → ℕ → Option ℕ
stored_length s sent n =
    let p = sent_in sent (n % ceiling) in
    cond (leb s.remote_acked n && (ltb n s.seq && is_stored p n)) (some p.length) none

abbrev pub same_length : ℕ → Option ℕ → Bool
same_length l none = true
same_length l (some k) = eqb l k

-- "lengths are 21 to 1,400 .. queued"; "a queued length is its packet's while that is stored"
abbrev pub entry_ok : Sender → List ℕ → Entry → Bool
entry_ok s sent State = true
entry_ok s sent (Packet x) = leb 21 x.length && (leb x.length 1_400 && same_length x.length (stored_length s sent x.number))

-- what an entry adds to the number of state packets and to the packet numbers
abbrev pub states_of : Entry → ℕ
states_of State = 1
states_of (Packet x) = 0

abbrev pub numbers_of : Entry → List ℕ
numbers_of State = []
numbers_of (Packet x) = x.number ∷ []

abbrev pub state_count : List ℕ → ℕ
state_count [] = 0
state_count (w ∷ ws) = states_of (entry_of w) + state_count ws

abbrev pub packet_numbers : List ℕ → List ℕ
packet_numbers [] = []
packet_numbers (w ∷ ws) = numbers_of (entry_of w) ++ packet_numbers ws

abbrev pub entries_ok : Sender → List ℕ → List ℕ → Bool
entries_ok s sent ws = every (λ w. entry_ok s sent (entry_of w)) ws

-- "If none, the queue has distinct packet numbers from remote acked to below seq and at most 63 state packets"
abbrev pub at_rest_ok : Sender → List ℕ → Bool
at_rest_ok s ws =
    distinct (packet_numbers ws) && (every (λ n. leb s.remote_acked n && ltb n s.seq) (packet_numbers ws) && leb (state_count ws) 63)

-- "else at most 64 entries of each kind"
abbrev pub to_take_ok : List ℕ → Bool
to_take_ok ws = leb (state_count ws) 64 && leb (length (packet_numbers ws)) 64

-- the state packets fit the header store, and the two counts of state packets match the entries
abbrev pub places_ok : Queue → ℕ → Bool
places_ok q states = leb q.states 64 && (eqb q.states (q.gone + states) && cond (eqb q.left 0) (eqb q.gone 0) true)

unfoldable pub ok_queue : Queue → Sender → (queue sent : List ℕ) → Bool
ok_queue q s queue sent =
    leb q.count 128
    && (leb q.left q.count
    && (let ws = entry_words q queue in
    entries_ok s sent ws && (cond (eqb q.left 0) (at_rest_ok s ws) (to_take_ok ws) && places_ok q (state_count ws))))
