-- What this crate's functions promise: what taking entries puts into the buffer and marks in the records, the queue after it, and the next
-- datagram. Each promise is about the model's end that is seen of the records (`seen`), for any stream with the numbers, words and stores
-- that the function is given.
use Rattle.std.specs.Prelude.{ℕ, zero, suc, ◌+◌, ◌-◌, ◌%◌, ◌^◌, ◌≤◌, ◌<◌, ◌≡◌, List, [], ◌∷◌, ◌++◌, true, cond, eqb, ltb, length, take, Option, None, Some}
use Rattle.model.specs.Lists.{Bytes, joined, on}
use Rattle.model.specs.Slots.{Slots, ceiling, get}
use Rattle.model.specs.Stream as model
use Rattle.model.specs.Rules.{rules}
use Rattle.model.specs.Driving.{head_length, batch, take_loop, taken_from, first_there, look}
use Rattle.records.specs.declared.Sender.{Sender}
use Rattle.records.specs.declared.Queue.{Queue}
use Rattle.records.specs.declared.Stream.{Stream}
use Rattle.records.specs.declared.Totals.{Totals}
use Rattle.records_words.specs.Words.{sent_in, is_stored}
use Rattle.records.specs.Put.{put}
use Rattle.records.specs.Seen.{seen_queue, entry_words, Lent, seen, state_words, QueueFormed}
use Rattle.take_next.specs.declared.Handed.{Handed}
use Rattle.take_entry.specs.declared.Progress.{Progress}
use Rattle.take_next.specs.declared.Shown.{Shown}
use Rattle.take_next.specs.declared.Shown.TheVariants.{State, Stored}
use Rattle.take_entry.specs.Transmit.{TransmitBounds, TakenFromStore, send_entry, store_seen}

-- the records that a function is given

-- a stream and lent words and stores with these numbers and words
pub record Lends (st : Stream) (l : Lent) (q : Queue) (s : Sender) (sent queue : List ℕ) (outgoing headers : Bytes) : Type 0 where
  pub counts : st.queue ≡ q
  pub sender : st.sender ≡ s
  pub packets : l.sent ≡ sent
  pub words : l.queue ≡ queue
  pub store : l.outgoing ≡ outgoing
  pub heads : l.headers ≡ headers

-- every stored packet, from remote acked to below seq, is within these bounds
abbrev pub AllTransmitBounds : Sender → List ℕ → ℕ → Type 0
AllTransmitBounds s sent transmits =
    (n : ℕ) → s.remote_acked ≤ n → n < s.seq → is_stored (sent_in sent (n % ceiling)) n ≡ true → TransmitBounds (sent_in sent (n % ceiling)) transmits

-- the records keep the rules, as far as they are read here; 01: "32 slots of 1,400 bytes", "64 queued state packets of 20 bytes"
pub record TakeRules (q : Queue) (s : Sender) (sent queue : List ℕ) (outgoing headers : Bytes) : Type 0 where
  pub formed : QueueFormed q queue
  pub stored : AllTransmitBounds s sent 7
  pub slots : length outgoing ≡ 44_800
  pub places : length headers ≡ 1_280

-- to_transmit

-- the model's take_loop on the outgoing store alone
unfoldable pub send_loop : (clock count : ℕ) → List model.Entry → Slots model.Packet → TakenFromStore
send_loop clock zero q s = record { datagrams = []; outgoing = s }
send_loop clock (suc k) [] s = record { datagrams = []; outgoing = s }
send_loop clock (suc k) (x ∷ q) s =
    let t = send_entry clock x s in
    let r = send_loop clock k q t.outgoing in
    record { datagrams = t.datagrams ++ r.datagrams; outgoing = r.outgoing }

-- the queue without its first k entries; `place` is the next state packet's. After the last entry it is empty, and the places start again.
abbrev pub taken_queue : Queue → (k place : ℕ) → Queue
taken_queue q k place =
    cond (eqb (q.left - k) 0) (record { count = 0; left = 0; states = 0; gone = 0 })
    (record { count = q.count; left = q.left - k; states = q.states; gone = place })

-- the records after a take: another queue, and other words for the stored packets
abbrev pub taken_stream : Queue → Stream → Stream
taken_stream q st =
    record {
      ids = st.ids;
      sender = st.sender;
      receiver = st.receiver;
      queue = q;
      timing = st.timing;
      ending = st.ending;
      clocks = st.clocks;
    }

abbrev pub taken_lent : List ℕ → Lent → Lent
taken_lent sent l = record { sent = sent; held = l.held; queue = l.queue; outgoing = l.outgoing; incoming = l.incoming; headers = l.headers }

-- what taking k entries needs: 01's rules, a buffer that passes refusal 2, and that they are left to take
pub record CanTake (q : Queue) (s : Sender) (k clock : ℕ) (sent queue : List ℕ) (outgoing headers buf : Bytes) : Type 0 where
  pub kept : TakeRules q s sent queue outgoing headers
  pub some : 1 ≤ q.left
  pub entries : k ≤ q.left
  pub most : k ≤ 10
  pub drive : clock < 2 ^ 60
  pub room : 14_000 ≤ length buf

-- 01, call 5, for the first k entries of an end e, which becomes e': the bytes, their count and the end are the model's
pub record Took (k : ℕ) (e e' : model.End) (buf : Bytes) (at : ℕ) (buf' : Bytes) : Type 0 where
  pub bytes : buf' ≡ put buf 0 (joined (take_loop k e.queue.entries e).datagrams)
  pub count : at ≡ length (joined (take_loop k e.queue.entries e).datagrams)
  pub end : e' ≡ taken_from k (take_loop k e.queue.entries e).end

-- a take of k entries (to_transmit)
pub record Takes (q : Queue) (s : Sender) (k clock : ℕ) (sent queue : List ℕ) (outgoing headers buf : Bytes) (r : Progress)
    (sent' : List ℕ) (buf' : Bytes) : Type 0 where
  pub place : r.place ≡ q.gone + state_words (take k (entry_words q queue))
  pub room : r.at ≤ 14_000
  pub took : (st : Stream) (t : Totals) (l : Lent) → Lends st l q s sent queue outgoing headers → st.clocks.drive.0 ≡ clock
      → Took k (seen st t l) (seen (taken_stream (taken_queue q k r.place) st) t (taken_lent sent' l)) buf r.at buf'

-- the queue stays properly laid out
pub record TakesQueue (q : Queue) (k place : ℕ) (r : Queue) : Type 0 where
  pub queue : r ≡ taken_queue q k place
  pub formed : (queue : List ℕ) → QueueFormed q queue → place ≡ q.gone + state_words (take k (entry_words q queue)) → QueueFormed r queue

-- next_batch

-- what taking the next batch needs: 01's rules, a buffer that passes refusal 2, and an entry left to take
pub record Sendable (q : Queue) (s : Sender) (segments clock : ℕ) (sent queue : List ℕ) (outgoing headers buf : Bytes) : Type 0 where
  pub kept : TakeRules q s sent queue outgoing headers
  pub some : 1 ≤ q.left
  pub most : segments ≤ 10
  pub drive : clock < 2 ^ 60
  pub room : 14_000 ≤ length buf

-- 01, call 5: "with segment size unless it has one entry"
abbrev pub segment_size : (entries size : ℕ) → Option ℕ
segment_size entries size = cond (eqb entries 1) None (Some size)

-- the next batch of an end e, which becomes e': what is put, its count, its segment size and the end are the model's
pub record HandedOut (e e' : model.End) (buf : Bytes) (count : ℕ) (segment : Option ℕ) (buf' : Bytes) : Type 0 where
  pub took : Took (batch e) e e' buf count buf'
  pub size : segment ≡ segment_size (batch e) (head_length e.queue.entries)

-- 01, call 5: "the next batch .., with segment size unless it has one entry"; the queue stays properly laid out
pub record HandsOut (q : Queue) (s : Sender) (segments clock : ℕ) (sent queue : List ℕ) (outgoing headers buf : Bytes) (r : Handed)
    (sent' : List ℕ) (buf' : Bytes) : Type 0 where
  pub hands : (st : Stream) (t : Totals) (l : Lent) → Lends st l q s sent queue outgoing headers → st.ids.segments ≡ segments → st.clocks.drive.0 ≡ clock
      → HandedOut (seen st t l) (seen (taken_stream r.queue st) t (taken_lent sent' l)) buf r.count r.segment buf'
  pub formed : QueueFormed r.queue queue

-- look

-- 01, 'Added by design': "the next datagram (first entry left to take whose packet is there) .., an empty part when nothing is left
-- to take"
abbrev pub next_seen : Queue → Sender → List ℕ → List ℕ → Bytes → Bytes → Bytes
next_seen q s sent queue outgoing headers = cond (ltb 0 q.left) (first_there (store_seen s sent outgoing) (seen_queue q queue headers).entries) []

-- where that datagram is, like the model's `first_there`; `place` is the first state packet's in the header store
abbrev pub first_shown : Slots model.Packet → (place : ℕ) → List model.Entry → Option Shown
first_shown outgoing place [] = None
first_shown outgoing place (model.state b ∷ q) = Some (State place)
first_shown outgoing place (model.packet n l ∷ q) = on (get outgoing n) (first_shown outgoing place q) (λ p. Some (Stored n (length p.bytes)))

-- what the search finds, whatever the stores, since none is lent to it
abbrev pub Finds : Queue → Sender → (sent queue : List ℕ) → Option Shown → Type 0
Finds q s sent queue r =
    (outgoing headers : Bytes)
    → r ≡ cond (ltb 0 q.left) (first_shown (store_seen s sent outgoing) q.gone (seen_queue q queue headers).entries) None

pub record ShowsNext (q : Queue) (s : Sender) (sent queue : List ℕ) (outgoing headers shown : Bytes) : Type 0 where
  pub next : shown ≡ next_seen q s sent queue outgoing headers
  pub look : (st : Stream) (t : Totals) (l : Lent) → Lends st l q s sent queue outgoing headers → rules (seen st t l) ≡ true → shown ≡ look (seen st t l)
