-- What this crate's functions promise: how many entries the next batch has, and the first one's length. Each promise is about the model's
-- end that is seen of the records (`seen`), for any stream with the numbers and words that the function is given.
use Rattle.std.specs.Prelude.{ℕ, ◌≤◌, ◌≡◌, List}
use Rattle.model.specs.Driving.{head_length, batch}
use Rattle.records_words.specs.declared.Entry.{Entry}
use Rattle.records_words.specs.declared.Entry.TheVariants.{State, Packet}
use Rattle.records.specs.declared.Queue.{Queue}
use Rattle.records.specs.declared.Stream.{Stream}
use Rattle.records.specs.declared.Totals.{Totals}
use Rattle.records.specs.Seen.{Lent, seen}

-- the size of an entry's datagram; a state packet is a bare header
abbrev pub entry_size : Entry → ℕ
entry_size State = 20
entry_size (Packet x) = x.length

-- 01, call 5: "the next batch, at most the ceiling of equal-length entries" (poll_transmit)
pub record Batched (q : Queue) (segments : ℕ) (queue : List ℕ) (r : ℕ) : Type 0 where
  pub count : (st : Stream) (t : Totals) (l : Lent) → st.queue ≡ q → st.ids.segments ≡ segments → l.queue ≡ queue → r ≡ batch (seen st t l)
  pub some : 1 ≤ segments → 1 ≤ r
  pub most : r ≤ segments
  pub left : r ≤ q.left

-- the first entry's length
pub record Heads (q : Queue) (queue : List ℕ) (r : ℕ) : Type 0 where
  pub size : (st : Stream) (t : Totals) (l : Lent) → st.queue ≡ q → l.queue ≡ queue → r ≡ head_length (seen st t l).queue.entries
