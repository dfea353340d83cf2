-- The size of the next batch, counted over the queue's words: how many words in a row are entries of one size (`same_from`). The count goes
-- up by one with each such word, and it is the model's `batch` of what is seen.
use Prim.Native.Nat.{ℕ, zero, suc, ◌+◌, ◌-◌, ◌≤◌, ◌<◌, min}
use native.Mathlib.Omega.{arith}
use mathlib.Core.Path.{◌≡◌, refl, ap, ap₂, sym, ◌∙◌}
use mathlib.Core.Logic.{◌≢◌}
use mathlib.Core.List.{List}
use mathlib.Core.Bool.{cond}
use lib.Dec.{eqb}
use borrow.Author.Tests.{eq-eqb, ne_eqb}
use lib.ListN.{length, drop, get_or}
use lib.Seq.{drop-cons}
use Rattle.model.specs.Lists.{Bytes}
use Rattle.model.specs.Driving.{entry_length, head_length, same_length, batch}
use Rattle.records.specs.declared.Queue.{Queue}
use Rattle.records.specs.declared.Stream.{Stream}
use Rattle.records.specs.declared.Totals.{Totals}
use Rattle.records_words.specs.declared.Entry.{Entry}
use Rattle.records_words.specs.declared.Entry.TheVariants.{State, Packet}
use Rattle.records_words.specs.Words.{entry_of}
use Rattle.records.specs.Cut.{header_slot}
use Rattle.records.specs.Seen.{entry_seen, place_after, seen_entries, seen_queue, entry_words, Lent, seen}
use Rattle.records.proofs.Cut.{cut_length}
use Rattle.records.proofs.SeenQueue.{left_length}
use Rattle.take_batch.specs.Batch.{entry_size, Batched, Heads}

-- the size of the entry in the word at a place
abbrev size_at : List ℕ → ℕ → ℕ
size_at words i = entry_size (entry_of (get_or words i 0))

-- how many of the m words from i on have size l, up to the first that does not
unfoldable pub same_from : List ℕ → (m l i : ℕ) → ℕ
same_from words zero l i = 0
same_from words (suc m) l i = cond (eqb (size_at words i) l) (suc (same_from words m l (suc i))) 0

-- one word

pub same_next : (words : List ℕ) (m l i : ℕ) → 0 < m → size_at words i ≡ l → same_from words m l i ≡ suc (same_from words (m - 1) l (i + 1))
unfolding same_from
same_next words zero l i h e = absurd (omega arith)
same_next words (suc m) l i h e =
    let a : m ≡ suc m - 1 = omega arith in
    let b : suc i ≡ i + 1 = omega arith in
    rw (eq-eqb (size_at words i) l e) (ap₂ (λ (x y : ℕ). suc (same_from words x l y)) a b)

pub same_stop : (words : List ℕ) (m l i : ℕ) → size_at words i ≢ l → same_from words m l i ≡ 0
unfolding same_from
same_stop words zero l i ne = refl
same_stop words (suc m) l i ne = rw (ne_eqb (size_at words i) l ne) refl

-- the loop: k words are counted, and the total is k plus what is still to count

pub same_again : (words : List ℕ) (m l all k : ℕ) → all ≡ k + same_from words (m - k) l k → k < m → size_at words k ≡ l
    → all ≡ k + 1 + same_from words (m - (k + 1)) l (k + 1)
same_again words m l all k e h z =
    let n = same_next words (m - k) l k (omega arith) z in
    let a : m - k - 1 ≡ m - (k + 1) = omega arith in
    let o : same_from words (m - k - 1) l (k + 1) ≡ same_from words (m - (k + 1)) l (k + 1) = ap (λ (x : ℕ). same_from words x l (k + 1)) a in
    omega arith

-- the entries that are seen

-- an entry is seen with its own size
seen_size : (headers : Bytes) (place : ℕ) (x : Entry) → entry_length (entry_seen headers place x) ≡ entry_size x
seen_size headers place State = cut_length header_slot headers place 20
seen_size headers place (Packet x) = refl

pub same_entries : (headers : Bytes) (ws : List ℕ) (m l i place : ℕ) → i + m ≤ length ws
    → same_length m l (seen_entries headers place (drop i ws)) ≡ same_from ws m l i
unfolding same_length same_from
same_entries headers ws zero l i place h = refl
same_entries headers ws (suc m) l i place h =
    let x = entry_of (get_or ws i 0) in
    ap (λ (words : List ℕ). same_length (suc m) l (seen_entries headers place words)) (drop-cons ws i 0 (omega arith))
    ∙ ap₂ (λ (size rest : ℕ). cond (eqb size l) (suc rest) 0) (seen_size headers place x)
    (same_entries headers ws m l (suc i) (place_after place x) (omega arith))

-- the next batch

some_same : (words : List ℕ) (m l i : ℕ) → size_at words i ≡ l → 1 ≤ m → 1 ≤ same_from words m l i
some_same words m l i e h = rw (same_next words m l i h e) (omega arith)

module _ (q : Queue) (segments : ℕ) (queue : List ℕ) (some : 1 ≤ q.left) (left : q.left ≤ q.count) (fits : q.count ≤ length queue) where
  head_size : (headers : Bytes) → head_length (seen_entries headers q.gone (entry_words q queue)) ≡ size_at (entry_words q queue) 0
  head_size headers =
      let ws = entry_words q queue in
      let l : 0 < length ws = omega (arith, left_length q queue some left fits) in
      ap (λ (x : List ℕ). head_length (seen_entries headers q.gone x)) (drop-cons ws 0 0 l) ∙ seen_size headers q.gone (entry_of (get_or ws 0 0))

  counted : (st : Stream) (t : Totals) (l : Lent) → st.queue ≡ q → st.ids.segments ≡ segments → l.queue ≡ queue
      → same_from (entry_words q queue) (min segments q.left) (size_at (entry_words q queue) 0) 0 ≡ batch (seen st t l)
  unfolding batch seen seen_queue
  counted st t l e₁ e₂ e₃ =
      let n = left_length q queue some left fits in
      rw (e₁, e₂, e₃, head_size l.headers)
      (sym (same_entries l.headers (entry_words q queue) (min segments q.left) (size_at (entry_words q queue) 0) 0 q.gone (omega arith)))

  module _ (m l : ℕ) (most : m ≡ min segments q.left) (first : l ≡ size_at (entry_words q queue) 0) where
    pub batched : (r : ℕ) → r ≤ m → r ≡ same_from (entry_words q queue) m l 0 → Batched q segments queue r
    batched r h e =
        record {
          count = λ st t le e₁ e₂ e₃. e ∙ ap₂ (λ (x y : ℕ). same_from (entry_words q queue) x y 0) most first ∙ counted st t le e₁ e₂ e₃;
          some = λ h. rw e (some_same (entry_words q queue) m l 0 (sym first) (omega arith));
          most = omega arith;
          left = omega arith;
        }

    module _ (k : ℕ) (e : same_from (entry_words q queue) m l 0 ≡ k + same_from (entry_words q queue) (m - k) l k) where
      -- all of them have the first one's size
      pub batched_all : m ≤ k → k ≤ m → Batched q segments queue m
      unfolding same_from
      batched_all h u =
          let z : m - k ≡ 0 = omega arith in
          let n : same_from (entry_words q queue) (m - k) l k ≡ 0 = ap (λ (x : ℕ). same_from (entry_words q queue) x l k) z in
          batched m (omega arith) (omega arith)

      -- entry k has another
      pub batched_cut : (size : ℕ) → k < m → size ≡ size_at (entry_words q queue) k → size ≢ l → Batched q segments queue k
      batched_cut size h is ne =
          let n = same_stop (entry_words q queue) (m - k) l k (λ z. ne (is ∙ z)) in
          batched k (omega arith) (omega arith)

  -- the first one's length
  pub heads : (r : ℕ) → r ≡ size_at (entry_words q queue) 0 → Heads q queue r
  unfolding seen seen_queue
  heads r e = record { size = λ st t l e₁ e₂. e ∙ (rw (e₁, e₂) (sym (head_size l.headers))) }
