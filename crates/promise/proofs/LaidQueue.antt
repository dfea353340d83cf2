-- The send queue of an end of the model, laid out: a word for each entry, and the bytes of its state packets one after another at the front
-- of the header store.
use Prim.Native.Nat.{ℕ, suc, ◌+◌, ◌-◌, ◌*◌, ◌^◌, ◌≤◌, ◌<◌}
use native.Mathlib.Omega.{arith}
use mathlib.Core.Path.{◌≡◌, refl, ap, ap₂, sym, ◌∙◌}
use mathlib.Core.List.{List, [], ◌∷◌, ◌++◌, append_assoc}
use mathlib.Core.Logic.{◌⊎◌, inl, inr}
use mathlib.Core.Bool.{Bool, true, false, cond}
use lib.Dec.{eqb}
use borrow.Author.Tests.{eq-eqb}
use lib.ListN.{length, take, drop, replicate, length-append, length-replicate}
use lib.Seq.{take_at, drop_at}
use Rattle.model.specs.Lists.{Bytes}
use Rattle.model.specs.Rules.{states}
use Rattle.model.specs.Stream as model
use Rattle.model.proofs.Lists.{All}
use Rattle.records_words.specs.declared.Entry.{Entry}
use Rattle.records_words.specs.declared.Entry.TheVariants.{State, Packet}
use Rattle.records_words.specs.Words.{entry_word}
use Rattle.records_words.proofs.WordLaws.{entry_back, state_back}
use Rattle.records.specs.declared.Queue.{Queue}
use Rattle.records.specs.Put.{put}
use Rattle.records.specs.Cut.{cut, header_slot}
use Rattle.records.specs.Seen.{first_entry, entry_words, seen_entries, state_words, seen_queue, QueueFormed}
use Rattle.records.proofs.Put.{put_length}
use Rattle.records.proofs.Cut.{head_is}
use Rattle.records.proofs.SeenQueue.{entries_states}

abbrev entry_for : model.Entry → Entry
entry_for (model.state b) = State
entry_for (model.packet n l) = Packet (record { number = n; length = l })

abbrev words_for : List model.Entry → List ℕ
words_for [] = []
words_for (x ∷ q) = entry_word (entry_for x) ∷ words_for q

-- the bytes of the state packets
abbrev headers_for : List model.Entry → Bytes
headers_for [] = []
headers_for (model.state b ∷ q) = b ++ headers_for q
headers_for (model.packet n l ∷ q) = headers_for q

-- what an entry must satisfy to fit its word
abbrev pub EntryFits : model.Entry → Type 0
EntryFits (model.state b) = length b ≡ 20
EntryFits (model.packet n l) = (n < 2 ^ 32) × (l < 65_536)

words_length : (q : List model.Entry) → length (words_for q) ≡ length q
words_length [] = refl
words_length (x ∷ q) = ap suc (words_length q)

headers_length : (q : List model.Entry) → All EntryFits q → length (headers_for q) ≡ states q * 20
headers_length [] h = refl
headers_length (model.state b ∷ q) h = length-append b (headers_for q) ∙ rw (h.0, headers_length q h.1) (omega arith)
headers_length (model.packet n l ∷ q) h = headers_length q h.1

-- cutting out a piece from between others
cut_at : (pre b rest : Bytes) (place : ℕ) → length pre ≡ place * header_slot → length b ≡ 20 → cut header_slot (pre ++ (b ++ rest)) place 20 ≡ b
unfolding cut
cut_at pre b rest place e l =
    let z : length b ≡ header_slot = l ∙ sym head_is in
    rw (drop_at pre (b ++ rest) (place * header_slot) e, take_at b rest header_slot z) (take_at b (replicate 20 0) 20 l)

entries_back : (q : List model.Entry) (pre rest : Bytes) (place : ℕ) → All EntryFits q → length pre ≡ place * header_slot
    → seen_entries (pre ++ (headers_for q ++ rest)) place (words_for q) ≡ q
entries_back [] pre rest place h e = refl
entries_back (model.state b ∷ q) pre rest place h e =
    let next : length (pre ++ b) ≡ suc place * header_slot = length-append pre b ∙ rw (e, h.0, head_is) (omega arith) in
    let one : pre ++ ((b ++ headers_for q) ++ rest) ≡ pre ++ (b ++ (headers_for q ++ rest)) = ap (λ (z : Bytes). pre ++ z) (append_assoc b (headers_for q) rest) in
    let two : pre ++ (b ++ (headers_for q ++ rest)) ≡ (pre ++ b) ++ (headers_for q ++ rest) = sym (append_assoc pre b (headers_for q ++ rest)) in
    ap (λ (z : Bytes). seen_entries z place (words_for (model.state b ∷ q))) one
    ∙ rw state_back
    (ap₂ (λ (y : Bytes) (ys : List model.Entry). model.state y ∷ ys) (cut_at pre b (headers_for q ++ rest) place e h.0)
    (ap (λ (z : Bytes). seen_entries z (suc place) (words_for q)) two ∙ entries_back q (pre ++ b) rest (suc place) h.1 next))
entries_back (model.packet n l ∷ q) pre rest place h e =
    rw (entry_back (record { number = n; length = l }) h.0.1 h.0.0) (ap (λ (ys : List model.Entry). model.packet n l ∷ ys) (entries_back q pre rest place h.1 e))

module _ (q : model.Queue) where
  -- the counts of a queue from which nothing has been taken
  abbrev pub laid_queue : Queue
  laid_queue = record { count = length q.entries; left = q.left; states = states q.entries; gone = 0 }

  unfoldable pub laid_entries : List ℕ
  laid_entries = words_for q.entries ++ replicate (128 - length q.entries) 0

  unfoldable pub laid_headers : Bytes → Bytes
  laid_headers headers = put headers 0 (headers_for q.entries)

  module _ (fits : All EntryFits q.entries) (few : length q.entries ≤ 128) (places : states q.entries ≤ 64)
      (left : (q.left ≡ 0) ⊎ (q.left ≡ length q.entries)) where
    pub entries_length : length laid_entries ≡ 128
    unfolding laid_entries
    entries_length = length-append (words_for q.entries) (replicate (128 - length q.entries) 0) ∙ rw (words_length q.entries, length-replicate) (omega arith)

    words_are : entry_words laid_queue laid_entries ≡ words_for q.entries
    unfolding entry_words laid_entries
    words_are =
        let e = take_at (words_for q.entries) (replicate (128 - length q.entries) 0) (length q.entries) (words_length q.entries) in
        ap (λ (n : ℕ). drop n (take (length q.entries) (words_for q.entries ++ replicate (128 - length q.entries) 0))) (first left) ∙ e
      where
        first : (q.left ≡ 0) ⊎ (q.left ≡ length q.entries) → first_entry laid_queue ≡ 0
        first (inl z) = rw (eq-eqb q.left 0 z) refl
        first (inr z) = go (eqb q.left 0)
          where
            go : (b : Bool) → cond b 0 (length q.entries - q.left) ≡ 0
            go true = refl
            go false = omega arith

    module _ (headers : Bytes) (size : length headers ≡ 1_280) where
      room : 0 + length (headers_for q.entries) ≤ length headers
      room = let k = headers_length q.entries fits in omega arith

      pub laid_headers_length : length (laid_headers headers) ≡ 1_280
      unfolding laid_headers
      laid_headers_length = put_length headers 0 (headers_for q.entries) room ∙ size

      entries_are : seen_entries (laid_headers headers) 0 (words_for q.entries) ≡ q.entries
      unfolding laid_headers put
      entries_are = entries_back q.entries [] (drop (0 + length (headers_for q.entries)) headers) 0 fits (omega arith)

      pub queue_seen : seen_queue laid_queue laid_entries (laid_headers headers) ≡ q
      unfolding seen_queue
      queue_seen = rw (words_are, entries_are) refl

      counted : states q.entries ≡ state_words (entry_words laid_queue laid_entries)
      counted = ap states (sym entries_are) ∙ entries_states (laid_headers headers) 0 (words_for q.entries) ∙ ap state_words (sym words_are)

      pub queue_formed : QueueFormed laid_queue laid_entries
      queue_formed =
          record {
            count = few;
            left = left_few left;
            states = places;
            places = let k = counted in omega arith;
            gone = λ z. refl;
          }
        where
          left_few : (q.left ≡ 0) ⊎ (q.left ≡ length q.entries) → q.left ≤ length q.entries
          left_few (inl z) = omega arith
          left_few (inr z) = omega arith
