-- The words of the entries left to take: which word of the queue is entry i's, what entry i is in the model, and how many state packets
-- come before it, which gives a state packet's place in the header store.
use Prim.Native.Nat.{ℕ, suc, ◌+◌, ◌-◌, ◌≤◌, ◌<◌}
use native.Mathlib.Omega.{arith}
use mathlib.Core.Path.{◌≡◌, refl, ap, sym, ◌∙◌}
use mathlib.Core.List.{List, [], ◌∷◌}
use lib.ListN.{length, take, drop, get_or}
use lib.Seq.{take-suc, drop-cons, split_at, get_or-take, get_or-drop}
use Rattle.model.specs.Lists.{Bytes}
use Rattle.records_words.specs.declared.Entry.{Entry}
use Rattle.records_words.specs.declared.Entry.TheVariants.{State, Packet}
use Rattle.records.specs.declared.Queue.{Queue}
use Rattle.records_words.specs.Words.{entry_of}
use Rattle.records.specs.Seen.{entry_words, entry_seen, place_after, seen_entries, state_words}
use Rattle.records.proofs.SeenQueue.{words_append, entries_drop, words_left}

pub left_word : (q : Queue) (queue : List ℕ) (i : ℕ) → i < q.left → q.left ≤ q.count → get_or queue (q.count - q.left + i) 0 ≡ get_or (entry_words q queue) i 0
left_word q queue i h l =
    sym (ap (λ (ws : List ℕ). get_or ws i 0) (words_left q queue (omega arith)) ∙ get_or-drop (q.count - q.left) (take q.count queue) i 0
    ∙ get_or-take q.count queue (q.count - q.left + i) 0 (omega arith))

-- the place after a single word
one_word : (place w : ℕ) → place + state_words (w ∷ []) ≡ place_after place (entry_of w)
one_word place w = go (entry_of w) refl
  where
    go : (x : Entry) → entry_of w ≡ x → place + state_words (w ∷ []) ≡ place_after place (entry_of w)
    go State e = rw e (omega arith)
    go (Packet x) e = rw e (omega arith)

-- entry i

module _ (ws : List ℕ) (i : ℕ) (h : i < length ws) where
  pub entry_at : (headers : Bytes) (place : ℕ)
      → drop i (seen_entries headers place ws)
      ≡ entry_seen headers (place + state_words (take i ws)) (entry_of (get_or ws i 0))
      ∷ seen_entries headers (place_after (place + state_words (take i ws)) (entry_of (get_or ws i 0))) (drop (suc i) ws)
  entry_at headers place =
      entries_drop headers place i ws (omega arith) ∙ ap (seen_entries headers (place + state_words (take i ws))) (drop-cons ws i 0 h)

  -- the place of the next entry
  pub states_next : (place : ℕ)
      → place + state_words (take (suc i) ws) ≡ place_after (place + state_words (take i ws)) (entry_of (get_or ws i 0))
  states_next place =
      let a = ap state_words (take-suc ws i 0 h) ∙ words_append (take i ws) (get_or ws i 0 ∷ []) in
      let b : place + state_words (take (suc i) ws) ≡ place + state_words (take i ws) + state_words (get_or ws i 0 ∷ []) = omega arith in
      b ∙ one_word (place + state_words (take i ws)) (get_or ws i 0)

  -- there are fewer state packets before a state packet than in all
  pub states_less : entry_of (get_or ws i 0) ≡ State → state_words (take i ws) < state_words ws
  states_less e =
      let w = get_or ws i 0 in
      let a = ap state_words (split_at ws i 0 h) ∙ words_append (take i ws) (w ∷ drop (suc i) ws) in
      let b = words_append (w ∷ []) (drop (suc i) ws) in
      let d = one_word 0 w ∙ ap (place_after 0) e in
      omega arith
