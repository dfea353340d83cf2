-- What is seen of the send queue: how many entries and state packets it has, and how pushing an entry, ending a drive and taking entries
-- change it. By induction on the words; the bytes of the queued state packets are below the place of the next one.
use Rattle.std.proofs.Common.{◌≡◌, ℕ, suc, ◌+◌, ◌-◌, ◌*◌, ◌<◌, ◌≤◌, Bool, true, false, eqb, List, [], ◌∷◌, ◌++◌, length, take, drop, set, sym, refl, ap, ◌∙◌, ap₂, add-one, arith, length-drop, take-append-drop, drop_of_length-le, length-take-le, drop-drop, take-suc-set, take_at, drop_at, ne_eqb, eqb-true}
use borrow.Author.Tests.{eqb-false}
use Rattle.model.specs.Lists.{Bytes}
use Rattle.model.specs.Stream as model
use Rattle.model.specs.Rules.{states}
use Rattle.model.specs.Sending.{pushed}
use Rattle.records_words.specs.declared.QueuedPacket.{QueuedPacket}
use Rattle.records_words.specs.declared.Entry.{Entry}
use Rattle.records_words.specs.declared.Entry.TheVariants.{State, Packet}
use Rattle.records.specs.declared.Queue.{Queue}
use Rattle.records_words.specs.Words.{entry_of, entry_word}
use Rattle.records_words.proofs.WordLaws.{state_back}
use Rattle.records.specs.Cut.{cut, header_slot}
use Rattle.records.specs.Put.{put}
use Rattle.records.specs.Seen.{entry_words, entry_seen, place_after, seen_entries, state_words, seen_queue}
use Rattle.records.proofs.Cut.{head_is, cut_same, cut_other}

-- the entries of some words

pub entries_length : (headers : Bytes) (place : ℕ) (words : List ℕ) → length (seen_entries headers place words) ≡ length words
entries_length headers place [] = refl
entries_length headers place (w ∷ ws) = ap suc (entries_length headers (place_after place (entry_of w)) ws)

-- the number of state packets does not depend on bytes or places
states_same : (h h' : Bytes) (i j : ℕ) (words : List ℕ) → states (seen_entries h i words) ≡ states (seen_entries h' j words)
states_same h h' i j [] = refl
states_same h h' i j (w ∷ ws) = go (entry_of w) refl (λ k l. states_same h h' k l ws)
  where
    go : (x : Entry) → entry_of w ≡ x → ((k l : ℕ) → states (seen_entries h k ws) ≡ states (seen_entries h' l ws))
        → states (seen_entries h i (w ∷ ws)) ≡ states (seen_entries h' j (w ∷ ws))
    go State e same = rw e (ap suc (same (suc i) (suc j)))
    go (Packet x) e same = rw e (same i j)

pub entries_states : (headers : Bytes) (place : ℕ) (words : List ℕ) → states (seen_entries headers place words) ≡ state_words words
entries_states headers place words = states_same headers [] place 0 words

-- a state packet first, or a packet's entry
state_first : (w : ℕ) (ws : List ℕ) → entry_of w ≡ State → state_words (w ∷ ws) ≡ suc (state_words ws)
state_first w ws e = rw e (ap suc (states_same [] [] 1 0 ws))

packet_first : (w : ℕ) (ws : List ℕ) (x : QueuedPacket) → entry_of w ≡ Packet x → state_words (w ∷ ws) ≡ state_words ws
packet_first w ws x e = rw e refl

-- the place after a first entry and the rest
at_next : (place w : ℕ) (ws : List ℕ) → place + state_words (w ∷ ws) ≡ place_after place (entry_of w) + state_words ws
at_next place w ws = go (entry_of w) refl
  where
    go : (x : Entry) → entry_of w ≡ x → place + state_words (w ∷ ws) ≡ place_after place (entry_of w) + state_words ws
    go State e = rw e (omega (arith, states_same [] [] 1 0 ws))
    go (Packet x) e = rw e refl

pub entries_append : (headers : Bytes) (place : ℕ) (words more : List ℕ)
    → seen_entries headers place (words ++ more) ≡ seen_entries headers place words ++ seen_entries headers (place + state_words words) more
entries_append headers place [] more = ap (λ (i : ℕ). seen_entries headers i more) (let e : place ≡ place + 0 = omega arith in e)
entries_append headers place (w ∷ ws) more =
    ap (λ (l : List model.Entry). entry_seen headers place (entry_of w) ∷ l) (entries_append headers (place_after place (entry_of w)) ws more
    ∙ ap (λ (i : ℕ). seen_entries headers (place_after place (entry_of w)) ws ++ seen_entries headers i more) (sym (at_next place w ws)))

states_append : (a b : List model.Entry) → states (a ++ b) ≡ states a + states b
states_append [] b = omega arith
states_append (model.state x ∷ a) b = let e = states_append a b in omega arith
states_append (model.packet n l ∷ a) b = states_append a b

pub words_append : (words more : List ℕ) → state_words (words ++ more) ≡ state_words words + state_words more
words_append words more =
    ap states (entries_append [] 0 words more) ∙ states_append (seen_entries [] 0 words) (seen_entries [] (0 + state_words words) more)
    ∙ ap (λ (k : ℕ). state_words words + k) (entries_states [] (0 + state_words words) more)

-- only the bytes of the state packets matter
pub entries_same : (h h' : Bytes) (place : ℕ) (words : List ℕ)
    → ((i : ℕ) → place ≤ i → i < place + state_words words → cut header_slot h i 20 ≡ cut header_slot h' i 20) → seen_entries h place words ≡ seen_entries h' place words
entries_same h h' place [] f = refl
entries_same h h' place (w ∷ ws) f = go (entry_of w) refl (λ i. entries_same h h' i ws)
  where
    Same : ℕ → Type 0
    Same i = ((j : ℕ) → i ≤ j → j < i + state_words ws → cut header_slot h j 20 ≡ cut header_slot h' j 20) → seen_entries h i ws ≡ seen_entries h' i ws

    go : (x : Entry) → entry_of w ≡ x → ((i : ℕ) → Same i) → seen_entries h place (w ∷ ws) ≡ seen_entries h' place (w ∷ ws)
    go State e same =
        let n = state_first w ws e in
        rw e (ap₂ (λ (x : Bytes) (l : List model.Entry). model.state x ∷ l) (f place (omega arith) (omega arith))
        (same (suc place) (λ j a b. f j (omega arith) (omega arith))))
    go (Packet x) e same =
        let n = packet_first w ws x e in
        rw e (ap (λ (l : List model.Entry). model.packet x.number x.length ∷ l) (same place (λ j a b. f j a (omega arith))))

-- splitting entries off the front

module _ (headers : Bytes) (place k : ℕ) (words : List ℕ) (l : k ≤ length words) where
  split : seen_entries headers place words ≡ seen_entries headers place (take k words) ++ seen_entries headers (place + state_words (take k words)) (drop k words)
  split = ap (seen_entries headers place) (sym (take-append-drop k words)) ∙ entries_append headers place (take k words) (drop k words)

  front : length (seen_entries headers place (take k words)) ≡ k
  front = entries_length headers place (take k words) ∙ length-take-le k words l

  pub entries_take : take k (seen_entries headers place words) ≡ seen_entries headers place (take k words)
  entries_take = ap (take k) split ∙ take_at (seen_entries headers place (take k words)) (seen_entries headers (place + state_words (take k words)) (drop k words)) k front

  pub entries_drop : drop k (seen_entries headers place words) ≡ seen_entries headers (place + state_words (take k words)) (drop k words)
  entries_drop = ap (drop k) split ∙ drop_at (seen_entries headers place (take k words)) (seen_entries headers (place + state_words (take k words)) (drop k words)) k front

-- one more entry at the end

entry_alone : (headers : Bytes) (place w : ℕ) (x : Entry) → entry_of w ≡ x → seen_entries headers place (w ∷ []) ≡ entry_seen headers place x ∷ []
entry_alone headers place w x e = rw e refl

module _ (words : List ℕ) (count : ℕ) (room : count < length words) (x : Entry) (back : entry_of (entry_word x) ≡ x) where
  pub push_entry : (headers : Bytes) (place : ℕ)
      → seen_entries headers place (take (count + 1) (set words count (entry_word x)))
      ≡ seen_entries headers place (take count words) ++ (entry_seen headers (place + state_words (take count words)) x ∷ [])
  push_entry headers place =
      rw (add-one, take-suc-set words count (entry_word x) room) (entries_append headers place (take count words) (entry_word x ∷ [])
      ∙ ap (λ (l : List model.Entry). seen_entries headers place (take count words) ++ l) (entry_alone headers (place + state_words (take count words)) (entry_word x) x back))

-- a state packet, its bytes at the place after the others
module _ (words : List ℕ) (count : ℕ) (room : count < length words) where
  pub push_state : (headers bytes : Bytes) (place next : ℕ) → next ≡ place + state_words (take count words) → length bytes ≡ 20 → next * 20 + 20 ≤ length headers
      → seen_entries (put headers (next * 20) bytes) place (take (count + 1) (set words count (entry_word State)))
      ≡ seen_entries headers place (take count words) ++ (model.state bytes ∷ [])
  push_state headers bytes place next at long fits =
      ap (λ (z : ℕ). seen_entries (put headers (next * z) bytes) place (take (count + 1) (set words count (entry_word State)))) (sym head_is)
      ∙ push_entry words count room State state_back headers' place
      ∙ ap₂ ◌++◌ (entries_same headers' headers place (take count words) (λ i a b. cut_other header_slot headers bytes next short fits' i 20 (λ q. omega arith)))
      (ap (λ (i : ℕ). entry_seen headers' i State ∷ []) (sym at)
      ∙ ap (λ (b : Bytes). model.state b ∷ []) (ap (cut header_slot headers' next) (sym long) ∙ cut_same header_slot headers bytes next short fits'))
    where
      headers' : Bytes
      headers' = put headers (next * header_slot) bytes

      short : length bytes ≤ header_slot
      short = omega (arith, head_is)

      fits' : next * header_slot + length bytes ≤ length headers
      fits' = rw head_is (omega arith)

-- the queue

-- nothing is left to take: the entries are the words below count
pub words_rest : (q : Queue) (words : List ℕ) → q.left ≡ 0 → entry_words q words ≡ take q.count words
unfolding entry_words
words_rest q words e = rw e refl

-- otherwise the last `left` of them
pub words_left : (q : Queue) (words : List ℕ) → 0 < q.left → entry_words q words ≡ drop (q.count - q.left) (take q.count words)
unfolding entry_words
words_left q words h = rw (ne_eqb q.left 0 (λ e. omega arith)) refl

pub rest_length : (q : Queue) (words : List ℕ) → q.left ≡ 0 → q.count ≤ length words → length (entry_words q words) ≡ q.count
rest_length q words e l = ap length (words_rest q words e) ∙ length-take-le q.count words l

pub left_length : (q : Queue) (words : List ℕ) → 0 < q.left → q.left ≤ q.count → q.count ≤ length words → length (entry_words q words) ≡ q.left
left_length q words h m l = ap length (words_left q words h) ∙ simp (length-drop, length-take-le q.count words l) (omega arith)

queue_of : List model.Entry → ℕ → model.Queue
queue_of entries left = record { entries = entries; left = left }

module _ (q q' : Queue) (words : List ℕ) where
  -- an entry is pushed
  module _ (room : q.count < length words) (x : Entry) (back : entry_of (entry_word x) ≡ x) (rest : q.left ≡ 0) (rest' : q'.left ≡ 0)
      (more : q'.count ≡ q.count + 1) (gone : q'.gone ≡ q.gone) where
    pub words_pushed : entry_words q' (set words q.count (entry_word x)) ≡ take (q.count + 1) (set words q.count (entry_word x))
    words_pushed = words_rest q' (set words q.count (entry_word x)) rest' ∙ ap (λ (k : ℕ). take k (set words q.count (entry_word x))) more

  module _ (room : q.count < length words) (rest : q.left ≡ 0) (rest' : q'.left ≡ 0) (more : q'.count ≡ q.count + 1) (gone : q'.gone ≡ q.gone) where
    pub queue_packet : (x : QueuedPacket) → entry_of (entry_word (Packet x)) ≡ Packet x → (headers : Bytes)
        → seen_queue q' (set words q.count (entry_word (Packet x))) headers ≡ pushed (model.packet x.number x.length) (seen_queue q words headers)
    unfolding seen_queue
    queue_packet x back headers =
        rw (words_pushed room (Packet x) back rest rest' more gone, words_rest q words rest, gone, rest, rest')
        (ap (λ (l : List model.Entry). record { entries = l; left = 0 }) (push_entry words q.count room (Packet x) back headers q.gone))

    pub queue_state : (headers bytes : Bytes) → q.states ≡ q.gone + state_words (entry_words q words) → length bytes ≡ 20 → q.states * 20 + 20 ≤ length headers
        → seen_queue q' (set words q.count (entry_word State)) (put headers (q.states * 20) bytes) ≡ pushed (model.state bytes) (seen_queue q words headers)
    unfolding seen_queue
    queue_state headers bytes places long fits =
        let places' : q.states ≡ q.gone + state_words (take q.count words) = places ∙ ap (λ (l : List ℕ). q.gone + state_words l) (words_rest q words rest) in
        rw (words_pushed room State state_back rest rest' more gone, words_rest q words rest, gone, rest, rest')
        (ap (λ (l : List model.Entry). record { entries = l; left = 0 }) (push_state words q.count room headers bytes q.gone q.states places' long fits))

  -- a drive ends: all entries are left to take
  pub words_drive : q.left ≡ 0 → q'.count ≡ q.count → q'.left ≡ q.count → entry_words q' words ≡ entry_words q words
  words_drive rest same all = go (eqb q'.left 0) refl
    where
      go : (b : Bool) → eqb q'.left 0 ≡ b → entry_words q' words ≡ entry_words q words
      go true e = words_rest q' words (eqb-true q'.left 0 e) ∙ ap (λ (k : ℕ). take k words) same ∙ sym (words_rest q words rest)
      go false e =
          let h : 0 < q'.left = omega (arith, eqb-false q'.left 0 e) in
          let z : q.count - q.count ≡ 0 = omega arith in
          words_left q' words h ∙ rw (same, all, z) (sym (words_rest q words rest))

  pub queue_drive : (headers : Bytes) → q.left ≡ 0 → q.count ≤ length words → q'.count ≡ q.count → q'.left ≡ q.count → q'.gone ≡ q.gone
      → seen_queue q' words headers ≡ record { entries = (seen_queue q words headers).entries; left = length (seen_queue q words headers).entries }
  unfolding seen_queue queue_of
  queue_drive headers rest fits same all gone =
      ap₂ queue_of (ap₂ (seen_entries headers) gone (words_drive rest same all))
      (all ∙ sym (entries_length headers q.gone (entry_words q words) ∙ rest_length q words rest fits))

  -- some entries are taken, and more are left
  pub words_take : (k : ℕ) → k < q.left → q.left ≤ q.count → q'.count ≡ q.count → q'.left ≡ q.left - k → entry_words q' words ≡ drop k (entry_words q words)
  words_take k less most same here =
      let some : 0 < q.left = omega arith in
      let some' : 0 < q'.left = omega arith in
      let e : q.count - (q.left - k) ≡ (q.count - q.left) + k = omega arith in
      words_left q' words some' ∙ rw (same, here, e) (sym (drop-drop k (q.count - q.left) (take q.count words))) ∙ ap (drop k) (sym (words_left q words some))

  pub queue_take : (headers : Bytes) (k : ℕ) → k < q.left → q.left ≤ q.count → q.count ≤ length words → q'.count ≡ q.count → q'.left ≡ q.left - k
      → q'.gone ≡ q.gone + state_words (take k (entry_words q words))
      → seen_queue q' words headers ≡ record { entries = drop k (seen_queue q words headers).entries; left = q.left - k }
  unfolding seen_queue queue_of
  queue_take headers k less most fits same here gone =
      let some : 0 < q.left = omega arith in
      let e = left_length q words some most fits in
      let l : k ≤ length (entry_words q words) = omega arith in
      ap₂ queue_of (ap₂ (seen_entries headers) gone (words_take k less most same here) ∙ sym (entries_drop headers q.gone k (entry_words q words) l)) here

  -- the last entries are taken
  pub queue_last : (headers : Bytes) → 0 < q.left → q.left ≤ q.count → q.count ≤ length words → q'.count ≡ 0 → q'.left ≡ 0
      → seen_queue q' words headers ≡ record { entries = drop q.left (seen_queue q words headers).entries; left = 0 }
  unfolding seen_queue queue_of
  queue_last headers some most fits empty rest =
      let e = entries_length headers q.gone (entry_words q words) ∙ left_length q words some most fits in
      let l : length (seen_entries headers q.gone (entry_words q words)) ≤ q.left = omega arith in
      ap₂ queue_of (ap (seen_entries headers q'.gone) (words_rest q' words rest ∙ ap (λ (k : ℕ). take k words) empty) ∙ sym (drop_of_length-le (seen_entries headers q.gone (entry_words q words)) l)) rest
