-- How the queue is laid out: the test `formed_queue` is equivalent to the facts `QueueFormed`, and pushing an entry, ending a drive and
-- taking entries keep them. Only the number of state packets needs more than arithmetic.
use Rattle.std.proofs.Common.{◌≡◌, ℕ, ◌+◌, ◌-◌, ◌<◌, true, List, [], ◌∷◌, ◌++◌, length, take, drop, set, sym, refl, ap, ◌∙◌, add-one, arith, take-append-drop, take-suc-set}
use Rattle.records_words.specs.declared.QueuedPacket.{QueuedPacket}
use Rattle.records_words.specs.declared.Entry.{Entry}
use Rattle.records_words.specs.declared.Entry.TheVariants.{State, Packet}
use Rattle.records.specs.declared.Queue.{Queue}
use Rattle.records_words.specs.Words.{entry_of, entry_word}
use Rattle.records_words.proofs.WordLaws.{state_back}
use Rattle.records.specs.Seen.{entry_words, state_words, formed_queue, QueueFormed}
use Rattle.records.proofs.SeenQueue.{words_append, words_rest, words_pushed, words_drive, words_take}

module _ (q : Queue) (words : List ℕ) where
  -- the two are equivalent

  pub queue_said : QueueFormed q words → formed_queue q words ≡ true
  queue_said f = grind arith

  pub queue_says : formed_queue q words ≡ true → QueueFormed q words
  queue_says e = grind arith

-- one state packet, or none
one_state : (w : ℕ) → entry_of w ≡ State → state_words (w ∷ []) ≡ 1
one_state w e = rw e refl

no_state : (w : ℕ) (x : QueuedPacket) → entry_of w ≡ Packet x → state_words (w ∷ []) ≡ 0
no_state w x e = rw e refl

module _ (q q' : Queue) (words : List ℕ) (f : QueueFormed q words) where
  module _ (room : q.count < length words) (x : Entry) (back : entry_of (entry_word x) ≡ x) (rest : q.left ≡ 0) (rest' : q'.left ≡ 0)
      (more : q'.count ≡ q.count + 1) (gone : q'.gone ≡ q.gone) where
    counted : state_words (entry_words q' (set words q.count (entry_word x))) ≡ state_words (entry_words q words) + state_words (entry_word x ∷ [])
    counted =
        ap state_words
        (words_pushed q q' words room x back rest rest' more gone ∙ rw (add-one, take-suc-set words q.count (entry_word x) room) refl
        ∙ ap (λ (l : List ℕ). l ++ (entry_word x ∷ [])) (sym (words_rest q words rest)))
        ∙ words_append (entry_words q words) (entry_word x ∷ [])

  module _ (room : q.count < length words) (less : q.count < 128) (rest : q.left ≡ 0) (rest' : q'.left ≡ 0) (more : q'.count ≡ q.count + 1) (gone : q'.gone ≡ q.gone) where
    pub formed_packet : (x : QueuedPacket) → entry_of (entry_word (Packet x)) ≡ Packet x → q'.states ≡ q.states → QueueFormed q' (set words q.count (entry_word (Packet x)))
    formed_packet x back same =
        let n = no_state (entry_word (Packet x)) x back in
        let k = counted room (Packet x) back rest rest' more gone in
        let p = f.places in
        record {
          count = omega arith;
          left = omega arith;
          states = omega (arith, f.states);
          places = omega arith;
          gone = λ z. gone ∙ f.gone rest;
        }

    pub formed_state : q'.states ≡ q.states + 1 → q.states < 64 → QueueFormed q' (set words q.count (entry_word State))
    formed_state next below =
        let n = one_state (entry_word State) state_back in
        let k = counted room State state_back rest rest' more gone in
        let p = f.places in
        record {
          count = omega arith;
          left = omega arith;
          states = omega arith;
          places = omega arith;
          gone = λ z. gone ∙ f.gone rest;
        }

  pub formed_drive : q.left ≡ 0 → q'.count ≡ q.count → q'.left ≡ q.count → q'.states ≡ q.states → q'.gone ≡ q.gone → QueueFormed q' words
  formed_drive rest same all places gone =
      let k = ap state_words (words_drive q q' words rest same all) in
      let p = f.places in
      record {
        count = omega (arith, f.count);
        left = omega arith;
        states = omega (arith, f.states);
        places = omega arith;
        gone = λ z. gone ∙ f.gone rest;
      }

  pub formed_take : (k : ℕ) → k < q.left → q'.count ≡ q.count → q'.left ≡ q.left - k → q'.states ≡ q.states
      → q'.gone ≡ q.gone + state_words (take k (entry_words q words)) → QueueFormed q' words
  formed_take k less same here places gone =
      let all : state_words (entry_words q words) ≡ state_words (take k (entry_words q words)) + state_words (drop k (entry_words q words)) =
      ap state_words (sym (take-append-drop k (entry_words q words))) ∙ words_append (take k (entry_words q words)) (drop k (entry_words q words)) in
      let rest = ap state_words (words_take q q' words k less f.left same here) in
      let p = f.places in
      record {
        count = omega (arith, f.count);
        left = omega (arith, f.left);
        states = omega (arith, f.states);
        places = omega arith;
        gone = λ z. absurd (omega arith);
      }

pub formed_empty : (q : Queue) (words : List ℕ) → q.count ≡ 0 → q.left ≡ 0 → q.states ≡ 0 → q.gone ≡ 0 → QueueFormed q words
formed_empty q words c l s g = grind (arith, words_rest)
