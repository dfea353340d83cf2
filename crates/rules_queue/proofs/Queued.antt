-- The queue's rules from what the pass over its entries finds: the rules of one entry, the count of each kind, and the tests in order.
use Prim.Native.Nat.{ℕ, ◌+◌, ◌-◌, ◌%◌, ◌≤◌}
use native.Mathlib.Omega.{arith}
use mathlib.Core.Path.{◌≡◌, refl, ap, ◌∙◌}
use mathlib.Core.List.{List, [], ◌∷◌}
use mathlib.Core.Option.{none, some}
use mathlib.Core.Bool.{Bool, true, false, cond, ◌&&◌, and_assoc}
use lib.Dec.{leb, ltb, eqb}
use lib.ListN.{length, take, drop, length-append}
use lib.Seq.{length-slice}
use borrow.Author.Tests.{le-leb}
use Rattle.model.specs.Rules.{distinct, every}
use Rattle.records_words.specs.declared.Entry.{Entry}
use Rattle.records_words.specs.declared.Entry.TheVariants.{State, Packet}
use Rattle.records.specs.declared.Sender.{Sender}
use Rattle.records.specs.declared.Queue.{Queue}
use Rattle.records_words.specs.Words.{sent_in, is_stored, entry_of}
use Rattle.records.specs.Seen.{first_entry, entry_words}
use Rattle.rules_queue.specs.Entries.{same_length, entry_ok, states_of, numbers_of, state_count, packet_numbers, places_ok, ok_queue}
use Rattle.rules_queue.specs.Passes.{known, entry_rule, EntriesPassed}

-- one entry

same_is : (there : Bool) (l k : ℕ) → cond there (eqb l k) true ≡ same_length l (cond there (some k) none)
same_is true l k = refl
same_is false l k = refl

entry_is : (s : Sender) (sent : List ℕ) (x : Entry) → entry_rule s.remote_acked s.seq sent x ≡ entry_ok s sent x
entry_is s sent State = refl
entry_is s sent (Packet x) =
    let p = sent_in sent (x.number % 32) in
    rw (
      and_assoc (leb 21 x.length) (leb x.length 1_400) (cond (known s.remote_acked s.seq x.number && is_stored p x.number) (eqb x.length p.length) true),
      and_assoc (leb s.remote_acked x.number) (ltb x.number s.seq) (is_stored p x.number),
      same_is (leb s.remote_acked x.number && (ltb x.number s.seq && is_stored p x.number)) x.length p.length,
    )

every_is : {A : Type 0} (f g : A → Bool) → ((a : A) → f a ≡ g a) → (l : List A) → every f l ≡ every g l
every_is f g e [] = refl
every_is f g e (a ∷ l) = rw (e a, every_is f g e l)

-- an entry is a state packet or a packet
one_kind : (x : Entry) → states_of x + length (numbers_of x) ≡ 1
one_kind State = refl
one_kind (Packet x) = refl

kinds : (ws : List ℕ) → state_count ws + length (packet_numbers ws) ≡ length ws
kinds [] = refl
kinds (w ∷ ws) = omega (arith, one_kind (entry_of w), length-append (numbers_of (entry_of w)) (packet_numbers ws), kinds ws)

-- the whole queue

module _ (q : Queue) (s : Sender) (queue sent : List ℕ) where
  first_is : (many : ℕ) → many ≡ cond (eqb q.left 0) q.count q.left → q.count - many ≡ first_entry q
  first_is many e = ap (λ (n : ℕ). q.count - n) e ∙ go (eqb q.left 0)
    where
      go : (b : Bool) → q.count - cond b q.count q.left ≡ cond b 0 (q.count - q.left)
      go true = omega arith
      go false = refl

  few : (many : ℕ) → many ≡ cond (eqb q.left 0) q.count q.left → q.left ≤ q.count → many ≤ q.count
  few many e h = rw e (go (eqb q.left 0))
    where
      go : (b : Bool) → cond b q.count q.left ≤ q.count
      go true = omega arith
      go false = h

  pub passed : (many : ℕ) (good fresh : Bool) (states : ℕ) → length queue ≡ 128 → q.count ≤ 128 → q.left ≤ q.count
      → many ≡ cond (eqb q.left 0) q.count q.left
      → EntriesPassed s.remote_acked s.seq sent (drop (q.count - many) (take q.count queue)) good fresh states
      → (good && (cond (eqb q.left 0) (fresh && leb states 63) (leb states 64 && leb (many - states) 64) && places_ok q states)) ≡ ok_queue q s queue sent
  unfolding ok_queue entry_words
  passed many good fresh states long h k many_is w =
      let ws = drop (q.count - many) (take q.count queue) in
      let fits = few many many_is k in
      let left : many - states ≡ length (packet_numbers ws) =
      omega (arith, kinds ws, length-slice (q.count - many) q.count queue (omega arith), w.states_is) in
      rw (
        ← first_is many many_is,
        le-leb q.count 128 h,
        le-leb q.left q.count k,
        left,
        w.all,
        w.fresh_is,
        w.states_is,
        every_is (λ w. entry_rule s.remote_acked s.seq sent (entry_of w)) (λ w. entry_ok s sent (entry_of w)) (λ w. entry_is s sent (entry_of w)) ws,
        and_assoc (distinct (packet_numbers ws)) (every (known s.remote_acked s.seq) (packet_numbers ws)) (leb (state_count ws) 63),
      )
