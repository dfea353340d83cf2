-- The search for a stored packet. Invariant (`Searching`): no number before n is stored, so the model finds from n on what it finds from
-- the first. With nothing left to take, the queue is empty exactly when its count is 0.
use Prim.Native.Nat.{ℕ, suc, ◌+◌, ◌-◌, ◌%◌, ◌≤◌, ◌<◌}
use native.Mathlib.Numerals.{add-one}
use native.Mathlib.Omega.{arith}
use mathlib.Core.Path.{◌≡◌, refl, ap, sym, ◌∙◌}
use mathlib.Core.Logic.{◌≢◌, ◌⊎◌, inl, inr}
use mathlib.Core.List.{List, [], ◌∷◌}
use mathlib.Core.Option.{Option, none, some}
use mathlib.Core.Bool.{Bool, true, false, cond, ◌&&◌, not}
use lib.ListN.{length, take, length-take}
use Rattle.std.specs.Prelude as rust
use Rattle.error.specs.declared.UdxError.{UdxError}
use Rattle.model.specs.Lists.{Bytes, is_empty, on}
use Rattle.model.specs.Slots.{Slots, ceiling}
use Rattle.model.specs.Stream as model
use Rattle.model.specs.Sending.{is_set}
use Rattle.model.specs.Driving.{any_stored}
use Rattle.model.specs.Driving as drive
use Rattle.records.specs.declared.Sender.{Sender}
use Rattle.records.specs.declared.Queue.{Queue}
use Rattle.records_words.specs.Words.{sent_in, is_stored}
use Rattle.records.specs.Seen.{packet_of, seen, seen_outgoing, seen_queue, seen_entries, entry_words}
use Rattle.records.proofs.SeenOutgoing.{get_outgoing}
use Rattle.records.proofs.SeenQueue.{words_rest, entries_length, queue_drive}
use Rattle.records.proofs.FormedQueue.{formed_drive}
use Rattle.drive_drain.specs.Draining.{AnyStored, Drains, LeavesToTake}

-- any_stored

-- what is seen of the store
abbrev store_seen : Sender → List ℕ → Bytes → Slots model.Packet
store_seen s sent outgoing = seen_outgoing s.remote_acked s.seq sent outgoing

-- what is found from number n on
abbrev from : Sender → List ℕ → Bytes → ℕ → Bool
from s sent outgoing n = any_stored (s.seq - n) n (store_seen s sent outgoing)

pub record Searching (s : Sender) (sent : List ℕ) (n : ℕ) : Type 0 where
  pub low : s.remote_acked ≤ n
  pub same : (outgoing : Bytes) → from s sent outgoing n ≡ from s sent outgoing s.remote_acked

module _ {s : Sender} {sent : List ℕ} {n : ℕ} (g : Searching s sent n) where
  pub none_stored : s.seq ≤ n → AnyStored s sent false
  unfolding any_stored
  none_stored h =
      let over : s.seq - n ≡ 0 = omega arith in
      record { found = λ outgoing. ap (λ (k : ℕ). any_stored k n (store_seen s sent outgoing)) (sym over) ∙ g.same outgoing }

  module _ (more : n < s.seq) (outgoing : Bytes) where
    -- what is found past number n
    abbrev past : Bool
    past = any_stored (s.seq - (n + 1)) (suc n) (store_seen s sent outgoing)

    abbrev at : Bool → Bool
    at b = on (cond b (some (packet_of outgoing (n % ceiling) (sent_in sent (n % ceiling)))) none) past (λ p. true)

    turn_is : from s sent outgoing n ≡ at (is_stored (sent_in sent (n % ceiling)) n)
    unfolding any_stored
    turn_is =
        let k : s.seq - n ≡ suc (s.seq - (n + 1)) = omega arith in
        ap (λ (m : ℕ). any_stored m n (store_seen s sent outgoing)) k
        ∙ ap (λ (o : Option model.Packet). on o past (λ p. true)) (get_outgoing s.remote_acked s.seq sent outgoing n g.low more)

  module _ (more : n < s.seq) where
    pub one_stored : is_stored (sent_in sent (n % ceiling)) n ≡ true → AnyStored s sent true
    one_stored e = record { found = λ outgoing. sym (turn_is more outgoing ∙ ap (at more outgoing) e) ∙ g.same outgoing }

    pub not_stored : is_stored (sent_in sent (n % ceiling)) n ≡ false → Searching s sent (n + 1)
    not_stored e =
        record {
          low = let l = g.low in omega arith;
          same =
              λ outgoing.
              ap (λ (m : ℕ). any_stored (s.seq - (n + 1)) m (store_seen s sent outgoing)) (add-one n)
              ∙ sym (turn_is more outgoing ∙ ap (at more outgoing) e)
              ∙ g.same outgoing;
        }

-- drained

not_empty : {A : Type 0} (l : List A) → 0 < length l → is_empty l ≡ false
not_empty [] h = absurd (omega arith)
not_empty (x ∷ l) h = refl

neither : (b : Bool) → false ≡ (b && false)
neither true = refl
neither false = refl

module _ (q : Queue) (words : List ℕ) (headers : Bytes) (rest : q.left ≡ 0) where
  queue_empty : q.count ≡ 0 → is_empty (seen_queue q words headers).entries ≡ true
  unfolding seen_queue
  queue_empty e = rw (words_rest q words rest, e) refl

  queue_full : q.count ≢ 0 → length words ≡ 128 → is_empty (seen_queue q words headers).entries ≡ false
  unfolding seen_queue
  queue_full e long =
      let l : length (seen_entries headers q.gone (entry_words q words)) ≡ length (take q.count words) =
      entries_length headers q.gone (entry_words q words) ∙ ap length (words_rest q words rest) in
      let some : 0 < length (take q.count words) = rw length-take (omega arith) in
      not_empty (seen_entries headers q.gone (entry_words q words)) (omega arith)

module _ (error : rust.Option UdxError) (q : Queue) (s : Sender) (sent : List ℕ) where
  -- the model's test of the three parts
  abbrev parts : (set empty any : Bool) → Bool
  parts set empty any = set && (empty && not any)

  tested : (r : Bool)
      → ((words : List ℕ) (outgoing headers : Bytes) → length words ≡ 128
      → r ≡ parts (is_set error) (is_empty (seen_queue q words headers).entries) (from s sent outgoing s.remote_acked))
      → Drains error q s sent r
  unfolding drive.drained seen
  tested r h = record { test = λ st t l a b c d long. rw (a, b, c, d) (h l.queue l.outgoing l.headers long) }

  -- no error is set, or something is queued
  pub not_drained : q.left ≡ 0 → (is_set error ≡ true × (q.count ≢ 0)) ⊎ (is_set error ≡ false) → (r : Bool) → r ≡ false → Drains error q s sent r
  not_drained rest (inl x) r e = tested r (λ words outgoing headers long. rw (e, queue_full q words headers rest x.1 long) (neither (is_set error)))
  not_drained rest (inr x) r e = tested r (λ words outgoing headers long. rw (e, x) refl)

  -- nothing is queued
  pub stored_or_not : q.left ≡ 0 → is_set error ≡ true → q.count ≡ 0 → (any : Bool) → AnyStored s sent any → Drains error q s sent (not any)
  stored_or_not rest set e any a =
      tested (not any) (λ words outgoing headers long. rw (set, queue_empty q words headers rest e) (ap not (a.found outgoing)))

-- left_to_take

pub leaves : (q : Queue) → q.left ≡ 0 → LeavesToTake q (record { count = q.count; left = q.count; states = q.states; gone = q.gone })
unfolding seen
leaves q rest =
    let q' : Queue = record { count = q.count; left = q.count; states = q.states; gone = q.gone } in
    record {
      end = λ st t l h. ap (λ (x : model.Queue). model.with_queue x (seen st t l)) (queue_drive q q' l.queue l.headers rest h refl refl refl);
      formed = λ queue f. formed_drive q q' queue f rest refl refl refl refl;
    }
