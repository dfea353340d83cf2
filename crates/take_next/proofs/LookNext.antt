-- The search for the next datagram (`Searching`): as long as the packet of every entry passed has left, the first of all entries that is
-- there is the first of the rest. The bytes at the place found are those that the model shows (`is_shown`), by induction over the
-- entries' words.
use Prim.Native.Nat.{ℕ, ◌+◌, ◌*◌, ◌%◌, ◌≤◌, ◌<◌}
use native.Mathlib.Omega.{arith}
use mathlib.Core.Path.{◌≡◌, refl, ap, sym, ◌∙◌}
use mathlib.Core.List.{List, [], ◌∷◌}
use mathlib.Core.Bool.{Bool, true, false, cond}
use Rattle.std.specs.Prelude.{Option, None, Some}
use lib.Dec.{ltb}
use borrow.Author.Tests.{lt-ltb, ltb-true}
use lib.ListN.{length, take, drop, get_or, drop_of_length-le}
use lib.Seq.{drop-drop}
use Rattle.model.specs.Lists.{Bytes}
use Rattle.model.specs.Slots.{ceiling}
use Rattle.model.specs.Stream as model
use Rattle.model.specs.Rules.{rules}
use Rattle.model.specs.Driving.{first_there, look}
use Rattle.records_words.specs.declared.QueuedPacket.{QueuedPacket}
use Rattle.records_words.specs.declared.Entry.{Entry}
use Rattle.records_words.specs.declared.Entry.TheVariants as entry
use Rattle.records.specs.declared.Sender.{Sender}
use Rattle.records.specs.declared.Queue.{Queue}
use Rattle.records.specs.declared.Stream.{Stream}
use Rattle.records.specs.declared.Totals.{Totals}
use Rattle.records_words.specs.Words.{sent_in, entry_of}
use Rattle.records.specs.Cut.{cut, outgoing_slot, header_slot}
use Rattle.records.specs.Seen.{seen_entries, seen_queue, entry_words, Lent, seen, state_words, QueueFormed}
use Rattle.records.proofs.Cut.{cut_length}
use Rattle.records.proofs.SeenQueue.{left_length, entries_length}
use Rattle.take_next.specs.declared.Shown.{Shown}
use Rattle.take_next.specs.declared.Shown.TheVariants.{State, Stored}
use Rattle.take_entry.specs.Transmit.{store_seen, is_there}
use Rattle.take_next.specs.Take.{AllTransmitBounds, TakeRules, next_seen, first_shown, Finds}
use Rattle.take_batch.proofs.LeftWords.{entry_at}
use Rattle.take_entry.proofs.TakeOne.{state-bytes, packet_bytes, get_there, there_low, there_high, there_stored}

module _ (q : Queue) (s : Sender) (sent queue : List ℕ) where
  abbrev entries : Bytes → List model.Entry
  entries headers = seen_entries headers q.gone (entry_words q queue)

  -- where the first there of the entries from i on is
  abbrev shown_from : ℕ → Bytes → Bytes → Option Shown
  shown_from i outgoing headers = first_shown (store_seen s sent outgoing) q.gone (drop i (entries headers))

  pub record Searching (i : ℕ) : Type 0 where
    pub formed : QueueFormed q queue
    pub long : length queue ≡ 128
    pub passed : (outgoing headers : Bytes) → shown_from i outgoing headers ≡ shown_from 0 outgoing headers

  module _ (i : ℕ) (g : Searching i) where
    -- all words of the entries left to take are there
    all_words : 0 < q.left → length (entry_words q queue) ≡ q.left
    all_words h =
        let f = g.formed in
        let a = f.count in
        let b = g.long in
        left_length q queue h f.left (omega arith)

    -- the end of the search
    pub none_there : q.left ≤ i → Finds q s sent queue None
    unfolding seen_queue
    none_there over outgoing headers = go (ltb 0 q.left) refl
      where
        over_all : 0 < q.left → length (entries headers) ≤ i
        over_all h = omega (arith, entries_length headers q.gone (entry_words q queue), all_words h)

        go : (b : Bool) → ltb 0 q.left ≡ b → None ≡ cond b (shown_from 0 outgoing headers) None
        go true e =
            sym (ap (first_shown (store_seen s sent outgoing) q.gone) (drop_of_length-le (entries headers) (over_all (ltb-true 0 q.left e)))) ∙ g.passed outgoing headers
        go false e = refl

    module _ (more : i < q.left) where
      abbrev next : Entry
      next = entry_of (get_or (entry_words q queue) i 0)

      inside : i < length (entry_words q queue)
      inside = omega (arith, all_words (omega arith))

      -- the first of the rest is found
      finds : (x : Option Shown) → ((outgoing headers : Bytes) → shown_from i outgoing headers ≡ x) → Finds q s sent queue x
      unfolding seen_queue
      finds x e outgoing headers = rw (lt-ltb 0 q.left (omega arith)) (sym (e outgoing headers) ∙ g.passed outgoing headers)

      pub state_there : next ≡ entry.State → Finds q s sent queue (Some (State q.gone))
      state_there e =
          finds (Some (State q.gone))
          (λ outgoing headers. ap (first_shown (store_seen s sent outgoing) q.gone) (entry_at (entry_words q queue) i inside headers q.gone) ∙ rw e refl)

      module _ (x : QueuedPacket) (e : next ≡ entry.Packet x) where
        pub packet_there : is_there s sent x.number ≡ true
            → Finds q s sent queue (Some (Stored x.number (sent_in sent (x.number % ceiling)).length))
        packet_there z =
            let n = x.number in
            let k = (sent_in sent (n % ceiling)).length in
            finds (Some (Stored n k))
            (λ outgoing headers.
            ap (first_shown (store_seen s sent outgoing) q.gone) (entry_at (entry_words q queue) i inside headers q.gone)
            ∙ rw (e, get_there s sent outgoing n, z) (ap (λ (m : ℕ). Some (Stored n m)) (cut_length outgoing_slot outgoing (n % ceiling) k)))

        pub packet_gone : is_there s sent x.number ≡ false → Searching (i + 1)
        packet_gone z =
            record {
              formed = g.formed;
              long = g.long;
              passed =
                  λ outgoing headers.
                  let a = entry_at (entry_words q queue) i inside headers q.gone in
                  let first = first_shown (store_seen s sent outgoing) q.gone in
                  ap first (sym (drop-drop 1 i (entries headers)) ∙ ap (drop 1) a)
                  ∙ sym (ap first a ∙ rw (e, get_there s sent outgoing x.number, z) refl)
                  ∙ g.passed outgoing headers;
            }

-- what the proof of `next_shown` cites
pub ruleset searching = (state_there, packet_there, packet_gone, none_there)

-- the bytes that are shown

-- the bytes at a place, as the code reads them from a store
abbrev pub bytes_at : (outgoing headers : Bytes) → Option Shown → Bytes
bytes_at outgoing headers None = []
bytes_at outgoing headers (Some (State place)) = take 20 (drop (place * 20) headers)
bytes_at outgoing headers (Some (Stored n k)) = take k (drop (n % 32 * 1_400) outgoing)

-- the bytes at a place, which is one of its store
abbrev pub IsShown : (outgoing headers shown : Bytes) → Option Shown → Type 0
IsShown outgoing headers shown None = shown ≡ []
IsShown outgoing headers shown (Some (State place)) = (place < 64) × (shown ≡ cut header_slot headers place 20)
IsShown outgoing headers shown (Some (Stored n k)) = (k ≤ 1_400) × (shown ≡ cut outgoing_slot outgoing (n % ceiling) k)

module _ (s : Sender) (sent : List ℕ) (outgoing headers : Bytes) (stored : AllTransmitBounds s sent 7) (place : ℕ) where
  abbrev There : List ℕ → Type 0
  There ws =
      let q = seen_entries headers place ws in
      IsShown outgoing headers (first_there (store_seen s sent outgoing) q) (first_shown (store_seen s sent outgoing) place q)

  first_is : (ws : List ℕ) → place + state_words ws ≤ 64 → There ws
  first_is [] h = refl
  first_is (w ∷ ws) h = go (entry_of w) refl (first_is ws)
    where
      go : (x : Entry) → entry_of w ≡ x → (place + state_words ws ≤ 64 → There ws) → There (w ∷ ws)
      go entry.State e rest =
          let below : place < 64 = let k = rw e at h in omega arith in
          rw e (below, refl)
      go (entry.Packet x) e rest = rw e (there (is_there s sent n) refl (rest (rw e at h)))
        where
          n : ℕ
          n = x.number

          there : (b : Bool) → is_there s sent n ≡ b → There ws
              → let q = model.packet n x.length ∷ seen_entries headers place ws in
              IsShown outgoing headers (first_there (store_seen s sent outgoing) q) (first_shown (store_seen s sent outgoing) place q)
          there true z r =
              let k = (sent_in sent (n % ceiling)).length in
              let short = (stored n (there_low s sent outgoing n z) (there_high s sent outgoing n z) (there_stored s sent outgoing n z)).short in
              rw (get_there s sent outgoing n, z, cut_length outgoing_slot outgoing (n % ceiling) k) (short, refl)
          there false z r = rw (get_there s sent outgoing n, z) r

module _ (q : Queue) (s : Sender) (sent queue : List ℕ) (outgoing headers : Bytes) where
  -- what the search finds
  abbrev found : Option Shown
  found = cond (ltb 0 q.left) (first_shown (store_seen s sent outgoing) q.gone (seen_queue q queue headers).entries) None

  module _ (kept : TakeRules q s sent queue outgoing headers) where
    is_shown : (x : Option Shown) → x ≡ found → IsShown outgoing headers (next_seen q s sent queue outgoing headers) x
    unfolding seen_queue
    is_shown x f = rw f (go (ltb 0 q.left))
      where
        all : IsShown outgoing headers (first_there (store_seen s sent outgoing) (seen_entries headers q.gone (entry_words q queue)))
            (first_shown (store_seen s sent outgoing) q.gone (seen_entries headers q.gone (entry_words q queue)))
        all =
            let a = kept.formed.states in
            let b = kept.formed.places in
            first_is s sent outgoing headers kept.stored q.gone (entry_words q queue) (omega arith)

        go : (b : Bool)
            → IsShown outgoing headers (cond b (first_there (store_seen s sent outgoing) (seen_entries headers q.gone (entry_words q queue))) [])
            (cond b (first_shown (store_seen s sent outgoing) q.gone (seen_entries headers q.gone (entry_words q queue))) None)
        go true = all
        go false = refl

    -- what is next is at the place found
    pub shown_bytes : next_seen q s sent queue outgoing headers ≡ bytes_at outgoing headers found
    shown_bytes = go found (is_shown found refl)
      where
        go : (x : Option Shown) → IsShown outgoing headers (next_seen q s sent queue outgoing headers) x
            → next_seen q s sent queue outgoing headers ≡ bytes_at outgoing headers x
        go None i = i
        go (Some (State place)) i = i.1 ∙ sym (state-bytes headers place kept.places i.0)
        go (Some (Stored n k)) i = i.1 ∙ sym (packet_bytes outgoing (n % 32) k kept.slots (omega arith) i.0)

    -- that place is one of its store
    pub place_below : (place : ℕ) → Some (State place) ≡ found → place < 64
    place_below place f = (is_shown (Some (State place)) f).0

    pub length_within : (n k : ℕ) → Some (Stored n k) ≡ found → k ≤ 1_400
    length_within n k f = (is_shown (Some (Stored n k)) f).0

pub looks : (st : Stream) (t : Totals) (l : Lent) → rules (seen st t l) ≡ true
    → look (seen st t l) ≡ next_seen st.queue st.sender l.sent l.queue l.outgoing l.headers
unfolding look seen seen_queue
looks st t l r = rw r refl

-- what the proof of `look_next` cites
pub ruleset showing = (shown_bytes, looks)
