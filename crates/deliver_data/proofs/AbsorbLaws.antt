-- DATA on the records agrees with the model: the loop that clears a gap, the packet that is held, and the loop that moves ack. Cleared
-- words are not packets, so top may pass them; ack stops at the first number not held, at top at the latest, so the model's steps are
-- enough.
use Prim.Native.Nat.{ℕ, zero, suc, ◌+◌, ◌-◌, ◌*◌, ◌%◌, ◌≤◌, ◌<◌, max}
use native.Mathlib.Numerals.{add-one}
use native.Mathlib.Omega.{arith}
use native.Mathlib.Decide.{ℕ_discrete}
use mathlib.Core.Path.{◌≡◌, refl, ap, sym, ◌∙◌}
use mathlib.Core.List.{List}
use mathlib.Core.Option.{none, some}
use mathlib.Core.Bool.{Bool, true, false, cond}
use lib.Dec.{ltb}
use borrow.Author.Tests.{le-leb, lt-leb, ltb-true, ltb-false}
use lib.ListN.{length, set, length-set}
use lib.Seq.{get_or-set_same}
use Rattle.std.specs.Prelude.{Option, is_some}
use Rattle.model.specs.Lists.{Bytes}
use Rattle.model.specs.Slots.{ceiling, get, insert}
use Rattle.model.specs.Stream as model
use Rattle.model.specs.Receiving.{acked, advance, absorb}
use Rattle.records_words.specs.declared.Held.{Held}
use Rattle.records.specs.declared.Receiver.{Receiver}
use Rattle.records_words.specs.Words.{held_of, held_word, is_held, found_held}
use Rattle.records.specs.Put.{put}
use Rattle.records.specs.Cut.{beyond, incoming_slot}
use Rattle.records.specs.Seen.{held_payload, seen_incoming, seen_receiver}
use Rattle.records.specs.Beside.{Stay, held_size}
use Rattle.records_words.proofs.WordLaws.{held_back}
use Rattle.records.proofs.Cut.{in_is, beyond_same, beyond_other}
use Rattle.records.proofs.SeenIncoming.{held_in, with_held, get_incoming, get_past, clear_one, hold_incoming, hold_next}
use Rattle.records.specs.Laid.{LaidReceiver}
use Rattle.deliver_data.specs.Absorbing.{Accepted, Cleared, Inserted, Advanced, Absorbed}

-- clearing a gap

-- the words of the numbers from top to below m are cleared
pub record Clearing (words₀ : List ℕ) (top m : ℕ) (words : List ℕ) : Type 0 where
  pub long : length words ≡ 32
  pub seen : (read_cursor : ℕ) (store : Bytes) → m ≤ read_cursor + ceiling
      → seen_incoming read_cursor m words store ≡ seen_incoming read_cursor top words₀ store

module _ {words₀ : List ℕ} {top m : ℕ} {words : List ℕ} (g : Clearing words₀ top m words) where
  pub clear_turn : {words' : List ℕ} → words' ≡ set words (m % 32) 0 → Clearing words₀ top (m + 1) words'
  clear_turn e =
      record {
        long = ap length e ∙ length-set words (m % 32) 0 ∙ g.long;
        seen = λ read_cursor store h.
            rw (add-one, e) (clear_one read_cursor m words store g.long (omega arith)) ∙ g.seen read_cursor store (omega arith);
      }

-- holding a packet

-- the packet of a payload just delivered
abbrev arrived : ℕ → Bytes → Held
arrived n payload = record { number = n; past = length payload + 1; offset = 0 }

module _ {r : Receiver} {words cleared : List ℕ} {store : Bytes} {n : ℕ} {payload : Bytes} (a : Accepted r store n payload) (from : r.ack ≤ n)
    (g : Cleared words r.top n cleared) (long : length cleared ≡ 32) where
  low : r.read_cursor ≤ n
  low = let u = a.unread in omega arith

  back : held_of (held_word (arrived n payload)) ≡ arrived n payload
  back = held_back (arrived n payload) (omega (arith, a.short)) (omega arith) (omega (arith, a.below))

  -- clearing the gap does not change what is seen
  same : (top : ℕ) → max r.top n ≡ top → seen_incoming r.read_cursor top cleared store ≡ seen_incoming r.read_cursor r.top words store
  same top e =
      let w : max r.top n ≤ r.read_cursor + ceiling = omega (arith, a.laid.width, a.near) in
      rw e at (g.seen r.read_cursor store w)

  -- n is below top, or top moves past it
  holds : (b : Bool) → ltb n r.top ≡ b
      → seen_incoming r.read_cursor (max r.top (n + 1)) (with_held cleared n (arrived n payload)) (put store (n % ceiling * 1_380) payload)
      ≡ insert (seen_incoming r.read_cursor r.top words store) n (record { payload = payload; offset = 0 })
  holds true q =
      let u = ltb-true n r.top q in
      let e : max r.top (n + 1) ≡ r.top = omega arith in
      rw (e, ← same r.top (omega arith))
      (hold_incoming r.read_cursor cleared long n (arrived n payload) refl (λ z. omega arith) back low store payload a.store a.short
      (add-one (length payload)) r.top u)
  holds false q =
      let u = ltb-false n r.top q in
      let e : max r.top (n + 1) ≡ suc n = omega arith in
      rw (e, ← same n (omega arith))
      (hold_next r.read_cursor cleared long n (arrived n payload) refl (λ z. omega arith) back low store payload a.store a.short
      (add-one (length payload)))

  -- its slot is unchanged past the payload, and so is every other slot
  stays : Stay incoming_slot (held_size (set cleared (n % 32) (held_word (arrived n payload)))) store (put store (n % 32 * 1_380) payload)
  stays i l = rw (← in_is) (at_slot (ℕ_discrete i (n % ceiling)))
    where
      words' : List ℕ
      words' = set cleared (n % ceiling) (held_word (arrived n payload))

      fits : length payload ≤ incoming_slot
      fits = omega (arith, a.short, in_is)

      room : n % ceiling * incoming_slot + length payload ≤ length store
      room = rw in_is (omega (arith, a.short, a.store))

      here : held_size words' (n % ceiling) ≡ length payload
      here =
          let i : n % ceiling < length cleared = omega arith in
          let e : length payload + 1 - 1 ≡ length payload = omega arith in
          ap (λ (p : Held). p.past - 1) (ap held_of (get_or-set_same cleared (n % ceiling) (held_word (arrived n payload)) 0 i) ∙ back) ∙ e

      at_slot : Dec (i ≡ n % ceiling)
          → beyond incoming_slot (put store (n % ceiling * incoming_slot) payload) i (held_size words' i) ≡ beyond incoming_slot store i (held_size words' i)
      at_slot (yes e) = rw (e, here) (beyond_same incoming_slot store payload (n % ceiling) fits room)
      at_slot (no ne) = beyond_other incoming_slot store payload (n % ceiling) fits room i (held_size words' i) ne

  pub inserts : {words' : List ℕ} {store' : Bytes} {top : ℕ} → words' ≡ set cleared (n % 32) (held_word (arrived n payload))
      → store' ≡ put store (n % 32 * 1_380) payload → top ≡ max r.top (n + 1)
      → Inserted r words store n payload (record { ack = r.ack; read_cursor = r.read_cursor; top = top }) words' store'
  inserts e f t =
      let x = a.laid in
      let w = a.near in
      record {
        seen = rw (e, f, t, holds (ltb n r.top) refl) refl;
        ack = refl;
        cursor = refl;
        laid = record { from = omega arith; width = omega arith };
        beside = rw (e, f) stays;
      }

-- moving ack

module _ (r : model.Receiver) where
  advance_stops : (k : ℕ) → get r.incoming r.ack ≡ none → advance k r ≡ r
  unfolding advance
  advance_stops zero e = refl
  advance_stops (suc k) e = rw e refl

  advance_goes : (k : ℕ) {h : model.Held} → get r.incoming r.ack ≡ some h → advance (suc k) r ≡ advance k (acked r)
  unfolding advance
  advance_goes k e = rw e refl

-- the receiver with ack at n, and how many steps the model takes from there
abbrev acked_to : Receiver → ℕ → Receiver
acked_to r n = record r { ack = n }

abbrev steps : Receiver → ℕ → ℕ
steps r n = (r.read_cursor + ceiling) - n

-- the numbers from ack to below n are held
pub record Advancing (r : Receiver) (words : List ℕ) (n : ℕ) : Type 0 where
  pub within : n ≤ max r.ack r.top
  pub seen : (store : Bytes) → advance (steps r n) (seen_receiver (acked_to r n) words store) ≡ advance (steps r r.ack) (seen_receiver r words store)

module _ {r : Receiver} {words : List ℕ} {n : ℕ} (g : Advancing r words n) where
  stops : ((store : Bytes) → get (seen_receiver r words store).incoming n ≡ none) → Advanced r words (acked_to r n)
  stops e =
      record {
        seen = λ store. sym (advance_stops (seen_receiver (acked_to r n) words store) (steps r n) (e store)) ∙ g.seen store;
        cursor = refl;
        top = refl;
      }

  pub advance_at_top : r.top ≤ n → {to : ℕ} → to ≡ max r.ack r.top → r.ack ≤ n → Advanced r words (acked_to r to)
  advance_at_top l e from =
      let w = g.within in
      let at : n ≡ max r.ack r.top = omega arith in
      rw (e, ← at) (stops (λ store. get_past r.read_cursor r.top words store n l))

  module _ (laid : LaidReceiver r) (unread : r.read_cursor ≤ n) (below : n < r.top) {p : Option Held} (is : p ≡ found_held words n) where
    entry : {here : Bool} → is_some p ≡ here → (store : Bytes)
        → get (seen_receiver r words store).incoming n ≡ cond here (some (held_payload store (n % 32) (held_in words (n % 32)))) none
    entry {here} e store = get_incoming r.read_cursor r.top words store n unread below ∙ rw held refl
      where
        held : is_held (held_in words (n % 32)) n ≡ here
        held = grind arith

    pub advance_at_gap : is_some p ≡ false → Advanced r words (acked_to r n)
    advance_at_gap e = stops (entry e)

    pub advance_turn : is_some p ≡ true → Advancing r words (n + 1)
    advance_turn e =
        let w = laid.width in
        let k = (r.read_cursor + ceiling) - suc n in
        let one : steps r n ≡ suc k = omega arith in
        record {
          within = omega arith;
          seen = λ store.
              rw add-one (sym (ap (λ (j : ℕ). advance j (seen_receiver (acked_to r n) words store)) one
              ∙ advance_goes (seen_receiver (acked_to r n) words store) k (entry e store)))
              ∙ g.seen store;
        }

-- a delivery

module _ {r : Receiver} {words : List ℕ} {store : Bytes} {n : ℕ} {payload : Bytes} where
  pub absorbs_old : {r' : Receiver} → Accepted r store n payload → n < r.ack → Advanced r words r' → Absorbed r words store n payload r' words store
  unfolding absorb
  absorbs_old a l g =
      let x = a.laid in
      let c = g.cursor in
      let t = g.top in
      record {
        seen = rw (lt-leb r.ack n l) (g.seen store);
        cursor = g.cursor;
        laid = record { from = omega arith; width = omega arith };
        beside = λ i l. refl;
      }

  pub absorbs_new : {s r' : Receiver} {words' : List ℕ} {store' : Bytes} → r.ack ≤ n → Inserted r words store n payload s words' store'
      → Advanced s words' r' → Absorbed r words store n payload r' words' store'
  unfolding absorb
  absorbs_new {s} {r'} {words'} {store'} l i g =
      let x = i.laid in
      let c = g.cursor in
      let t = g.top in
      record {
        seen = g.seen store' ∙ rw (le-leb r.ack n l, i.seen, i.ack, i.cursor) refl;
        cursor = g.cursor ∙ i.cursor;
        laid = record { from = omega arith; width = omega arith };
        beside = i.beside;
      }
