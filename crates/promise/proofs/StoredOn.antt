-- A packet seen under its number is in its slot of the lent store (`stored_on`, `held_on`): the slot's word is that of packet n, and the
-- store has the length that open checked, so the bytes seen are the store's own.
use Prim.Native.Nat.{ℕ, ◌+◌, ◌-◌, ◌*◌, ◌%◌, ◌≤◌, ◌<◌}
use native.Mathlib.Omega.{arith}
use mathlib.Core.Path.{◌≡◌, refl, sym, ap, ◌∙◌, subst}
use mathlib.Core.List.{List}
use mathlib.Core.Option.{none, some}
use mathlib.Core.Bool.{Bool, true, false, cond, ◌||◌, not, true≢false}
use lib.Dec.{eqb, ltb}
use lib.ListN.{length, take, drop, length-drop}
use borrow.Author.Tests.{eqb-true, ltb-true, ltb-false}
use Rattle.model.specs.Lists.{Bytes}
use Rattle.model.specs.Slots.{ceiling, get}
use Rattle.model.specs.Stream.{Packet, Held}
use Rattle.model_ends.specs.TwoEnds as model
use Rattle.model.proofs.Gate.{and_left}
use Rattle.model_rules.proofs.Invariant.{StoredIn, HeldFacts}
use Rattle.model.proofs.Slots.{no_some, some_inj}
use Rattle.model.proofs.SlotSums.{slots_look}
use Rattle.records_words.specs.Words.{sent_in, is_stored, is_held}
use Rattle.records.specs.Cut.{cut, outgoing_slot, incoming_slot}
use Rattle.records.specs.Seen.{packet_of, held_payload, seen_incoming, seen}
use Rattle.records.specs.Open.{stores_test}
use Rattle.records.proofs.Cut.{out_is, in_is, cut_length, cut_whole, cut_drop}
use Rattle.records.proofs.SeenOutgoing.{stored_at, get_outgoing}
use Rattle.records.proofs.SeenIncoming.{held_in, held_at, get_incoming, get_past}
use Rattle.udx.specs.Agree.{laid_out}
use Rattle.promise.specs.Runs.{Records, seen_of}
use Rattle.promise.specs.TwoEndsOnRecords.{Side, StoredBy, HeldBy}
use Rattle.promise.proofs.Line.{seen_side, LaidSide}

first_fits : (a b : Bool) → not (not a || b) ≡ true → a ≡ true
first_fits true b h = refl
first_fits false b h = h

outgoing_whole : (x : Records) → laid_out x.stream x.lent ≡ true → length x.lent.outgoing ≡ 44_800
unfolding laid_out
outgoing_whole x h =
    eqb-true _ _ (first_fits (eqb (length x.lent.outgoing) 44_800) _ (and_left (not (stores_test x.lent.outgoing x.lent.incoming x.lent.headers)) _ h))

-- a stored packet is the one that its slot's word describes
packet_is : (words : List ℕ) (store : Bytes) (n : ℕ) (p : Packet) → stored_at words store n ≡ some p → p ≡ packet_of store (n % ceiling) (sent_in words (n % ceiling))
packet_is words store n p e = go (is_stored (sent_in words (n % ceiling)) n) e
  where
    go : (b : Bool) → cond b (some (packet_of store (n % ceiling) (sent_in words (n % ceiling)))) none ≡ some p → p ≡ packet_of store (n % ceiling) (sent_in words (n % ceiling))
    go true e = some_inj e refl
    go false e = absurd (no_some refl e)

in_store : (i k whole : ℕ) → i < 32 → k ≤ 1_400 → whole ≡ 44_800 → i * 1_400 + k ≤ whole
in_store i k whole a b c = omega arith

slot_low : (n : ℕ) → n % 32 < 32
slot_low n = omega arith

cut_lies : (store : Bytes) (i k : ℕ) → i < 32 → k ≤ 1_400 → length store ≡ 44_800
    → take (k - 20) (drop (i * 1_400 + 20) store) ≡ drop 20 (cut outgoing_slot store i k)
cut_lies store i k a b c =
    sym (cut_drop outgoing_slot store i k 20 (rw out_is (in_store i k (length store) a b c)) (rw out_is b)
    ∙ ap (λ (z : ℕ). take (k - 20) (drop (i * z + 20) store)) out_is)

pub stored_on : (x : Side) → LaidSide x → (n : ℕ) (piece : Bytes) → model.StoredBy (seen_side x) n piece → StoredBy x n piece
unfolding seen
stored_on x laid n piece (p, e, q) =
    let s = x.records.stream.sender in
    let l = x.records.lent in
    let word = sent_in l.sent (n % ceiling) in
    let f = slots_look (StoredIn (seen_of x.records)) (seen_of x.records).sender.outgoing n p laid.keeps.facts.stored e in
    let bytes : p.bytes ≡ cut outgoing_slot l.outgoing (n % ceiling) word.length =
    ap (λ (z : Packet). z.bytes) (packet_is l.sent l.outgoing n p (sym (get_outgoing s.remote_acked s.seq l.sent l.outgoing n f.from f.below) ∙ e)) in
    let size : length p.bytes ≡ word.length = ap length bytes ∙ cut_length outgoing_slot l.outgoing (n % ceiling) word.length in
    let most : word.length ≤ 1_400 = subst (λ (k : ℕ). k ≤ 1_400) size f.most in
    let whole : length l.outgoing ≡ 44_800 = outgoing_whole x.records laid.laid in
    let is : drop 20 (cut outgoing_slot l.outgoing (n % ceiling) word.length) ≡ piece = sym (ap (drop 20) bytes) ∙ q in
    let count : length piece ≡ word.length - 20 = sym (ap length q) ∙ length-drop 20 p.bytes ∙ ap (λ (k : ℕ). k - 20) size in
    record {
      packet = p;
      stored = e;
      payload = q;
      lies =
          ap (λ (k : ℕ). take k (drop (n % 32 * 1_400 + 20) l.outgoing)) count
          ∙ cut_lies l.outgoing (n % ceiling) word.length (slot_low n) most whole ∙ is;
    }

-- the same for a held packet

second_fits : (a b c : Bool) → not (not a || (not b || c)) ≡ true → b ≡ true
second_fits true true c h = refl
second_fits true false c h = h
second_fits false b c h = absurd (true≢false (sym h))

incoming_whole : (x : Records) → laid_out x.stream x.lent ≡ true → length x.lent.incoming ≡ 44_160
unfolding laid_out
incoming_whole x h =
    eqb-true _ _
    (second_fits (eqb (length x.lent.outgoing) 44_800) (eqb (length x.lent.incoming) 44_160) _
    (and_left (not (stores_test x.lent.outgoing x.lent.incoming x.lent.headers)) _ h))

held_is : (words : List ℕ) (store : Bytes) (n : ℕ) (h : Held) → held_at words store n ≡ some h → h ≡ held_payload store (n % ceiling) (held_in words (n % ceiling))
held_is words store n h e = go (is_held (held_in words (n % ceiling)) n) e
  where
    go : (b : Bool) → cond b (some (held_payload store (n % ceiling) (held_in words (n % ceiling)))) none ≡ some h → h ≡ held_payload store (n % ceiling) (held_in words (n % ceiling))
    go true e = some_inj e refl
    go false e = absurd (no_some refl e)

-- a number at or past top is not held
below_top : (read_cursor top : ℕ) (words : List ℕ) (store : Bytes) (n : ℕ) (h : Held) → get (seen_incoming read_cursor top words store) n ≡ some h → n < top
below_top read_cursor top words store n h e = go (ltb n top) refl
  where
    go : (b : Bool) → ltb n top ≡ b → n < top
    go true q = ltb-true n top q
    go false q = absurd (no_some (get_past read_cursor top words store n (ltb-false n top q)) e)

held_lies : (store : Bytes) (i k : ℕ) → i < 32 → k ≤ 1_380 → length store ≡ 44_160 → take k (drop (i * 1_380) store) ≡ cut incoming_slot store i k
held_lies store i k a b c =
    let room : i * 1_380 + k ≤ length store = omega arith in
    sym (cut_whole incoming_slot store i k (rw in_is room) (rw in_is b) ∙ ap (λ (z : ℕ). take k (drop (i * z) store)) in_is)

pub held_on : (x : Side) → LaidSide x → (n : ℕ) (piece : Bytes) (h : Held) → get (seen_of x.records).receiver.incoming n ≡ some h → h.payload ≡ piece → HeldBy x n piece
unfolding seen
held_on x laid n piece h e q =
    let r = x.records.stream.receiver in
    let l = x.records.lent in
    let word = held_in l.held (n % ceiling) in
    let f = slots_look (HeldFacts r.read_cursor) (seen_of x.records).receiver.incoming n h laid.keeps.facts.receiver.held e in
    let top : n < r.top = below_top r.read_cursor r.top l.held l.incoming n h e in
    let bytes : h.payload ≡ cut incoming_slot l.incoming (n % ceiling) (word.past - 1) =
    ap (λ (z : Held). z.payload) (held_is l.held l.incoming n h (sym (get_incoming r.read_cursor r.top l.held l.incoming n f.from top) ∙ e)) in
    let size : length h.payload ≡ word.past - 1 = ap length bytes ∙ cut_length incoming_slot l.incoming (n % ceiling) (word.past - 1) in
    let most : word.past - 1 ≤ 1_380 = subst (λ (k : ℕ). k ≤ 1_380) size f.most in
    record {
      packet = h;
      held = e;
      payload = q;
      lies =
          ap (λ (k : ℕ). take k (drop (n % 32 * 1_380) l.incoming)) (sym (ap length q) ∙ size)
          ∙ held_lies l.incoming (n % ceiling) (word.past - 1) (slot_low n) most (incoming_whole x.records laid.laid) ∙ sym bytes ∙ q;
    }
