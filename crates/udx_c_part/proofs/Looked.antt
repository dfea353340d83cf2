-- Look's part: empty in place of refusal 1 as the code tests it (`looked_broken`), else what the search finds (`looked_found`); and the
-- bytes there are those that look shows (`looked_shown`), by induction over the entries' words.
use Prim.Native.Nat.{ℕ, ◌+◌, ◌%◌, ◌≤◌, ◌<◌}
use native.Mathlib.Omega.{arith}
use mathlib.Core.Path.{◌≡◌, refl, ap, sym, ◌∙◌}
use mathlib.Core.List.{List, [], ◌∷◌}
use mathlib.Core.Option as math
use Rattle.std.specs.Prelude.{Option, None, Some}
use Rattle.std.specs.Option.{option_map}
use mathlib.Core.Bool.{Bool, true, false, cond, ◌&&◌, ◌||◌, not, true≢false}
use lib.Dec.{ltb, eqb}
use borrow.Author.Tests.{eqb-true}
use lib.ListN.{length}
use Rattle.model.specs.Lists.{Bytes, on}
use Rattle.model.specs.Slots.{Slots, ceiling, get}
use Rattle.model.specs.Stream as model
use Rattle.model.specs.Rules.{rules}
use Rattle.model.specs.Driving.{look, first_there}
use Rattle.model.proofs.Gate.{and_left, and_right}
use Rattle.records_words.specs.declared.Entry.{Entry}
use Rattle.records_words.specs.declared.Entry.TheVariants as entry
use Rattle.records_words.specs.Words.{sent_in, entry_of}
use Rattle.records.specs.declared.Sender.{Sender}
use Rattle.records.specs.declared.Stream.{Stream}
use Rattle.records.specs.declared.Totals.{Totals}
use Rattle.records.specs.Cut.{cut, outgoing_slot}
use Rattle.records.specs.Open.{stores_test}
use Rattle.records.specs.Seen.{Lent, seen, seen_entries, seen_queue, entry_words, state_words, formed, formed_receiver}
use Rattle.records.proofs.Cut.{cut_length}
use Rattle.records.proofs.FormedQueue.{queue_says}
use Rattle.take_entry.specs.Transmit.{store_seen, is_there}
use Rattle.take_entry.proofs.TakeOne.{state-bytes, packet_bytes, get_there, there_low, there_high, there_stored}
use Rattle.take_next.specs.declared.Shown.{Shown}
use Rattle.take_next.specs.declared.Shown.TheVariants.{Stored}
use Rattle.take_next.specs.Take.{AllTransmitBounds, first_shown, Finds}
use Rattle.take_next.proofs.RulesTake.{rules_kept}
use Rattle.rules_lent.specs.Broken.{broken_records}
use Rattle.udx.specs.Agree.{laid_out}
use Rattle.udx.specs.Look.{shown_of}
use Rattle.udx.proofs.Unbroken.{unbroken, still_laid}
use Rattle.udx.proofs.RefusalLaws.{refusal_one}
use Rattle.udx_c_part.specs.declared.Part.{Part}
use Rattle.udx_c_part.specs.Place.{header_part, packet_part, first_part, shown_part, looked_part, PartOf, Shows, LookedShown}
use Rattle.udx_c_part.proofs.Parts.{part_of, header_within, packet_within}

-- the part of what the search finds is the first part
part_first : (outgoing : Slots model.Packet) (place : ℕ) (q : List model.Entry) → option_map shown_part (first_shown outgoing place q) ≡ first_part outgoing place q
part_first outgoing place [] = refl
part_first outgoing place (model.state b ∷ q) = refl
part_first outgoing place (model.packet n l ∷ q) = go (get outgoing n) (part_first outgoing place q)
  where
    go : (o : math.Option model.Packet) → option_map shown_part (first_shown outgoing place q) ≡ first_part outgoing place q
        → option_map shown_part (on o (first_shown outgoing place q) (λ p. Some (Stored n (length p.bytes))))
        ≡ on o (first_part outgoing place q) (λ p. Some (packet_part n (length p.bytes)))
    go math.none e = e
    go (math.some p) e = refl

module _ (s : Stream) (t : Totals) (l : Lent) (len : length l.queue ≡ 128) where
  -- refusal 1, a call's first test, does not apply to records that are laid out and obey the rules
  pub looked_broken : broken_records s t l ≡ true → None ≡ looked_part s t l
  unfolding looked_part
  looked_broken h = go (laid_out s l) refl (rules (seen s t l)) refl
    where
      rest : Option Part
      rest = cond (ltb 0 (seen s t l).queue.left) (first_part (seen s t l).sender.outgoing s.queue.gone (seen s t l).queue.entries) None

      go : (a : Bool) → laid_out s l ≡ a → (b : Bool) → rules (seen s t l) ≡ b → None ≡ cond (a && b) rest None
      go true laid true kept = let e = rw (h, laid, kept) at (refusal_one s t l _ math.none len refl) in let z : ◌≡◌ {A = ℕ} 0 1 = cc in absurd (omega arith)
      go true laid false kept = refl
      go false laid b kept = refl

  pub looked_found : broken_records s t l ≡ false → (x : Option Shown) → Finds s.queue s.sender l.sent l.queue x → option_map shown_part x ≡ looked_part s t l
  unfolding looked_part seen seen_queue
  looked_found h x f =
      let w = unbroken s t l len h in
      rw (still_laid s l w.stores w.receiver w.words, w.kept) (ap (option_map shown_part) (f l.outgoing l.headers) ∙ either (ltb 0 s.queue.left))
    where
      store : Slots model.Packet
      store = store_seen s.sender l.sent l.outgoing

      q : List model.Entry
      q = (seen_queue s.queue l.queue l.headers).entries

      either : (b : Bool) → option_map shown_part (cond b (first_shown store s.queue.gone q) None) ≡ cond b (first_part store s.queue.gone q) None
      either true = part_first store s.queue.gone q
      either false = refl

-- the bytes at the part

module _ (s : Sender) (sent : List ℕ) (outgoing headers : Bytes) (stored : AllTransmitBounds s sent 7) (slots : length outgoing ≡ 44_800) (places : length headers ≡ 1_280)
    (place : ℕ) where
  abbrev PartShown : List ℕ → Type 0
  PartShown ws =
      let q = seen_entries headers place ws in
      Shows (first_there (store_seen s sent outgoing) q) outgoing headers (first_part (store_seen s sent outgoing) place q)

  packet_shown : (n : ℕ) → is_there s sent n ≡ true → let p = sent_in sent (n % ceiling) in
      PartOf (cut outgoing_slot outgoing (n % ceiling) p.length) outgoing headers (packet_part n p.length)
  packet_shown n z =
      let k = (sent_in sent (n % ceiling)).length in
      let short = (stored n (there_low s sent outgoing n z) (there_high s sent outgoing n z) (there_stored s sent outgoing n z)).short in
      part_of outgoing headers (packet_part n k) _ (packet_bytes outgoing (n % 32) k slots (omega arith) short) (packet_within outgoing headers n k short slots)

  part_shown : (ws : List ℕ) → place + state_words ws ≤ 64 → PartShown ws
  part_shown [] h = refl
  part_shown (w ∷ ws) h = go (entry_of w) refl (part_shown ws)
    where
      go : (x : Entry) → entry_of w ≡ x → (place + state_words ws ≤ 64 → PartShown ws) → PartShown (w ∷ ws)
      go entry.State e rest =
          let below : place < 64 = let k = rw e at h in omega arith in
          rw e (part_of outgoing headers (header_part place) _ (state-bytes headers place places below) (header_within outgoing headers place below places))
      go (entry.Packet x) e rest = rw e (there (is_there s sent x.number) refl (rest (rw e at h)))
        where
          n : ℕ
          n = x.number

          there : (b : Bool) → is_there s sent n ≡ b → PartShown ws
              → let q = model.packet n x.length ∷ seen_entries headers place ws in
              Shows (first_there (store_seen s sent outgoing) q) outgoing headers (first_part (store_seen s sent outgoing) place q)
          there true z r =
              let k = (sent_in sent (n % ceiling)).length in
              rw (get_there s sent outgoing n, z, cut_length outgoing_slot outgoing (n % ceiling) k) (packet_shown n z)
          there false z r = rw (get_there s sent outgoing n, z) r

-- shown if refusal 1 does not apply and entries are left to take, else nothing
shown_cases : (laid kept left : Bool) (shown outgoing headers : Bytes) (p : Option Part) → (laid ≡ true → kept ≡ true → Shows shown outgoing headers p)
    → Shows (cond laid (cond (kept && left) shown []) []) outgoing headers (cond (laid && kept) (cond left p None) None)
shown_cases true true true shown outgoing headers p h = h refl refl
shown_cases true true false shown outgoing headers p h = refl
shown_cases true false left shown outgoing headers p h = refl
shown_cases false kept left shown outgoing headers p h = refl

-- the lengths of the two stores
fits : (a b c : Bool) → not (not a || (not b || not c)) ≡ true → (a ≡ true) × (c ≡ true)
fits true true true h = (refl, refl)
fits true true false h = (refl, h)
fits true false c h = absurd (true≢false (sym h))
fits false b c h = absurd (true≢false (sym h))

pub looked_shown : LookedShown
unfolding looked_part shown_of look laid_out formed seen seen_queue
looked_shown s t l =
    let e = seen s t l in
    shown_cases (laid_out s l) (rules e) (ltb 0 s.queue.left) (first_there e.sender.outgoing e.queue.entries) l.outgoing l.headers
    (first_part e.sender.outgoing s.queue.gone e.queue.entries)
    (λ laid kept.
    let test = stores_test l.outgoing l.incoming l.headers in
    let (a, c) = fits (eqb (length l.outgoing) 44_800) (eqb (length l.incoming) 44_160) (eqb (length l.headers) 1_280) (and_left (not test) _ laid) in
    let f = queue_says s.queue l.queue (and_right (formed_receiver s.receiver) _ (and_right (not test) _ laid)) in
    let k = rules_kept s t l kept f (eqb-true _ _ a) (eqb-true _ _ c) in
    let p = f.places in
    let m = f.states in
    part_shown s.sender l.sent l.outgoing l.headers k.stored k.slots k.places s.queue.gone (entry_words s.queue l.queue) (omega arith))
