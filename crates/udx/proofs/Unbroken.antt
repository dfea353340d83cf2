-- If refusal 1 does not apply, the stores have the right lengths, the records are laid out, and what is seen of them obeys the rules.
use native.Mathlib.Omega.{arith}
use mathlib.Core.Path.{◌≡◌, refl, sym}
use mathlib.Core.Bool.{Bool, true, false, ◌||◌, not}
use lib.Dec.{eqb}
use lib.ListN.{length}
use borrow.Author.Tests.{eqb-true}
use Rattle.model.specs.Rules.{rules, states}
use Rattle.model.proofs.Gate.{and_left, and_right}
use Rattle.records.specs.declared.Stream.{Stream}
use Rattle.records.specs.declared.Totals.{Totals}
use Rattle.records.specs.Seen.{Lent, seen, seen_queue, entry_words, formed, formed_receiver, formed_queue, QueueFormed}
use Rattle.records.specs.Open.{stores_test}
use Rattle.records.proofs.SeenQueue.{entries_states}
use Rattle.records.proofs.FormedQueue.{queue_says}
use Rattle.rules_stream.specs.Ok.{ok_stream}
use Rattle.rules_stream.proofs.Seen.{ok_says}
use Rattle.udx.specs.Agree.{laid_out}
use Rattle.rules_lent.specs.Broken.{broken_records}

-- the parts of `laid_out`
pub still_laid : (s : Stream) (l : Lent) → stores_test l.outgoing l.incoming l.headers ≡ false → formed_receiver s.receiver ≡ true
    → formed_queue s.queue l.queue ≡ true → laid_out s l ≡ true
unfolding laid_out formed
still_laid s l stores receiver words = rw (stores, receiver, words)

pub record Whole (s : Stream) (t : Totals) (l : Lent) : Type 0 where
  pub stores : stores_test l.outgoing l.incoming l.headers ≡ false
  pub outgoing : length l.outgoing ≡ 44_800
  pub incoming : length l.incoming ≡ 44_160
  pub headers : length l.headers ≡ 1_280
  pub receiver : formed_receiver s.receiver ≡ true
  pub words : formed_queue s.queue l.queue ≡ true
  pub queue : QueueFormed s.queue l.queue
  pub kept : rules (seen s t l) ≡ true
  pub ok : ok_stream s t l.sent l.held l.queue ≡ true

neither : (a b : Bool) → (a || not b) ≡ false → (a ≡ false) × (b ≡ true)
neither false true h = (refl, refl)
neither false false h = (refl, sym h)
neither true b h = (h, clash b h)
  where
    clash : (b : Bool) → true ≡ false → b ≡ true
    clash true z = refl
    clash false z = sym z

lengths : (a b c : Bool) → (not a || (not b || not c)) ≡ false → (a ≡ true) × (b ≡ true) × (c ≡ true)
lengths true true true h = (refl, refl, refl)
lengths true true false h = (refl, refl, sym h)
lengths true false true h = (refl, sym h, refl)
lengths true false false h = (refl, sym h, sym h)
lengths false true true h = (sym h, refl, refl)
lengths false true false h = (sym h, refl, sym h)
lengths false false true h = (sym h, sym h, refl)
lengths false false false h = (sym h, sym h, sym h)

pub unbroken : (s : Stream) (t : Totals) (l : Lent) → length l.queue ≡ 128 → broken_records s t l ≡ false → Whole s t l
unfolding broken_records formed
unbroken s t l len h =
    let (stores, ok) = neither (stores_test l.outgoing l.incoming l.headers) (ok_stream s t l.sent l.held l.queue) h in
    let (a, b, c) = lengths (eqb (length l.outgoing) 44_800) (eqb (length l.incoming) 44_160) (eqb (length l.headers) 1_280) stores in
    let (laid, kept) = ok_says s t l len ok in
    let words = and_right (formed_receiver s.receiver) _ laid in
    record {
      stores = stores;
      outgoing = eqb-true _ _ a;
      incoming = eqb-true _ _ b;
      headers = eqb-true _ _ c;
      receiver = and_left (formed_receiver s.receiver) _ laid;
      words = words;
      queue = queue_says s.queue l.queue words;
      kept = kept;
      ok = ok;
    }

-- with nothing left to take no state packet is gone: the places used are the state packets queued
pub places_used : {s : Stream} {t : Totals} {l : Lent} → Whole s t l → s.queue.left ≡ 0
    → s.queue.states ≡ states (seen_queue s.queue l.queue l.headers).entries
unfolding seen_queue
places_used {s} {t} {l} w rest =
    let p = w.queue.places in
    let g = w.queue.gone rest in
    let k = entries_states l.headers s.queue.gone (entry_words s.queue l.queue) in
    omega arith
