-- Look on the records shows what the model's look shows.
use mathlib.Core.Path.{◌≡◌, refl, sym}
use mathlib.Core.List.{[]}
use mathlib.Core.Bool.{Bool, true, false, cond, ◌&&◌, ◌||◌, not, true≢false}
use lib.Dec.{ltb}
use lib.ListN.{length}
use Rattle.model.specs.Lists.{Bytes}
use Rattle.model.specs.Rules.{rules}
use Rattle.model.specs.Driving.{look, first_there}
use Rattle.records.specs.declared.Stream.{Stream}
use Rattle.records.specs.declared.Totals.{Totals}
use Rattle.records.specs.Seen.{Lent, seen, formed}
use Rattle.records.specs.Open.{stores_test}
use Rattle.rules_stream.proofs.Seen.{ok_seen}
use Rattle.take_next.specs.Take.{TakeRules}
use Rattle.take_next.proofs.RulesTake.{rules_kept}
use Rattle.udx.specs.Agree.{laid_out}
use Rattle.udx.specs.Look.{shown_of}
use Rattle.rules_lent.specs.Broken.{broken_records}
use Rattle.udx.proofs.Unbroken.{unbroken, still_laid}

nothing : (differ laid kept left : Bool) (shown : Bytes) → (differ || not (laid && kept)) ≡ true → [] ≡ cond (not differ && laid) (cond (kept && left) shown []) []
nothing true laid kept left shown h = refl
nothing false false kept left shown h = refl
nothing false true false left shown h = refl
nothing false true true left shown h = absurd (true≢false (sym h))

module _ (s : Stream) (t : Totals) (l : Lent) (len : length l.queue ≡ 128) where
  by_refusal : (b : Bool) → broken_records s t l ≡ b → shown_of s t l ≡ cond b [] (look (seen s t l))
  unfolding broken_records shown_of laid_out look
  by_refusal true h =
      let e = seen s t l in
      sym
      (nothing (stores_test l.outgoing l.incoming l.headers) (formed s l.queue) (rules e) (ltb 0 e.queue.left) (first_there e.sender.outgoing e.queue.entries)
      (rw (ok_seen s t l len) at h))
  by_refusal false h = let w = unbroken s t l len h in rw (still_laid s l w.stores w.receiver w.words) refl

  -- nothing in place of refusal 1, else what the model shows
  pub look_is : shown_of s t l ≡ cond (broken_records s t l) [] (look (seen s t l))
  look_is = by_refusal (broken_records s t l) refl

  -- What `look_next` needs. The first part is there for the check to find the rest by.
  pub look_room : broken_records s t l ≡ false
      → (broken_records s t l ≡ false) × TakeRules s.queue s.sender l.sent l.queue l.outgoing l.headers × (rules (seen s t l) ≡ true)
  look_room h = let w = unbroken s t l len h in (h, rules_kept s t l w.kept w.queue w.outgoing w.headers, w.kept)
