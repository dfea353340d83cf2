-- A read can be made on records that are an end of the model. One that finds nothing changes nothing. One that puts the front of a packet
-- changes only that packet's word, since it may be refused and must then keep every number. One that finishes a packet is ready, and the
-- end after it is laid out anew. Only the front of a packet depends on how many words there are.
use Prim.Native.Nat.{ℕ, suc, ◌+◌, ◌-◌, ◌%◌, ◌<◌}
use native.Mathlib.Omega.{arith}
use mathlib.Core.Path.{◌≡◌, refl, sym, ap, ◌∙◌, subst}
use mathlib.Core.List.{List}
use mathlib.Core.Option.{Option, none, some}
use mathlib.Core.Bool.{Bool, true, false, cond}
use lib.Dec.{ltb}
use lib.ListN.{length, take, length-drop, length-set}
use borrow.Author.Tests.{ltb-true, ltb-false}
use Rattle.std.specs.Prelude as rust
use Rattle.std.specs.Prelude.{Ok, Err, None, Some}
use Rattle.error.specs.Answers.{error_or}
use Rattle.error.specs.declared.UdxError.{UdxError}
use Rattle.error.specs.declared.UdxError.TheVariants as error
use Rattle.error.specs.declared.Refusal.{Refusal}
use Rattle.error.specs.declared.Refusal.TheVariants.{BrokenRecords}
use Rattle.error.specs.declared.Outcome.TheVariants.{Ready, Waiting}
use Rattle.model.specs.Lists.{Bytes}
use Rattle.model.specs.Slots.{ceiling, get, insert}
use Rattle.model.specs.Stream as model
use Rattle.model.specs.Stream.{with_receiver}
use Rattle.model.specs.Answers.{Answer}
use Rattle.model.specs.Receiving.{rest, Got, got_none, got_front, read_loop, read_next, read_outcome, read_answer, read_refusal, read}
use Rattle.model.specs.Calls.{read_call}
use Rattle.model.proofs.Gate.{gate_open}
use Rattle.model.proofs.Slots.{no_some, some_inj}
use Rattle.model.proofs.SlotSums.{slots_look}
use Rattle.model_rules.proofs.Invariant.{HeldFacts, Invariant, invariant_rules}
use Rattle.model_rules.proofs.InvariantCalls.{call_keeps}
use Rattle.records_words.specs.declared.Held.{Held}
use Rattle.records_words.specs.Words.{is_held, held_of, held_word}
use Rattle.records_words.proofs.WordLaws.{held_back, held_full}
use Rattle.records.specs.Put.{put}
use Rattle.records.specs.Cut.{incoming_slot}
use Rattle.records.specs.Seen.{Lent, seen, seen_incoming, held_payload}
use Rattle.records.specs.Open.{stores_test}
use Rattle.records.proofs.Cut.{cut_length}
use Rattle.records.proofs.SeenIncoming.{held_in, with_held, get_incoming, get_past, offset_incoming}
use Rattle.udx_steps.specs.declared.step.Step.{Step}
use Rattle.udx.specs.Agree.{laid_out, on_records, Agrees}
use Rattle.udx.specs.Read.{read_lent, Gives}
use Rattle.udx.proofs.RefusalLaws.{none_not_zero}
use Rattle.promise.specs.Runs.{Records, seen_of}
use Rattle.promise.specs.Possible.{WordLengths}
use Rattle.promise.proofs.LaidOut.{laid, LaidAs, laid_as}
use Rattle.promise.proofs.Runs.{on_laid}

-- the first packet of a read

loop_none : (k room : ℕ) (r : model.Receiver) → get r.incoming r.read_cursor ≡ none → read_loop (suc k) room r ≡ got_none r
unfolding read_loop
loop_none k room r e = rw e refl

loop_front : (k room : ℕ) (r : model.Receiver) (h : model.Held) → get r.incoming r.read_cursor ≡ some h → ltb room (length (rest h)) ≡ true
    → read_loop (suc k) room r ≡ got_front room h r
unfolding read_loop
loop_front k room r h e l = rw (e, l) refl

pub loop_whole : (k room : ℕ) (r : model.Receiver) (h : model.Held) → get r.incoming r.read_cursor ≡ some h → ltb room (length (rest h)) ≡ false
    → (read_loop (suc k) room r).ready ≡ true
unfolding read_loop
loop_whole k room r h e l = rw (e, l) refl

-- no refusal other than the stream's error
other : (x : rust.Option UdxError) → error_or x Waiting ≡ Err BrokenRecords → ⊥
other None q = let z : ◌≡◌ {A = ℕ} 0 1 = cc in omega arith
other (Some error.ConnectionReset) q = let z : ◌≡◌ {A = ℕ} 0 1 = cc in omega arith
other (Some error.UnexpectedEof) q = let z : ◌≡◌ {A = ℕ} 0 1 = cc in omega arith
other (Some error.TimedOut) q = let z : ◌≡◌ {A = ℕ} 0 1 = cc in omega arith

-- a call that is ready is not refused
pub ready_acts : (why : Refusal) → (Ok Ready) ≡ Err why → ⊥
ready_acts why z = let y : ◌≡◌ {A = ℕ} 0 1 = cc in omega arith

held_says : (b : Bool) (v h : model.Held) → cond b (some v) none ≡ some h → (b ≡ true) × (v ≡ h)
held_says true v h e = (refl, some_inj refl e)
held_says false v h e = absurd (no_some refl e)

-- a step, what is lent after it and the buffer after it
pub record Given (x : Records) (buf : Bytes) : Type 0 where
  pub step : Step
  pub after : Lent
  pub buf' : Bytes
  pub gives : Gives x.stream x.totals x.lent buf step after buf'
  pub sized : WordLengths x.lent → WordLengths after

module _ (x : Records) (out : laid_out x.stream x.lent ≡ true) (stores : stores_test x.lent.outgoing x.lent.incoming x.lent.headers ≡ false)
    (keeps : Invariant (seen_of x)) (buf : Bytes) where
  pub acts : read (length buf) (seen_of x) ≡ read_answer (read_next (length buf) (seen_of x).receiver) (seen_of x)
  unfolding read read_refusal
  acts = gate_open (read_refusal (seen_of x)) (seen_of x) _ (rw (invariant_rules (seen_of x) keeps) refl)

  -- agreeing with what the read got is agreeing with the model's answer
  agrees_with : (g : Got) (r : Step) (after : Lent) → read_next (length buf) (seen_of x).receiver ≡ g → Agrees (read_answer g (seen_of x)) r after
      → Agrees (on_records (read (length buf)) x.stream x.totals x.lent) r after
  agrees_with g r after e h = subst (λ (a : Answer). Agrees a r after) (sym (on_laid x out (read (length buf)) ∙ acts ∙ ap (λ (g : Got). read_answer g (seen_of x)) e)) h

  abbrev put_all : Bytes
  put_all = put buf 0 (on_records (read (length buf)) x.stream x.totals x.lent).bytes

  -- nothing to read
  pub finds_none : get (seen_of x).receiver.incoming (seen_of x).receiver.read_cursor ≡ none → Given x buf
  unfolding read_next
  finds_none e =
      let r : Step = record { stream = x.stream; totals = x.totals; outcome = read_outcome false (seen_of x); count = 0; segment = None } in
      record {
        step = r;
        after = x.lent;
        buf' = put_all;
        gives =
            record {
              agrees = agrees_with (got_none (seen_of x).receiver) r x.lent (loop_none 31 (length buf) (seen_of x).receiver e) (record { outcome = refl; count = refl; segment = refl; not_zero = none_not_zero; end = refl });
              stays = λ z. z;
              changes_nothing = λ z. record { stream = refl; totals = refl; lent = refl };
              same_numbers = λ why z. (refl, refl);
              bytes = refl;
            };
        sized = λ z. z;
      }

  -- a packet is finished
  pub finishes : (read_next (length buf) (seen_of x).receiver).ready ≡ true → Given x buf
  finishes e =
      let a = read (length buf) (seen_of x) in
      let next : Invariant a.end = call_keeps (read_call (length buf)) (seen_of x) keeps in
      let y = laid a.end next x.lent stores in
      let new : LaidAs a.end x.lent y = laid_as a.end next x.lent stores in
      let ready : a.outcome ≡ (Ok Ready) = ap (λ (a : Answer). a.outcome) acts ∙ ap (λ (b : Bool). read_outcome b (seen_of x)) e in
      let none_is : a.segment ≡ none = ap (λ (a : Answer). a.segment) acts in
      let r : Step = record { stream = y.stream; totals = y.totals; outcome = Ok Ready; count = a.count; segment = None } in
      record {
        step = r;
        after = y.lent;
        buf' = put_all;
        gives =
            record {
              agrees =
                  subst (λ (z : Answer). Agrees z r y.lent) (sym (on_laid x out (read (length buf))))
                  (record { outcome = sym ready; count = refl; segment = sym none_is; not_zero = none_not_zero; end = new.seen });
              stays = λ z. new.out;
              changes_nothing = λ z. absurd (ready_acts BrokenRecords z);
              same_numbers = λ why z. absurd (ready_acts why z);
              bytes = refl;
            };
        sized = λ z. new.sized;
      }

  -- the front of a packet
  module _ (lengths : WordLengths x.lent) (h : model.Held) (there : get (seen_of x).receiver.incoming (seen_of x).receiver.read_cursor ≡ some h)
      (l : ltb (length buf) (length (rest h)) ≡ true) where
    abbrev cursor : ℕ
    cursor = x.stream.receiver.read_cursor

    abbrev top : ℕ
    top = x.stream.receiver.top

    abbrev slot : ℕ
    slot = cursor % ceiling

    -- its word
    abbrev word : Held
    word = held_in x.lent.held slot

    found : get (seen_incoming cursor top x.lent.held x.lent.incoming) cursor ≡ some h
    unfolding seen
    found = there

    below_top : cursor < top
    below_top = go (ltb cursor top) refl
      where
        go : (b : Bool) → ltb cursor top ≡ b → cursor < top
        go true e = ltb-true cursor top e
        go false e = absurd (no_some (get_past cursor top x.lent.held x.lent.incoming cursor (ltb-false cursor top e)) found)

    says : (is_held word cursor ≡ true) × (held_payload x.lent.incoming slot word ≡ h)
    says =
        held_says (is_held word cursor) (held_payload x.lent.incoming slot word) h
        (sym (get_incoming cursor top x.lent.held x.lent.incoming cursor (omega arith) below_top) ∙ found)

    kept : HeldFacts cursor cursor h
    unfolding seen
    kept = slots_look (HeldFacts cursor) (seen_incoming cursor top x.lent.held x.lent.incoming) cursor h keeps.facts.receiver.held found

    moved : Held
    moved = record { number = cursor; past = word.past; offset = h.offset + length buf }

    moved_back : held_of (held_word moved) ≡ moved
    unfolding moved
    moved_back =
        let payload : length h.payload ≡ word.past - 1 =
        ap (λ (v : model.Held). length v.payload) (sym says.1) ∙ cut_length incoming_slot x.lent.incoming slot (word.past - 1) in
        let short = kept.most in
        let fits = kept.fits in
        let room : length buf < length h.payload - h.offset = rw length-drop at (ltb-true (length buf) (length (rest h)) l) in
        held_back moved (omega arith) (omega arith) (omega arith)

    held' : List ℕ
    held' = with_held x.lent.held cursor moved

    incoming_moved : seen_incoming cursor top held' x.lent.incoming
        ≡ insert (seen_incoming cursor top x.lent.held x.lent.incoming) cursor (record { payload = h.payload; offset = h.offset + length buf })
    unfolding held' moved
    incoming_moved =
        offset_incoming cursor x.lent.held lengths.held cursor moved refl (held_full word cursor says.0) moved_back (omega arith) top x.lent.incoming below_top refl
        ∙ ap (λ (v : model.Held). insert (seen_incoming cursor top x.lent.held x.lent.incoming) cursor (record { payload = v.payload; offset = h.offset + length buf })) says.1

    held_sized : length held' ≡ 32
    unfolding held'
    held_sized = length-set x.lent.held slot (held_word moved) ∙ lengths.held

    puts_front : Given x buf
    unfolding read_next seen laid_out
    puts_front =
        let r : Step =
        record { stream = x.stream; totals = x.totals; outcome = read_outcome false (seen_of x); count = length (take (length buf) (rest h)); segment = None } in
        let after = read_lent held' x.lent in
        record {
          step = r;
          after = after;
          buf' = put_all;
          gives =
              record {
                agrees =
                    agrees_with (got_front (length buf) h (seen_of x).receiver) r after (loop_front 31 (length buf) (seen_of x).receiver h there l)
                    (record {
                      outcome = refl;
                      count = refl;
                      segment = refl;
                      not_zero = none_not_zero;
                      end = ap (λ z. with_receiver (record { ack = x.stream.receiver.ack; read_cursor = cursor; incoming = z }) (seen_of x)) incoming_moved;
                    });
                stays = λ z. z;
                changes_nothing = λ z. absurd (other x.stream.ending.error z);
                same_numbers = λ why z. (refl, refl);
                bytes = refl;
              };
          sized = λ z. record { sent = z.sent; held = held_sized; queue = z.queue };
        }

  pub give : WordLengths x.lent → Given x buf
  unfolding read_next
  give lengths = go (get (seen_of x).receiver.incoming (seen_of x).receiver.read_cursor) refl
    where
      go : (o : Option model.Held) → get (seen_of x).receiver.incoming (seen_of x).receiver.read_cursor ≡ o → Given x buf
      go none e = finds_none e
      go (some h) e = by (ltb (length buf) (length (rest h))) refl
        where
          by : (b : Bool) → ltb (length buf) (length (rest h)) ≡ b → Given x buf
          by true l = puts_front lengths h e l
          by false l = finishes (loop_whole 31 (length buf) (seen_of x).receiver h e l)
