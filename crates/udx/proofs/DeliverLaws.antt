-- A delivery on the records answers as the model's. Its verdict is the model's list cut in three: the refusals of a drive, a bad header,
-- and those that need the header. If none applies, it is `handle_incoming` on what is seen.
use Prim.Native.Nat.{ℕ, ◌+◌, ◌-◌, ◌^◌, ◌≤◌}
use native.Mathlib.Omega.{arith}
use mathlib.Core.Path.{◌≡◌, refl, sym, ap, ap₂, ◌∙◌, subst}
use mathlib.Core.List.{List}
use mathlib.Core.Option.{Option, none, some}
use mathlib.Core.Bool.{Bool, true, false, cond, ◌&&◌, ◌||◌, not}
use lib.Dec.{ltb, leb, eqb}
use lib.ListN.{length, take, drop, length-drop}
use lib.Seq.{take_all}
use borrow.Author.Tests.{ltb-false, leb-false}
use Rattle.std.specs.Prelude.{⊤, Result, Ok, Err}
use Rattle.error.specs.declared.Refusal.{Refusal}
use Rattle.error.specs.declared.Refusal.TheVariants as refusal
use Rattle.error.specs.declared.Outcome.TheVariants.{Ready}
use Rattle.packet.specs.declared.header.Header.{Header}
use Rattle.packet.specs.Header.{fields, has_header, has_type, decoded}
use Rattle.model.specs.Lists.{Bytes}
use Rattle.model.specs.Slots.{ceiling}
use Rattle.model.specs.Answers.{Answer, answered}
use Rattle.model.specs.Rules.{rules, states}
use Rattle.model.specs.Driving.{drive_refusal}
use Rattle.model.specs.Receiving.{bad_clock, handle_incoming, deliver, deliver_refusal}
use Rattle.model.specs.Stream.{End}
use Rattle.model.proofs.RulesKept.{rules_say}
use Rattle.records.specs.declared.Stream.{Stream}
use Rattle.records.specs.declared.Totals.{Totals}
use Rattle.records.specs.Seen.{Lent, seen, seen_queue}
use Rattle.records.specs.Open.{stores_test}
use Rattle.deliver_data.specs.Absorbing.{Accepted}
use Rattle.records.proofs.LaidLaws.{laid_said, laid_says}
use Rattle.records.specs.declared.StreamAndTotals.{StreamAndTotals}
use Rattle.deliver_all.specs.Handle.{CanDeliver, Handled, with_delivered}
use Rattle.udx_steps.specs.declared.step.Step.{Step}
use Rattle.udx_steps.specs.Steps.{refused_step}
use Rattle.udx.specs.Agree.{laid_out, on_records, Agrees, Answers}
use Rattle.udx_steps.specs.Steps.{ready_step}
use Rattle.rules_lent.specs.Broken.{broken_records}
use Rattle.udx_refusals.specs.Verdicts.{verdict_of, early_verdict, header_verdict, delivery_verdict}
use Rattle.udx.proofs.EarlyLaws.{early_says, early_clear, early_clock}
use Rattle.udx.proofs.RefusalLaws.{line, clear_line, either_refuses, both_clear, is-refused, is_clear, acts_on, why_of, refused_answers, none_not_zero}
use Rattle.udx.proofs.Resting.{ready}
use Rattle.udx.proofs.Unbroken.{Whole, unbroken, still_laid, places_used}

and-false : (a b : Bool) → a ≡ true → (a && b) ≡ false → b ≡ false
and-false a b e f = rw e at f

-- the refusal of one list, else that of another
abbrev or_else : Option Refusal → Option Refusal → Option Refusal
or_else none o = o
or_else (some why) o = some why

four_lines : (a b c d : Bool) (w x y z : Refusal) (o : Option Refusal)
    → cond a (some w) (cond b (some x) (cond c (some y) (cond d (some z) o)))
    ≡ or_else (cond a (some w) (cond b (some x) (cond c (some y) (cond d (some z) none)))) o
four_lines true b c d w x y z o = refl
four_lines false true c d w x y z o = refl
four_lines false false true d w x y z o = refl
four_lines false false false true w x y z o = refl
four_lines false false false false w x y z o = refl

-- refusal 13 by the number of places used
full_line : (k n : ℕ) → k ≡ n
    → cond (leb 62 k) (Err refusal.StateQueueFull) (Ok tt) ≡ verdict_of (cond (leb 62 n) (some refusal.StateQueueFull) none)
full_line k n e = rw e (line (leb 62 n) refusal.StateQueueFull (Ok tt) none refl)

-- the payload is all that follows the header
pub rest_of : (datagram : Bytes) → take (length datagram - 20) (drop 20 datagram) ≡ drop 20 datagram
rest_of datagram = take_all (length datagram - 20) (drop 20 datagram) (rw length-drop (omega arith))

-- the refusal for a datagram's header (8 to 13), if any
abbrev header_why : Header → (payload : ℕ) → End → Option Refusal
header_why h payload e =
    cond (not (eqb h.stream_id e.ids.local)) (some refusal.OtherStream)
    (cond (ltb 1_380 payload) (some refusal.LongPayload)
    (cond (ltb e.sender.seq h.ack) (some refusal.AckPastSeq)
    (cond (has_type 1 h.typ && leb 4_294_967_295 h.seq) (some refusal.SeqEnd)
    (cond (has_type 1 h.typ && leb (e.receiver.read_cursor + ceiling) h.seq) (some refusal.PastIncoming)
    (cond (leb 62 (states e.queue.entries)) (some refusal.StateQueueFull) none)))))

-- refusals 7 to 13
abbrev later_why : Bytes → End → Option Refusal
later_why datagram e = cond (not (has_header datagram)) (some refusal.BadHeader) (header_why (fields datagram) (length (drop 20 datagram)) e)

list_cut : (datagram : Bytes) (clock : ℕ) (e : End) → deliver_refusal datagram clock e ≡ or_else (drive_refusal clock e) (later_why datagram e)
unfolding deliver_refusal drive_refusal
list_cut datagram clock e =
    four_lines (not (rules e)) (bad_clock clock e) e.ending.ended (ltb 0 e.queue.left) refusal.BrokenRecords refusal.BadClock refusal.AfterDone refusal.BatchesLeft
    (later_why datagram e)

early_why : (laid : Bool) (early later : Option Refusal) (why : Refusal) → Err why ≡ verdict_of (cond laid early (some refusal.BrokenRecords))
    → Err why ≡ verdict_of (cond laid (or_else early later) (some refusal.BrokenRecords))
early_why false early later why v = v
early_why true none later why v = let z : ◌≡◌ {A = ℕ} 0 1 = cc in absurd (omega arith)
early_why true (some x) later why v = v

late_why : (laid : Bool) (early later : Option Refusal) → laid ≡ true → early ≡ none → cond laid (or_else early later) (some refusal.BrokenRecords) ≡ later
late_why laid early later p q = rw (p, q) refl

module _ (s : Stream) (t : Totals) (l : Lent) (len : length l.queue ≡ 128) (datagram : Bytes) (clock : ℕ) (b : Bool) (is : b ≡ broken_records s t l) where
  acts : End → Answer
  acts e = answered Ready (handle_incoming clock (fields datagram) (drop 20 datagram) e)

  -- the model's refusal on the records
  abbrev list : Result ⊤ Refusal
  list = verdict_of (why_of (deliver_refusal datagram clock) s t l)

  early_list : early_verdict b s clock ≡ verdict_of (why_of (drive_refusal clock) s t l)
  early_list = early_says s t l len clock b (early_verdict b s clock) is refl

  -- refused before the datagram is read
  early_refused : (why : Refusal) → early_verdict b s clock ≡ Err why → Err why ≡ list
  early_refused why e =
      early_why (laid_out s l) (drive_refusal clock (seen s t l)) (later_why datagram (seen s t l)) why (sym e ∙ early_list)
      ∙ ap (λ (o : Option Refusal). verdict_of (cond (laid_out s l) o (some refusal.BrokenRecords))) (sym (list_cut datagram clock (seen s t l)))

  module _ (clear : early_verdict b s clock ≡ Ok tt) where
    free : (laid_out s l ≡ true) × (drive_refusal clock (seen s t l) ≡ none)
    free = is_clear (drive_refusal clock) s t l (sym clear ∙ early_list)

    good : (broken_records s t l ≡ false) × ((leb (2 ^ 60) clock || ltb clock s.clocks.last.0) ≡ false) × (s.queue.left ≡ 0)
    good = early_clear s t l len clock b (early_verdict b s clock) is refl clear

    whole : Whole s t l
    whole = unbroken s t l len good.0

    later_list : why_of (deliver_refusal datagram clock) s t l ≡ later_why datagram (seen s t l)
    later_list =
        ap (λ (o : Option Refusal). cond (laid_out s l) o (some refusal.BrokenRecords)) (list_cut datagram clock (seen s t l))
        ∙ late_why (laid_out s l) (drive_refusal clock (seen s t l)) (later_why datagram (seen s t l)) free.0 free.1

    -- no header
    no_header : (t : Bool) (why : Refusal) → cond t (Ok (fields datagram)) (Err refusal.BadHeader) ≡ Err why
        → (t ≡ false) × (refusal.BadHeader ≡ why)
    no_header true why e = let z : ◌≡◌ {A = ℕ} 0 1 = cc in absurd (omega arith)
    no_header false why e = (refl, cc)

    header_refused : (why : Refusal) → decoded datagram ≡ Err why → Err why ≡ list
    unfolding decoded
    header_refused why e = let (f, w) = no_header (has_header datagram) why e in sym (ap verdict_of later_list ∙ rw (f, w) refl)

    module _ (h : Header) (ok : decoded datagram ≡ Ok h) where
      a_header : (t : Bool) → cond t (Ok (fields datagram)) (Err refusal.BadHeader) ≡ Ok h → (t ≡ true) × (h ≡ fields datagram)
      a_header true z = (refl, cc)
      a_header false z = let y : ◌≡◌ {A = ℕ} 0 1 = cc in absurd (omega arith)

      found : (has_header datagram ≡ true) × (h ≡ fields datagram)
      unfolding decoded
      found = a_header (has_header datagram) ok

      header_lines : header_verdict s h (length datagram - 20) ≡ verdict_of (header_why h (length datagram - 20) (seen s t l))
      unfolding header_verdict seen seen_queue
      header_lines =
          line (not (eqb h.stream_id s.ids.local)) refusal.OtherStream _ _
          (line (ltb 1_380 (length datagram - 20)) refusal.LongPayload _ _
          (line (ltb s.sender.seq h.ack) refusal.AckPastSeq _ _
          (line (has_type 1 h.typ && leb 4_294_967_295 h.seq) refusal.SeqEnd _ _
          (line (has_type 1 h.typ && leb (s.receiver.read_cursor + ceiling) h.seq) refusal.PastIncoming _ _
          (full_line s.queue.states (states (seen_queue s.queue l.queue l.headers).entries) (places_used whole good.2))))))

      header_found : why_of (deliver_refusal datagram clock) s t l ≡ header_why h (length datagram - 20) (seen s t l)
      header_found =
          later_list ∙ ap (λ (b : Bool). cond (not b) (some refusal.BadHeader) (header_why (fields datagram) (length (drop 20 datagram)) (seen s t l))) found.0
          ∙ ap₂ (λ (g : Header) (n : ℕ). header_why g n (seen s t l)) (sym found.1) (length-drop 20 datagram)

      header_list : header_verdict s h (length datagram - 20) ≡ list
      header_list = header_lines ∙ ap verdict_of (sym header_found)

  -- v is the verdict
  module _ (v : Result Header Refusal) (says : v ≡ delivery_verdict b s clock datagram) where
    refused_list : (why : Refusal) → v ≡ Err why → Err why ≡ list
    unfolding delivery_verdict
    refused_list why e =
        either_refuses (early_verdict b s clock) _ why (sym says ∙ e) (early_refused why)
        (λ u clear z. either_refuses (decoded datagram) _ why z (header_refused clear why)
        (λ h ok z. either_refuses (header_verdict s h (length datagram - 20)) _ why z (λ y. sym y ∙ header_list clear h ok)
        (λ u y z. absurd (let z' : ◌≡◌ {A = ℕ} 0 1 = cc in omega arith))))

    pub deliver_refused : (why : Refusal) → v ≡ Err why → (r : Step) → r ≡ refused_step s t why → Answers (deliver datagram clock) s t l r l
    unfolding deliver acts
    deliver_refused why e r is_step =
        rw is_step (refused_answers (deliver datagram clock) s t l why
        (is-refused (deliver datagram clock) (deliver_refusal datagram clock) acts s t l why (λ e. refl) (refused_list why e)))

    -- no refusal
    module _ (h : Header) (accepts : v ≡ Ok h) where
      parts : (early_verdict b s clock ≡ Ok tt) × (decoded datagram ≡ Ok h) × (header_verdict s h (length datagram - 20) ≡ Ok tt)
      unfolding delivery_verdict
      parts =
          let (_, early, later) = both_clear (early_verdict b s clock) _ h (sym says ∙ accepts) in
          let (g, reads, last) = both_clear (decoded datagram) _ h later in
          let (_, heads, z) = both_clear (header_verdict s g (length datagram - 20)) _ h last in
          let same : g ≡ h = cc in
          (early, reads ∙ ap Ok same, subst (λ (x : Header). header_verdict s x (length datagram - 20) ≡ Ok tt) same heads)

      clear : early_verdict b s clock ≡ Ok tt
      clear = parts.0

      reads : (has_header datagram ≡ true) × (h ≡ fields datagram)
      reads = found clear h parts.1

      kept : Whole s t l
      kept = whole clear

      tests : (ltb 1_380 (length datagram - 20) ≡ false) × ((has_type 1 h.typ && leb 4_294_967_295 h.seq) ≡ false)
          × ((has_type 1 h.typ && leb (s.receiver.read_cursor + 32) h.seq) ≡ false) × (leb 62 s.queue.states ≡ false)
      unfolding header_verdict
      tests =
          let (_, a) = clear_line (not (eqb h.stream_id s.ids.local)) refusal.OtherStream _ parts.2 in
          let (nine, b) = clear_line (ltb 1_380 (length datagram - 20)) refusal.LongPayload _ a in
          let (_, c) = clear_line (ltb s.sender.seq h.ack) refusal.AckPastSeq _ b in
          let (eleven, d) = clear_line (has_type 1 h.typ && leb 4_294_967_295 h.seq) refusal.SeqEnd _ c in
          let (twelve, e) = clear_line (has_type 1 h.typ && leb (s.receiver.read_cursor + 32) h.seq) refusal.PastIncoming _ d in
          let (thirteen, _) = clear_line (leb 62 s.queue.states) refusal.StateQueueFull _ e in
          (nine, eleven, twelve, thirteen)

      payload_short : length (drop 20 datagram) ≤ 1_380
      payload_short = rw length-drop (ltb-false 1_380 (length datagram - 20) tests.0)

      rest : s.queue.left ≡ 0
      rest = (good clear).2

      data_accepted : has_type 1 h.typ ≡ true → Accepted s.receiver l.incoming h.seq (drop 20 datagram)
      unfolding seen
      data_accepted carries =
          record {
            store = kept.incoming;
            short = payload_short;
            unread = (rules_say (seen s t l) kept.kept).cursor_ack;
            laid = laid_says s.receiver kept.receiver;
            below = leb-false 4_294_967_295 h.seq (and-false (has_type 1 h.typ) (leb 4_294_967_295 h.seq) carries tests.1);
            near = leb-false (s.receiver.read_cursor + 32) h.seq (and-false (has_type 1 h.typ) (leb (s.receiver.read_cursor + 32) h.seq) carries tests.2);
          }

      pub deliverable : (queue : List ℕ) (incoming headers : Bytes) → queue ≡ l.queue → incoming ≡ l.incoming → headers ≡ l.headers
          → CanDeliver s clock h queue incoming headers (take (length datagram - 20) (drop 20 datagram))
      unfolding seen
      deliverable queue incoming headers is_queue is_incoming is_headers =
          let k = rules_say (seen s t l) kept.kept in
          let r = ready s t l len kept rest in
          let states = leb-false 62 s.queue.states tests.3 in
          rw (rest_of datagram, is_queue, is_incoming, is_headers) (record {
            measured =
                record { range = k.estimate; early = early_clock s t l len clock b (early_verdict b s clock) is refl clear; width = k.seq_near };
            whole = kept.headers;
            rest = rest;
            queued = omega (arith, r.queued, r.near);
            places = omega arith;
            formed = kept.words;
            takes = data_accepted;
          })

      module _ (payload : Bytes) (part : payload ≡ take (length datagram - 20) (drop 20 datagram)) (d : StreamAndTotals) (sent' held' queue' : List ℕ) (incoming' headers' : Bytes)
          (y : Handled s t clock h payload l.sent l.held l.queue l.incoming l.headers d sent' held' queue' incoming' headers')
          (same_incoming : length incoming' ≡ length l.incoming) (same-headers : length headers' ≡ length l.headers) where
        abbrev after : Lent
        after = with_delivered sent' held' queue' incoming' headers' l

        stores_same : stores_test l.outgoing incoming' headers' ≡ false
        stores_same = rw (same_incoming, same-headers) kept.stores

        acting : on_records (deliver datagram clock) s t l ≡ acts (seen s t l)
        unfolding deliver acts
        acting =
            let (laid, nothing) = is_clear (deliver_refusal datagram clock) s t l (sym parts.2 ∙ header_list clear h parts.1) in
            acts_on (deliver datagram clock) (deliver_refusal datagram clock) acts s t l (λ e. refl) laid nothing

        agreed : Agrees (acts (seen s t l)) (ready_step d) after
        unfolding acts
        agreed =
            record {
              outcome = refl;
              count = refl;
              segment = refl;
              not_zero = none_not_zero;
              end = y.seen_after l ∙ ap₂ (λ (g : Header) (b : Bytes). handle_incoming clock g b (seen s t l)) reads.1 (part ∙ rest_of datagram);
            }

        pub deliver_answers : (r : Step) → r ≡ ready_step d → Answers (deliver datagram clock) s t l r after
        deliver_answers r is_step =
            rw is_step (record {
              agrees = subst (λ (a : Answer). Agrees a (ready_step d) after) (sym acting) agreed;
              stays = λ z.
                  still_laid d.stream after stores_same (laid_said d.stream.receiver (y.laid (laid_says s.receiver kept.receiver))) y.formed;
              changes_nothing = λ why z. absurd (let z' : ◌≡◌ {A = ℕ} 0 1 = cc in omega arith);
              beside = record { outgoing = λ i l. refl; incoming = y.beside };
            })
