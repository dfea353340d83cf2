-- 'Seventeen refusals, in checking order': each sentence from the numbers that `RefusalsInOrder` has for the call. In a list of tests the
-- first that holds is answered, an answer is one of their numbers, and if none holds there is no answer.
use Prim.Native.Nat.{ℕ, zero, suc, ◌<◌}
use native.Mathlib.Omega.{arith}
use mathlib.Core.Path.{◌≡◌, refl, sym, ap, ◌∙◌, subst}
use mathlib.Core.List.{List, [], ◌∷◌, map, Memᴰ}
use mathlib.Core.Logic.{◌⊎◌, ◌↔◌, inl, inr, ⊎_elim}
use mathlib.Core.Option.{Option, none, some}
use mathlib.Core.Bool.{Bool, true, false, cond, ◌||◌, true≢false}
use lib.Dec.{ltb}
use lib.ListN.{length, drop, get_or}
use borrow.Author.Tests.{ltb-true, ltb-false}
use Rattle.std.specs.Prelude as rust
use Rattle.std.specs.Prelude.{Result, Ok, None, Some, ⊤}
use Rattle.error.specs.Answers.{number_of, error_or}
use Rattle.error.specs.declared.UdxError.{UdxError}
use Rattle.error.specs.declared.UdxError.TheVariants as error
use Rattle.error.specs.declared.Refusal.{Refusal}
use Rattle.error.specs.declared.Outcome.{Outcome}
use Rattle.error.specs.declared.Outcome.TheVariants.{Ready, Waiting}
use Rattle.packet.specs.declared.header.Header.{Header}
use Rattle.packet.specs.Header.{fields, decoded, Encodes}
use Rattle.model.specs.Lists.{Bytes, is_empty}
use Rattle.model.specs.Stream.{End}
use Rattle.model.specs.Answers.{Test, first, Answer, gate}
use Rattle.model.specs.Rules.{rules}
use Rattle.model.specs.Sending.{open_tests_on, write_tests, write_refusal, write_loop, write_outcome, write, close_refusal, close_tests, close}
use Rattle.model.specs.Receiving.{deliver_tests, deliver_refusal, deliver, read_next, read_outcome, read_answer, read_refusal, read_tests, read}
use Rattle.model.specs.Driving as model
use Rattle.model.specs.Driving.{drained, drive_refusal, drive_tests, drive, take_refusal, take_tests}
use Rattle.model.specs.Order.{number, refused_by, undecoded_by}
use Rattle.model.proofs.Lists.{by-test}
use Rattle.model.proofs.Order.{refusals_in_order}
use Rattle.model.proofs.Slots.{no_some, some_inj}
use Rattle.records.specs.Open.{stores_test, open_why, opened_outcome}
use Rattle.promise_sentences.specs.Refusals.{no_test, FirstAnswers, NoOther, NoneHolds, InOrder, OpenRefusals, error_number, OtherBytes, RefusalSentences}

-- a list of tests

-- the number of the first that holds
first_number : (ts : List Test) (k : ℕ) → (get_or ts k no_test).holds ≡ true → ((j : ℕ) → j < k → (get_or ts j no_test).holds ≡ false)
    → (why : Refusal) × (first ts ≡ some why) × (number_of why ≡ get_or (map number ts) k 0)
first_number [] k h earlier = absurd (true≢false (sym h))
first_number (t ∷ ts) zero h earlier = (t.refusal, rw h refl, refl)
first_number (t ∷ ts) (suc k) h earlier =
    let (why, e, q) = first_number ts k h (λ j l. earlier (suc j) (omega arith)) in
    (why, rw (earlier 0 (omega arith)) e, q)

-- the answer is one of them
first_among : (ts : List Test) (why : Refusal) → first ts ≡ some why → Memᴰ (number_of why) (map number ts)
first_among [] why e = absurd (no_some refl e)
first_among (t ∷ ts) why e = go t.holds e (first_among ts why)
  where
    go : (b : Bool) → cond b (some t.refusal) (first ts) ≡ some why → (first ts ≡ some why → Memᴰ (number_of why) (map number ts))
        → Memᴰ (number_of why) (map number (t ∷ ts))
    go true e rec = Memᴰ.head (ap number_of (some_inj e refl))
    go false e rec = Memᴰ.tail (rec e)

-- if none holds nothing is answered
first_none : (ts : List Test) → NoneHolds ts → first ts ≡ none
first_none [] h = refl
first_none (t ∷ ts) h = rw (h 0) (first_none ts (λ k. h (suc k)))

-- a call whose tests have these numbers

module _ (ts : List Test) (numbers : List ℕ) (is : map number ts ≡ numbers) where
  answers_first : (e : End) (a : Answer) → FirstAnswers ts numbers (gate (first ts) e a).outcome
  unfolding gate
  answers_first e a k h earlier =
      let (why, f, q) = first_number ts k h earlier in
      rw f (ap some (q ∙ ap (λ (z : List ℕ). get_or z k 0) is))

  among : (why : Refusal) → first ts ≡ some why → (n : ℕ) → some (number_of why) ≡ some n → Memᴰ n numbers
  among why f n e = subst (λ (z : List ℕ). Memᴰ n z) is (subst (λ (z : ℕ). Memᴰ z (map number ts)) (some_inj refl e) (first_among ts why f))

  answers_no_other : (e : End) (a : Answer) → refused_by a.outcome ≡ none → NoOther numbers (gate (first ts) e a).outcome
  unfolding gate
  answers_no_other e a ready n h = go (first ts) refl h
    where
      go : (o : Option Refusal) → first ts ≡ o → refused_by (gate o e a).outcome ≡ some n → Memᴰ n numbers
      go none f h = absurd (no_some ready h)
      go (some why) f h = among why f n h

  answers_none : (e : End) (a : Answer) → NoneHolds ts → (gate (first ts) e a).outcome ≡ a.outcome
  unfolding gate
  answers_none e a h = rw (first_none ts h) refl

  in_order : (e : End) (a : Answer) → refused_by a.outcome ≡ none → InOrder ts numbers (gate (first ts) e a).outcome
  in_order e a ready = (answers_first e a, answers_no_other e a ready, λ h. ap refused_by (answers_none e a h) ∙ ready)

-- a call that acts is not refused
acts : (t : Bool) (x y : Answer) → refused_by x.outcome ≡ none → refused_by y.outcome ≡ none → refused_by (cond t x y).outcome ≡ none
acts t x y p q = by-test (λ (a : Answer). refused_by a.outcome ≡ none) t x y (λ z. p) (λ z. q)

writes : (bytes : Bytes) (count : ℕ) → refused_by {A = Outcome} (Ok (write_outcome bytes count)) ≡ none
writes bytes count = refl

-- open

pub open_refusals : OpenRefusals
unfolding open_why
open_refusals = record { numbers = λ segments clock outgoing incoming headers. refusals_in_order.opens (stores_test outgoing incoming headers) segments clock; first_of = λ segments clock outgoing incoming headers. refl }

module _ (segments clock : ℕ) (outgoing incoming headers : Bytes) where
  abbrev tests : List Test
  tests = open_tests_on (stores_test outgoing incoming headers) segments clock

  pub open_order : (o : Result Outcome Refusal) → o ≡ opened_outcome (open_why segments clock outgoing incoming headers) → InOrder tests (1 ∷ 3 ∷ 4 ∷ []) o
  open_order o e =
      let numbers = open_refusals.numbers segments clock outgoing incoming headers in
      let is : o ≡ opened_outcome (first tests) = e ∙ ap opened_outcome (open_refusals.first_of segments clock outgoing incoming headers) in (
        λ k h earlier.
            (let (why, f, q) = first_number tests k h earlier in
            ap refused_by (is ∙ ap opened_outcome f) ∙ ap some (q ∙ ap (λ (z : List ℕ). get_or z k 0) numbers)),
        λ n h. go (first tests) refl numbers n (sym (ap refused_by is) ∙ h),
        λ h. ap refused_by (is ∙ ap opened_outcome (first_none tests h)),
      )
    where
      go : (w : Option Refusal) → first tests ≡ w → map number tests ≡ 1 ∷ 3 ∷ 4 ∷ [] → (n : ℕ) → refused_by (opened_outcome w) ≡ some n → Memᴰ n (1 ∷ 3 ∷ 4 ∷ [])
      go none f numbers n h = absurd (no_some refl h)
      go (some why) f numbers n h = among tests (1 ∷ 3 ∷ 4 ∷ []) numbers why f n h

-- read

error_among : (x : rust.Option UdxError) (n : ℕ) → refused_by (error_or x Waiting) ≡ some n → Memᴰ n (1 ∷ 14 ∷ 15 ∷ 16 ∷ [])
error_among None n h = absurd (no_some refl h)
error_among (Some error.ConnectionReset) n h = Memᴰ.tail (Memᴰ.head (some_inj h refl))
error_among (Some error.UnexpectedEof) n h = Memᴰ.tail (Memᴰ.tail (Memᴰ.head (some_inj h refl)))
error_among (Some error.TimedOut) n h = Memᴰ.tail (Memᴰ.tail (Memᴰ.tail (Memᴰ.head (some_inj h refl))))

outcome_among : (ready : Bool) (e : End) (n : ℕ) → refused_by (read_outcome ready e) ≡ some n → Memᴰ n (1 ∷ 14 ∷ 15 ∷ 16 ∷ [])
outcome_among true e n h = absurd (no_some refl h)
outcome_among false e n h = error_among e.ending.error n h

one_among : (n : ℕ) → Memᴰ n (1 ∷ []) → Memᴰ n (1 ∷ 14 ∷ 15 ∷ 16 ∷ [])
one_among n (Memᴰ.head e) = Memᴰ.head e
one_among n (Memᴰ.tail further) = elim further [ ]

read_no_other : (room : ℕ) (e : End) → NoOther (1 ∷ 14 ∷ 15 ∷ 16 ∷ []) (read room e).outcome
unfolding read read_refusal gate
read_no_other room e n h = go (first (read_tests e)) refl h
  where
    go : (o : Option Refusal) → first (read_tests e) ≡ o → refused_by (gate o e (read_answer (read_next room e.receiver) e)).outcome ≡ some n
        → Memᴰ n (1 ∷ 14 ∷ 15 ∷ 16 ∷ [])
    go none f h = outcome_among (read_next room e.receiver).ready e n h
    go (some why) f h = one_among n (among (read_tests e) (1 ∷ []) (refusals_in_order.reads e) why f n h)

read_clear : (ready : Bool) (e : End) → e.ending.error ≡ None → refused_by (read_outcome ready e) ≡ none
read_clear true e is = refl
read_clear false e is = ap (λ (x : rust.Option UdxError). refused_by (error_or x Waiting)) is

meets : (room : ℕ) (e : End) → rules e ≡ true → (read_next room e.receiver).ready ≡ false → (x : rust.Option UdxError) → e.ending.error ≡ x → (n : ℕ)
    → error_number x ≡ some n → refused_by (read room e).outcome ≡ some n
meets room e ok part None is n h = absurd (no_some refl h)
meets room e ok part (Some error.ConnectionReset) is n h = refusals_in_order.read_reset room e ok part is ∙ h
meets room e ok part (Some error.UnexpectedEof) is n h = refusals_in_order.read_eof room e ok part is ∙ h
meets room e ok part (Some error.TimedOut) is n h = refusals_in_order.read_timed_out room e ok part is ∙ h

finishes : (room : ℕ) (e : End) → rules e ≡ true → (read_next room e.receiver).ready ≡ true → refused_by (read room e).outcome ≡ none
unfolding read read_refusal gate
finishes room e ok ready = rw (ok, ready) refl

-- header coding

encode_number : (h : Header) (before after : Bytes) (r : Result ⊤ Refusal) → Encodes h before after r → (refused_by r ≡ some 2) ↔ (length before < 20)
encode_number h before after r does = (λ two. go two (ltb (length before) 20) refl, refusals_in_order.encode_short h before after r does)
  where
    go : refused_by r ≡ some 2 → (b : Bool) → ltb (length before) 20 ≡ b → length before < 20
    go two true e = ltb-true (length before) 20 e
    go two false e = absurd (no_some (refusals_in_order.encode_long h before after r does (ltb-false (length before) 20 e)) two)

decode_number : (bytes : Bytes) → (undecoded_by (decoded bytes) ≡ some 7) ↔ ((length bytes < 20) ⊎ OtherBytes bytes)
decode_number bytes = (
  λ seven. go seven (ltb (length bytes) 20) refl,
  ⊎_elim (refusals_in_order.decode_short bytes) (refusals_in_order.decode_other bytes),
)
  where
    go : undecoded_by (decoded bytes) ≡ some 7 → (b : Bool) → ltb (length bytes) 20 ≡ b → (length bytes < 20) ⊎ OtherBytes bytes
    go seven true e = inl (ltb-true (length bytes) 20 e)
    go seven false e = inr (λ magic version. no_some (refusals_in_order.decode_header bytes (ltb-false (length bytes) 20 e) magic version) seven)

pub refusal_sentences : RefusalSentences
unfolding write write_refusal deliver deliver_refusal drive drive_refusal model.take take_refusal close close_refusal read read_refusal
refusal_sentences =
    record {
      open_in_order = λ local remote segments clock outgoing incoming headers r does. open_order segments clock outgoing incoming headers r.outcome does.outcome;
      write_in_order = λ bytes e. in_order (write_tests bytes e) _ (refusals_in_order.writes bytes e) e _ (writes bytes (write_loop (length bytes) bytes e).count);
      deliver_in_order = λ datagram clock e.
          in_order (deliver_tests clock datagram (fields datagram) (drop 20 datagram) e) _ (refusals_in_order.delivers clock datagram (fields datagram) (drop 20 datagram) e) e _ refl;
      drive_in_order = λ clock e. in_order (drive_tests clock e) _ (refusals_in_order.drives clock e) e _ (acts (drained e) _ _ refl refl);
      take_in_order = λ room e. in_order (take_tests room e) _ (refusals_in_order.takes room e) e _ (acts (ltb 0 e.queue.left) _ _ refl refl);
      close_in_order = λ e. in_order (close_tests e) _ (refusals_in_order.closes e) e _ refl;
      read_in_order = λ room e. (
        answers_first (read_tests e) _ (refusals_in_order.reads e) e _,
        read_no_other room e,
        λ h is. ap refused_by (answers_none (read_tests e) _ (refusals_in_order.reads e) e _ h) ∙ read_clear (read_next room e.receiver).ready e is,
      );
      read_meets = λ room e ok part n h. meets room e ok part e.ending.error refl n h;
      read_finishes = finishes;
      encode_refused = encode_number;
      decode_refused = decode_number;
    }
