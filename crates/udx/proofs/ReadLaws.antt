-- A read on the records answers as the model's: refused with 1, or what is held in order.
use Prim.Native.Nat.{ℕ, zero, suc, ◌+◌, ◌-◌, ◌%◌, ◌≤◌, ◌<◌}
use native.Mathlib.Omega.{arith}
use mathlib.Core.Path.{◌≡◌, refl, sym, ap, ◌∙◌, subst}
use mathlib.Core.List.{List}
use mathlib.Core.Option.{none}
use mathlib.Core.Bool.{Bool, true, false, cond}
use lib.Dec.{ltb, leb, eqb}
use lib.ListN.{length, get_or}
use borrow.Author.Tests.{ltb-true, ltb-false, leb-true}
use Rattle.std.specs.Prelude.{Ok, Err, None, Some, Option}
use Rattle.error.specs.declared.UdxError.{UdxError}
use Rattle.error.specs.declared.UdxError.TheVariants as error
use Rattle.error.specs.declared.Refusal.{Refusal}
use Rattle.error.specs.declared.Refusal.TheVariants as refusal
use Rattle.model.specs.Lists.{Bytes}
use Rattle.model.specs.Slots.{ceiling}
use Rattle.model.specs.Stream.{End, with_receiver}
use Rattle.model.specs.Answers.{Answer}
use Rattle.model.specs.Rules.{held_rule, segments_range, rtt_ranges}
use Rattle.model.specs.Receiving.{read, read_refusal, read_answer, read_next, read_outcome}
use Rattle.model.proofs.Gate.{and_left, and_right}
use Rattle.records.specs.declared.Receiver.{Receiver}
use Rattle.records.specs.declared.Stream.{Stream}
use Rattle.records.specs.declared.Totals.{Totals}
use Rattle.records.specs.Put.{put}
use Rattle.records_words.specs.Words.{held_of, is_held}
use Rattle.records.specs.Seen.{Lent, seen, formed_receiver}
use Rattle.rules_stream.specs.Ok.{ok_stream, clocks_ok}
use Rattle.rules_packets.specs.Packets.{ok_receiver, ok_sender, every_from, held_ok}
use Rattle.read_bytes.specs.declared.Read.{Read}
use Rattle.read_bytes.specs.Reading.{HeldFit, Readable, HasRead}
use Rattle.records.proofs.LaidLaws.{laid_said, laid_says}
use Rattle.udx_steps.specs.declared.step.Step.{Step}
use Rattle.udx_steps.specs.Steps.{refused_step}
use Rattle.udx.specs.Agree.{on_records, Agrees}
use Rattle.rules_lent.specs.Broken.{broken_records}
use Rattle.udx_refusals.specs.Verdicts.{verdict_of}
use Rattle.udx_steps.specs.Read.{outcome_of, read_stream, read_step}
use Rattle.udx.specs.Read.{read_lent, Gives}
use Rattle.udx.proofs.RefusalLaws.{refusal_one, why_of, is-refused, is_clear, acts_on, refused_agrees, puts_nothing, none_not_zero}
use Rattle.udx.proofs.Unbroken.{Whole, unbroken, still_laid}

-- held packets obey their rule

by_order : (a n : ℕ) (P : Type 0) → a ≤ n → (a < n → P) → (a ≡ n → P) → P
by_order a n P h less same = go (ltb a n) refl
  where
    go : (b : Bool) → ltb a n ≡ b → P
    go true e = less (ltb-true a n e)
    go false e = same (let z = ltb-false a n e in omega arith)

at_every : (k a n : ℕ) (f : ℕ → Bool) → every_from k a f ≡ true → a ≤ n → n < a + k → f n ≡ true
unfolding every_from
at_every zero a n f h low high = absurd (omega arith)
at_every (suc k) a n f h low high =
    let later : a < n → f n ≡ true = λ z. at_every k (suc a) n f (and_right (f a) (every_from k (suc a) f) h) (omega arith) (omega arith) in
    let now : a ≡ n → f n ≡ true = λ z. subst (λ (x : ℕ). f x ≡ true) z (and_left (f a) (every_from k (suc a) f) h) in
    by_order a n (f n ≡ true) low later now

rule_fit : (cursor slot n past offset : ℕ) → held_rule cursor slot n (past - 1) offset ≡ true → (past - 1 ≤ 1_380) × (offset ≤ past - 1)
rule_fit cursor slot n past offset h =
    let h₁ = and_right (eqb (n % ceiling) slot) _ h in
    let h₂ = and_right (leb cursor n) _ h₁ in
    let h₃ = and_right (ltb n (cursor + ceiling)) _ h₂ in
    let h₄ = and_right (ltb n 4_294_967_295) _ h₃ in
    (leb-true (past - 1) 1_380 (and_left (leb (past - 1) 1_380) _ h₄), leb-true offset (past - 1) (and_right (leb (past - 1) 1_380) _ h₄))

fits : (r : Receiver) (held : List ℕ) → ok_receiver r held ≡ true → HeldFit r held
unfolding ok_receiver
fits r held h n low high is =
    let c = r.read_cursor in
    let p = held_of (get_or held (n % ceiling) 0) in
    let h₁ = and_right (leb c r.ack) _ h in
    let h₂ = and_right (leb r.ack (c + ceiling)) _ h₁ in
    let h₃ = and_right (formed_receiver r) _ h₂ in
    let one : cond (is_held p n) (held_rule c (n % ceiling) n (p.past - 1) p.offset) true ≡ true = at_every (r.top - c) c n (held_ok c held) h₃ low (omega arith) in
    let (a, b) = rule_fit c (n % ceiling) n p.past p.offset (rw is at one) in
    record { short = a; inside = b }

receiver_ok : (s : Stream) (t : Totals) (sent held queue : List ℕ) → ok_stream s t sent held queue ≡ true → ok_receiver s.receiver held ≡ true
unfolding ok_stream
receiver_ok s t sent held queue h =
    let h₁ = and_right (segments_range s.ids.segments) _ h in
    let h₂ = and_right (rtt_ranges s.timing.rtt) _ h₁ in
    let h₃ = and_right (clocks_ok s.clocks) _ h₂ in
    let h₄ = and_right (ok_sender s.sender t s.clocks.last.0 sent) _ h₃ in
    and_left (ok_receiver s.receiver held) _ h₄

-- the outcome

outcome_is : (b : Bool) (e : End) → outcome_of b e.ending.error ≡ read_outcome b e
outcome_is true e = refl
outcome_is false e = refl

other : (b : Bool) (x : Option UdxError) → outcome_of b x ≡ Err refusal.BrokenRecords → ⊥
other true x q = let z : ◌≡◌ {A = ℕ} 0 1 = cc in omega arith
other false None q = let z : ◌≡◌ {A = ℕ} 0 1 = cc in omega arith
other false (Some error.ConnectionReset) q = let z : ◌≡◌ {A = ℕ} 0 1 = cc in omega arith
other false (Some error.UnexpectedEof) q = let z : ◌≡◌ {A = ℕ} 0 1 = cc in omega arith
other false (Some error.TimedOut) q = let z : ◌≡◌ {A = ℕ} 0 1 = cc in omega arith

-- a refused read finished no packet
unfinished : (b : Bool) (x : Option UdxError) (why : Refusal) → outcome_of b x ≡ Err why → b ≡ false
unfinished true x why q = let z : ◌≡◌ {A = ℕ} 0 1 = cc in absurd (omega arith)
unfinished false x why q = refl

module _ (s : Stream) (t : Totals) (l : Lent) (buf : Bytes) (len : length l.queue ≡ 128) where
  abbrev acts : End → Answer
  acts e = read_answer (read_next (length buf) e.receiver) e

  list : cond (broken_records s t l) (Err refusal.BrokenRecords) (Ok tt) ≡ verdict_of (why_of read_refusal s t l)
  unfolding read_refusal
  list = refusal_one s t l (Ok tt) none len refl

  pub read_refused : (b : Bool) → b ≡ broken_records s t l → b ≡ true → (r : Step) → r ≡ refused_step s t refusal.BrokenRecords → Gives s t l buf r l buf
  unfolding read
  read_refused b is h r is_step =
      let v : Err refusal.BrokenRecords ≡ verdict_of (why_of read_refusal s t l) = rw (sym is ∙ h) at list in
      let e = is-refused (read (length buf)) read_refusal acts s t l refusal.BrokenRecords (λ e. refl) v in
      rw is_step (record {
        agrees = refused_agrees (read (length buf)) s t l refusal.BrokenRecords e;
        stays = λ z. z;
        changes_nothing = λ z. record { stream = refl; totals = refl; lent = refl };
        same_numbers = λ why z. (refl, refl);
        bytes = puts_nothing buf (on_records (read (length buf)) s t l) (ap (λ (a : Answer). a.bytes) e);
      })

  module _ (b : Bool) (is : b ≡ broken_records s t l) (h : b ≡ false) where
    whole : Whole s t l
    whole = unbroken s t l len (sym is ∙ h)

    pub read_readable : (held : List ℕ) (incoming : Bytes) → held ≡ l.held → incoming ≡ l.incoming → Readable s.receiver held incoming
    read_readable held incoming is_held is_incoming =
        rw (is_held, is_incoming) (record {
          store = whole.incoming;
          laid = laid_says s.receiver whole.receiver;
          packets = fits s.receiver l.held (receiver_ok s t l.sent l.held l.queue whole.ok);
        })

    acting : on_records (read (length buf)) s t l ≡ acts (seen s t l)
    unfolding read
    acting =
        let v : (Ok tt) ≡ verdict_of (why_of read_refusal s t l) = rw (sym is ∙ h) at list in
        let (laid, nothing) = is_clear read_refusal s t l v in
        acts_on (read (length buf)) read_refusal acts s t l (λ e. refl) laid nothing

    module _ (a : Read) (held' : List ℕ) (buf' : Bytes) (x : HasRead s.receiver l.held l.incoming buf a held' buf') where
      abbrev after : Lent
      after = read_lent held' l

      agreed : Agrees (acts (seen s t l)) (read_step s t a) after
      unfolding seen
      agreed =
          record {
            outcome = ap (λ (b : Bool). outcome_of b s.ending.error) x.finished ∙ outcome_is (read_next (length buf) (seen s t l).receiver).ready (seen s t l);
            count = x.count;
            segment = refl;
            not_zero = none_not_zero;
            end = ap (λ z. with_receiver z (seen s t l)) x.seen;
          }

      pub read_gives : (r : Step) → r ≡ read_step s t a → Gives s t l buf r after buf'
      unfolding seen
      read_gives r is_step =
          rw is_step (record {
            agrees = subst (λ (z : Answer). Agrees z (read_step s t a) after) (sym acting) agreed;
            stays = λ z. still_laid (read_stream a.receiver s) after whole.stores (laid_said a.receiver x.laid) whole.words;
            changes_nothing = λ z. absurd (other a.finished s.ending.error z);
            same_numbers = λ why z.
                (ap (λ (r : Receiver). read_stream r s) (x.unmoved (unfinished a.finished s.ending.error why z)), refl);
            bytes = x.copied ∙ ap (λ (z : Answer). put buf 0 z.bytes) (sym acting);
          })
