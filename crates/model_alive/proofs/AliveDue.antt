-- A due drive that does not fail queues the lowest stored packet. The idea: after such a pass every stored packet waits, so nothing
-- is in flight; flushing meets the lowest one first, and it fits the window, since no packet is longer than the least window.
use Prim.Native.Nat.{ℕ, zero, suc, ◌+◌, ◌-◌, ◌%◌, ◌≤◌, ◌<◌}
use native.Mathlib.Nat.{le_refl}
use native.Mathlib.Decide.{ℕ_discrete}
use native.Mathlib.Omega.{arith}
use mathlib.Core.Path.{◌≡◌, refl, sym, ap, ◌∙◌, subst}
use mathlib.Core.Logic.{◌≢◌, ◌⊎◌, inl, inr}
use mathlib.Core.List.Memᴰ
use mathlib.Core.List.{[], ◌∷◌, Memᴰ}
use mathlib.Core.Option.{Option, none, some}
use mathlib.Core.Bool.{Bool, true, false, cond, true≢false}
use lib.Dec.{ltb}
use borrow.Author.Tests.{le-leb, eq-eqb, ltb-true}
use lib.ListN.{length, get_or}
use Rattle.std.specs.Prelude.{Some}
use Rattle.error.specs.declared.UdxError.TheVariants as error
use Rattle.model.specs.Lists.{on}
use Rattle.model.specs.Slots.{Slots, Numbered, ceiling, get, insert, value_of}
use Rattle.model.specs.Stream.{Packet, Entry, packet, Ending, End, fresh}
use Rattle.model.specs.Rules.{sum, inflight_of}
use Rattle.model.specs.Sending.{terminate}
use Rattle.model.specs.Driving.{lost_marks, marked, lost, flushed, fits, settle, due_end, Passed, time_out_packet, time_out_loop, time_out_end, check_timeouts, flush_loop, flush, drive_clock, left_to_take, poll_drive}
use Rattle.model.specs.Calls.{after}
use Rattle.model_alive.specs.Alive.{Exhausted, DueDrive}
use Rattle.model.proofs.Lists.{by-test}
use Rattle.model.proofs.NotDead.{polled}
use Rattle.model.proofs.Slots.{no_some, some_inj, one_number, insert_length, insert_same, insert_other, insert_none, insert_cases}
use Rattle.model.proofs.SlotSums.{slots_look}
use Rattle.model_rules.proofs.Invariant.{StoredIn, Facts}
use Rattle.model_rules.proofs.InvariantCalls.{open_keeps, calls_keep}
use Rattle.model_rules.proofs.InvariantDrive.{Driving, driving_start, driving_settle, driving_due, driving_timed}

-- after a pass that did not fail

-- stored numbers from a to below b wait
abbrev Waits : ℕ → ℕ → Slots Packet → Type 0
Waits a b s = (n : ℕ) (p : Packet) → a ≤ n → n < b → get s n ≡ some p → p.marks.waiting ≡ true

all_wait : (a k m : ℕ) (e : End) → length e.sender.outgoing ≡ ceiling → Waits a m e.sender.outgoing
    → (time_out_loop k m e).failed ≡ false → Waits a (m + k) (time_out_loop k m e).end.sender.outgoing
unfolding time_out_loop time_out_packet
all_wait a zero m e l w = λ f n p x y z. w n p x (omega arith) z
all_wait a (suc k) m e l w = go (get e.sender.outgoing m) refl (λ x l w f n p u v z. all_wait a k (suc m) x l w f n p u (omega arith) z)
  where
    next : Passed → Passed
    next t = cond t.failed t (time_out_loop k (suc m) t.end)

    Q : Passed → Type 0
    Q t = (next t).failed ≡ false → Waits a (m + suc k) (next t).end.sender.outgoing

    go : (o : Option Packet) → get e.sender.outgoing m ≡ o
        → ((x : End) → length x.sender.outgoing ≡ ceiling → Waits a (suc m) x.sender.outgoing
        → (time_out_loop k (suc m) x).failed ≡ false → Waits a (m + suc k) (time_out_loop k (suc m) x).end.sender.outgoing)
        → Q (on o (record { failed = false; end = e }) (λ p. time_out_packet m p e))
    go none z rec = rec e l (λ n p x y q. by n p x q (ℕ_discrete n m) y)
      where
        by : (n : ℕ) (p : Packet) → a ≤ n → get e.sender.outgoing n ≡ some p → Dec (n ≡ m) → n < suc m → p.marks.waiting ≡ true
        by n p x q (yes d) y = absurd (no_some z (ap (get e.sender.outgoing) (sym d) ∙ q))
        by n p x q (no d) y = w n p x (omega arith) q
    go (some p) z rec =
        by-test Q p.marks.waiting (record { failed = false; end = e })
        (cond (ltb 5 p.marks.transmits) (record { failed = true; end = e }) (record { failed = false; end = lost m p e }))
        (λ v. rec e l (λ n r x y q. same v n r x q (ℕ_discrete n m) y))
        (λ v.
        by-test Q (ltb 5 p.marks.transmits) (record { failed = true; end = e }) (record { failed = false; end = lost m p e })
        (λ t f. absurd (true≢false f))
        (λ t.
        rec (lost m p e) (insert_length e.sender.outgoing m (marked lost_marks p) ∙ l)
        (λ n r x y q. loses n r x y (insert_cases e.sender.outgoing m n (marked lost_marks p) r l q))))
      where
        same : p.marks.waiting ≡ true → (n : ℕ) (r : Packet) → a ≤ n → get e.sender.outgoing n ≡ some r → Dec (n ≡ m) → n < suc m → r.marks.waiting ≡ true
        same v n r x q (yes d) y = subst (λ (u : Packet). u.marks.waiting ≡ true) (some_inj z (ap (get e.sender.outgoing) (sym d) ∙ q)) v
        same v n r x q (no d) y = w n r x (omega arith) q

        loses : (n : ℕ) (r : Packet) → a ≤ n → n < suc m
            → ((n ≡ m) × (marked lost_marks p ≡ r)) ⊎ ((n ≢ m) × (get e.sender.outgoing n ≡ some r)) → r.marks.waiting ≡ true
        loses n r x y (inl (d, q)) = subst (λ (u : Packet). u.marks.waiting ≡ true) q refl
        loses n r x y (inr (d, q)) = w n r x (omega arith) q

-- a pass fails on a packet that it had not reached before, so the packet is as it was when the pass began
abbrev FailsFrom : ℕ → Slots Packet → Type 0
FailsFrom m s = (j : ℕ) × (q : Packet) × (m ≤ j) × (get s j ≡ some q) × (q.marks.waiting ≡ false) × (5 < q.marks.transmits)

fails_why : (k m : ℕ) (e : End) → length e.sender.outgoing ≡ ceiling → (time_out_loop k m e).failed ≡ true → FailsFrom m e.sender.outgoing
unfolding time_out_loop time_out_packet
fails_why zero m e l = λ f. absurd (true≢false (sym f))
fails_why (suc k) m e l = go (get e.sender.outgoing m) refl (λ x l f. fails_why k (suc m) x l f)
  where
    Q : Passed → Type 0
    Q t = (cond t.failed t (time_out_loop k (suc m) t.end)).failed ≡ true → FailsFrom m e.sender.outgoing

    go : (o : Option Packet) → get e.sender.outgoing m ≡ o
        → ((x : End) → length x.sender.outgoing ≡ ceiling → (time_out_loop k (suc m) x).failed ≡ true → FailsFrom (suc m) x.sender.outgoing)
        → Q (on o (record { failed = false; end = e }) (λ p. time_out_packet m p e))
    go none z rec = λ f. let (j, q, a, b, c, d) = rec e l f in (j, q, omega arith, b, c, d)
    go (some p) z rec =
        by-test Q p.marks.waiting (record { failed = false; end = e })
        (cond (ltb 5 p.marks.transmits) (record { failed = true; end = e }) (record { failed = false; end = lost m p e }))
        (λ v f. let (j, q, a, b, c, d) = rec e l f in (j, q, omega arith, b, c, d))
        (λ v.
        by-test Q (ltb 5 p.marks.transmits) (record { failed = true; end = e }) (record { failed = false; end = lost m p e })
        (λ t f. (m, p, le_refl m, z, v, ltb-true 5 p.marks.transmits t))
        (λ t f.
        let (j, q, a, b, c, d) = rec (lost m p e) (insert_length e.sender.outgoing m (marked lost_marks p) ∙ l) f in
        (j, q, omega arith, before j q a (insert_cases e.sender.outgoing m j (marked lost_marks p) q l b), c, d)))
      where
        before : (j : ℕ) (q : Packet) → suc m ≤ j → ((j ≡ m) × (marked lost_marks p ≡ q)) ⊎ ((j ≢ m) × (get e.sender.outgoing j ≡ some q))
            → get e.sender.outgoing j ≡ some q
        before j q a (inl (d, x)) = absurd (omega arith)
        before j q a (inr (d, x)) = x

-- the same packets are stored, with the same bytes
abbrev SameStored : ℕ → Option Packet → Slots Packet → Type 0
SameStored n none s = get s n ≡ none
SameStored n (some p) s = (q : Packet) × (get s n ≡ some q) × (q.bytes ≡ p.bytes)

module _ (n : ℕ) where
  same_marked : (o : Option Packet) (m : ℕ) (p : Packet) (s : Slots Packet) → length s ≡ ceiling → get s m ≡ some p → SameStored n o s → SameStored n o (insert s m (marked lost_marks p))
  same_marked none m p s l z h = insert_none s m n (marked lost_marks p) l h (λ q. no_some h (ap (get s) q ∙ z))
  same_marked (some r) m p s l z (q, e, b) = by (ℕ_discrete n m)
    where
      by : Dec (n ≡ m) → (x : Packet) × (get (insert s m (marked lost_marks p)) n ≡ some x) × (x.bytes ≡ r.bytes)
      by (yes d) =
          (marked lost_marks p, rw d (insert_same s m (marked lost_marks p) l), ap (λ (x : Packet). x.bytes) (some_inj z (ap (get s) (sym d) ∙ e)) ∙ b)
      by (no d) = (q, insert_other s m n (marked lost_marks p) (λ x. d (one_number s n m q p x e z)) ∙ e, b)

  same_passed : (o : Option Packet) (k m : ℕ) (e : End) → length e.sender.outgoing ≡ ceiling → SameStored n o e.sender.outgoing
      → SameStored n o (time_out_loop k m e).end.sender.outgoing
  unfolding time_out_loop time_out_packet
  same_passed o zero m e l h = h
  same_passed o (suc k) m e l h = go (get e.sender.outgoing m) refl (λ x l h. same_passed o k (suc m) x l h)
    where
      Q : Passed → Type 0
      Q t = SameStored n o (cond t.failed t (time_out_loop k (suc m) t.end)).end.sender.outgoing

      go : (b : Option Packet) → get e.sender.outgoing m ≡ b
          → ((x : End) → length x.sender.outgoing ≡ ceiling → SameStored n o x.sender.outgoing → SameStored n o (time_out_loop k (suc m) x).end.sender.outgoing)
          → Q (on b (record { failed = false; end = e }) (λ p. time_out_packet m p e))
      go none z rec = rec e l h
      go (some p) z rec =
          by-test Q p.marks.waiting (record { failed = false; end = e })
          (cond (ltb 5 p.marks.transmits) (record { failed = true; end = e }) (record { failed = false; end = lost m p e }))
          (λ v. rec e l h)
          (λ v.
          by-test Q (ltb 5 p.marks.transmits) (record { failed = true; end = e }) (record { failed = false; end = lost m p e }) (λ t. h)
          (λ t.
          rec (lost m p e) (insert_length e.sender.outgoing m (marked lost_marks p) ∙ l) (same_marked o m p e.sender.outgoing l z h)))

-- if all packets wait, nothing is in flight
sum_zero : (s : Slots Packet) → ((i : ℕ) (x : Numbered Packet) → get_or s i none ≡ some x → x.value.marks.waiting ≡ true) → sum inflight_of s ≡ 0
sum_zero [] h = refl
sum_zero (none ∷ s) h = sum_zero s (λ i x e. h (suc i) x e)
sum_zero (some x ∷ s) h = rw (h 0 x refl) (let u = sum_zero s (λ i x e. h (suc i) x e) in omega arith)

-- flushing

flush_ending : (k m : ℕ) (e : End) → (flush_loop k m e).ending ≡ e.ending
unfolding flush_loop
flush_ending zero m e = refl
flush_ending (suc k) m e = go (get e.sender.outgoing m) (λ x. flush_ending k (suc m) x)
  where
    Q : End → Type 0
    Q x = x.ending ≡ e.ending

    go : (o : Option Packet) → ((x : End) → (flush_loop k (suc m) x).ending ≡ x.ending)
        → Q (on o (flush_loop k (suc m) e)
        (λ p. cond p.marks.waiting (cond (fits p e.sender) (flush_loop k (suc m) (flushed m p e)) e) (flush_loop k (suc m) e)))
    go none rec = rec e
    go (some p) rec =
        by-test Q p.marks.waiting (cond (fits p e.sender) (flush_loop k (suc m) (flushed m p e)) e) (flush_loop k (suc m) e)
        (λ w. by-test Q (fits p e.sender) (flush_loop k (suc m) (flushed m p e)) e (λ q. rec (flushed m p e)) (λ q. refl))
        (λ w. rec e)

-- flushing removes nothing from the queue
flush_adds : (x : Entry) (k m : ℕ) (e : End) → Memᴰ x e.queue.entries → Memᴰ x (flush_loop k m e).queue.entries
unfolding flush_loop
flush_adds x zero m e h = h
flush_adds x (suc k) m e h = go (get e.sender.outgoing m) (λ y h. flush_adds x k (suc m) y h)
  where
    Q : End → Type 0
    Q y = Memᴰ x y.queue.entries

    go : (o : Option Packet) → ((y : End) → Q y → Q (flush_loop k (suc m) y))
        → Q (on o (flush_loop k (suc m) e)
        (λ p. cond p.marks.waiting (cond (fits p e.sender) (flush_loop k (suc m) (flushed m p e)) e) (flush_loop k (suc m) e)))
    go none rec = rec e h
    go (some p) rec =
        by-test Q p.marks.waiting (cond (fits p e.sender) (flush_loop k (suc m) (flushed m p e)) e) (flush_loop k (suc m) e)
        (λ w.
        by-test Q (fits p e.sender) (flush_loop k (suc m) (flushed m p e)) e
        (λ q. rec (flushed m p e) (Memᴰ.append_left (packet m (length p.bytes) ∷ []) h)) (λ q. h))
        (λ w. rec e h)

fits_now : (p : Packet) (e : End) → e.sender.inflight + length p.bytes ≤ e.sender.cwnd → fits p e.sender ≡ true
unfolding fits
fits_now p e l = le-leb (e.sender.inflight + length p.bytes) e.sender.cwnd l

-- flushing queues the lowest stored number, if it waits and nothing is in flight
queued : (k m : ℕ) (e : End) → Facts e → (n : ℕ) (p : Packet) → m ≤ n → n < m + k → get e.sender.outgoing n ≡ some p → p.marks.waiting ≡ true
    → e.sender.inflight ≡ 0 → ((j : ℕ) → m ≤ j → j < n → get e.sender.outgoing j ≡ none)
    → Memᴰ (packet n (length p.bytes)) (flush_loop k m e).queue.entries
unfolding flush_loop
queued zero m e g n p x y z w i h = absurd (omega arith)
queued (suc k) m e g n p x y z w i h = by (ℕ_discrete m n) (λ l. queued k (suc m) e g n p l (omega arith) z w i (λ j a b. h j (omega arith) b))
  where
    Q : End → Type 0
    Q x = Memᴰ (packet n (length p.bytes)) x.queue.entries

    body : Option Packet → End
    body o =
        on o (flush_loop k (suc m) e)
        (λ p. cond p.marks.waiting (cond (fits p e.sender) (flush_loop k (suc m) (flushed m p e)) e) (flush_loop k (suc m) e))

    room : fits p e.sender ≡ true
    room =
        let s = (slots_look (StoredIn e) e.sender.outgoing n p g.stored z).most in
        let c = g.ranges.window in
        fits_now p e (omega arith)

    at : m ≡ n → Q (body (some p))
    at d =
        subst (λ (b : Bool). Q (cond b (cond (fits p e.sender) (flush_loop k (suc m) (flushed m p e)) e) (flush_loop k (suc m) e))) (sym w)
        (subst (λ (b : Bool). Q (cond b (flush_loop k (suc m) (flushed m p e)) e)) (sym room)
        (flush_adds (packet n (length p.bytes)) k (suc m) (flushed m p e)
        (Memᴰ.append_right e.queue.entries (Memᴰ.head (ap (λ (j : ℕ). packet j (length p.bytes)) (sym d))))))

    by : Dec (m ≡ n) → (suc m ≤ n → Q (flush_loop k (suc m) e)) → Q (body (get e.sender.outgoing m))
    by (yes d) rec = subst (λ (o : Option Packet). Q (body o)) (sym (ap (get e.sender.outgoing) d ∙ z)) (at d)
    by (no d) rec = subst (λ (o : Option Packet). Q (body o)) (sym (h m (le_refl m) (omega arith))) (rec (omega arith))

-- the theorem

slot_get : (s : Slots Packet) (i : ℕ) (x : Numbered Packet) → get_or s i none ≡ some x → x.number % ceiling ≡ i → get s x.number ≡ some x.value
unfolding get
slot_get s i x e z =
    ap (value_of x.number) (ap (λ (j : ℕ). get_or s j none) z ∙ e) ∙ rw (eq-eqb x.number x.number refl) refl

-- a pass that did not fail, then flushing
module _ (clock : ℕ) (s : End) (d : Driving 0 s) (n : ℕ) (p : Packet) (z : get s.sender.outgoing n ≡ some p) (lowest : (m : ℕ) → m < n → get s.sender.outgoing m ≡ none) where
  passed : Passed
  passed = time_out_loop (s.sender.seq - s.sender.remote_acked) s.sender.remote_acked (due_end clock s)

  numbers_stay : (k m : ℕ) (e : End) → ((time_out_loop k m e).end.sender.seq ≡ e.sender.seq) × ((time_out_loop k m e).end.sender.remote_acked ≡ e.sender.remote_acked)
  unfolding time_out_loop time_out_packet
  numbers_stay zero m e = (refl, refl)
  numbers_stay (suc k) m e = go (get e.sender.outgoing m) (λ x. numbers_stay k (suc m) x)
    where
      Q : Passed → Type 0
      Q t =
          let r = cond t.failed t (time_out_loop k (suc m) t.end) in
          (r.end.sender.seq ≡ e.sender.seq) × (r.end.sender.remote_acked ≡ e.sender.remote_acked)

      go : (o : Option Packet) → ((x : End) → ((time_out_loop k (suc m) x).end.sender.seq ≡ x.sender.seq) × ((time_out_loop k (suc m) x).end.sender.remote_acked ≡ x.sender.remote_acked))
          → Q (on o (record { failed = false; end = e }) (λ p. time_out_packet m p e))
      go none rec = rec e
      go (some p) rec =
          by-test Q p.marks.waiting (record { failed = false; end = e })
          (cond (ltb 5 p.marks.transmits) (record { failed = true; end = e }) (record { failed = false; end = lost m p e })) (λ v. rec e)
          (λ v.
          by-test Q (ltb 5 p.marks.transmits) (record { failed = true; end = e }) (record { failed = false; end = lost m p e }) (λ t. (refl, refl))
          (λ t. rec (lost m p e)))

  exhausts : passed.failed ≡ true → Exhausted s.sender.outgoing
  unfolding passed
  exhausts f =
      let (j, q, a, b, c, e) = fails_why (s.sender.seq - s.sender.remote_acked) s.sender.remote_acked (due_end clock s) d.facts.slots f in
      record { number = j; packet = q; stored = b; sent = c; tries = e }

  flushes : passed.failed ≡ false → Memᴰ (packet n (length p.bytes)) (flush passed.end).queue.entries
  unfolding flush passed
  flushes f =
      let x = passed.end in
      let (j, g) = driving_timed (s.sender.seq - s.sender.remote_acked) s.sender.remote_acked (due_end clock s) (driving_due clock s d) in
      let (q, y, b) = same_passed n (some p) (s.sender.seq - s.sender.remote_acked) s.sender.remote_acked (due_end clock s) d.facts.slots (p, z, refl) in
      let (u, v) = numbers_stay (s.sender.seq - s.sender.remote_acked) s.sender.remote_acked (due_end clock s) in
      let l = d.facts.numbers.acked_seq in
      let h = slots_look (StoredIn x) x.sender.outgoing n q g.facts.stored y in
      let lo = h.from in
      let hi = h.below in
      let waits = all_wait s.sender.remote_acked (s.sender.seq - s.sender.remote_acked) s.sender.remote_acked (due_end clock s) d.facts.slots (λ n p x y z. absurd (omega arith)) f in
      let idle : x.sender.inflight ≡ 0 =
      g.facts.sums.inflight
      ∙ sum_zero x.sender.outgoing
      (λ i r w.
      let (a, c) = g.facts.stored i r w in
      let lo = c.from in
      let hi = c.below in
      waits r.number r.value (omega arith) (omega arith) (slot_get x.sender.outgoing i r w a)) in
      subst (λ (k : ℕ). Memᴰ (packet n k) (flush_loop (x.sender.seq - x.sender.remote_acked) x.sender.remote_acked x).queue.entries) (ap length b)
      (queued (x.sender.seq - x.sender.remote_acked) x.sender.remote_acked x g.facts n q lo (omega arith) y (waits n q (omega arith) (omega arith) y) idle
      (λ m a c. same_passed m none (s.sender.seq - s.sender.remote_acked) s.sender.remote_acked (due_end clock s) d.facts.slots (lowest m c)))

pub due_drive : DueDrive
unfolding poll_drive check_timeouts passed flush
due_drive local remote segments open-clock o calls clock ready is_due n p z lowest =
    let e = after calls (fresh local remote segments open-clock) in
    let (clear, is) = polled clock e ready in
    let (y, d) = driving_start clock e (calls_keep calls (fresh local remote segments open-clock) (open_keeps local remote segments open-clock o)) clear in
    let s = settle clock (drive_clock clock e) in
    let g = driving_settle clock (drive_clock clock e) y d in
    subst (λ (x : End). Q x) (sym is) (rw is_due (ends s g (passed clock s g n p z lowest) (exhausts clock s g n p z lowest) (flushes clock s g n p z lowest)))
  where
    Q : End → Type 0
    Q x = ((x.ending.error ≡ Some error.TimedOut) × Exhausted (settle clock (drive_clock clock (after calls (fresh local remote segments open-clock)))).sender.outgoing) ⊎ Memᴰ (packet n (length p.bytes)) x.queue.entries

    ends : (s : End) (g : Driving 0 s) (t : Passed)
        → (t.failed ≡ true → Exhausted (settle clock (drive_clock clock (after calls (fresh local remote segments open-clock)))).sender.outgoing)
        → (t.failed ≡ false → Memᴰ (packet n (length p.bytes)) (flush t.end).queue.entries)
        → Q (left_to_take (flush (time_out_end t)))
    ends s g t w h =
        by-test (λ (x : End). Q (left_to_take (flush x))) t.failed (terminate error.TimedOut t.end) t.end
        (λ f.
        let x = terminate error.TimedOut t.end in
        inl (ap (λ (v : Ending). v.error) (flush_ending (x.sender.seq - x.sender.remote_acked) x.sender.remote_acked x), w f))
        (λ f. inr (h f))
