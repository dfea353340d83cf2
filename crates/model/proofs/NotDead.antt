-- The proof of `NotDead`, for every end. The facts about an accepted call make its tests fail; what a drive keeps queued and stored goes
-- through its loops, with one induction per loop; flushing goes up from the lowest number and stops only at a packet that does not fit.
-- None of it uses the invariant of calls from a fresh stream.
use Prim.Native.Nat.{ℕ, zero, suc, ◌+◌, ◌-◌, ◌%◌, ◌^◌, ◌≤◌, ◌<◌, min}
use native.Mathlib.Decide.{ℕ_discrete}
use native.Mathlib.Omega.{arith}
use mathlib.Core.Path.{◌≡◌, refl, sym, ap, ◌∙◌, subst}
use mathlib.Core.Logic.{◌≢◌, ◌⊎◌, inl, inr}
use mathlib.Core.List.{List, [], ◌∷◌, ◌++◌, append_assoc, append-nil}
use mathlib.Core.Option.{Option, none, some}
use mathlib.Core.Bool.{Bool, true, false, cond, ◌&&◌, ◌||◌, not, true≢false}
use lib.Dec.{ltb, leb}
use borrow.Author.Tests.{le-leb, lt-leb, lt-ltb, le-ltb, eq-eqb, ltb-false, leb-false, not-true, not-false}
use lib.ListN.{length, drop, length-take}
use Rattle.std.specs.Prelude.{Ok}
use Rattle.error.specs.declared.UdxError.TheVariants as error
use Rattle.error.specs.declared.Outcome.TheVariants.{Ready, Done, Nothing}
use Rattle.packet.specs.Header.{fields, has_type}
use Rattle.model.specs.Lists.{Bytes, joined, is_empty, on}
use Rattle.model.specs.Slots.{Slots, ceiling, get}
use Rattle.model.specs.Stream.{Marks, Packet, Entry, state, packet, Sender, End, with_sender}
use Rattle.model.specs.Answers.{Answer, answered}
use Rattle.model.specs.Rules.{rules, states}
use Rattle.model.specs.Sending.{is_set, terminate, count_sent, Written, piece, goes, send_data_packet, write_loop, write_refusal, written, write}
use Rattle.model.specs.Receiving.{handle_remote_ack, ack_number, deliver_refusal, handle_incoming, deliver, read_next, read_answer, read_refusal, read}
use Rattle.model.specs.Driving.{settled, settle_one, settle_loop, settle, due, due_end, marked, flushed_marks, lost_marks, lost, Passed, time_out_packet, time_out_loop, time_out_end, check_timeouts, flushed, fits, flush_loop, flush, any_stored, drained, drive_tests, drive_refusal, drive_clock, ended, left_to_take, poll_drive, drive, entry_length, head_length, same_length, batch, remarked, taken_marks, with_entries, Taken, take_entry, take_loop, take_refusal, take_answer, take}
use Rattle.model.specs.NotDead
use Rattle.model.proofs.Lists.{by-test, joined_append, empty_nil, not_empty}
use Rattle.model.proofs.Slots.{no_some, some_inj, insert_length, insert_cases, remove_length, remove_cases}
use Rattle.model.proofs.SlotSums.{get_slot}
use Rattle.model.proofs.RulesKept.{rules_say}
use Rattle.model.proofs.Gate.{by_gate, gate_open, clear, and_left, and_right, and-true}

-- deliveries

only_if : (a b : Bool) → (a ≡ true → b ≡ false) → (a && b) ≡ false
only_if true b f = f refl
only_if false b f = refl

clock_good : (clock last : ℕ) → clock < 2 ^ 60 → last ≤ clock → (leb (2 ^ 60) clock || ltb clock last) ≡ false
clock_good clock last a b = rw (lt-leb (2 ^ 60) clock a) (le-ltb clock last b)

deliver_clear : (datagram : Bytes) (clock : ℕ) (e : End) → NotDead.Deliverable datagram clock e → deliver_refusal datagram clock e ≡ none
unfolding deliver_refusal
deliver_clear datagram clock e k =
    let h = fields datagram in
    rw (
      k.rules_hold,
      clock_good clock e.clocks.last k.clock_fits k.clock_next,
      k.not_ended,
      k.none_left,
      k.has-header,
      eq-eqb h.stream_id e.ids.local k.to_local,
      le-ltb 1_380 (length (drop 20 datagram)) k.payload_fits,
      le-ltb e.sender.seq h.ack k.ack_fits,
      only_if (has_type 1 h.typ) (leb 4_294_967_295 h.seq) (λ t. lt-leb 4_294_967_295 h.seq (k.seq_fits t)),
      only_if (has_type 1 h.typ) (leb (e.receiver.read_cursor + ceiling) h.seq) (λ t. lt-leb (e.receiver.read_cursor + ceiling) h.seq (k.in_reach t)),
      lt-leb 62 (states e.queue.entries) k.few_states,
    )
    refl

delivers : (datagram : Bytes) (clock : ℕ) (e : End) → NotDead.Deliverable datagram clock e → (deliver datagram clock e).outcome ≡ Ok Ready
unfolding deliver
delivers datagram clock e k =
    ap (λ (a : Answer). a.outcome)
    (gate_open (deliver_refusal datagram clock e) e (answered Ready (handle_incoming clock (fields datagram) (drop 20 datagram) e)) (deliver_clear datagram clock e k))

-- writes

-- one turn of the loop
pub turn : (k : ℕ) (bytes : Bytes) (e : End) → 1 ≤ length bytes → goes (piece bytes) e.sender ≡ true
    → (write_loop (suc k) bytes e).count ≡ length (piece bytes) + (write_loop k (drop 1_380 bytes) (send_data_packet (piece bytes) e)).count
unfolding write_loop
turn k bytes e l g = rw (not_empty bytes l, g) refl

module _ (bytes : Bytes) (e : End) (k : NotDead.Writable bytes e) where
  write_clear : write_refusal bytes e ≡ none
  unfolding write_refusal
  write_clear = rw (k.rules_hold, k.none_left, k.no_error, not_empty bytes k.some_bytes, lt-leb 4_294_967_295 e.sender.seq k.seq_fits) refl

  first_goes : goes (piece bytes) e.sender ≡ true
  unfolding goes
  first_goes =
      let q = length-take 1_380 bytes in
      let a = k.fits_window in
      let b = k.fits_store in
      and-true (le-leb (e.sender.inflight + length (piece bytes)) e.sender.cwnd (omega arith))
      (and-true (lt-ltb (e.sender.seq - e.sender.remote_acked) ceiling (omega arith)) (lt-ltb e.sender.seq 4_294_967_295 k.seq_fits))

  counted : (n : ℕ) → 1 ≤ n → min (length bytes) 1_380 ≤ (write_loop n bytes e).count
  counted zero l = absurd (omega arith)
  counted (suc n) l = let q = length-take 1_380 bytes in let t = turn n bytes e k.some_bytes first_goes in omega arith

  writes : ((write bytes e).outcome ≡ Ok Ready) × (min (length bytes) 1_380 ≤ (write bytes e).count)
  unfolding write
  writes =
      let w = write_loop (length bytes) bytes e in
      let c = counted (length bytes) k.some_bytes in
      let l = k.some_bytes in
      let a = gate_open (write_refusal bytes e) e (written bytes w) write_clear in (
        ap (λ (x : Answer). x.outcome) a ∙ rw (not_empty bytes l, lt-ltb 0 w.count (omega arith)) refl,
        subst (λ (x : Answer). min (length bytes) 1_380 ≤ x.count) (sym a) c,
      )

-- drives

drive_clear : (clock : ℕ) (e : End) → NotDead.Drivable clock e → drive_refusal clock e ≡ none
unfolding drive_refusal
drive_clear clock e k = rw (k.rules_hold, clock_good clock e.clocks.last k.clock_fits k.clock_next, k.not_ended, k.none_left) refl

-- an end whose drive is not refused keeps the rules
driven_rules : (clock : ℕ) (e : End) → drive_refusal clock e ≡ none → rules e ≡ true
unfolding drive_refusal
driven_rules clock e z = not-false (rules e) (clear (drive_tests clock e) z 0)

drives : (clock : ℕ) (e : End) → NotDead.Drivable clock e → ((drive clock e).outcome ≡ Ok Ready) ⊎ ((drive clock e).outcome ≡ Ok Done)
unfolding drive
drives clock e k =
    subst Q (sym (gate_open (drive_refusal clock e) e acts (drive_clear clock e k)))
    (by-test Q (drained e) (answered Done (ended (drive_clock clock e))) (answered Ready (poll_drive clock e)) (λ d. inr refl) (λ d. inl refl))
  where
    acts : Answer
    acts = cond (drained e) (answered Done (ended (drive_clock clock e))) (answered Ready (poll_drive clock e))

    Q : Answer → Type 0
    Q a = (a.outcome ≡ Ok Ready) ⊎ (a.outcome ≡ Ok Done)

-- a drive that answered ok was neither refused nor done
pub polled : (clock : ℕ) (e : End) → (drive clock e).outcome ≡ Ok Ready → (drive_refusal clock e ≡ none) × ((drive clock e).end ≡ poll_drive clock e)
unfolding drive
polled clock e = by_gate Q (drive_refusal clock e) e (cond (drained e) (answered Done (ended (drive_clock clock e))) (answered Ready (poll_drive clock e)))
    (λ why q. absurd (let y : ◌≡◌ {A = ℕ} 0 1 = cc in omega arith))
    (λ z. by-test Q (drained e) (answered Done (ended (drive_clock clock e))) (answered Ready (poll_drive clock e))
    (λ d q. absurd (let y : ◌≡◌ {A = ℕ} 0 1 = cc in omega arith)) (λ d q. (z, refl)))
  where
    Q : Answer → Type 0
    Q a = a.outcome ≡ Ok Ready → (drive_refusal clock e ≡ none) × (a.end ≡ poll_drive clock e)

-- done

none_in : (s : Slots Packet) (k n : ℕ) → any_stored k n s ≡ false → (m : ℕ) → n ≤ m → m < n + k → get s m ≡ none
unfolding any_stored
none_in s zero n z m a b = absurd (omega arith)
none_in s (suc k) n z m a b = go (get s n) refl z (λ y. none_in s k (suc n) y m)
  where
    go : (o : Option Packet) → get s n ≡ o → on o (any_stored k (suc n) s) (λ p. true) ≡ false
        → (any_stored k (suc n) s ≡ false → suc n ≤ m → m < suc n + k → get s m ≡ none) → get s m ≡ none
    go (some p) e z rec = absurd (true≢false z)
    go none e z rec = by (ℕ_discrete n m)
      where
        by : Dec (n ≡ m) → get s m ≡ none
        by (yes d) = ap (get s) (sym d) ∙ e
        by (no d) = rec z (omega arith) (omega arith)

-- stored numbers are from remote acked to below seq
abbrev Ranged : End → Type 0
Ranged e = (n : ℕ) (p : Packet) → get e.sender.outgoing n ≡ some p → (e.sender.remote_acked ≤ n) × (n < e.sender.seq)

ruled_ranged : (e : End) → rules e ≡ true → Ranged e
ruled_ranged e r n p z = let k = (rules_say e r).stored _ _ (get_slot e.sender.outgoing n p z) in (k.from, k.below)

drained_says : (e : End) → rules e ≡ true → drained e ≡ true → NotDead.Drained e
unfolding drained
drained_says e r d =
    let failed = and_left (is_set e.ending.error) _ d in
    let rest = and_right (is_set e.ending.error) _ d in
    let idle = and_left (is_empty e.queue.entries) _ rest in
    let clear = not-true (any_stored count e.sender.remote_acked e.sender.outgoing) (and_right (is_empty e.queue.entries) _ rest) in
    record {
      error_set = λ q. true≢false (sym failed ∙ ap is_set q);
      none_queued = empty_nil e.queue.entries idle;
      none_stored = λ n. go n (get e.sender.outgoing n) refl (none_in e.sender.outgoing count e.sender.remote_acked clear n);
    }
  where
    count : ℕ
    count = e.sender.seq - e.sender.remote_acked

    go : (n : ℕ) (o : Option Packet) → get e.sender.outgoing n ≡ o
        → (e.sender.remote_acked ≤ n → n < e.sender.remote_acked + count → get e.sender.outgoing n ≡ none) → o ≡ none
    go n none z f = refl
    go n (some p) z f = let (a, b) = ruled_ranged e r n p z in absurd (no_some (f a (omega arith)) z)

done_drained : (clock : ℕ) (e : End) → (drive clock e).outcome ≡ Ok Done → NotDead.Drained e
unfolding drive
done_drained clock e = by_gate Q (drive_refusal clock e) e (cond (drained e) (answered Done (ended (drive_clock clock e))) (answered Ready (poll_drive clock e)))
    (λ why q. absurd (let y : ◌≡◌ {A = ℕ} 0 1 = cc in omega arith))
    (λ z. by-test Q (drained e) (answered Done (ended (drive_clock clock e))) (answered Ready (poll_drive clock e))
    (λ d q. drained_says e (driven_rules clock e z) d) (λ d q. absurd (let y : ◌≡◌ {A = ℕ} 0 1 = cc in omega arith)))
  where
    Q : Answer → Type 0
    Q a = a.outcome ≡ Ok Done → NotDead.Drained e

-- takes

none_left : (room : ℕ) (e : End) → (take room e).outcome ≡ Ok Nothing → e.queue.left ≡ 0
unfolding take
none_left room e =
    by_gate Q (take_refusal room e) e (cond (ltb 0 e.queue.left) (take_answer t e) (answered Nothing e))
    (λ why q. absurd (let y : ◌≡◌ {A = ℕ} 0 1 = cc in omega arith))
    (λ z. by-test Q (ltb 0 e.queue.left) (take_answer t e) (answered Nothing e)
    (λ y q. absurd (let y : ◌≡◌ {A = ℕ} 0 1 = cc in omega arith)) (λ y q. let l = ltb-false 0 e.queue.left y in omega arith))
  where
    t : Taken
    t = take_loop (batch e) e.queue.entries e

    Q : Answer → Type 0
    Q a = a.outcome ≡ Ok Nothing → e.queue.left ≡ 0

-- taking entries changes only their packets and the queue
module _ {A : Type 0} (f : End → A) (marked : (n : ℕ) (p : Packet) (e : End) → f (with_sender (remarked n e.sender.inflight (taken_marks e.clocks.drive) p e.sender) e) ≡ f e) (popped : (q : List Entry) (e : End) → f (with_entries q e) ≡ f e) where
  taken_same : (k : ℕ) (q : List Entry) (e : End) → f (take_loop k q e).end ≡ f e
  unfolding take_loop take_entry
  taken_same zero q e = popped q e
  taken_same (suc k) [] e = popped [] e
  taken_same (suc k) (state b ∷ q) e = taken_same k q e
  taken_same (suc k) (packet n l ∷ q) e = taken_same k q (take_entry (packet n l) e).end ∙ at (get e.sender.outgoing n)
    where
      Q : Taken → Type 0
      Q t = f t.end ≡ f e

      at : (o : Option Packet) → Q
          (on o (record { datagrams = []; end = e })
          (λ p. record { datagrams = p.bytes ∷ []; end = with_sender (remarked n e.sender.inflight (taken_marks e.clocks.drive) p e.sender) e }))
      at none = refl
      at (some p) = marked n p e

entry_bytes : (x : Entry) (e : End) → joined (take_entry x e).datagrams ≡ NotDead.bytes_of e.sender.outgoing x
unfolding take_entry
entry_bytes (state b) e = append-nil b
entry_bytes (packet n l) e = go (get e.sender.outgoing n)
  where
    go : (o : Option Packet) → joined (on {B = Taken} o (record { datagrams = []; end = e })
        (λ p. record { datagrams = p.bytes ∷ []; end = with_sender (remarked n e.sender.inflight (taken_marks e.clocks.drive) p e.sender) e })).datagrams
        ≡ on o [] (λ p. p.bytes)
    go none = refl
    go (some p) = append-nil p.bytes

first_bytes : (k : ℕ) (x : Entry) (q : List Entry) (e : End) → 1 ≤ k
    → (rest : Bytes) × (joined (take_loop k (x ∷ q) e).datagrams ≡ NotDead.bytes_of e.sender.outgoing x ++ rest)
unfolding take_loop
first_bytes zero x q e l = absurd (omega arith)
first_bytes (suc k) x q e l =
    let t = take_entry x e in
    let r = take_loop k q t.end in
    (joined r.datagrams, joined_append t.datagrams r.datagrams ∙ ap (λ (z : Bytes). z ++ joined r.datagrams) (entry_bytes x e))

same_some : (k : ℕ) (x : Entry) (q : List Entry) → 1 ≤ k → 1 ≤ same_length k (entry_length x) (x ∷ q)
unfolding same_length
same_some zero x q l = absurd (omega arith)
same_some (suc k) x q l = rw (eq-eqb (entry_length x) (entry_length x) refl) (omega arith)

module _ (room : ℕ) (e : End) (k : NotDead.Takeable room e) where
  take_clear : take_refusal room e ≡ none
  unfolding take_refusal
  take_clear = rw (k.rules_hold, le-ltb room 14_000 k.room_fits) refl

  taken : Taken
  taken = take_loop (batch e) e.queue.entries e

  take_is : take room e ≡ take_answer taken e
  unfolding take taken
  take_is = gate_open (take_refusal room e) e _ take_clear ∙ rw (lt-ltb 0 e.queue.left k.some_left) refl

  some_batch : 1 ≤ batch e
  unfolding batch
  some_batch =
      let s = (rules_say e k.rules_hold).segments_least in
      let l = k.some_left in
      let w = ((rules_say e k.rules_hold).to_take (λ z. omega arith)).whole in
      go e.queue.entries w (min e.ids.segments e.queue.left) (omega arith)
    where
      go : (q : List Entry) → e.queue.left ≡ length q → (n : ℕ) → 1 ≤ n → 1 ≤ same_length n (head_length q) q
      go [] w n l = let a = k.some_left in absurd (omega arith)
      go (x ∷ q) w n l = same_some n x q l

  takes : ((take room e).outcome ≡ Ok Ready) × ((take room e).end.queue.left < e.queue.left)
  unfolding taken
  takes = (
    ap (λ (a : Answer). a.outcome) take_is,
    subst (λ (a : Answer). a.end.queue.left < e.queue.left) (sym take_is)
        (let u = taken_same (λ x. x.queue.left) (λ n p x. refl) (λ q x. refl) (batch e) e.queue.entries e in let l = k.some_left in let b = some_batch in omega arith),
  )

  takes_first : (x : Entry) (q : List Entry) → e.queue.entries ≡ x ∷ q
      → (rest : Bytes) × ((take room e).bytes ≡ NotDead.bytes_of e.sender.outgoing x ++ rest)
  unfolding taken
  takes_first x q z =
      let (rest, r) = first_bytes (batch e) x q e some_batch in
      (rest, ap (λ (a : Answer). a.bytes) take_is ∙ ap (λ (y : List Entry). joined (take_loop (batch e) y e).datagrams) z ∙ r)

-- the loops of a drive

module _ (Q : End → Type 0) where
  by_settled : (clock : ℕ) → ((x : End) → Q x → Q (settle_one clock x)) → (k : ℕ) (e : End) → Q e → Q (settle_loop clock k e)
  unfolding settle_loop
  by_settled clock one zero e h = h
  by_settled clock one (suc k) e h = by_settled clock one k (settle_one clock e) (one e h)

  by_passed : ((n : ℕ) (p : Packet) (x : End) → get x.sender.outgoing n ≡ some p → Q x → Q (lost n p x)) → (k n : ℕ) (e : End) → Q e
      → Q (time_out_loop k n e).end
  unfolding time_out_loop time_out_packet
  by_passed one zero n e h = h
  by_passed one (suc k) n e h = go (get e.sender.outgoing n) refl (λ x h. by_passed one k (suc n) x h)
    where
      P : Passed → Type 0
      P t = Q (cond t.failed t (time_out_loop k (suc n) t.end)).end

      go : (o : Option Packet) → get e.sender.outgoing n ≡ o → ((x : End) → Q x → Q (time_out_loop k (suc n) x).end)
          → P (on o (record { failed = false; end = e }) (λ p. time_out_packet n p e))
      go none z rec = rec e h
      go (some p) z rec =
          by-test P p.marks.waiting (record { failed = false; end = e })
          (cond (ltb 5 p.marks.transmits) (record { failed = true; end = e }) (record { failed = false; end = lost n p e })) (λ w. rec e h)
          (λ w.
          by-test P (ltb 5 p.marks.transmits) (record { failed = true; end = e }) (record { failed = false; end = lost n p e }) (λ t. h)
          (λ t. rec (lost n p e) (one n p e z h)))

  by_flushed : ((n : ℕ) (p : Packet) (x : End) → get x.sender.outgoing n ≡ some p → Q x → Q (flushed n p x)) → (k n : ℕ) (e : End) → Q e → Q (flush_loop k n e)
  unfolding flush_loop
  by_flushed one zero n e h = h
  by_flushed one (suc k) n e h = go (get e.sender.outgoing n) refl (λ x h. by_flushed one k (suc n) x h)
    where
      go : (o : Option Packet) → get e.sender.outgoing n ≡ o → ((x : End) → Q x → Q (flush_loop k (suc n) x))
          → Q (on o (flush_loop k (suc n) e)
          (λ p. cond p.marks.waiting (cond (fits p e.sender) (flush_loop k (suc n) (flushed n p e)) e) (flush_loop k (suc n) e)))
      go none z rec = rec e h
      go (some p) z rec =
          by-test Q p.marks.waiting (cond (fits p e.sender) (flush_loop k (suc n) (flushed n p e)) e) (flush_loop k (suc n) e)
          (λ w. by-test Q (fits p e.sender) (flush_loop k (suc n) (flushed n p e)) e (λ f. rec (flushed n p e) (one n p e z h)) (λ f. h))
          (λ w. rec e h)

-- what was queued stays queued

abbrev Begins : List Entry → End → Type 0
Begins q e = (more : List Entry) × (e.queue.entries ≡ q ++ more)

one_more : (q : List Entry) (x : Entry) (entries : List Entry) → ((more : List Entry) × (entries ≡ q ++ more)) → (more : List Entry) × (entries ++ (x ∷ []) ≡ q ++ more)
one_more q x entries (more, z) = (more ++ (x ∷ []), ap (λ (r : List Entry). r ++ (x ∷ [])) z ∙ append_assoc q more (x ∷ []))

begins_settled : (q : List Entry) (clock : ℕ) (e : End) → Begins q e → Begins q (settle_one clock e)
unfolding ack_number
begins_settled q clock e h = go (get e.sender.outgoing e.sender.remote_acked)
  where
    go : (o : Option Packet) → Begins q (on o e (λ p. handle_remote_ack clock e.sender.remote_acked p e))
    go none = h
    go (some p) = h

begins_timeouts : (q : List Entry) (clock : ℕ) (e : End) → Begins q e → Begins q (check_timeouts clock e)
unfolding check_timeouts
begins_timeouts q clock e h =
    let t = time_out_loop (e.sender.seq - e.sender.remote_acked) e.sender.remote_acked (due_end clock e) in
    let b = by_passed (Begins q) (λ n p x z h. h) (e.sender.seq - e.sender.remote_acked) e.sender.remote_acked (due_end clock e) h in
    by-test (Begins q) (due clock e) (time_out_end t) e
    (λ d. by-test (Begins q) t.failed (terminate error.TimedOut t.end) t.end (λ f. one_more q _ t.end.queue.entries b) (λ f. b))
    (λ d. h)

begins_polled : (clock : ℕ) (e : End) → Begins e.queue.entries (poll_drive clock e)
unfolding poll_drive settle flush
begins_polled clock e =
    let q = e.queue.entries in
    let t = check_timeouts clock (settle clock (drive_clock clock e)) in
    by_flushed (Begins q) (λ n p x z h. one_more q _ x.queue.entries h) (t.sender.seq - t.sender.remote_acked) t.sender.remote_acked t
    (begins_timeouts q clock (settle clock (drive_clock clock e))
    (by_settled (Begins q) clock (begins_settled q clock) (e.sender.largest_ack - e.sender.remote_acked) (drive_clock clock e) ([], sym (append-nil q))))

still_queued : (clock : ℕ) (e : End) → (drive clock e).outcome ≡ Ok Ready → (more : List Entry) × ((drive clock e).end.queue.entries ≡ e.queue.entries ++ more)
still_queued clock e z = subst (Begins e.queue.entries) (sym (polled clock e z).1) (begins_polled clock e)

all_left : (clock : ℕ) (e : End) → (drive clock e).outcome ≡ Ok Ready → (drive clock e).end.queue.left ≡ length (drive clock e).end.queue.entries
unfolding poll_drive
all_left clock e z = subst (λ (x : End). x.queue.left ≡ length x.queue.entries) (sym (polled clock e z).1) refl

-- waiting packets

-- a full store whose numbers are in range, with this seq
abbrev InRange : ℕ → End → Type 0
InRange seq e = record { slots : length e.sender.outgoing ≡ ceiling; seq-is : e.sender.seq ≡ seq; ranged : Ranged e }

within_settled : (seq clock : ℕ) (e : End) → InRange seq e → InRange seq (settle_one clock e)
unfolding ack_number
within_settled seq clock e h = go (get e.sender.outgoing acked) refl
  where
    acked : ℕ
    acked = e.sender.remote_acked

    Q : End → Type 0
    Q x = InRange seq (with_sender (settled x.sender) x)

    go : (o : Option Packet) → get e.sender.outgoing acked ≡ o → Q (on o e (λ p. handle_remote_ack clock acked p e))
    go none z =
        record {
          slots = h.slots;
          seq-is = h.seq-is;
          ranged = λ n p g. let (a, b) = h.ranged n p g in (next n p g (ℕ_discrete n acked) a, b);
        }
      where
        next : (n : ℕ) (p : Packet) → get e.sender.outgoing n ≡ some p → Dec (n ≡ acked) → acked ≤ n → acked < n
        next n p g (yes d) a = absurd (no_some z (ap (get e.sender.outgoing) (sym d) ∙ g))
        next n p g (no d) a = omega arith
    go (some q) z =
        record {
          slots = remove_length e.sender.outgoing acked ∙ h.slots;
          seq-is = h.seq-is;
          ranged = λ n p g.
              let (d, g') = remove_cases e.sender.outgoing acked n p h.slots g in
              let (a, b) = h.ranged n p g' in
              (omega arith, b);
        }

-- a stored packet gets other marks
within_marked : (seq : ℕ) (f : Marks → Marks) (n inflight : ℕ) (p : Packet) (e : End) → get e.sender.outgoing n ≡ some p → InRange seq e
    → InRange seq (with_sender (remarked n inflight f p e.sender) e)
within_marked seq f n inflight p e z h =
    record {
      slots = insert_length e.sender.outgoing n (marked f p) ∙ h.slots;
      seq-is = h.seq-is;
      ranged = λ m q g. go m q (insert_cases e.sender.outgoing n m (marked f p) q h.slots g);
    }
  where
    go : (m : ℕ) (q : Packet) → ((m ≡ n) × (marked f p ≡ q)) ⊎ ((m ≢ n) × (get e.sender.outgoing m ≡ some q)) → (e.sender.remote_acked ≤ m) × (m < e.sender.seq)
    go m q (inl (d, y)) = let (a, b) = h.ranged n p z in (omega arith, omega arith)
    go m q (inr (d, y)) = h.ranged m q y

within_timeouts : (seq clock : ℕ) (e : End) → InRange seq e → InRange seq (check_timeouts clock e)
unfolding check_timeouts
within_timeouts seq clock e h =
    let t = time_out_loop (e.sender.seq - e.sender.remote_acked) e.sender.remote_acked (due_end clock e) in
    let b = by_passed (InRange seq) (λ n p x z h. within_marked seq lost_marks n (x.sender.inflight - length p.bytes) p x z h) (e.sender.seq - e.sender.remote_acked) e.sender.remote_acked (due_end clock e) h in
    by-test (InRange seq) (due clock e) (time_out_end t) e (λ d. by-test (InRange seq) t.failed (terminate error.TimedOut t.end) t.end (λ f. b) (λ f. b)) (λ d. h)

-- no packet below m waits
abbrev WaitsFrom : ℕ → End → Type 0
WaitsFrom m e = (n : ℕ) (p : Packet) → get e.sender.outgoing n ≡ some p → p.marks.waiting ≡ true → m ≤ n

-- one number further, if the packet at m does not wait
from_next : (m : ℕ) (s : Slots Packet) → ((n : ℕ) (p : Packet) → get s n ≡ some p → p.marks.waiting ≡ true → m ≤ n)
    → ((p : Packet) → get s m ≡ some p → p.marks.waiting ≡ true → ⊥) → (n : ℕ) (p : Packet) → get s n ≡ some p → p.marks.waiting ≡ true → suc m ≤ n
from_next m s h no-wait n p g w = go (ℕ_discrete n m) (h n p g w)
  where
    go : Dec (n ≡ m) → m ≤ n → suc m ≤ n
    go (yes d) l = absurd (no-wait p (ap (get s) (sym d) ∙ g) w)
    go (no d) l = omega arith

no_fit : (p : Packet) (s : Sender) → fits p s ≡ false → s.cwnd < s.inflight + length p.bytes
unfolding fits
no_fit p s f = leb-false (s.inflight + length p.bytes) s.cwnd f

-- flushing reaches its end, or stops because the window has no room
flush_stops : (k m : ℕ) (e : End) → length e.sender.outgoing ≡ ceiling → WaitsFrom m e → WaitsFrom (m + k) (flush_loop k m e) ⊎ NotDead.NoRoom (flush_loop k m e)
unfolding flush_loop
flush_stops zero m e l h = inl (λ n p g w. let a = h n p g w in omega arith)
flush_stops (suc k) m e l h = go (get e.sender.outgoing m) refl (λ x l h. shift (flush_stops k (suc m) x l h))
  where
    Q : End → Type 0
    Q x = WaitsFrom (m + suc k) x ⊎ NotDead.NoRoom x

    shift : {x : End} → WaitsFrom (suc m + k) x ⊎ NotDead.NoRoom x → Q x
    shift (inl f) = inl (λ n p g w. let a = f n p g w in omega arith)
    shift (inr r) = inr r

    go : (o : Option Packet) → get e.sender.outgoing m ≡ o
        → ((x : End) → length x.sender.outgoing ≡ ceiling → WaitsFrom (suc m) x → Q (flush_loop k (suc m) x))
        → Q (on o (flush_loop k (suc m) e)
        (λ p. cond p.marks.waiting (cond (fits p e.sender) (flush_loop k (suc m) (flushed m p e)) e) (flush_loop k (suc m) e)))
    go none z rec = rec e l (from_next m e.sender.outgoing h (λ p g w. no_some z g))
    go (some p) z rec =
        by-test Q p.marks.waiting (cond (fits p e.sender) (flush_loop k (suc m) (flushed m p e)) e) (flush_loop k (suc m) e)
        (λ w.
        by-test Q (fits p e.sender) (flush_loop k (suc m) (flushed m p e)) e
        (λ f. rec (flushed m p e) (insert_length e.sender.outgoing m (marked flushed_marks p) ∙ l) after)
        (λ f. inr (record { number = m; packet = p; stored = z; waits = w; lowest = h; too_long = no_fit p e.sender f })))
        (λ w. rec e l (from_next m e.sender.outgoing h (λ q g v. true≢false (sym v ∙ ap (λ (x : Packet). x.marks.waiting) (some_inj g z) ∙ w))))
      where
        after : WaitsFrom (suc m) (flushed m p e)
        after n q g v = by (insert_cases e.sender.outgoing m n (marked flushed_marks p) q l g)
          where
            by : ((n ≡ m) × (marked flushed_marks p ≡ q)) ⊎ ((n ≢ m) × (get e.sender.outgoing n ≡ some q)) → suc m ≤ n
            by (inl (d, x)) = absurd (true≢false (sym v ∙ ap (λ (y : Packet). y.marks.waiting) (sym x)))
            by (inr (d, x)) = let a = h n q x v in omega arith

flush_waits : (seq : ℕ) (e : End) → InRange seq e → (n : ℕ) (p : Packet) → get (flush e).sender.outgoing n ≡ some p → p.marks.waiting ≡ true → NotDead.NoRoom (flush e)
unfolding flush
flush_waits seq e h n p g w = go (flush_stops count e.sender.remote_acked e h.slots (λ n p g w. (h.ranged n p g).0))
  where
    count : ℕ
    count = e.sender.seq - e.sender.remote_acked

    go : WaitsFrom (e.sender.remote_acked + count) (flush_loop count e.sender.remote_acked e) ⊎ NotDead.NoRoom (flush_loop count e.sender.remote_acked e)
        → NotDead.NoRoom (flush_loop count e.sender.remote_acked e)
    go (inr r) = r
    go (inl f) =
        let y = by_flushed (InRange seq) (λ n p x z h. within_marked seq flushed_marks n (x.sender.inflight + length p.bytes) p x z h) count e.sender.remote_acked e h in
        let (a, b) = y.ranged n p g in
        let c = f n p g w in
        let d = y.seq-is in
        let d' = h.seq-is in
        absurd (omega arith)

waits_for_room : (clock : ℕ) (e : End) → length e.sender.outgoing ≡ ceiling → (drive clock e).outcome ≡ Ok Ready → (n : ℕ) (p : Packet)
    → get (drive clock e).end.sender.outgoing n ≡ some p → p.marks.waiting ≡ true → NotDead.NoRoom (drive clock e).end
unfolding poll_drive settle
waits_for_room clock e l z =
    let (clear, is) = polled clock e z in
    subst (λ (x : End). (n : ℕ) (p : Packet) → get x.sender.outgoing n ≡ some p → p.marks.waiting ≡ true → NotDead.NoRoom x) (sym is)
    (λ n p g w.
    left-to-take (flush_waits e.sender.seq (check_timeouts clock (settle clock (drive_clock clock e)))
    (within_timeouts e.sender.seq clock (settle clock (drive_clock clock e))
    (by_settled (InRange e.sender.seq) clock (within_settled e.sender.seq clock) (e.sender.largest_ack - e.sender.remote_acked) (drive_clock clock e)
    (record { slots = l; seq-is = refl; ranged = ruled_ranged e (driven_rules clock e clear) })))
    n p g w))
  where
    left-to-take : {x : End} → NotDead.NoRoom x → NotDead.NoRoom (left_to_take x)
    left-to-take r =
        record { number = r.number; packet = r.packet; stored = r.stored; waits = r.waits; lowest = r.lowest; too_long = r.too_long }

-- totals

wrapped : (t a b : ℕ) → ((t + a) % 2 ^ 64 + b) % 2 ^ 64 ≡ (t + (a + b)) % 2 ^ 64
wrapped t a b = omega arith

counted_none : (e : End) → NotDead.Counted 0 e e
counted_none e =
    record {
      pieces = 0;
      numbered = omega arith;
      inflight = omega arith;
      inflight-packets = omega arith;
      inflight-bytes = omega arith;
      tx-packets = omega arith;
      tx-bytes = omega arith;
      rx-packets = refl;
      rx-bytes = refl;
    }

-- one more piece in front
counted_one : (p : Bytes) (count : ℕ) (e x : End) → NotDead.Counted count (send_data_packet p e) x → NotDead.Counted (length p + count) e x
unfolding count_sent
counted_one p count e x c =
    let a = c.numbered in
    let b = c.inflight in
    let d = c.inflight-packets in
    let f = c.inflight-bytes in
    record {
      pieces = suc c.pieces;
      numbered = omega arith;
      inflight = omega arith;
      inflight-packets = omega arith;
      inflight-bytes = omega arith;
      tx-packets = c.tx-packets ∙ wrapped e.totals.tx_packets 1 c.pieces ∙ ap (λ (n : ℕ). (e.totals.tx_packets + n) % 2 ^ 64) (omega arith);
      tx-bytes = c.tx-bytes ∙ wrapped e.totals.tx_bytes (length p) count;
      rx-packets = c.rx-packets;
      rx-bytes = c.rx-bytes;
    }

counted_loop : (k : ℕ) (bytes : Bytes) (e : End) → NotDead.Counted (write_loop k bytes e).count e (write_loop k bytes e).end
unfolding write_loop
counted_loop zero bytes e = counted_none e
counted_loop (suc k) bytes e =
    let w = write_loop k (drop 1_380 bytes) (send_data_packet (piece bytes) e) in
    by-test (λ (x : Written). NotDead.Counted x.count e x.end) (not (is_empty bytes) && goes (piece bytes) e.sender)
    (record { count = length (piece bytes) + w.count; end = w.end }) (record { count = 0; end = e })
    (λ q. counted_one (piece bytes) w.count e w.end (counted_loop k (drop 1_380 bytes) (send_data_packet (piece bytes) e))) (λ q. counted_none e)

writes_counted : (bytes : Bytes) (e : End) → NotDead.Counted (write bytes e).count e (write bytes e).end
unfolding write
writes_counted bytes e =
    by_gate (λ (a : Answer). NotDead.Counted a.count e a.end) (write_refusal bytes e) e (written bytes (write_loop (length bytes) bytes e)) (λ why. counted_none e)
    (λ z. counted_loop (length bytes) bytes e)

abbrev SameCounts : End → End → Type 0
SameCounts e x = (x.totals ≡ e.totals) × (x.sender.inflight ≡ e.sender.inflight)

takes_counted : (room : ℕ) (e : End) → SameCounts e (take room e).end
unfolding take
takes_counted room e =
    let t = take_loop (batch e) e.queue.entries e in
    by_gate (λ (a : Answer). SameCounts e a.end) (take_refusal room e) e (cond (ltb 0 e.queue.left) (take_answer t e) (answered Nothing e)) (λ why. (refl, refl))
    (λ z.
    by-test (λ (a : Answer). SameCounts e a.end) (ltb 0 e.queue.left) (take_answer t e) (answered Nothing e)
    (λ y. (
      taken_same (λ x. x.totals) (λ n p x. refl) (λ q x. refl) (batch e) e.queue.entries e,
      taken_same (λ x. x.sender.inflight) (λ n p x. refl) (λ q x. refl) (batch e) e.queue.entries e,
    )) (λ y. (refl, refl)))

reads_counted : (room : ℕ) (e : End) → ((read room e).end.totals ≡ e.totals) × ((read room e).end.sender ≡ e.sender)
unfolding read
reads_counted room e =
    by_gate (λ (a : Answer). (a.end.totals ≡ e.totals) × (a.end.sender ≡ e.sender)) (read_refusal e) e (read_answer (read_next room e.receiver) e)
    (λ why. (refl, refl)) (λ z. (refl, refl))

pub not_dead : NotDead.NotDead
not_dead =
    record {
      delivers = delivers;
      writes = writes;
      drives = drives;
      done_drained = done_drained;
      none_left = none_left;
      takes = takes;
      takes_first = takes_first;
      all_left = all_left;
      still_queued = still_queued;
      waits_for_room = waits_for_room;
      writes_counted = writes_counted;
      takes_counted = takes_counted;
      reads_counted = reads_counted;
    }
