-- The test of the rules and the rules as facts are equivalent (`rules_say`, `rules_said`), part by part: each line of the test is an
-- inequality or an equation of numbers. Then bounds that follow: the bytes of a full store, and the length of a queue at rest.
use Prim.Native.Nat.{ℕ, zero, suc, ◌+◌, ◌*◌, ◌%◌, ◌≤◌, ◌<◌, zero-le}
use native.Mathlib.Nat.{add-suc}
use native.Mathlib.Decide.{ℕ_discrete}
use native.Mathlib.Omega.{arith}
use mathlib.Core.Path.{◌≡◌, refl, ap, ◌∙◌, subst}
use mathlib.Core.List.{List, [], ◌∷◌}
use mathlib.Core.Option.{Option, none, some}
use mathlib.Core.Bool.{Bool, true, false, cond, ◌&&◌, not}
use lib.Dec.{ltb, leb, eqb}
use borrow.Author.Tests.{le-leb, lt-ltb, eq-eqb, ne_eqb, leb-true, ltb-true, eqb-true, eqb-false, not-true}
use lib.ListN.{length, get_or}
use Rattle.model.specs.Lists.{on}
use Rattle.model.specs.Slots.{Slots, Numbered, ceiling, get}
use Rattle.model.specs.Stream.{Packet, Held, Entry, state, packet, Sender, Queue, End}
use Rattle.model.specs.Rules
use Rattle.model.specs.RulesKept.{StoredKept, HeldKept, Every, EntryKept, RestKept, ToTakeKept, KeepsRules}
use Rattle.model.proofs.Slots.{no_some, some_inj}
use Rattle.model.proofs.SlotSums.{every-slot}
use Rattle.model.proofs.SlotNumbers.{slot_passes}
use Rattle.model.proofs.Gate.{and_left, and_right, and-true}

-- a chain of tests

-- the parts of `a && b`
both : {a b : Bool} → (a && b) ≡ true → (a ≡ true) × (b ≡ true)
both {a} {b} h = (and_left a b h, and_right a b h)

every_says : {A : Type 0} (f : A → Bool) (P : A → Type 0) → ((x : A) → f x ≡ true → P x) → (xs : List A) → Rules.every f xs ≡ true → Every P xs
every_says f P g [] h = tt
every_says f P g (x ∷ xs) h = let (a, b) = both h in (g x a, every_says f P g xs b)

every_said : {A : Type 0} (f : A → Bool) (P : A → Type 0) → ((x : A) → P x → f x ≡ true) → (xs : List A) → Every P xs → Rules.every f xs ≡ true
every_said f P g [] h = refl
every_said f P g (x ∷ xs) h = and-true (g x h.0) (every_said f P g xs h.1)

-- one stored packet, one held packet, one entry

time_says : (clock : ℕ) (o : Option ℕ) → on o true (λ t. leb t clock) ≡ true → (t : ℕ) → o ≡ some t → t ≤ clock
time_says clock none h t e = absurd (no_some refl e)
time_says clock (some s) h t e = subst (λ (x : ℕ). x ≤ clock) (some_inj refl e) (leb-true s clock h)

time_said : (clock : ℕ) (o : Option ℕ) → ((t : ℕ) → o ≡ some t → t ≤ clock) → on o true (λ t. leb t clock) ≡ true
time_said clock none h = refl
time_said clock (some s) h = le-leb s clock (h s refl)

stored_says : (e : End) (i n : ℕ) (p : Packet) → Rules.stored_test e i n p ≡ true → StoredKept e.sender.remote_acked e.sender.seq e.clocks.last i n p
stored_says e i n p h =
    let (a, h₁) = both h in
    let (b, h₂) = both h₁ in
    let (c, h₃) = both h₂ in
    let (d, h₄) = both h₃ in
    let (f, h₅) = both h₄ in
    let (g, k) = both h₅ in
    record {
      in-slot = eqb-true _ _ a;
      from = leb-true _ _ b;
      below = ltb-true _ _ c;
      least = leb-true _ _ d;
      most = leb-true _ _ f;
      transmits = leb-true _ _ g;
      sent = time_says e.clocks.last p.marks.sent k;
    }

stored_said : (e : End) (i n : ℕ) (p : Packet) → StoredKept e.sender.remote_acked e.sender.seq e.clocks.last i n p → Rules.stored_test e i n p ≡ true
stored_said e i n p k =
    and-true (eq-eqb _ _ k.in-slot)
    (and-true (le-leb _ _ k.from)
    (and-true (lt-ltb _ _ k.below)
    (and-true (le-leb _ _ k.least)
    (and-true (le-leb _ _ k.most) (and-true (le-leb _ _ k.transmits) (time_said e.clocks.last p.marks.sent k.sent))))))

held_says : (cursor i n : ℕ) (size offset : ℕ) → Rules.held_rule cursor i n size offset ≡ true
    → (n % ceiling ≡ i) × (cursor ≤ n) × (n < cursor + ceiling) × (n < 4_294_967_295) × (size ≤ 1_380) × (offset ≤ size)
held_says cursor i n l o h =
    let (a, h₁) = both h in
    let (b, h₂) = both h₁ in
    let (c, h₃) = both h₂ in
    let (d, h₄) = both h₃ in
    let (f, g) = both h₄ in
    (eqb-true _ _ a, leb-true _ _ b, ltb-true _ _ c, ltb-true _ _ d, leb-true _ _ f, leb-true _ _ g)

held_said : (cursor i n : ℕ) (h : Held) → HeldKept cursor i n h → Rules.held_rule cursor i n (length h.payload) h.offset ≡ true
held_said cursor i n h k =
    and-true (eq-eqb _ _ k.in-slot)
    (and-true (le-leb _ _ k.from)
    (and-true (lt-ltb _ _ k.below) (and-true (lt-ltb _ _ k.fits) (and-true (le-leb _ _ k.most) (le-leb _ _ k.offset)))))

length_says : (l : ℕ) (o : Option Packet) → on o true (λ p. eqb l (length p.bytes)) ≡ true → (p : Packet) → o ≡ some p → l ≡ length p.bytes
length_says l none h p e = absurd (no_some refl e)
length_says l (some q) h p e = eqb-true l (length q.bytes) h ∙ ap (λ (x : Packet). length x.bytes) (some_inj refl e)

length_said : (l : ℕ) (o : Option Packet) → ((p : Packet) → o ≡ some p → l ≡ length p.bytes) → on o true (λ p. eqb l (length p.bytes)) ≡ true
length_said l none h = refl
length_said l (some q) h = eq-eqb l (length q.bytes) (h q refl)

entry_says : (outgoing : Slots Packet) (x : Entry) → Rules.entry_test outgoing x ≡ true → EntryKept outgoing x
entry_says outgoing (state b) h = eqb-true (length b) 20 h
entry_says outgoing (packet n l) h =
    let (a, h₁) = both h in
    let (b, c) = both h₁ in
    (leb-true _ _ a, leb-true _ _ b, length_says l (get outgoing n) c)

entry_said : (outgoing : Slots Packet) (x : Entry) → EntryKept outgoing x → Rules.entry_test outgoing x ≡ true
entry_said outgoing (state b) h = eq-eqb (length b) 20 h
entry_said outgoing (packet n l) h = and-true (le-leb _ _ h.0) (and-true (le-leb _ _ h.1) (length_said l (get outgoing n) h.2))

-- the queue

rest_says : (s : Sender) (q : List Entry) → Rules.queue_at_rest s q ≡ true → RestKept s q
rest_says s q h =
    let (a, h₁) = both h in
    let (b, c) = both h₁ in
    record {
      once = a;
      known =
          every_says (λ n. leb s.remote_acked n && ltb n s.seq) (λ n. (s.remote_acked ≤ n) × (n < s.seq))
          (λ n t. let (u, v) = both t in (leb-true _ _ u, ltb-true _ _ v)) (Rules.numbers q) b;
      states = leb-true _ _ c;
    }

rest_said : (s : Sender) (q : List Entry) → RestKept s q → Rules.queue_at_rest s q ≡ true
rest_said s q k =
    and-true k.once
    (and-true
    (every_said (λ n. leb s.remote_acked n && ltb n s.seq) (λ n. (s.remote_acked ≤ n) × (n < s.seq))
    (λ n t. and-true (le-leb _ _ t.0) (lt-ltb _ _ t.1)) (Rules.numbers q) k.known)
    (le-leb _ _ k.states))

take_says : (q : Queue) → Rules.queue_to_take q ≡ true → ToTakeKept q
take_says q h =
    let (a, h₁) = both h in
    let (b, c) = both h₁ in
    record { whole = eqb-true _ _ a; states = leb-true _ _ b; packets = leb-true _ _ c }

take_said : (q : Queue) → ToTakeKept q → Rules.queue_to_take q ≡ true
take_said q k = and-true (eq-eqb _ _ k.whole) (and-true (le-leb _ _ k.states) (le-leb _ _ k.packets))

queue_says : (s : Sender) (q : Queue) → Rules.queue_test s q ≡ true → (q.left ≡ 0 → RestKept s q.entries) × ((q.left ≡ 0 → ⊥) → ToTakeKept q)
queue_says s q h =
    ((λ z. rest_says s q.entries (rw (eq-eqb q.left 0 z) at h)), (λ z. take_says q (rw (ne_eqb q.left 0 z) at h)))

queue_said : (s : Sender) (q : Queue) → (q.left ≡ 0 → RestKept s q.entries) → ((q.left ≡ 0 → ⊥) → ToTakeKept q) → Rules.queue_test s q ≡ true
queue_said s q f g = go (ℕ_discrete q.left 0)
  where
    go : Dec (q.left ≡ 0) → Rules.queue_test s q ≡ true
    go (yes z) = rw (eq-eqb q.left 0 z) (rest_said s q.entries (f z))
    go (no z) = rw (ne_eqb q.left 0 z) (take_said q (g z))

-- all of them

pub rules_say : (e : End) → Rules.rules e ≡ true → KeepsRules e
unfolding Rules.rules
rules_say e h =
    let (senders, h₁) = both h in
    let (receivers, h₂) = both h₁ in
    let (stores, h₃) = both h₂ in
    let (helds, h₄) = both h₃ in
    let (sums, h₅) = both h₄ in
    let (spans, h₆) = both h₅ in
    let (clocks, h₇) = both h₆ in
    let (window, h₈) = both h₇ in
    let (segments, h₉) = both h₈ in
    let (entries, queue) = both h₉ in
    let (s₁, s₂) = both senders in
    let (s₃, s₄) = both s₂ in
    let (r₁, r₂) = both receivers in
    let (i₁, i₂) = both sums in
    let (i₃, i₄) = both i₂ in
    let (t₁, t₂) = both spans in
    let (t₃, t₄) = both t₂ in
    let (t₅, t₆) = both t₄ in
    let (c₁, c₂) = both clocks in
    let (w₁, w₂) = both window in
    let (g₁, g₂) = both segments in
    let (q₁, q₂) = queue_says e.sender e.queue queue in
    record {
      acked_seq = leb-true _ _ s₁;
      seq_near = leb-true _ _ s₃;
      largest_seq = leb-true _ _ s₄;
      cursor_ack = leb-true _ _ r₁;
      ack_near = leb-true _ _ r₂;
      stored = λ i x z. stored_says e i x.number x.value (slot_passes (Rules.stored_test e) e.sender.outgoing stores i x z);
      held = λ i x z.
          let (a, b, c, d, f, g) =
          held_says e.receiver.read_cursor i x.number (length x.value.payload) x.value.offset
          (slot_passes (Rules.held_test e.receiver) e.receiver.incoming helds i x z) in
          record { in-slot = a; from = b; below = c; fits = d; most = f; offset = g };
      inflight = eqb-true _ _ i₁;
      packets = eqb-true _ _ i₃;
      bytes = eqb-true _ _ i₄;
      estimate = record { srtt = ltb-true _ _ t₁; rttvar = ltb-true _ _ t₃; least = leb-true _ _ t₅; most = leb-true _ _ t₆ };
      drive_last = leb-true _ _ c₁;
      last_fits = ltb-true _ _ c₂;
      window_least = leb-true _ _ w₁;
      window_most = leb-true _ _ w₂;
      segments_least = leb-true _ _ g₁;
      segments_most = leb-true _ _ g₂;
      entries = every_says (Rules.entry_test e.sender.outgoing) (EntryKept e.sender.outgoing) (entry_says e.sender.outgoing) e.queue.entries entries;
      rest = q₁;
      to_take = q₂;
    }

pub rules_said : (e : End) → KeepsRules e → Rules.rules e ≡ true
unfolding Rules.rules
rules_said e k =
    and-true (and-true (le-leb _ _ k.acked_seq) (and-true (le-leb _ _ k.seq_near) (le-leb _ _ k.largest_seq)))
    (and-true (and-true (le-leb _ _ k.cursor_ack) (le-leb _ _ k.ack_near))
    (and-true (every-slot (Rules.stored_test e) e.sender.outgoing (λ i x z. stored_said e i x.number x.value (k.stored i x z)))
    (and-true
    (every-slot (Rules.held_test e.receiver) e.receiver.incoming (λ i x z. held_said e.receiver.read_cursor i x.number x.value (k.held i x z)))
    (and-true (and-true (eq-eqb _ _ k.inflight) (and-true (eq-eqb _ _ k.packets) (eq-eqb _ _ k.bytes)))
    (and-true
    (and-true (lt-ltb _ _ k.estimate.srtt)
    (and-true (lt-ltb _ _ k.estimate.rttvar) (and-true (le-leb _ _ k.estimate.least) (le-leb _ _ k.estimate.most))))
    (and-true (and-true (le-leb _ _ k.drive_last) (lt-ltb _ _ k.last_fits))
    (and-true (and-true (le-leb _ _ k.window_least) (le-leb _ _ k.window_most))
    (and-true (and-true (le-leb _ _ k.segments_least) (le-leb _ _ k.segments_most))
    (and-true
    (every_said (Rules.entry_test e.sender.outgoing) (EntryKept e.sender.outgoing) (entry_said e.sender.outgoing) e.queue.entries k.entries)
    (queue_said e.sender e.queue k.rest k.to_take))))))))))

-- bounds that follow

-- a sum of numbers of at most m each
pub sum_most : (w : Packet → ℕ) (m : ℕ) (s : Slots Packet) → ((i : ℕ) (x : Numbered Packet) → get_or s i none ≡ some x → w x.value ≤ m) → Rules.sum w s ≤ m * length s
sum_most w m [] h = zero-le
sum_most w m (none ∷ s) h = let u = sum_most w m s (λ i x e. h (suc i) x e) in omega arith
sum_most w m (some x ∷ s) h = let u = sum_most w m s (λ i x e. h (suc i) x e) in let v = h 0 x refl in omega arith

-- there are at most b - a distinct numbers from a to below b
less : ℕ → List ℕ → List ℕ
less n [] = []
less n (m ∷ ms) = cond (eqb n m) ms (m ∷ less n ms)

less_length : (n : ℕ) (ns : List ℕ) → length ns ≤ suc (length (less n ns))
unfolding less
less_length n [] = zero-le
less_length n (m ∷ ms) = go (eqb n m) (less_length n ms)
  where
    go : (b : Bool) → length ms ≤ suc (length (less n ms)) → suc (length ms) ≤ suc (length (cond b ms (m ∷ less n ms)))
    go true r = omega arith
    go false r = omega arith

less_absent : (n k : ℕ) (ns : List ℕ) → Rules.absent k ns ≡ true → Rules.absent k (less n ns) ≡ true
unfolding less
less_absent n k [] h = refl
less_absent n k (m ∷ ms) h = let (a, b) = both h in go (eqb n m) a b (less_absent n k ms b)
  where
    go : (t : Bool) → not (eqb k m) ≡ true → Rules.absent k ms ≡ true → Rules.absent k (less n ms) ≡ true → Rules.absent k (cond t ms (m ∷ less n ms)) ≡ true
    go true a b r = b
    go false a b r = and-true a r

less_distinct : (n : ℕ) (ns : List ℕ) → Rules.distinct ns ≡ true → Rules.distinct (less n ns) ≡ true
unfolding less
less_distinct n [] h = refl
less_distinct n (m ∷ ms) h = let (a, b) = both h in go (eqb n m) a b (less_distinct n ms b)
  where
    go : (t : Bool) → Rules.absent m ms ≡ true → Rules.distinct ms ≡ true → Rules.distinct (less n ms) ≡ true → Rules.distinct (cond t ms (m ∷ less n ms)) ≡ true
    go true a b r = b
    go false a b r = and-true (less_absent n m ms a) r

-- numbers below b + 1 that do not include b are below b
below_absent : (a b : ℕ) (ns : List ℕ) → Rules.absent b ns ≡ true → Every (λ n. (a ≤ n) × (n < suc b)) ns → Every (λ n. (a ≤ n) × (n < b)) ns
below_absent a b [] h k = tt
below_absent a b (n ∷ ns) h k =
    let (u, v) = both h in
    let d = eqb-false b n (not-true (eqb b n) u) in
    let (x, y) = k.0 in
    ((x, omega (arith, d)), below_absent a b ns v k.1)

below_less : (a b : ℕ) (ns : List ℕ) → Rules.distinct ns ≡ true → Every (λ n. (a ≤ n) × (n < suc b)) ns → Every (λ n. (a ≤ n) × (n < b)) (less b ns)
unfolding less
below_less a b [] h k = tt
below_less a b (n ∷ ns) h k = let (u, v) = both h in go (eqb b n) refl u (below_less a b ns v k.1)
  where
    go : (t : Bool) → eqb b n ≡ t → Rules.absent n ns ≡ true → Every (λ m. (a ≤ m) × (m < b)) (less b ns) → Every (λ m. (a ≤ m) × (m < b)) (cond t ns (n ∷ less b ns))
    go true e u r = below_absent a b ns (rw (eqb-true b n e) u) k.1
    go false e u r = let d = eqb-false b n e in let (x, y) = k.0 in ((x, omega (arith, d)), r)

pub distinct_few : (a k : ℕ) (ns : List ℕ) → Rules.distinct ns ≡ true → Every (λ n. (a ≤ n) × (n < a + k)) ns → length ns ≤ k
distinct_few a zero [] h e = zero-le
distinct_few a zero (n ∷ ns) h e = let (x, y) = e.0 in absurd (omega arith)
distinct_few a (suc k) ns h e =
    let r = distinct_few a k (less (a + k) ns) (less_distinct (a + k) ns h) (below_less a (a + k) ns h (rw add-suc at e)) in
    let l = less_length (a + k) ns in
    omega arith
