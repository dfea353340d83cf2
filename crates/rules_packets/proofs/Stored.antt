-- The pass over the stored packets: its invariant (`Going`), which each number keeps, packet or not, until a packet breaks a rule.
use Prim.Native.Nat.{ℕ, ◌+◌, ◌-◌, ◌*◌, ◌%◌, ◌<◌, ◌≤◌}
use native.Mathlib.Omega.{arith}
use native.Mathlib.Nat.{zero-add}
use mathlib.Core.Path.{◌≡◌, refl, ◌∙◌, sym}
use mathlib.Core.List.{List}
use Rattle.std.specs.Prelude.{Some, None}
use mathlib.Core.Bool.{Bool, true, false, cond, ◌&&◌, not, and_assoc, and-false}
use lib.Dec.{leb, eqb}
use borrow.Author.Tests.{le-leb, lt-ltb, eq-eqb, ne_eqb, leb-true}
use Rattle.records_words.specs.declared.Sent.{Sent}
use Rattle.records.specs.declared.Sender.{Sender}
use Rattle.records.specs.declared.Totals.{Totals}
use Rattle.records_words.specs.Words.{sent_in, is_stored, is_sized}
use Rattle.rules_packets.specs.Packets.{every_from, sum_from, stored_ok, inflight_at, packets_at, payload_at, sender_numbers_ok, ok_sender}
use Rattle.rules_packets.specs.declared.sender.Sums.{Sums}
use Rattle.rules_packets.specs.Passes.{in_time, packet_ok, kept_ok, stored_sums}
use Rattle.rules_packets.proofs.Bools.{and_left, and_right}
use Rattle.rules_packets.proofs.From.{every_done, every_turn, every_stop, sum_done, sum_turn, sum_skip}

-- the combined test of number and length, with the other rules, means that packet n is stored and keeps its rules

chain : (a b c t u z : Bool) → (b ≡ true → z ≡ true) → (((a && (b && c)) && t) && u) ≡ ((z && a) && (b && (c && (t && u))))
chain true true c t u z h = rw (h refl) (and_assoc c t u)
chain false true c t u z h = rw (h refl)
chain true false c t u true h = refl
chain true false c t u false h = refl
chain false false c t u true h = refl
chain false false c t u false h = refl

full : (l : ℕ) → leb 21 l ≡ true → not (eqb l 0) ≡ true
full l h = rw (ne_eqb l 0 (λ e. (let k = leb-true 21 l h in let z : ⊥ = omega arith in z)))

kept_is : (p : Sent) (n clock : ℕ) → kept_ok p n clock ≡ (is_stored p n && packet_ok p clock)
kept_is p n clock =
    chain (eqb p.number n) (leb 21 p.length) (leb p.length 1_400) (leb p.transmits 7) (in_time p clock) (not (eqb p.length 0)) (full p.length)

-- the test as the code computes it
pub kept_by : (words : List ℕ) (n clock : ℕ) (p : Sent) (sized timely : Bool) → p ≡ sent_in words (n % 32) → sized ≡ is_sized (sent_in words (n % 32)) n 21 1_400
    → timely ≡ in_time p clock → ((sized && leb p.transmits 7) && timely) ≡ kept_ok p n clock
kept_by words n clock p sized timely p-is sized-is timely-is = rw (sized-is, timely-is, p-is)

-- the payload with one more packet
payload_more : (lengths packets l : ℕ) → 20 * packets ≤ lengths → 20 ≤ l → lengths + l - 20 * (packets + 1) ≡ lengths - 20 * packets + (l - 20)
payload_more lengths packets l h k = omega arith

at_most : (b : Bool) (l : ℕ) → cond b 0 l ≤ l
at_most true l = omega arith
at_most false l = omega arith

module _ (acked seq clock : ℕ) (words : List ℕ) where
  -- from acked to below seq, only the packet's own rules are left to check
  rule_of : (n : ℕ) → acked ≤ n → n < seq
      → stored_ok acked seq clock words n ≡ cond (is_stored (sent_in words (n % 32)) n) (packet_ok (sent_in words (n % 32)) clock) true
  rule_of n h k = simp (eq-eqb (n % 32) (n % 32) refl, le-leb acked n h, lt-ltb n seq k)

  -- the invariant: what was found below n, plus what the numbers from n on add, is the total
  pub record Going (n : ℕ) (inflight packets lengths : ℕ) : Type 0 where
    pub all : every_from (seq - n) n (stored_ok acked seq clock words) ≡ every_from (seq - acked) acked (stored_ok acked seq clock words)
    pub inflight_is : inflight + sum_from (seq - n) n (inflight_at words) ≡ sum_from (seq - acked) acked (inflight_at words)
    pub packets_is : packets + sum_from (seq - n) n (packets_at words) ≡ sum_from (seq - acked) acked (packets_at words)
    pub bytes_is : lengths - 20 * packets + sum_from (seq - n) n (payload_at words) ≡ sum_from (seq - acked) acked (payload_at words)
    pub headers : 20 * packets ≤ lengths
    pub begun : acked ≤ n
    pub near : n ≤ acked + 32
    pub inflight_few : inflight ≤ 4_294_967_295 * (n - acked)
    pub packets_few : packets ≤ n - acked
    pub lengths_few : lengths ≤ 4_294_967_295 * (n - acked)

  pub begin : Going acked 0 0 0
  begin =
      record {
        all = refl;
        inflight_is = zero-add _;
        packets_is = zero-add _;
        bytes_is = zero-add _;
        headers = omega arith;
        begun = omega arith;
        near = omega arith;
        inflight_few = omega arith;
        packets_few = omega arith;
        lengths_few = omega arith;
      }

  module _
      (n : ℕ) (inflight packets lengths : ℕ) (p : Sent)
      (g : Going n inflight packets lengths) (p-is : p ≡ sent_in words (n % 32)) (k : n < seq) (few : seq ≤ acked + 32) where
    -- no packet
    pub skip : is_stored p n ≡ false → Going (n + 1) inflight packets lengths
    skip e =
        let r = rule_of n g.begun k in
        record {
          all = every_turn _ n seq k (r ∙ rw (← p-is, e)) ∙ g.all;
          inflight_is = sum_skip _ n seq inflight k (rw (← p-is, e)) ∙ g.inflight_is;
          packets_is = sum_skip _ n seq packets k (rw (← p-is, e)) ∙ g.packets_is;
          bytes_is = sum_skip _ n seq (lengths - 20 * packets) k (rw (← p-is, e)) ∙ g.bytes_is;
          headers = g.headers;
          begun = omega arith;
          near = omega arith;
          inflight_few = omega arith;
          packets_few = omega arith;
          lengths_few = omega arith;
        }

    -- a packet that keeps its rules
    pub turn : (x : ℕ) → kept_ok p n clock ≡ true → x ≡ cond p.waiting 0 p.length → p.length ≤ 4_294_967_295
        → Going (n + 1) (inflight + x) (packets + 1) (lengths + p.length)
    turn x e x-is l-few =
        let x-few = at_most p.waiting p.length in
        let r = rule_of n g.begun k in
        let whole = sym (kept_is p n clock) ∙ e in
        let here = and_left (is_stored p n) (packet_ok p clock) whole in
        let own = and_right (is_stored p n) (packet_ok p clock) whole in
        let long = leb-true 21 p.length (and_left (leb 21 p.length) _ own) in
        let more = payload_more lengths packets p.length g.headers (omega arith) in
        let h = g.headers in
        record {
          all = every_turn _ n seq k (r ∙ rw (← p-is, here) own) ∙ g.all;
          inflight_is = sum_turn _ n seq inflight x k (sym (rw (← p-is, here) (sym x-is))) ∙ g.inflight_is;
          packets_is = sum_turn _ n seq packets 1 k (sym (rw (← p-is, here) refl)) ∙ g.packets_is;
          bytes_is = rw more (sum_turn _ n seq (lengths - 20 * packets) (p.length - 20) k (sym (rw (← p-is, here) refl)) ∙ g.bytes_is);
          headers = omega arith;
          begun = omega arith;
          near = omega arith;
          inflight_few = omega arith;
          packets_few = omega arith;
          lengths_few = omega arith;
        }

    -- a packet that breaks one
    pub stop : kept_ok p n clock ≡ false → is_stored p n ≡ true → false ≡ every_from (seq - acked) acked (stored_ok acked seq clock words)
    stop e here =
        let own : packet_ok p clock ≡ false = rw here at (sym (kept_is p n clock) ∙ e) in
        every_stop _ n seq k (rule_of n g.begun k ∙ rw (← p-is, here) own) ∙ g.all

  pub done : (n : ℕ) (inflight packets lengths : ℕ) → Going n inflight packets lengths → seq ≤ n
      → Some (record { inflight = inflight; packets = packets; bytes = lengths - 20 * packets }) ≡ stored_sums acked seq clock words
  done n inflight packets lengths g k =
      rw (
        ← every_done _ n seq k ∙ g.all,
        ← sym (sum_done _ n seq inflight k) ∙ g.inflight_is,
        ← sym (sum_done _ n seq packets k) ∙ g.packets_is,
        ← sym (sum_done _ n seq (lengths - 20 * packets) k) ∙ g.bytes_is,
      )

  pub ended : false ≡ every_from (seq - acked) acked (stored_ok acked seq clock words) → None ≡ stored_sums acked seq clock words
  ended w = rw (← w)

-- the numbers and the sums

none_if : {A : Type 0} (b : Bool) (x : A) → None ≡ cond b (Some x) None → b ≡ false
none_if true x e = cc
none_if false x e = refl

some_if : {A : Type 0} (b : Bool) (a x : A) → Some a ≡ cond b (Some x) None → (b ≡ true) × (a ≡ x)
some_if true a x e = (refl, cc)
some_if false a x e = (cc, cc)

module _ (s : Sender) (t : Totals) (clock : ℕ) (words : List ℕ) where
  pub broken : s.remote_acked ≤ s.seq → s.seq ≤ s.remote_acked + 32 → None ≡ stored_sums s.remote_acked s.seq clock words
      → false ≡ ok_sender s t clock words
  unfolding ok_sender
  broken h k w = simp (le-leb s.remote_acked s.seq h, le-leb s.seq (s.remote_acked + 32) k, none_if _ _ w, and-false)

  pub near : (found : Sums) → s.remote_acked ≤ s.seq → s.seq ≤ s.remote_acked + 32
      → Some found ≡ stored_sums s.remote_acked s.seq clock words
      → (leb s.largest_ack s.seq
      && ((eqb s.inflight found.inflight && (eqb t.inflight_packets found.packets && eqb t.inflight_bytes found.bytes))
      && (leb 1_400 s.cwnd && leb s.cwnd 4_294_967_295)))
      ≡ ok_sender s t clock words
  unfolding ok_sender
  near found h k w =
      let (all, sums) = some_if _ _ _ w in
      simp (le-leb s.remote_acked s.seq h, le-leb s.seq (s.remote_acked + 32) k, all, sums)

  -- a sender that keeps its rules has seq at most 32 past remote acked
  pub near_of : ok_sender s t clock words ≡ true → s.seq ≤ s.remote_acked + 32
  unfolding ok_sender
  near_of h =
      let numbers = and_left (sender_numbers_ok s) _ h in
      let from-acked = and_right (leb s.remote_acked s.seq) _ numbers in
      leb-true s.seq (s.remote_acked + 32) (and_left _ (leb s.largest_ack s.seq) from-acked)
