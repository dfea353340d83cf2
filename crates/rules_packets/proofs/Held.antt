-- The pass over the held packets, one packet at a time, and the receiver's numbers.
use Prim.Native.Nat.{ℕ, ◌+◌, ◌-◌, ◌%◌, ◌<◌, ◌≤◌}
use native.Mathlib.Omega.{arith}
use mathlib.Core.Path.{◌≡◌, refl, ap, ◌∙◌, sym}
use mathlib.Core.Logic.{◌≢◌}
use mathlib.Core.List.{List}
use mathlib.Core.Bool.{Bool, true, false, cond, ◌&&◌, not, and-true, and-false}
use lib.Dec.{leb, ltb, eqb}
use lib.ListN.{get_or}
use borrow.Author.Tests.{le-leb, lt-leb, lt-ltb, eq-eqb, eqb-false, not-true, ltb-true, ltb-false}
use Rattle.records_words.specs.declared.Held.{Held}
use Rattle.records.specs.declared.Receiver.{Receiver}
use Rattle.records_words.specs.Words.{held_of, is_held, is_short}
use Rattle.rules_packets.specs.Packets.{every_from, held_ok, ok_receiver}
use Rattle.rules_packets.specs.Passes.{payload_ok, held_kept}
use Rattle.rules_packets.proofs.Bools.{and_left, and_right}

-- the combined test of number and length, with the offset's, means that packet n is held and keeps its rules

chain : (h s f g : Bool) → (h ≡ true → f ≡ g) → ((h && s) && f) ≡ (h && (s && g))
chain true s f g e = rw (e refl)
chain false s f g e = refl

fits : (p : Held) (n : ℕ) → is_held p n ≡ true → ltb p.offset p.past ≡ leb p.offset (p.past - 1)
fits p n e = go (ltb p.offset p.past) refl
  where
    full : p.past ≢ 0
    full = eqb-false p.past 0 (not-true (eqb p.past 0) (and_left (not (eqb p.past 0)) (eqb p.number n) e))

    go : (b : Bool) → ltb p.offset p.past ≡ b → b ≡ leb p.offset (p.past - 1)
    go true h = let k = ltb-true p.offset p.past h in sym (le-leb p.offset (p.past - 1) (omega arith))
    go false h = let k = ltb-false p.offset p.past h in sym (lt-leb p.offset (p.past - 1) (omega (arith, full)))

kept_is : (p : Held) (n : ℕ) → held_kept p n ≡ (is_held p n && payload_ok p)
kept_is p n = chain (is_held p n) (leb (p.past - 1) 1_380) (ltb p.offset p.past) (leb p.offset (p.past - 1)) (fits p n)

-- the test as the code computes it
pub kept_by : (words : List ℕ) (n : ℕ) (p : Held) (short kept : Bool) → p ≡ held_of (get_or words (n % 32) 0) → short ≡ is_short (held_of (get_or words (n % 32) 0)) n 1_380
    → kept ≡ (short && ltb p.offset p.past) → kept ≡ held_kept p n
kept_by words n p short kept p-is short-is kept_is = rw (kept_is, short-is, p-is)

module _
    (cursor top n : ℕ) (words : List ℕ) (p : Held) (p-is : p ≡ held_of (get_or words (n % 32) 0))
    (h : cursor ≤ n) (k : n < top) (l : top ≤ cursor + 32) (m : top ≤ 4_294_967_295) where
  -- from the read cursor to below top, only the packet's own rules are left to check
  rule_of : held_ok cursor words n ≡ cond (is_held p n) (payload_ok p) true
  rule_of =
      simp (p-is, eq-eqb (n % 32) (n % 32) refl, le-leb cursor n h, lt-ltb n (cursor + 32) (omega arith), lt-ltb n 4_294_967_295 (omega arith))

  pub absent : is_held p n ≡ false → held_ok cursor words n ≡ true
  absent e = rule_of ∙ ap (λ b. cond b (payload_ok p) true) e

  pub kept : held_kept p n ≡ true → held_ok cursor words n ≡ true
  kept e =
      let whole = sym (kept_is p n) ∙ e in
      rule_of ∙ (ap (λ b. cond b (payload_ok p) true) (and_left (is_held p n) (payload_ok p) whole) ∙ and_right (is_held p n) (payload_ok p) whole)

  pub broken : held_kept p n ≡ false → is_held p n ≡ true → held_ok cursor words n ≡ false
  broken e here =
      let own = ap (λ b. b && payload_ok p) (sym here) ∙ (sym (kept_is p n) ∙ e) in rule_of ∙ (ap (λ b. cond b (payload_ok p) true) here ∙ own)

-- the receiver's numbers

module _ (r : Receiver) (words : List ℕ) where
  pub far : r.read_cursor + 32 < r.top → false ≡ ok_receiver r words
  unfolding ok_receiver
  far h = sym (simp (lt-leb r.top (r.read_cursor + 32) h, and-false))

  pub near : (good : Bool) → r.top ≤ r.read_cursor + 32 → good ≡ every_from (r.top - r.read_cursor) r.read_cursor (held_ok r.read_cursor words)
      → (leb r.read_cursor r.ack && (leb r.ack (r.read_cursor + 32) && (leb r.read_cursor r.top && good))) ≡ ok_receiver r words
  unfolding ok_receiver
  near good h k = simp (le-leb r.top (r.read_cursor + 32) h, k, and-true)
