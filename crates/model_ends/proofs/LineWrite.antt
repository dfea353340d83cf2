-- A write keeps the invariant of both directions. The pieces that went are the accepted bytes cut at every 1,380 bytes: the loop and the
-- cut are compared piece by piece.
use Prim.Native.Nat.{ℕ, zero, suc, ◌+◌, ◌≤◌}
use native.Mathlib.Decide.{dec_le}
use native.Mathlib.Omega.{arith}
use mathlib.Core.Path.{◌≡◌, refl, sym, ap, ap₂, ◌∙◌, subst₂}
use mathlib.Core.List.{List, [], ◌∷◌, ◌++◌, append_assoc, append-nil}
use mathlib.Core.Bool.{true, false, not, ◌&&◌, true≢false}
use borrow.Author.Tests.{not-true}
use lib.ListN.{length, take, drop, length-take, take-append-drop, drop_of_length-le}
use lib.Seq.{take-append-add, take_at, drop_at, take_all, take-nil}
use Rattle.model.specs.Lists.{Bytes, cut, is_empty}
use Rattle.model.specs.Stream.{End}
use Rattle.model.specs.Answers.{Answer}
use Rattle.model.specs.Sending.{piece, goes, send_data_packet, Written, write_loop, write_refusal, write}
use Rattle.model.specs.Calls.{write_call}
use Rattle.model_ends.specs.TwoEnds.{History, noted}
use Rattle.model.proofs.Lists.{by-test}
use Rattle.model.proofs.Gate.{by_gate, and_left, and_right}
use Rattle.model_rules.proofs.InvariantSend.{goes_room}
use Rattle.model_ends.proofs.Line.{Both}
use Rattle.model_ends.proofs.LineSender.{one_way_piece, with_piece}

-- cutting

cut_nil : (k n : ℕ) → cut k n [] ≡ []
cut_nil zero n = refl
cut_nil (suc k) n = refl

cut_first : (k : ℕ) (p more : Bytes) → is_empty p ≡ false → take 1_380 (p ++ more) ≡ p → drop 1_380 (p ++ more) ≡ more
    → cut (suc k) 1_380 (p ++ more) ≡ p ∷ cut k 1_380 more
cut_first k [] more e a b = absurd (true≢false e)
cut_first k (x ∷ p) more e a b = ap₂ {C = List Bytes} (λ (u : Bytes) (v : Bytes). u ∷ cut k 1_380 v) a b

-- the first piece, and the accepted bytes after it
front : (bytes : Bytes) (count : ℕ) → take (length (piece bytes) + count) bytes ≡ piece bytes ++ take count (drop 1_380 bytes)
front bytes count =
    ap (take (length (piece bytes) + count)) (sym (take-append-drop 1_380 bytes)) ∙ take-append-add (piece bytes) (drop 1_380 bytes) count

cut_front : (k : ℕ) (bytes : Bytes) (count : ℕ) → is_empty bytes ≡ false
    → cut (suc k) 1_380 (take (length (piece bytes) + count) bytes) ≡ piece bytes ∷ cut k 1_380 (take count (drop 1_380 bytes))
cut_front k bytes count e = rw (front bytes count) (go (dec_le 1_380 (length bytes)))
  where
    filled : (bytes : Bytes) → is_empty bytes ≡ false → is_empty (piece bytes) ≡ false
    filled [] e = absurd (true≢false e)
    filled (b ∷ bytes) e = refl

    go : Dec (1_380 ≤ length bytes) → cut (suc k) 1_380 (piece bytes ++ take count (drop 1_380 bytes)) ≡ piece bytes ∷ cut k 1_380 (take count (drop 1_380 bytes))
    go (yes l) =
        let q : length (piece bytes) ≡ 1_380 = rw length-take (omega arith) in
        cut_first k (piece bytes) (take count (drop 1_380 bytes)) (filled bytes e)
        (take_at (piece bytes) (take count (drop 1_380 bytes)) 1_380 q)
        (drop_at (piece bytes) (take count (drop 1_380 bytes)) 1_380 q)
    go (no l) =
        let q : length bytes ≤ 1_380 = omega arith in
        let r : length (piece bytes) ≤ 1_380 = rw length-take (omega arith) in
        rw (drop_of_length-le bytes q, take-nil count)
        (cut_first k (piece bytes) [] (filled bytes e)
        (rw append-nil (take_all 1_380 (piece bytes) r))
        (rw append-nil (drop_of_length-le (piece bytes) r)))

-- the history after `count` bytes were accepted
abbrev with_count : (k count : ℕ) → Bytes → History → History
with_count k count bytes g =
    record {
      accepted = g.accepted ++ take count bytes;
      pieces = g.pieces ++ cut k 1_380 (take count bytes);
      reads = g.reads;
      taken = g.taken;
      brought = g.brought;
    }

module _ (f : End) (k : History) where
  same_history : (e : End) (g : History) (accepted : Bytes) (pieces : List Bytes) → g.accepted ≡ accepted → g.pieces ≡ pieces
      → Both e g f k → Both e (record { accepted = accepted; pieces = pieces; reads = g.reads; taken = g.taken; brought = g.brought }) f k
  same_history e g accepted pieces p q i =
      subst₂
      (λ (accepted : Bytes) (pieces : List Bytes).
      Both e (record { accepted = accepted; pieces = pieces; reads = g.reads; taken = g.taken; brought = g.brought }) f k)
      p q i

  none_accepted : (n : ℕ) (bytes : Bytes) (e : End) (g : History) → Both e g f k → Both e (with_count n 0 bytes g) f k
  none_accepted n bytes e g i =
      same_history e g (g.accepted ++ []) (g.pieces ++ cut n 1_380 []) (sym (append-nil g.accepted))
      (sym (ap (λ (z : List Bytes). g.pieces ++ z) (cut_nil n 1_380) ∙ append-nil g.pieces)) i

  both_write_loop : (n : ℕ) (bytes : Bytes) (e : End) (g : History) → Both e g f k
      → Both (write_loop n bytes e).end (with_count n (write_loop n bytes e).count bytes g) f k
  unfolding write_loop
  both_write_loop zero bytes e g i = none_accepted zero bytes e g i
  both_write_loop (suc n) bytes e g i =
      by-test (λ (w : Written). Both w.end (with_count (suc n) w.count bytes g) f k) (not (is_empty bytes) && goes (piece bytes) e.sender)
      (record { count = length (piece bytes) + rest.count; end = rest.end })
      (record { count = 0; end = e })
      (λ q. more q rest (both_write_loop n (drop 1_380 bytes) (send_data_packet (piece bytes) e) (with_piece g (piece bytes)) (one q)))
      (λ q. none_accepted (suc n) bytes e g i)
    where
      rest : Written
      rest = write_loop n (drop 1_380 bytes) (send_data_packet (piece bytes) e)

      one : (not (is_empty bytes) && goes (piece bytes) e.sender) ≡ true → Both (send_data_packet (piece bytes) e) (with_piece g (piece bytes)) f k
      one q =
          let (a, b) = goes_room (piece bytes) e.sender (and_right (not (is_empty bytes)) (goes (piece bytes) e.sender) q) in
          record { out = one_way_piece e g f k (piece bytes) (rw length-take (omega arith)) a b i.out; back = i.back }

      more : (not (is_empty bytes) && goes (piece bytes) e.sender) ≡ true → (w : Written)
          → Both w.end (with_count n w.count (drop 1_380 bytes) (with_piece g (piece bytes))) f k
          → Both w.end (with_count (suc n) (length (piece bytes) + w.count) bytes g) f k
      more q w j =
          same_history w.end (with_count n w.count (drop 1_380 bytes) (with_piece g (piece bytes)))
          (g.accepted ++ take (length (piece bytes) + w.count) bytes)
          (g.pieces ++ cut (suc n) 1_380 (take (length (piece bytes) + w.count) bytes))
          (append_assoc g.accepted (piece bytes) (take w.count (drop 1_380 bytes)) ∙ ap (λ (z : Bytes). g.accepted ++ z) (sym (front bytes w.count)))
          (append_assoc g.pieces (piece bytes ∷ []) (cut n 1_380 (take w.count (drop 1_380 bytes)))
          ∙ ap (λ (z : List Bytes). g.pieces ++ z)
          (sym (cut_front n bytes w.count (not-true (is_empty bytes) (and_left (not (is_empty bytes)) (goes (piece bytes) e.sender) q)))))
          j

  pub both_write : (bytes : Bytes) (e : End) (g : History) → Both e g f k → Both (write bytes e).end (noted (write_call bytes) (write bytes e) g) f k
  unfolding write
  both_write bytes e g i =
      by_gate (λ (a : Answer). Both a.end (noted (write_call bytes) a g) f k) (write_refusal bytes e) e _
      (λ why. none_accepted (length bytes) bytes e g i)
      (λ z. both_write_loop (length bytes) bytes e g i)
