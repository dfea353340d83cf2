-- A delivery keeps the invariant of both directions. A datagram from the other end is read back field by field; it brings a piece, an ack
-- that the other end has reached, and no SACK blocks. A refused delivery changes nothing.
use Prim.Native.Nat.{ℕ, ◌+◌, ◌≤◌, ◌<◌}
use native.Mathlib.Omega.{arith}
use mathlib.Core.Path.{◌≡◌, refl, sym, ap, ◌∙◌, subst, subst₂}
use mathlib.Core.Logic.{◌⊎◌, inl, inr}
use mathlib.Core.List.{List, [], ◌∷◌, ◌++◌, append-nil, Memᴰ}
use mathlib.Core.Option.{none}
use mathlib.Core.Bool.{Bool, true, false, cond, true≢false}
use lib.Dec.{T}
use borrow.Author.Tests.{leb-false}
use lib.ListN.{length, drop, get_or}
use Rattle.error.specs.declared.UdxError.TheVariants as error
use Rattle.packet.specs.declared.header.Header.{Header}
use Rattle.packet.specs.Header.{fields, has_type}
use Rattle.model.specs.Lists.{Bytes}
use Rattle.model.specs.Slots.{ceiling}
use Rattle.model.specs.Stream.{Receiver, End, with_receiver, with_ending, with_clocks, with_totals}
use Rattle.model.specs.Answers.{Answer}
use Rattle.model.specs.Sending.{send_state_packet, terminate}
use Rattle.model.specs.Receiving.{count_received, count_data, on_sack, remote_ended, on_end, absorb, on_data, on_ack, at_clock, handle_incoming, deliver_tests, deliver_refusal, deliver}
use Rattle.model.specs.Calls.{deliver_call}
use Rattle.model_ends.specs.TwoEnds.{History, is_refused, noted}
use Rattle.model.proofs.Lists.{all_mem, by-test}
use Rattle.model.proofs.Gate.{by_gate, clear, and-false}
use Rattle.model.proofs.Wire.{fields_back, payload_back}
use Rattle.model_ends.proofs.Line.{Datagram, Both}
use Rattle.model_ends.proofs.LineReceiver.{absorbed}
use Rattle.model_ends.proofs.LineSender.{one_way_acked}
use Rattle.model_ends.proofs.LineDrive.{both_state, both_terminate}
use Rattle.model_ends.proofs.LineRead.{both_received, with_received}

-- DATA that is not refused is in reach
data_in_reach : (datagram : Bytes) (clock : ℕ) (e : End) → deliver_refusal datagram clock e ≡ none → has_type 1 (fields datagram).typ ≡ true
    → (fields datagram).seq < e.receiver.read_cursor + ceiling
unfolding deliver_refusal
data_in_reach datagram clock e w d =
    leb-false (e.receiver.read_cursor + ceiling) (fields datagram).seq
    (and-false _ _ (clear (deliver_tests clock datagram (fields datagram) (drop 20 datagram) e) w 9) d)

-- the numbers that a header brings as DATA
abbrev data_of : Header → List ℕ
data_of h = cond (has_type 1 h.typ) (h.seq ∷ []) []

-- DATA brings one of these pieces
abbrev IsPiece : List Bytes → Header → Bytes → Type 0
IsPiece pieces h payload = has_type 1 h.typ ≡ true → (h.seq < length pieces) × (payload ≡ get_or pieces h.seq [])

module _ (f : End) (k : History) where
  same_brought : (e : End) (g : History) (brought : List ℕ) → g.brought ≡ brought → Both e g f k → Both e (with_received g.reads brought g) f k
  same_brought e g brought p i = subst (λ (brought : List ℕ). Both e (with_received g.reads brought g) f k) p i

  none_brought : (e : End) (g : History) → Both e g f k → Both e (with_received g.reads (g.brought ++ []) g) f k
  none_brought e g i = same_brought e g (g.brought ++ []) (sym (append-nil g.brought)) i

  -- DATA from the other end
  both_data : (h : Header) (payload : Bytes) (e : End) (g : History)
      → IsPiece k.pieces h payload
      → (has_type 1 h.typ ≡ true → h.seq < e.receiver.read_cursor + ceiling)
      → Both e g f k → Both (on_data h payload e) (with_received g.reads (g.brought ++ data_of h) g) f k
  unfolding on_data
  both_data h payload e g piece reach i = go (has_type 1 h.typ) refl
    where
      r : Receiver
      r = absorb h.seq payload e.receiver

      x : End
      x = with_totals (count_data (length payload) e.totals) (with_receiver r e)

      go : (b : Bool) → has_type 1 h.typ ≡ b → Both (cond b (send_state_packet x) e) (with_received g.reads (g.brought ++ cond b (h.seq ∷ []) []) g) f k
      go true q =
          let (l, is) = piece q in
          let m = absorbed h.seq payload e.receiver (reach q) l is i.back.ack_missing i.back.received in
          both_state (with_received g.reads (g.brought ++ (h.seq ∷ [])) g) f k x
          (both_received e g f k r g.reads (g.brought ++ (h.seq ∷ [])) m.ack_grows m.received m.ack_missing i)
      go false q = none_brought e g i

  -- a datagram from the other end: no SACK blocks, a piece if it is DATA, an ack that has been reached
  both_incoming : (clock : ℕ) (h : Header) (payload : Bytes) (e : End) (g : History)
      → has_type 4 h.typ ≡ false
      → IsPiece k.pieces h payload
      → (has_type 1 h.typ ≡ true → h.seq < e.receiver.read_cursor + ceiling)
      → h.ack ≤ f.receiver.ack
      → Both e g f k → Both (handle_incoming clock h payload e) (with_received g.reads (g.brought ++ data_of h) g) f k
  unfolding handle_incoming on_sack on_end
  both_incoming clock h payload e g no_sack piece reach a i =
      by-test (λ (x : End). Q (on_end h x)) (has_type 4 h.typ) _ counted
      (λ q. absurd (true≢false (sym q ∙ no_sack)))
      (λ q.
      by-test Q (has_type 2 h.typ) (terminate error.UnexpectedEof ending) counted
      (λ q. last (terminate error.UnexpectedEof ending) reach (both_terminate g f k error.UnexpectedEof ending i))
      (λ q. last counted reach i))
    where
      counted : End
      counted = with_totals (count_received e.totals) (with_clocks (at_clock clock e.clocks) e)

      ending : End
      ending = with_ending (remote_ended counted.ending) counted

      after : History
      after = with_received g.reads (g.brought ++ data_of h) g

      Q : End → Type 0
      Q x = Both (on_ack h (on_data h payload x)) after f k

      last : (x : End) → (has_type 1 h.typ ≡ true → h.seq < x.receiver.read_cursor + ceiling) → Both x g f k → Q x
      last x reach i = let j = both_data h payload x g piece reach i in record { out = one_way_acked (on_data h payload x) after f k h a j.out; back = j.back }

  -- a refused delivery brings nothing
  both_refused : (datagram : Bytes) (clock : ℕ) (e : End) (g : History) → T (is_refused (deliver datagram clock e).outcome) → Both e g f k
      → Both (deliver datagram clock e).end (noted (deliver_call datagram clock) (deliver datagram clock e) g) f k
  unfolding deliver
  both_refused datagram clock e g t i = by_gate Q (deliver_refusal datagram clock e) e _ (λ why t. none_brought e g i) (λ z t. absurd t) t
    where
      Q : Answer → Type 0
      Q a = T (is_refused a.outcome) → Both a.end (noted (deliver_call datagram clock) a g) f k

  -- a delivery of what the other end's takes gave
  both_taken : (datagram : Bytes) (clock : ℕ) (e : End) (g : History) → Memᴰ datagram k.taken → Both e g f k
      → Both (deliver datagram clock e).end (noted (deliver_call datagram clock) (deliver datagram clock e) g) f k
  unfolding deliver
  both_taken datagram clock e g m i =
      by_gate (λ (a : Answer). Both a.end (noted (deliver_call datagram clock) a g) f k) (deliver_refusal datagram clock e) e _ (λ why. none_brought e g i)
      (λ z.
      both_incoming clock (fields datagram) (drop 20 datagram) e g
      (subst (λ (h : Header). has_type 4 h.typ ≡ false) (sym header_is) s.no_sack)
      (subst₂ (IsPiece k.pieces) (sym header_is) (sym payload_is) s.piece_if_data)
      (data_in_reach datagram clock e z)
      (subst (λ (h : Header). h.ack ≤ f.receiver.ack) (sym header_is) s.ack_reached)
      i)
    where
      s : Datagram f.ids.remote k.pieces f.receiver.ack datagram
      s = all_mem (Datagram f.ids.remote k.pieces f.receiver.ack) k.taken datagram i.back.taken m

      header_is : fields datagram ≡ s.header
      header_is =
          ap fields s.encoded
          ∙ fields_back s.header s.payload s.type_fits s.offset_fits
          (let u = s.to_remote in let v = i.back.pieces.remote_fits in omega arith)
          (let u = s.window_fits in omega arith)
          (let u = s.seq_reached in let v = i.back.pieces.numbered in let w = i.back.pieces.seq_fits in omega arith)
          (let u = s.ack_reached in let v = i.out.received.ack_to_pieces in let w = i.out.pieces.numbered in let x = i.out.pieces.seq_fits in omega arith)

      payload_is : drop 20 datagram ≡ s.payload
      payload_is = ap (drop 20) s.encoded ∙ payload_back s.header s.payload

  pub both_deliver : (datagram : Bytes) (clock : ℕ) (e : End) (g : History)
      → Memᴰ datagram k.taken ⊎ T (is_refused (deliver datagram clock e).outcome)
      → Both e g f k → Both (deliver datagram clock e).end (noted (deliver_call datagram clock) (deliver datagram clock e) g) f k
  both_deliver datagram clock e g (inl m) i = both_taken datagram clock e g m i
  both_deliver datagram clock e g (inr t) i = both_refused datagram clock e g t i
