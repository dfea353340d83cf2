-- Demand 3 in 01's sentences: each from the field of the promise that renders it. What all promises have in common is derived once, about
-- lists; the rest says where the lists come from.
use Prim.Native.Nat.{ℕ, ◌+◌, ◌*◌, ◌%◌, ◌≤◌, ◌<◌}
use mathlib.Core.Path.{◌≡◌, refl, sym, ap, ◌∙◌}
use mathlib.Core.List.{List, [], ◌++◌, Memᴰ}
use mathlib.Core.Bool.{Bool, true, false}
use lib.Dec.{ltb}
use lib.ListN.{length, take, drop, get_or, length-append, take-append-drop}
use lib.Seq.{get_or-take, get_or-drop}
use borrow.Author.Tests.{ltb-true, ltb-false}
use Rattle.model.specs.Lists.{Bytes, joined}
use Rattle.model.specs.Stream.{Packet, Held}
use Rattle.model_ends.specs.TwoEnds as model
use Rattle.model_ends.specs.TwoEnds.{unread_in_order}
use Rattle.model.proofs.Slots.{some_inj}
use Rattle.model_ends.proofs.TwoEnds.{two_ends}
use Rattle.promise.specs.Runs.{Records, seen_of}
use Rattle.promise.specs.TwoEndsOnRecords as records
use Rattle.promise.proofs.TwoEndsOnRecords.{two_ends_on_records}
use Rattle.udx_c_numbers.specs.Flat.{stream_of}
use Rattle.promise_ways.specs.FromC.{PlainSide, side_of, CarriedInC}
use Rattle.promise_ways.specs.Mixed.{CarriedEitherWay}
use Rattle.promise_ways.proofs.FromC.{two_ends_from_c}
use Rattle.promise_ways.proofs.Mixed.{two_ends_mixed}
use Rattle.promise_sentences.specs.TwoEnds.{StoredWith, HeldIn, CarriesInModel, DemandThreeInModel, UnreadOn, BothOnRecords, DemandThreeOnRecords, UnreadInC, BothInC, DemandThreeFromC, UnreadMixed, DemandThreeMixed}

-- lists

front_and_rest : (read accepted : Bytes) → read ≡ take (length read) accepted → (rest : Bytes) × (accepted ≡ read ++ rest)
front_and_rest read accepted e =
    (drop (length read) accepted, sym (take-append-drop (length read) accepted) ∙ ap (λ (z : Bytes). z ++ drop (length read) accepted) (sym e))

byte_in_place : (read accepted : Bytes) → read ≡ take (length read) accepted → (i : ℕ) → i < length read → get_or read i 0 ≡ get_or accepted i 0
byte_in_place read accepted e i l = ap (λ (z : Bytes). get_or z i 0) e ∙ get_or-take (length read) accepted i 0 l

lengths : (accepted read unread rest : Bytes) → accepted ≡ read ++ (unread ++ rest) → length accepted ≡ length read + (length unread + length rest)
lengths accepted read unread rest e = ap length e ∙ length-append read (unread ++ rest) ∙ ap (length read +◌) (length-append unread rest)

-- bytes that are in a store from a place on
byte_lies : (store piece : Bytes) (at : ℕ) → take (length piece) (drop at store) ≡ piece → (i : ℕ) → i < length piece → get_or store (at + i) 0 ≡ get_or piece i 0
byte_lies store piece at e i l =
    sym (get_or-drop at store i 0) ∙ sym (get_or-take (length piece) (drop at store) i 0 l) ∙ ap (λ (z : Bytes). get_or z i 0) e

lowest : (ack : ℕ) (brought : List ℕ) → ((n : ℕ) → n < ack → Memᴰ n brought) → (n : ℕ) → (Memᴰ n brought → ⊥) → ack ≤ n
lowest ack brought below n missing = go (ltb n ack) refl
  where
    go : (b : Bool) → ltb n ack ≡ b → ack ≤ n
    go true e = absurd (missing (below n (ltb-true n ack e)))
    go false e = ltb-false n ack e

-- in the model

in_model : (s r : model.Side) → model.Carried s r → CarriesInModel s r
in_model s r c =
    let accepted = s.past.accepted in
    let read = r.past.reads in
    let rest = joined (drop r.end.receiver.ack s.past.pieces) in
    let equation : (unread : Bytes) → unread ≡ unread_in_order r.end → accepted ≡ read ++ (unread ++ rest) =
    λ unread e. c.accepted ∙ ap (λ (z : Bytes). read ++ (z ++ rest)) (sym e) in
    record {
      first = front_and_rest read accepted c.reads_first;
      in_place = byte_in_place read accepted c.reads_first;
      equation = equation;
      counts = λ unread e. lengths accepted read unread rest (equation unread e);
      all_went = sym c.pieces;
      numbered = sym c.numbered;
      none_lost = λ n l u. c.kept n l u;
      stored_is_piece = λ n payload (p, e, q). let (l, is) = c.stored n p e in (l, sym q ∙ is);
      held_is_piece = λ n payload (h, e, q). let (l, is) = c.held n h e in (l, sym q ∙ is);
      ack_not_brought = c.ack_missing;
      smaller_brought = c.below_ack;
      ack_lowest = lowest r.end.receiver.ack r.past.brought c.below_ack;
    }

pub demand_three_in_model : DemandThreeInModel
demand_three_in_model i j segmentsA segmentsB clockA clockB idI idJ openA openB commands line =
    let (out, back) = two_ends i j segmentsA segmentsB clockA clockB idI idJ openA openB commands line in (in_model _ _ out, in_model _ _ back)

-- on the records

stored_packet : (s : records.Side) (n : ℕ) (payload piece : Bytes) → StoredWith (seen_of s.records) n payload → records.StoredBy s n piece → payload ≡ piece
stored_packet s n payload piece (p, e, q) b = sym q ∙ ap (λ (z : Packet). drop 20 z.bytes) (some_inj e b.stored) ∙ b.payload

held_packet : (r : records.Side) (n : ℕ) (payload piece : Bytes) → HeldIn (seen_of r.records) n payload → records.HeldBy r n piece → payload ≡ piece
held_packet r n payload piece (h, e, q) b = sym q ∙ ap (λ (z : Held). z.payload) (some_inj e b.held) ∙ b.payload

on-records : (Unread : Records → Bytes → Type 0) (s r : records.Side) → records.Carried s r
    → ((unread : Bytes) → Unread r.records unread → unread ≡ unread_in_order (seen_of r.records)) → BothOnRecords Unread s r
on-records Unread s r c is =
    let accepted = s.past.accepted in
    let read = r.past.reads in
    let ack = r.records.stream.receiver.ack in
    let rest = joined (drop ack s.past.pieces) in
    let equation : (unread : Bytes) → Unread r.records unread → accepted ≡ read ++ (unread ++ rest) =
    λ unread h. c.accepted ∙ ap (λ (z : Bytes). read ++ (z ++ rest)) (sym (is unread h)) in
    let stored : (n : ℕ) (payload : Bytes) → StoredWith (seen_of s.records) n payload → (n < length s.past.pieces) × (payload ≡ get_or s.past.pieces n []) =
    λ n payload h. (let (l, b) = c.stored n h.0 h.1 in (l, stored_packet s n payload _ h b)) in
    let held : (n : ℕ) (payload : Bytes) → HeldIn (seen_of r.records) n payload → (n < length s.past.pieces) × (payload ≡ get_or s.past.pieces n []) =
    λ n payload h. (let (l, b) = c.held n h.0 h.1 in (l, held_packet r n payload _ h b)) in (
      record {
        first = front_and_rest read accepted c.reads_first;
        in_place = byte_in_place read accepted c.reads_first;
        equation = equation;
        counts = λ unread h. lengths accepted read unread rest (equation unread h);
        all_went = sym c.pieces;
        numbered = sym c.numbered;
        none_lost = λ n l u. let b = c.kept n l u in (b.packet, b.stored, b.payload);
        stored_is_piece = stored;
        held_is_piece = held;
        ack_not_brought = c.ack_missing;
        smaller_brought = c.below_ack;
        ack_lowest = lowest ack r.past.brought c.below_ack;
      },
      record {
        none_lost = λ n i l u k. byte_lies s.records.lent.outgoing (get_or s.past.pieces n []) (n % 32 * 1_400 + 20) (c.kept n l u).lies i k;
        stored = λ n i payload h k.
            (let lies : take (length payload) (drop (n % 32 * 1_400 + 20) s.records.lent.outgoing) ≡ payload =
            rw (stored n payload h).1 (c.stored n h.0 h.1).1.lies in
            byte_lies s.records.lent.outgoing payload (n % 32 * 1_400 + 20) lies i k);
        held = λ n i payload h k.
            (let lies : take (length payload) (drop (n % 32 * 1_380) r.records.lent.incoming) ≡ payload =
            rw (held n payload h).1 (c.held n h.0 h.1).1.lies in
            byte_lies r.records.lent.incoming payload (n % 32 * 1_380) lies i k);
      },
    )

pub demand_three_on_records : DemandThreeOnRecords
demand_three_on_records i j segmentsA segmentsB clockA clockB idI idJ lentA lentB a b openA openB turns line =
    let (out, back) = two_ends_on_records i j segmentsA segmentsB clockA clockB idI idJ lentA lentB a b openA openB turns line in
    (one_way _ _ out, one_way _ _ back)
  where
    one_way : (s r : records.Side) → records.Carried s r → BothOnRecords UnreadOn s r
    one_way s r c = on-records UnreadOn s r c (λ unread (vs, last, h, e). e ∙ sym (c.unread vs last h))

-- from C

in_c : (s r : PlainSide) → CarriedInC s r → BothInC s r
unfolding stream_of
in_c s r c = on-records (λ x. UnreadInC r.plain) (side_of s) (side_of r) c.carried (λ unread (vs, last, h, e). e ∙ sym (c.unread vs last h))

pub demand_three_from_c : DemandThreeFromC
demand_three_from_c i j segmentsA segmentsB clockA clockB idI idJ lentA lentB a b openA openB turns line =
    let (out, back) = two_ends_from_c i j segmentsA segmentsB clockA clockB idI idJ lentA lentB a b openA openB turns line in (in_c _ _ out, in_c _ _ back)

-- with the ways mixed

mixed : (s r : records.Side) → CarriedEitherWay s r → BothOnRecords UnreadMixed s r
mixed s r c = on-records UnreadMixed s r c.carried (λ unread (vs, last, h, e). e ∙ sym (c.unread vs last h))

pub demand_three_mixed : DemandThreeMixed
demand_three_mixed i j segmentsA segmentsB clockA clockB idI idJ lentA lentB a b openA openB turns line =
    let (out, back) = two_ends_mixed i j segmentsA segmentsB clockA clockB idI idJ lentA lentB a b openA openB turns line in (mixed _ _ out, mixed _ _ back)
