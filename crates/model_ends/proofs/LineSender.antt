-- The sender's part of the invariant: every small step of the sending end keeps `OneWay`. What is stored, queued or taken stays valid as
-- pieces are added and the end's own ack grows; a packet leaves the store only when the receiver's ack is past it.
use Prim.Native.Nat.{ℕ, suc, ◌+◌, ◌-◌, ◌≤◌, ◌<◌, zero-le}
use native.Mathlib.Nat.{le_refl}
use native.Mathlib.Decide.{ℕ_discrete, dec_lt}
use native.Mathlib.Omega.{arith}
use mathlib.Core.Path.{◌≡◌, refl, sym, ap, ap₂, ◌∙◌, subst}
use mathlib.Core.Logic.{◌≢◌, ◌⊎◌, inl, inr}
use mathlib.Core.List.{List, [], ◌∷◌, ◌++◌, append-nil}
use mathlib.Core.Option.{none, some}
use mathlib.Core.Bool.{Bool, true, false, true≢false}
use lib.ListN.{length, take, get_or, length-append, get_or-append}
use lib.Seq.{get_or_at, take-append-le}
use Rattle.packet.specs.declared.header.Header.{Header}
use Rattle.packet.specs.Header.{header_bytes, has_type}
use Rattle.model.specs.Lists.{Bytes, joined}
use Rattle.model.specs.Slots.{Slots, ceiling, get, insert}
use Rattle.model.specs.Stream.{Marks, Packet, Held, Entry, state, packet, End, with_sender, with_queue}
use Rattle.model.specs.Sending.{create_header, create_packet, new_marks, pushed, is_set, state_type, send_state_packet, send_data_packet}
use Rattle.model.specs.Receiving.{left, on_ack_sender}
use Rattle.model.specs.Driving.{marked, remarked, settled, no_ack}
use Rattle.model_ends.specs.TwoEnds.{History}
use Rattle.model.proofs.Lists.{all_append, all_map, joined_append}
use Rattle.model.proofs.Slots.{apart, no_some, insert_length, remove_length, insert_same, insert_other, insert_cases, remove_cases, remove_keep}
use Rattle.model.proofs.Wire.{packet_length}
use Rattle.model_ends.proofs.Line.{There, Datagram, PieceAt, data_header, StoredPieces, QueueEntry, QueueOk, TakenOk, Received, offset_of, OneWay}

-- datagrams: a later ack, more pieces

piece_stays : (pieces : List Bytes) (n : ℕ) (more : List Bytes) → n < length pieces → get_or (pieces ++ more) n [] ≡ get_or pieces n []
piece_stays pieces n more l = get_or-append pieces more [] n l

datagram_later : {remote ack : ℕ} {pieces : List Bytes} (more : List Bytes) (later : ℕ) → ack ≤ later → (d : Bytes)
    → Datagram remote pieces ack d → Datagram remote (pieces ++ more) later d
datagram_later {pieces = pieces} more later l d s =
    let u = s.ack_reached in
    let v = s.seq_reached in
    record {
      header = s.header;
      payload = s.payload;
      encoded = s.encoded;
      type_fits = s.type_fits;
      offset_fits = s.offset_fits;
      to_remote = s.to_remote;
      window_fits = s.window_fits;
      ack_reached = omega arith;
      seq_reached = rw length-append (omega arith);
      no_sack = s.no_sack;
      piece_if_data = λ e. let (b, q) = s.piece_if_data e in (rw length-append (omega arith), q ∙ sym (piece_stays pieces s.header.seq more b));
    }

piece_later : {remote ack n : ℕ} {pieces : List Bytes} {d : Bytes} (more : List Bytes) (later : ℕ) → ack ≤ later
    → PieceAt remote pieces ack n d → PieceAt remote (pieces ++ more) later n d
piece_later {remote} {ack} {n} {pieces} more later l s =
    let u = s.made_before in
    let v = s.is_piece in
    record {
      made_at = s.made_at;
      made_before = omega arith;
      is_piece = rw length-append (omega arith);
      encoded = s.encoded ∙ ap (λ (p : Bytes). header_bytes (data_header remote n s.made_at) ++ p) (sym (piece_stays pieces n more s.is_piece));
    }

-- a stored packet's bytes are a datagram
pub piece_datagram : {remote ack n : ℕ} {pieces : List Bytes} {d : Bytes} → PieceAt remote pieces ack n d → Datagram remote pieces ack d
piece_datagram {remote} {ack} {n} {pieces} s =
    let u = s.is_piece in
    record {
      header = data_header remote n s.made_at;
      payload = get_or pieces n [];
      encoded = s.encoded;
      type_fits = omega arith;
      offset_fits = omega arith;
      to_remote = refl;
      window_fits = le_refl _;
      ack_reached = s.made_before;
      seq_reached = omega arith;
      no_sack = refl;
      piece_if_data = λ e. (s.is_piece, refl);
    }

-- a packet with no payload
abbrev plain_header : (typ remote seq ack : ℕ) → Header
plain_header typ remote seq ack =
    record { typ = typ; data_offset = 0; stream_id = remote; recv_win = 4_294_967_295; seq = seq; ack = ack }

plain_datagram : (remote : ℕ) (pieces : List Bytes) (ack seq typ : ℕ) → typ < 256 → has_type 4 typ ≡ false → has_type 1 typ ≡ false → seq ≤ length pieces
    → Datagram remote pieces ack (header_bytes (plain_header typ remote seq ack) ++ [])
plain_datagram remote pieces ack seq typ l₁ e₁ e₂ l =
    record {
      header = plain_header typ remote seq ack;
      payload = [];
      encoded = refl;
      type_fits = l₁;
      offset_fits = omega arith;
      to_remote = refl;
      window_fits = le_refl _;
      ack_reached = le_refl ack;
      seq_reached = l;
      no_sack = e₁;
      piece_if_data = λ e. absurd (true≢false (sym e ∙ e₂));
    }

state_datagram : (remote : ℕ) (pieces : List Bytes) (ack seq : ℕ) (b : Bool) → seq ≤ length pieces
    → Datagram remote pieces ack (header_bytes (plain_header (state_type b) remote seq ack) ++ [])
state_datagram remote pieces ack seq true l = plain_datagram remote pieces ack seq 2 (omega arith) refl refl l
state_datagram remote pieces ack seq false l = plain_datagram remote pieces ack seq 0 (omega arith) refl refl l

-- the same for a queue, for what was taken and for a store
module _ (remote : ℕ) (pieces more : List Bytes) (ack later : ℕ) (l : ack ≤ later) where
  entry_later : (x : Entry) → QueueEntry remote pieces ack x → QueueEntry remote (pieces ++ more) later x
  entry_later (state b) s = datagram_later more later l b s
  entry_later (packet n k) s =
      let u = s.0 in (rw length-append (omega arith), s.1 ∙ ap (λ (z : Bytes). 20 + length z) (sym (piece_stays pieces n more s.0)))

  queue_later : (q : List Entry) → QueueOk remote pieces ack q → QueueOk remote (pieces ++ more) later q
  queue_later q s = all_map entry_later q s

  taken_later : (ds : List Bytes) → TakenOk remote pieces ack ds → TakenOk remote (pieces ++ more) later ds
  taken_later ds s = all_map (datagram_later more later l) ds s

  stored_later : (remote_acked : ℕ) (outgoing : Slots Packet) → StoredPieces remote remote_acked outgoing pieces ack → StoredPieces remote remote_acked outgoing (pieces ++ more) later
  stored_later remote_acked outgoing s n p e = let (u, v) = s n p e in (u, piece_later more later l v)

-- the same with no more pieces
module _ (remote : ℕ) (pieces : List Bytes) (ack later : ℕ) (l : ack ≤ later) where
  pub queue_acked : (q : List Entry) → QueueOk remote pieces ack q → QueueOk remote pieces later q
  queue_acked q s = subst (λ (ps : List Bytes). QueueOk remote ps later q) (append-nil pieces) (queue_later remote pieces [] ack later l q s)

  pub taken_acked : (ds : List Bytes) → TakenOk remote pieces ack ds → TakenOk remote pieces later ds
  taken_acked ds s = subst (λ (ps : List Bytes). TakenOk remote ps later ds) (append-nil pieces) (taken_later remote pieces [] ack later l ds s)

  pub stored_acked : (remote_acked : ℕ) (outgoing : Slots Packet) → StoredPieces remote remote_acked outgoing pieces ack → StoredPieces remote remote_acked outgoing pieces later
  stored_acked remote_acked outgoing s =
      subst (λ (ps : List Bytes). StoredPieces remote remote_acked outgoing ps later) (append-nil pieces) (stored_later remote pieces [] ack later l remote_acked outgoing s)

-- lengths

pub piece_length : {remote ack n : ℕ} {pieces : List Bytes} {d : Bytes} → PieceAt remote pieces ack n d → length d ≡ 20 + length (get_or pieces n [])
piece_length s = ap length s.encoded ∙ packet_length _ _

pub datagram_filled : {remote ack : ℕ} {pieces : List Bytes} {d : Bytes} → Datagram remote pieces ack d → 0 < length d
datagram_filled {d = d} s =
    let e : length d ≡ 20 + length s.payload = ap length s.encoded ∙ packet_length s.header s.payload in omega arith

-- the store after a change of marks: the same numbers and bytes
module _ (outgoing : Slots Packet) (n : ℕ) (f : Marks → Marks) (p : Packet) (len : length outgoing ≡ ceiling) (there : get outgoing n ≡ some p) where
  bytes_stay : (m : ℕ) (q : Packet) → get (insert outgoing n (marked f p)) m ≡ some q → (o : Packet) × (get outgoing m ≡ some o) × (o.bytes ≡ q.bytes)
  bytes_stay m q e = cases (insert_cases outgoing n m (marked f p) q len e)
    where
      cases : ((m ≡ n) × (marked f p ≡ q)) ⊎ ((m ≢ n) × (get outgoing m ≡ some q)) → (o : Packet) × (get outgoing m ≡ some o) × (o.bytes ≡ q.bytes)
      cases (inl (u, v)) = (p, ap (get outgoing) u ∙ there, ap (λ (x : Packet). x.bytes) v)
      cases (inr (u, v)) = (q, v, refl)

  still_there : (a m : ℕ) → ((j : ℕ) (q : Packet) → get outgoing j ≡ some q → (a ≤ j) × (j < a + ceiling)) → There outgoing m
      → There (insert outgoing n (marked f p)) m
  still_there a m within (q, e) = by (ℕ_discrete m n)
    where
      by : Dec (m ≡ n) → There (insert outgoing n (marked f p)) m
      by (yes d) = (marked f p, (rw d (insert_same outgoing n (marked f p) len)))
      by (no d) =
          let (u, v) = within m q e in let (u', v') = within n p there in (q, insert_other outgoing n m (marked f p) (apart a m n u v u' v' d) ∙ e)

-- one direction: the small steps at the sender

module _ (e : End) (g : History) (f : End) (k : History) where
  pub one_way_state : OneWay e g f k → OneWay (send_state_packet e) g f k
  one_way_state w =
      record {
        pieces = w.pieces;
        stored = w.stored;
        queue =
            all_append (QueueEntry e.ids.remote g.pieces e.receiver.ack) e.queue.entries
            (state (create_packet (state_type (is_set e.ending.error)) [] e) ∷ []) w.queue
            (state_datagram e.ids.remote g.pieces e.receiver.ack e.sender.seq (is_set e.ending.error) (let z = w.pieces.numbered in omega arith), tt);
        taken = w.taken;
        received = w.received;
        ack_missing = w.ack_missing;
        outstanding = w.outstanding;
      }

  pub one_way_entry : (n l : ℕ) → QueueEntry e.ids.remote g.pieces e.receiver.ack (packet n l)
      → OneWay e g f k → OneWay (with_queue (pushed (packet n l) e.queue) e) g f k
  one_way_entry n l x w =
      record {
        pieces = w.pieces;
        stored = w.stored;
        queue = all_append (QueueEntry e.ids.remote g.pieces e.receiver.ack) e.queue.entries (packet n l ∷ []) w.queue (x, tt);
        taken = w.taken;
        received = w.received;
        ack_missing = w.ack_missing;
        outstanding = w.outstanding;
      }

  -- stored numbers are less than 32 past remote acked
  within : OneWay e g f k → (j : ℕ) (p : Packet) → get e.sender.outgoing j ≡ some p → (e.sender.remote_acked ≤ j) × (j < e.sender.remote_acked + ceiling)
  within w j p q =
      let (u, v) = w.stored j p q in
      let x = v.is_piece in
      let y = w.pieces.numbered in
      let z = w.outstanding.window in
      (u, omega arith)

  -- a stored packet gets other marks
  pub one_way_remarked : (n inflight : ℕ) (m : Marks → Marks) (p : Packet) → get e.sender.outgoing n ≡ some p
      → OneWay e g f k → OneWay (with_sender (remarked n inflight m p e.sender) e) g f k
  one_way_remarked n inflight m p there w =
      record {
        pieces = w.pieces;
        stored = λ j q z.
            let (o, y, b) = bytes_stay e.sender.outgoing n m p w.outstanding.slots there j q z in
            let (u, v) = w.stored j o y in
            (u, subst (PieceAt e.ids.remote g.pieces e.receiver.ack j) b v);
        queue = w.queue;
        taken = w.taken;
        received = w.received;
        ack_missing = w.ack_missing;
        outstanding =
            record {
              slots = insert_length e.sender.outgoing n (marked m p) ∙ w.outstanding.slots;
              window = w.outstanding.window;
              settled_to_ack = w.outstanding.settled_to_ack;
              largest_to_ack = w.outstanding.largest_to_ack;
              still_stored = λ j a b.
                  still_there e.sender.outgoing n m p w.outstanding.slots there e.sender.remote_acked j (within w) (w.outstanding.still_stored j a b);
            };
      }

  -- a packet that the receiver's ack is past leaves the store
  pub one_way_left : (n : ℕ) (p : Packet) → n < f.receiver.ack → OneWay e g f k → OneWay (with_sender (left n p e.sender) e) g f k
  one_way_left n p l w =
      record {
        pieces = w.pieces;
        stored = λ j q z. w.stored j q (remove_cases e.sender.outgoing n j q w.outstanding.slots z).1;
        queue = w.queue;
        taken = w.taken;
        received = w.received;
        ack_missing = w.ack_missing;
        outstanding =
            record {
              slots = remove_length e.sender.outgoing n ∙ w.outstanding.slots;
              window = w.outstanding.window;
              settled_to_ack = w.outstanding.settled_to_ack;
              largest_to_ack = w.outstanding.largest_to_ack;
              still_stored = λ j a b.
                  let (q, z) = w.outstanding.still_stored j a b in (q, remove_keep e.sender.outgoing n j q (λ z. absurd (omega arith)) z);
            };
      }

  -- remote acked moves past a number that is not stored and that the receiver's ack is past
  pub one_way_settled : e.sender.remote_acked < f.receiver.ack → get e.sender.outgoing e.sender.remote_acked ≡ none
      → OneWay e g f k → OneWay (with_sender (settled e.sender) e) g f k
  one_way_settled l gone w =
      record {
        pieces = w.pieces;
        stored = λ j q z. (let (u, v) = w.stored j q z in let ne = other j q z in (omega arith, v));
        queue = w.queue;
        taken = w.taken;
        received = w.received;
        ack_missing = w.ack_missing;
        outstanding =
            record {
              slots = w.outstanding.slots;
              window = (let z = w.outstanding.window in omega arith);
              settled_to_ack = l;
              largest_to_ack = w.outstanding.largest_to_ack;
              still_stored = w.outstanding.still_stored;
            };
      }
    where
      other : (j : ℕ) (q : Packet) → get e.sender.outgoing j ≡ some q → j ≢ e.sender.remote_acked
      other j q z y = no_some gone (ap (get e.sender.outgoing) (sym y) ∙ z)

  -- an ack that the receiver has reached is recorded
  pub one_way_acked : (h : Header) → h.ack ≤ f.receiver.ack → OneWay e g f k → OneWay (with_sender (on_ack_sender h e.sender) e) g f k
  one_way_acked h l w =
      record {
        pieces = w.pieces;
        stored = w.stored;
        queue = w.queue;
        taken = w.taken;
        received = w.received;
        ack_missing = w.ack_missing;
        outstanding =
            record {
              slots = w.outstanding.slots;
              window = w.outstanding.window;
              settled_to_ack = w.outstanding.settled_to_ack;
              largest_to_ack = (let z = w.outstanding.largest_to_ack in omega arith);
              still_stored = w.outstanding.still_stored;
            };
      }

  pub one_way_no_ack : OneWay e g f k → OneWay (with_sender (no_ack e.sender) e) g f k
  one_way_no_ack w =
      record {
        pieces = w.pieces;
        stored = w.stored;
        queue = w.queue;
        taken = w.taken;
        received = w.received;
        ack_missing = w.ack_missing;
        outstanding =
            record {
              slots = w.outstanding.slots;
              window = w.outstanding.window;
              settled_to_ack = w.outstanding.settled_to_ack;
              largest_to_ack = zero-le;
              still_stored = w.outstanding.still_stored;
            };
      }

-- a piece goes

-- the history after a piece went
abbrev pub with_piece : History → Bytes → History
with_piece g p = record { accepted = g.accepted ++ p; pieces = g.pieces ++ (p ∷ []); reads = g.reads; taken = g.taken; brought = g.brought }

received_later : {ack read_cursor : ℕ} {incoming : Slots Held} {pieces : List Bytes} {reads : Bytes} {brought : List ℕ} (more : List Bytes)
    → get incoming ack ≡ none → Received ack read_cursor incoming pieces reads brought → Received ack read_cursor incoming (pieces ++ more) reads brought
received_later {ack} {read_cursor} {incoming} {pieces} {reads} {brought} more missing i =
    let u = i.ack_to_pieces in
    let v = i.cursor_to_ack in
    record {
      slots = i.slots;
      cursor_to_ack = i.cursor_to_ack;
      ack_to_pieces = rw length-append (omega arith);
      in_order = i.in_order;
      held = λ n h e.
          let k = i.held n h e in
          let b = k.is_piece in
          record {
            not_read = k.not_read;
            in_reach = k.in_reach;
            is_piece = rw length-append (omega arith);
            payload = k.payload ∙ sym (piece_stays pieces n more k.is_piece);
            offset_fits = k.offset_fits;
            unread = k.unread;
            was_brought = k.was_brought;
          };
      reads_are =
          i.reads_are
          ∙ ap₂ (λ (x y : Bytes). x ++ y) (ap joined (sym (take-append-le read_cursor pieces more (omega arith)))) (at (dec_lt read_cursor (length pieces)));
      below_ack = i.below_ack;
      from_ack = i.from_ack;
    }
  where
    at : Dec (read_cursor < length pieces)
        → take (offset_of (get incoming read_cursor)) (get_or pieces read_cursor []) ≡ take (offset_of (get incoming read_cursor)) (get_or (pieces ++ more) read_cursor [])
    at (yes l) = ap (take (offset_of (get incoming read_cursor))) (sym (piece_stays pieces read_cursor more l))
    at (no l) =
        let u = i.ack_to_pieces in
        let v = i.cursor_to_ack in
        rw (ap offset_of (ap (get incoming) (let z : read_cursor ≡ ack = omega arith in z) ∙ missing)) refl

module _ (e : End) (g : History) (f : End) (k : History) (p : Bytes) where
  pub one_way_piece : length p ≤ 1_380 → e.sender.seq < 4_294_967_295 → e.sender.seq - e.sender.remote_acked < ceiling
      → OneWay e g f k → OneWay (send_data_packet p e) (with_piece g p) f k
  one_way_piece l fits room w =
      record {
        pieces =
            record {
              remote_fits = w.pieces.remote_fits;
              numbered = rw length-append (let z = w.pieces.numbered in omega arith);
              seq_fits = fits;
              short = all_append (λ p. length p ≤ 1_380) g.pieces (p ∷ []) w.pieces.short (l, tt);
              whole = joined_append g.pieces (p ∷ []) ∙ ap₂ (λ (x y : Bytes). x ++ y) w.pieces.whole (append-nil p);
            };
        stored = λ j q z. cases j q (insert_cases e.sender.outgoing e.sender.seq j new q w.outstanding.slots z);
        queue =
            all_append (QueueEntry e.ids.remote (g.pieces ++ (p ∷ [])) e.receiver.ack) e.queue.entries (packet e.sender.seq (20 + length p) ∷ [])
            (queue_later e.ids.remote g.pieces (p ∷ []) e.receiver.ack e.receiver.ack (le_refl _) e.queue.entries w.queue)
            ((rw length-append (let z = w.pieces.numbered in omega arith), ap (λ (z : Bytes). 20 + length z) (sym last)), tt);
        taken = taken_later e.ids.remote g.pieces (p ∷ []) e.receiver.ack e.receiver.ack (le_refl _) g.taken w.taken;
        received = received_later (p ∷ []) w.ack_missing w.received;
        ack_missing = w.ack_missing;
        outstanding =
            record {
              slots = insert_length e.sender.outgoing e.sender.seq new ∙ w.outstanding.slots;
              window = omega arith;
              settled_to_ack = w.outstanding.settled_to_ack;
              largest_to_ack = w.outstanding.largest_to_ack;
              still_stored = λ j a b. keeps j a b (ℕ_discrete j e.sender.seq);
            };
      }
    where
      new : Packet
      new = record { bytes = create_packet 1 p e; marks = new_marks }

      last : get_or (g.pieces ++ (p ∷ [])) e.sender.seq [] ≡ p
      last = get_or_at g.pieces p [] [] e.sender.seq w.pieces.numbered

      cases : (j : ℕ) (q : Packet) → ((j ≡ e.sender.seq) × (new ≡ q)) ⊎ ((j ≢ e.sender.seq) × (get e.sender.outgoing j ≡ some q))
          → (e.sender.remote_acked ≤ j) × PieceAt e.ids.remote (g.pieces ++ (p ∷ [])) e.receiver.ack j q.bytes
      cases j q (inl (a, b)) =
          let x = w.outstanding.settled_to_ack in
          let y = w.received.ack_to_pieces in
          let z = w.pieces.numbered in (
            omega arith,
            rw (a, ← (ap (λ (x : Packet). x.bytes) b)) (record {
              made_at = e.receiver.ack;
              made_before = le_refl _;
              is_piece = rw length-append (omega arith);
              encoded = ap (λ (z : Bytes). header_bytes (create_header 1 e) ++ z) (sym last);
            }),
          )
      cases j q (inr (a, b)) = let (u, v) = w.stored j q b in (u, piece_later (p ∷ []) e.receiver.ack (le_refl _) v)

      keeps : (j : ℕ) → f.receiver.ack ≤ j → j < suc e.sender.seq → Dec (j ≡ e.sender.seq)
          → There (insert e.sender.outgoing e.sender.seq new) j
      keeps j a b (yes z) = (new, (rw z (insert_same e.sender.outgoing e.sender.seq new w.outstanding.slots)))
      keeps j a b (no z) =
          let (q, y) = w.outstanding.still_stored j a (omega arith) in
          let (u, v) = within e g f k w j q y in
          let x = w.outstanding.settled_to_ack in
          let t = w.received.ack_to_pieces in
          let s = w.pieces.numbered in
          (q, insert_other e.sender.outgoing e.sender.seq j new (apart e.sender.remote_acked j e.sender.seq u v (omega arith) (omega arith) z) ∙ y)
