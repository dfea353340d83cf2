-- The receiver's part of the invariant: holding a payload, moving the ack, reading. Each change of the receiver's record keeps
-- `Received`, and a read either reads all that is in order or fills its room.
use Prim.Native.Nat.{ℕ, zero, suc, ◌+◌, ◌-◌, ◌%◌, ◌≤◌, ◌<◌, zero-le}
use native.Mathlib.Nat.{le_refl}
use native.Mathlib.Decide.{ℕ_discrete, dec_lt}
use native.Mathlib.Omega.{arith}
use mathlib.Core.Path.{◌≡◌, refl, sym, ap, ◌∙◌, subst}
use mathlib.Core.Logic.{◌≢◌, ◌⊎◌, inl, inr}
use mathlib.Core.List.Memᴰ
use mathlib.Core.List.{List, [], ◌∷◌, ◌++◌, append_assoc, append-nil, Memᴰ}
use mathlib.Core.Option.{Option, none, some}
use mathlib.Core.Bool.{cond}
use lib.Dec.{ltb, leb}
use borrow.Author.Tests.{ltb-true, ltb-false, leb-true, leb-false}
use lib.ListN.{length, take, get_or, length-drop, length-take, length-append, take-append-drop}
use lib.Seq.{take-add}
use Rattle.model.specs.Lists.{Bytes, joined, on}
use Rattle.model.specs.Slots.{Slots, ceiling, get, insert, remove}
use Rattle.model.specs.Stream.{Held, Receiver}
use Rattle.model.specs.Receiving.{Got, held, acked, advance, absorb, finished, rest, got_none, got_front, got_whole, read_loop}
use Rattle.model.proofs.Lists.{by-test, joined_take_suc}
use Rattle.model.proofs.Slots.{apart, no_some, some_inj, insert_length, remove_length, insert_same, insert_other, insert_none, insert_cases, remove_cases, remove_keep, remove_none}
use Rattle.model_ends.proofs.Line.{There, Received, HeldPiece, offset_of, ReceivedBy, AckMissing}

below_or_last : (n a : ℕ) → n < suc a → (n < a) ⊎ (n ≡ a)
below_or_last n a h = go (dec_lt n a)
  where
    go : Dec (n < a) → (n < a) ⊎ (n ≡ a)
    go (yes l) = inl l
    go (no l) = inr (omega arith)

-- one more number is brought
member_more : {n : ℕ} {brought : List ℕ} (m : ℕ) → Memᴰ n brought → Memᴰ n (brought ++ (m ∷ []))
member_more m h = Memᴰ.append_left (m ∷ []) h

held_more : {read_cursor : ℕ} {pieces : List Bytes} {brought : List ℕ} {n : ℕ} {h : Held} (m : ℕ)
    → HeldPiece read_cursor pieces brought n h → HeldPiece read_cursor pieces (brought ++ (m ∷ [])) n h
held_more m k =
    record {
      not_read = k.not_read;
      in_reach = k.in_reach;
      is_piece = k.is_piece;
      payload = k.payload;
      offset_fits = k.offset_fits;
      unread = k.unread;
      was_brought = member_more m k.was_brought;
    }

module _ {pieces : List Bytes} {reads : Bytes} {brought : List ℕ} where
  -- the ack is within reach of the read cursor
  pub ack_in_reach : {ack read_cursor : ℕ} {incoming : Slots Held} → Received ack read_cursor incoming pieces reads brought → ack ≤ read_cursor + ceiling
  ack_in_reach {ack} {read_cursor} {incoming} i = go (dec_lt read_cursor ack)
    where
      go : Dec (read_cursor < ack) → ack ≤ read_cursor + ceiling
      go (yes l) = let (h, e) = i.in_order (ack - 1) (omega arith) (omega arith) in let u = (i.held (ack - 1) h e).in_reach in omega arith
      go (no l) = omega arith

  -- DATA older than ack
  received_old : {ack read_cursor : ℕ} {incoming : Slots Held} (n : ℕ) → n < ack
      → Received ack read_cursor incoming pieces reads brought → Received ack read_cursor incoming pieces reads (brought ++ (n ∷ []))
  received_old {ack} {read_cursor} {incoming} n l i =
      record {
        slots = i.slots;
        cursor_to_ack = i.cursor_to_ack;
        ack_to_pieces = i.ack_to_pieces;
        in_order = i.in_order;
        held = λ m h e. held_more n (i.held m h e);
        reads_are = i.reads_are;
        below_ack = λ m q. member_more n (i.below_ack m q);
        from_ack = λ m q. cases m (Memᴰ.append_cases brought q);
      }
    where
      cases : (m : ℕ) → Memᴰ m brought ⊎ Memᴰ m (n ∷ []) → (m < ack) ⊎ There incoming m
      cases m (inl q) = i.from_ack m q
      cases m (inr q) = let e : m ≡ n = Memᴰ.eq_of_singleton q in inl (omega arith)

  -- DATA at or past ack
  received_held : {ack read_cursor : ℕ} {incoming : Slots Held} (n : ℕ) → ack ≤ n → n < read_cursor + ceiling → n < length pieces
      → get incoming ack ≡ none
      → Received ack read_cursor incoming pieces reads brought
      → Received ack read_cursor (insert incoming n (record { payload = get_or pieces n []; offset = 0 })) pieces reads (brought ++ (n ∷ []))
  received_held {ack} {read_cursor} {incoming} n l reach piece missing i =
      record {
        slots = insert_length incoming n new ∙ i.slots;
        cursor_to_ack = i.cursor_to_ack;
        ack_to_pieces = i.ack_to_pieces;
        in_order = λ m a b. let (h, e) = i.in_order m a b in (h, insert_other incoming n m new (away m (i.held m h e) (λ q. absurd (omega arith))) ∙ e);
        held = λ m h e. cases m h (insert_cases incoming n m new h i.slots e);
        reads_are = i.reads_are ∙ ap (λ (o : ℕ). joined (take read_cursor pieces) ++ take o (get_or pieces read_cursor [])) (offsets (ℕ_discrete read_cursor n));
        below_ack = λ m q. member_more n (i.below_ack m q);
        from_ack = λ m q. brings m (Memᴰ.append_cases brought q);
      }
    where
      new : Held
      new = record { payload = get_or pieces n []; offset = 0 }

      away : (m : ℕ) {h : Held} → HeldPiece read_cursor pieces brought m h → m ≢ n → m % ceiling ≢ n % ceiling
      away m k ne = let u = i.cursor_to_ack in apart read_cursor m n k.not_read k.in_reach (omega arith) reach ne

      new_held : HeldPiece read_cursor pieces (brought ++ (n ∷ [])) n new
      new_held =
          let a : read_cursor ≤ ack = i.cursor_to_ack in
          record {
            not_read = omega arith;
            in_reach = reach;
            is_piece = piece;
            payload = refl;
            offset_fits = zero-le;
            unread = λ q. refl;
            was_brought = Memᴰ.append_right brought (Memᴰ.head refl);
          }

      cases : (m : ℕ) (h : Held) → ((m ≡ n) × (new ≡ h)) ⊎ ((m ≢ n) × (get incoming m ≡ some h)) → HeldPiece read_cursor pieces (brought ++ (n ∷ [])) m h
      cases m h (inl (a, b)) = rw (a, ← b) new_held
      cases m h (inr (a, b)) = held_more n (i.held m h b)

      offsets : Dec (read_cursor ≡ n) → offset_of (get incoming read_cursor) ≡ offset_of (get (insert incoming n new) read_cursor)
      offsets (yes e) =
          let u : read_cursor ≤ ack = i.cursor_to_ack in
          ap offset_of (ap (get incoming) (let z : read_cursor ≡ ack = omega arith in z) ∙ missing)
          ∙ sym (ap offset_of (ap (get (insert incoming n new)) e ∙ insert_same incoming n new i.slots))
      offsets (no e) =
          let u = i.cursor_to_ack in
          ap offset_of (sym (insert_other incoming n read_cursor new (apart read_cursor read_cursor n (le_refl read_cursor) (omega arith) (omega arith) reach e)))

      stays : (m : ℕ) → (h : Held) → get incoming m ≡ some h → Dec (m ≡ n) → There (insert incoming n new) m
      stays m h e (yes q) = (new, (rw q (insert_same incoming n new i.slots)))
      stays m h e (no q) = (h, insert_other incoming n m new (away m (i.held m h e) q) ∙ e)

      old : (m : ℕ) → (m < ack) ⊎ There incoming m → (m < ack) ⊎ There (insert incoming n new) m
      old m (inl q) = inl q
      old m (inr (h, e)) = inr (stays m h e (ℕ_discrete m n))

      brings : (m : ℕ) → Memᴰ m brought ⊎ Memᴰ m (n ∷ []) → (m < ack) ⊎ There (insert incoming n new) m
      brings m (inl q) = old m (i.from_ack m q)
      brings m (inr q) = inr (new, (rw (Memᴰ.eq_of_singleton q) (insert_same incoming n new i.slots)))

  -- the packet numbered ack is held: ack moves past it
  received_acked : {ack read_cursor : ℕ} {incoming : Slots Held} {h : Held} → get incoming ack ≡ some h
      → Received ack read_cursor incoming pieces reads brought → Received (suc ack) read_cursor incoming pieces reads brought
  received_acked {ack} {read_cursor} {incoming} {h} e i =
      let k = i.held ack h e in
      record {
        slots = i.slots;
        cursor_to_ack = omega arith;
        ack_to_pieces = k.is_piece;
        in_order = λ m a b. runs m a (below_or_last m ack b);
        held = i.held;
        reads_are = i.reads_are;
        below_ack = λ m q. lower m (below_or_last m ack q);
        from_ack = λ m q. higher m (i.from_ack m q);
      }
    where
      runs : (m : ℕ) → read_cursor ≤ m → (m < ack) ⊎ (m ≡ ack) → There incoming m
      runs m a (inl b) = i.in_order m a b
      runs m a (inr b) = (h, ap (get incoming) b ∙ e)

      lower : (m : ℕ) → (m < ack) ⊎ (m ≡ ack) → Memᴰ m brought
      lower m (inl b) = i.below_ack m b
      lower m (inr b) = rw b (i.held ack h e).was_brought

      higher : (m : ℕ) → (m < ack) ⊎ There incoming m → (m < suc ack) ⊎ There incoming m
      higher m (inl b) = inl (omega arith)
      higher m (inr b) = inr b

-- a payload is absorbed

-- what a change of the receiver's record keeps; `before` is the ack before it
pub record Moved (before : ℕ) (pieces : List Bytes) (reads : Bytes) (brought : List ℕ) (r : Receiver) : Type 0 where
  pub received : ReceivedBy r pieces reads brought
  pub ack_missing : AckMissing r
  pub ack_grows : before ≤ r.ack

module _ {pieces : List Bytes} {reads : Bytes} {brought : List ℕ} where
  advanced : (k : ℕ) (r : Receiver) → r.read_cursor + ceiling ≤ r.ack + k
      → ReceivedBy r pieces reads brought → Moved r.ack pieces reads brought (advance k r)
  unfolding advance
  advanced zero r l i = record { received = i; ack_missing = none_at (get r.incoming r.ack) refl; ack_grows = le_refl _ }
    where
      none_at : (o : Option Held) → get r.incoming r.ack ≡ o → o ≡ none
      none_at none e = refl
      none_at (some h) e = let b = (i.held r.ack h e).in_reach in absurd (omega arith)
  advanced (suc k) r l i = go (get r.incoming r.ack) refl (λ j. advanced k (acked r) (omega arith) j)
    where
      go : (o : Option Held) → get r.incoming r.ack ≡ o
          → (Received (suc r.ack) r.read_cursor r.incoming pieces reads brought → Moved (suc r.ack) pieces reads brought (advance k (acked r)))
          → Moved r.ack pieces reads brought (on o r (λ h. advance k (acked r)))
      go none e rec = record { received = i; ack_missing = e; ack_grows = le_refl _ }
      go (some h) e rec =
          let m = rec (received_acked e i) in
          record { received = m.received; ack_missing = m.ack_missing; ack_grows = let u = m.ack_grows in omega arith }

module _ {pieces : List Bytes} {reads : Bytes} {brought : List ℕ} where
  pub absorbed : (n : ℕ) (payload : Bytes) (r : Receiver) → n < r.read_cursor + ceiling → n < length pieces → payload ≡ get_or pieces n []
      → AckMissing r
      → ReceivedBy r pieces reads brought
      → Moved r.ack pieces reads (brought ++ (n ∷ [])) (absorb n payload r)
  unfolding absorb advance
  absorbed n payload r reach piece is missing i =
      by-test Q (leb r.ack n) (held n payload r) r
      (λ e. rw is (go (held n (get_or pieces n []) r) refl refl (received_held n (leb-true r.ack n e) reach piece missing i)))
      (λ e. go r refl refl (received_old n (leb-false r.ack n e) i))
    where
      Q : Receiver → Type 0
      Q r' = Moved r.ack pieces reads (brought ++ (n ∷ [])) (advance ((r.read_cursor + ceiling) - r.ack) r')

      go : (r' : Receiver) → r'.ack ≡ r.ack → r'.read_cursor ≡ r.read_cursor
          → ReceivedBy r' pieces reads (brought ++ (n ∷ [])) → Q r'
      go r' a b j =
          let z : r.read_cursor ≤ r.ack = i.cursor_to_ack in
          let m = advanced ((r.read_cursor + ceiling) - r.ack) r' (omega arith) j in
          record { received = m.received; ack_missing = m.ack_missing; ack_grows = let u = m.ack_grows in omega arith }

  -- a held packet at the read cursor is below the ack
  cursor_below_ack : {ack read_cursor : ℕ} {incoming : Slots Held} {h : Held} → get incoming ack ≡ none → get incoming read_cursor ≡ some h
      → Received ack read_cursor incoming pieces reads brought → read_cursor < ack
  cursor_below_ack {ack} {read_cursor} {incoming} {h} missing e i = go (ℕ_discrete read_cursor ack)
    where
      go : Dec (read_cursor ≡ ack) → read_cursor < ack
      go (yes q) = absurd (no_some missing (ap (get incoming) (sym q) ∙ e))
      go (no q) = let l = i.cursor_to_ack in omega arith

  -- the packet at the read cursor is read to its end
  received_finished : {ack read_cursor : ℕ} {incoming : Slots Held} {h : Held} → get incoming ack ≡ none → get incoming read_cursor ≡ some h
      → Received ack read_cursor incoming pieces reads brought
      → Received ack (suc read_cursor) (remove incoming read_cursor) pieces (reads ++ rest h) brought
  received_finished {ack} {read_cursor} {incoming} {h} missing e i =
      record {
        slots = remove_length incoming read_cursor ∙ i.slots;
        cursor_to_ack = cursor_below_ack missing e i;
        ack_to_pieces = i.ack_to_pieces;
        in_order = λ m a b. let (g, q) = i.in_order m (omega arith) b in (g, remove_keep incoming read_cursor m g (λ z. absurd (omega arith)) q);
        held = λ m g q. cases m g (remove_cases incoming read_cursor m g i.slots q);
        reads_are =
            to_end
            ∙ sym (ap (λ (o : ℕ). joined (take (suc read_cursor) pieces) ++ take o (get_or pieces (suc read_cursor) [])) next ∙ append-nil (joined (take (suc read_cursor) pieces)));
        below_ack = i.below_ack;
        from_ack = λ m q. brings m (i.from_ack m q) (ℕ_discrete m read_cursor);
      }
    where
      to_end : reads ++ rest h ≡ joined (take (suc read_cursor) pieces)
      to_end =
          rw (i.reads_are, (i.held read_cursor h e).payload, ap offset_of e, append_assoc, take-append-drop)
          (sym (joined_take_suc pieces read_cursor (i.held read_cursor h e).is_piece))

      next : offset_of (get (remove incoming read_cursor) (suc read_cursor)) ≡ 0
      next = at (get (remove incoming read_cursor) (suc read_cursor)) refl
        where
          at : (o : Option Held) → get (remove incoming read_cursor) (suc read_cursor) ≡ o → offset_of o ≡ 0
          at none z = refl
          at (some g) z = let (ne, q) = remove_cases incoming read_cursor (suc read_cursor) g i.slots z in (i.held (suc read_cursor) g q).unread ne

      cases : (m : ℕ) (g : Held) → (m ≢ read_cursor) × (get incoming m ≡ some g) → HeldPiece (suc read_cursor) pieces brought m g
      cases m g (a, b) =
          let k = i.held m g b in
          let l = k.not_read in
          let u = k.in_reach in
          record {
            not_read = omega arith;
            in_reach = omega arith;
            is_piece = k.is_piece;
            payload = k.payload;
            offset_fits = k.offset_fits;
            unread = λ z. k.unread a;
            was_brought = k.was_brought;
          }

      brings : (m : ℕ) → (m < ack) ⊎ There incoming m → Dec (m ≡ read_cursor)
          → (m < ack) ⊎ There (remove incoming read_cursor) m
      brings m (inl q) d = inl q
      brings m (inr (g, q)) (yes z) = let l = cursor_below_ack missing e i in inl (omega arith)
      brings m (inr (g, q)) (no z) = inr (g, remove_keep incoming read_cursor m g z q)

  -- the packet at the read cursor gives its front part
  received_front : {ack read_cursor : ℕ} {incoming : Slots Held} {h : Held} (room : ℕ) → room < length (rest h)
      → get incoming ack ≡ none → get incoming read_cursor ≡ some h
      → Received ack read_cursor incoming pieces reads brought
      → Received ack read_cursor (insert incoming read_cursor (record { payload = h.payload; offset = h.offset + room })) pieces (reads ++ take room (rest h)) brought
  received_front {ack} {read_cursor} {incoming} {h} room l missing e i =
      record {
        slots = insert_length incoming read_cursor new ∙ i.slots;
        cursor_to_ack = i.cursor_to_ack;
        ack_to_pieces = i.ack_to_pieces;
        in_order = λ m a b. stays m (i.in_order m a b) (ℕ_discrete m read_cursor);
        held = λ m g q. cases m g (insert_cases incoming read_cursor m new g i.slots q);
        reads_are =
            rw (insert_same incoming read_cursor new i.slots)
            (rw (i.reads_are, (i.held read_cursor h e).payload, ap offset_of e, append_assoc)
            (rw (← (take-add h.offset room (get_or pieces read_cursor []))) refl));
        below_ack = i.below_ack;
        from_ack = λ m q. brings m (i.from_ack m q);
      }
    where
      new : Held
      new = record { payload = h.payload; offset = h.offset + room }

      stays : (m : ℕ) → There incoming m → Dec (m ≡ read_cursor) → There (insert incoming read_cursor new) m
      stays m g (yes z) = (new, (rw z (insert_same incoming read_cursor new i.slots)))
      stays m (g, q) (no z) =
          let k = i.held m g q in
          (g, insert_other incoming read_cursor m new (apart read_cursor m read_cursor k.not_read k.in_reach (le_refl read_cursor) (omega arith) z) ∙ q)

      new_held : HeldPiece read_cursor pieces brought read_cursor new
      new_held =
          let k = i.held read_cursor h e in
          let q = length-drop h.offset h.payload in
          record {
            not_read = k.not_read;
            in_reach = k.in_reach;
            is_piece = k.is_piece;
            payload = k.payload;
            offset_fits = omega arith;
            unread = λ z. absurd (z refl);
            was_brought = k.was_brought;
          }

      cases : (m : ℕ) (g : Held) → ((m ≡ read_cursor) × (new ≡ g)) ⊎ ((m ≢ read_cursor) × (get incoming m ≡ some g)) → HeldPiece read_cursor pieces brought m g
      cases m g (inl (a, b)) = rw (a, ← b) new_held
      cases m g (inr (a, b)) = i.held m g b

      brings : (m : ℕ) → (m < ack) ⊎ There incoming m → (m < ack) ⊎ There (insert incoming read_cursor new) m
      brings m (inl q) = inl q
      brings m (inr q) = inr (stays m q (ℕ_discrete m read_cursor))

  still_missing : {ack read_cursor : ℕ} {incoming : Slots Held} {h : Held} (v : Held) → get incoming ack ≡ none → get incoming read_cursor ≡ some h
      → Received ack read_cursor incoming pieces reads brought → get (insert incoming read_cursor v) ack ≡ none
  still_missing {ack} {read_cursor} {incoming} v missing e i =
      let l = cursor_below_ack missing e i in insert_none incoming read_cursor ack v i.slots missing (λ z. absurd (omega arith))

  -- nothing is held at the read cursor: all that is in order has been read
  all_read : {ack read_cursor : ℕ} {incoming : Slots Held} → get incoming ack ≡ none → get incoming read_cursor ≡ none
      → Received ack read_cursor incoming pieces reads brought → read_cursor ≡ ack
  all_read {ack} {read_cursor} {incoming} missing e i = go (dec_lt read_cursor ack)
    where
      go : Dec (read_cursor < ack) → read_cursor ≡ ack
      go (yes l) = let (h, q) = i.in_order read_cursor (le_refl read_cursor) l in absurd (no_some e q)
      go (no l) = let z = i.cursor_to_ack in omega arith

-- a read

-- what a read of at most k packets into `room` bytes gives
pub record ReadGives (k : ℕ) (r : Receiver) (room : ℕ) (pieces : List Bytes) (reads : Bytes) (brought : List ℕ) (g : Got) : Type 0 where
  pub received : ReceivedBy g.receiver pieces (reads ++ g.bytes) brought
  pub ack_missing : AckMissing g.receiver
  pub ack_same : g.receiver.ack ≡ r.ack
  pub cursor_grows : r.read_cursor ≤ g.receiver.read_cursor
  -- all that is in order is read, or the room is full
  pub fills : r.ack - r.read_cursor ≤ k → (g.receiver.read_cursor ≡ r.ack) ⊎ (room ≤ length g.bytes)
  -- a packet that fits is finished
  pub finishes : (h : Held) → get r.incoming r.read_cursor ≡ some h → length (rest h) ≤ room → 0 < k → r.read_cursor < g.receiver.read_cursor

pub read_gives : {pieces : List Bytes} {brought : List ℕ} (k room : ℕ) (r : Receiver) (reads : Bytes) → AckMissing r
    → ReceivedBy r pieces reads brought
    → ReadGives k r room pieces reads brought (read_loop k room r)
unfolding read_loop
read_gives {pieces} {brought} zero room r reads missing i =
    record {
      received = rw append-nil i;
      ack_missing = missing;
      ack_same = refl;
      cursor_grows = le_refl _;
      fills = λ l. let u = i.cursor_to_ack in inl (omega arith);
      finishes = λ h e l z. absurd (omega arith);
    }
read_gives {pieces} {brought} (suc k) room r reads missing i =
    go (get r.incoming r.read_cursor) refl
    (λ h e.
    read_gives k (room - length (rest h)) (finished r) (reads ++ rest h)
    (remove_none r.incoming r.read_cursor r.ack i.slots missing) (received_finished missing e i))
  where
    Tail : Held → Got
    Tail h = read_loop k (room - length (rest h)) (finished r)

    front : (h : Held) → get r.incoming r.read_cursor ≡ some h → room < length (rest h) → ReadGives (suc k) r room pieces reads brought (got_front room h r)
    front h e l =
        record {
          received = received_front room l missing e i;
          ack_missing = still_missing (record { payload = h.payload; offset = h.offset + room }) missing e i;
          ack_same = refl;
          cursor_grows = le_refl _;
          fills = λ q. inr (rw length-take (omega arith));
          finishes = λ h' e' l' z. let q = subst (λ (x : Held). length (rest x) ≤ room) (some_inj e' e) l' in absurd (omega arith);
        }

    whole : (h : Held) → get r.incoming r.read_cursor ≡ some h → length (rest h) ≤ room
        → ReadGives k (finished r) (room - length (rest h)) pieces (reads ++ rest h) brought (Tail h)
        → ReadGives (suc k) r room pieces reads brought (got_whole h (Tail h))
    whole h e l t =
        record {
          received = rw append_assoc at t.received;
          ack_missing = t.ack_missing;
          ack_same = t.ack_same;
          cursor_grows = (let u = t.cursor_grows in omega arith);
          fills = λ q. (let b = cursor_below_ack missing e i in full (t.fills (omega arith)));
          finishes = λ h' e' l' z. t.cursor_grows;
        }
      where
        full : ((Tail h).receiver.read_cursor ≡ r.ack) ⊎ (room - length (rest h) ≤ length (Tail h).bytes)
            → ((Tail h).receiver.read_cursor ≡ r.ack) ⊎ (room ≤ length (rest h ++ (Tail h).bytes))
        full (inl a) = inl a
        full (inr a) = inr (rw length-append (omega arith))

    go : (o : Option Held) → get r.incoming r.read_cursor ≡ o
        → ((h : Held) → get r.incoming r.read_cursor ≡ some h → ReadGives k (finished r) (room - length (rest h)) pieces (reads ++ rest h) brought (Tail h))
        → ReadGives (suc k) r room pieces reads brought (on o (got_none r) (λ h. cond (ltb room (length (rest h))) (got_front room h r) (got_whole h (Tail h))))
    go none e rec =
        record {
          received = rw append-nil i;
          ack_missing = missing;
          ack_same = refl;
          cursor_grows = le_refl _;
          fills = λ q. inl (all_read missing e i);
          finishes = λ h' e' l' z. absurd (no_some e e');
        }
    go (some h) e rec =
        by-test (ReadGives (suc k) r room pieces reads brought) (ltb room (length (rest h))) _ _
        (λ q. front h e (ltb-true room (length (rest h)) q))
        (λ q. whole h e (ltb-false room (length (rest h)) q) (rec h e))
