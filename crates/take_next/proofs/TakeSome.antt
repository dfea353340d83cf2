-- Taking entries one after another: what the loop has put and marked after i of them is `send_loop` of the first i, and one more iteration
-- is one more `send_entry` at its end. Marks keep a packet's bytes and add a transmit, so ten of them still fit a word.
use Prim.Native.Nat.{ℕ, zero, suc, ◌+◌, ◌*◌, ◌%◌, ◌≤◌, ◌<◌}
use native.Mathlib.Omega.{arith}
use native.Mathlib.Numerals.{add-one}
use mathlib.Core.Path.{◌≡◌, refl, ap, ap₂, sym, ◌∙◌}
use mathlib.Core.Logic.{◌≢◌, ◌⊎◌, inl, inr}
use mathlib.Core.List.{List, [], ◌∷◌, ◌++◌, append_assoc, append-nil}
use mathlib.Core.Option.{Option, none, some}
use mathlib.Core.Bool.{Bool, true, false, cond}
use lib.ListN.{length, take, drop, get_or, length-append}
use Rattle.model.specs.Lists.{Bytes, joined, on}
use Rattle.model.specs.Slots.{Slots, ceiling, get, insert}
use Rattle.model.specs.Stream as model
use Rattle.model.specs.Driving.{marked, taken_marks}
use Rattle.model.proofs.Lists.{joined_append}
use Rattle.model.proofs.Slots.{no_some, some_inj, insert_cases}
use Rattle.records_words.specs.declared.Entry.{Entry}
use Rattle.records.specs.declared.Sender.{Sender}
use Rattle.records.specs.declared.Queue.{Queue}
use Rattle.records_words.specs.Words.{sent_in, entry_of}
use Rattle.records.specs.Cut.{outgoing_slot}
use Rattle.records.specs.Put.{put}
use Rattle.records.specs.Seen.{entry_seen, place_after, seen_entries, entry_words, state_words}
use Rattle.records.proofs.Cut.{cut_length}
use Rattle.records.proofs.Put.{put_put}
use Rattle.records.proofs.SeenOutgoing.{outgoing_length}
use Rattle.records.proofs.SeenQueue.{left_length}
use Rattle.take_entry.specs.declared.Progress.{Progress}
use Rattle.take_entry.specs.Transmit.{TakenFromStore, send_entry, store_seen, is_there, PutInBuffer, CanTakeEntry, TakesEntry}
use Rattle.take_next.specs.Take.{AllTransmitBounds, send_loop, CanTake}
use Rattle.take_batch.proofs.LeftWords.{entry_at, states_next, states_less}
use Rattle.take_entry.proofs.TakeOne.{slot_seen, get_there, there_low, there_high, there_stored, written_none}

-- one more entry

abbrev then : TakenFromStore → TakenFromStore → TakenFromStore
then r t = record { datagrams = r.datagrams ++ t.datagrams; outgoing = t.outgoing }

send_next : (clock i : ℕ) (q : List model.Entry) (x : model.Entry) (rest : List model.Entry) (s : Slots model.Packet) → drop i q ≡ x ∷ rest
    → send_loop clock (suc i) q s ≡ then (send_loop clock i q s) (send_entry clock x (send_loop clock i q s).outgoing)
unfolding send_loop
send_next clock zero [] x rest s e = absurd (let z : ◌≡◌ {A = ℕ} 0 1 = cc in omega arith)
send_next clock zero (y ∷ q) x rest s e =
    let z : y ≡ x = cc in
    rw z (ap (λ (d : List Bytes). record { datagrams = d; outgoing = (send_entry clock x s).outgoing }) (append-nil (send_entry clock x s).datagrams))
send_next clock (suc i) [] x rest s e = absurd (let z : ◌≡◌ {A = ℕ} 0 1 = cc in omega arith)
send_next clock (suc i) (y ∷ q) x rest s e =
    let t = send_entry clock y s in
    let r = send_loop clock i q t.outgoing in
    let u = send_entry clock x r.outgoing in
    ap (λ (z : TakenFromStore). then t z) (send_next clock i q x rest t.outgoing e)
    ∙ ap (λ (d : List Bytes). record { datagrams = d; outgoing = u.outgoing }) (sym (append_assoc t.datagrams r.datagrams u.datagrams))

-- the next datagram is put after the others
written_then : (r t : TakenFromStore) (buf₀ : Bytes) (at : ℕ) (buf : Bytes) (end : ℕ) (buf' : Bytes) (store store' : Slots model.Packet)
    → PutInBuffer r 0 buf₀ at buf store → PutInBuffer t at buf end buf' store' → end ≤ length buf₀ → PutInBuffer (then r t) 0 buf₀ end buf' store'
written_then r t buf₀ at buf end buf' store store' w v h =
    let a = w.count in
    let b = v.count in
    let l = joined_append r.datagrams t.datagrams in
    let n : length (joined (r.datagrams ++ t.datagrams)) ≡ length (joined r.datagrams) + length (joined t.datagrams) = ap length l ∙ length-append (joined r.datagrams) (joined t.datagrams) in
    record {
      bytes =
          v.bytes ∙ ap₂ (λ (x : Bytes) (k : ℕ). put x k (joined t.datagrams)) w.bytes a
          ∙ put_put buf₀ 0 (length (joined r.datagrams)) (joined r.datagrams) (joined t.datagrams) refl (omega arith) ∙ ap (put buf₀ 0) (sym l);
      count = omega arith;
      marks = v.marks;
    }

-- lengths and transmits

-- the stored packets keep the rules apart from the marks of this take
abbrev pub StoreWithin : Slots model.Packet → ℕ → Type 0
StoreWithin s m = (n : ℕ) (p : model.Packet) → get s n ≡ some p → (length p.bytes ≤ 1_400) × (p.marks.transmits ≤ m)

within_start : (s : Sender) (sent : List ℕ) (outgoing : Bytes) (m : ℕ) → AllTransmitBounds s sent m → StoreWithin (store_seen s sent outgoing) m
within_start s sent outgoing m h n p e = go (is_there s sent n) refl (sym (get_there s sent outgoing n) ∙ e)
  where
    go : (b : Bool) → is_there s sent n ≡ b → cond b (some (slot_seen s sent outgoing n)) none ≡ some p → (length p.bytes ≤ 1_400) × (p.marks.transmits ≤ m)
    go true z q =
        let w = h n (there_low s sent outgoing n z) (there_high s sent outgoing n z) (there_stored s sent outgoing n z) in
        rw (← (some_inj refl q)) (rw (cut_length outgoing_slot outgoing (n % ceiling) (sent_in sent (n % ceiling)).length) w.short, w.few)
    go false z q = absurd (no_some refl q)

within_more : (s : Slots model.Packet) (m : ℕ) → StoreWithin s m → StoreWithin s (suc m)
within_more s m h n p e = let w = h n p e in let a = w.0 in let b = w.1 in (a, omega arith)

-- the entry of a packet that is there or has left
abbrev pub sent_entry : ℕ → ℕ → Slots model.Packet → Option model.Packet → TakenFromStore
sent_entry clock n s o = on o (record { datagrams = []; outgoing = s }) (λ p. record { datagrams = p.bytes ∷ []; outgoing = insert s n (marked (taken_marks clock) p) })

within_next : (clock m : ℕ) (x : model.Entry) (s : Slots model.Packet) → length s ≡ ceiling → StoreWithin s m → StoreWithin (send_entry clock x s).outgoing (suc m)
unfolding send_entry
within_next clock m (model.state b) s l h = within_more s m h
within_next clock m (model.packet n k) s l h = go (get s n) refl
  where
    go : (o : Option model.Packet) → get s n ≡ o
        → StoreWithin (sent_entry clock n s o).outgoing (suc m)
    go none z = within_more s m h
    go (some p) z = λ n' p' e. by n' p' (insert_cases s n n' (marked (taken_marks clock) p) p' l e)
      where
        by : (n' : ℕ) (p' : model.Packet) → ((n' ≡ n) × (marked (taken_marks clock) p ≡ p')) ⊎ ((n' ≢ n) × (get s n' ≡ some p'))
            → (length p'.bytes ≤ 1_400) × (p'.marks.transmits ≤ suc m)
        by n' p' (inl a) = let w = h n p z in let u = w.1 in rw (← a.1) (w.0, omega arith)
        by n' p' (inr a) = within_more s m h n' p' a.1

-- the loop

pub record Going (q : Queue) (s : Sender) (k clock : ℕ) (sent₀ queue : List ℕ) (outgoing headers buf₀ : Bytes) (sent : List ℕ) (buf : Bytes)
    (p : Progress) (i : ℕ) : Type 0 where
  pub ready : CanTake q s k clock sent₀ queue outgoing headers buf₀
  pub long : length queue ≡ 128
  pub turns : i ≤ k
  pub written : PutInBuffer (send_loop clock i (seen_entries headers q.gone (entry_words q queue)) (store_seen s sent₀ outgoing)) 0 buf₀ p.at buf (store_seen s sent outgoing)
  pub place : p.place ≡ q.gone + state_words (take i (entry_words q queue))
  pub short : p.at ≤ 1_400 * i
  pub within : StoreWithin (store_seen s sent outgoing) (7 + i)
  pub words : length sent ≡ 64
  pub sized : length buf ≡ length buf₀

module _ {q : Queue} {s : Sender} {k clock : ℕ} {sent₀ queue : List ℕ} {outgoing headers buf₀ : Bytes} where
  pub starts : CanTake q s k clock sent₀ queue outgoing headers buf₀ → length queue ≡ 128 → length sent₀ ≡ 64
      → Going q s k clock sent₀ queue outgoing headers buf₀ sent₀ buf₀ (record { at = 0; place = q.gone }) 0
  unfolding send_loop
  starts ready long words =
      record {
        ready = ready;
        long = long;
        turns = omega arith;
        written = written_none 0 buf₀ (store_seen s sent₀ outgoing);
        place = let e : q.gone ≡ q.gone + 0 = omega arith in e;
        short = omega arith;
        within = within_start s sent₀ outgoing 7 ready.kept.stored;
        words = words;
        sized = refl;
      }

  module _ {sent : List ℕ} {buf : Bytes} {p : Progress} {i : ℕ} (g : Going q s k clock sent₀ queue outgoing headers buf₀ sent buf p i)
      (more : i < k) where
    -- the entry that is taken next
    abbrev next : Entry
    next = entry_of (get_or (entry_words q queue) i 0)

    inside : i < length (entry_words q queue)
    inside =
        let r = g.ready in
        let f = r.kept.formed in
        let a = f.count in
        let b = g.long in
        omega (arith, left_length q queue r.some f.left (omega arith), r.entries)

    pub next_kept : CanTakeEntry s next clock p sent outgoing headers buf
    next_kept =
        let r = g.ready in
        let f = r.kept.formed in
        record {
          words = g.words;
          packet =
              λ x e z.
              let n = x.number in
              let w = g.within n (slot_seen s sent outgoing n) (get_there s sent outgoing n ∙ rw z refl) in
              let a = w.0 in
              let b = w.1 in
              let l = cut_length outgoing_slot outgoing (n % ceiling) (sent_in sent (n % ceiling)).length in
              let m = r.most in
              record { short = omega arith; few = omega arith };
          drive = r.drive;
          slots = r.kept.slots;
          places = r.kept.places;
          next =
              λ z.
              let a = states_less (entry_words q queue) i inside z in
              let b = f.places in
              let d = f.states in
              let e = g.place in
              omega arith;
          room = let a = g.short in let b = g.sized in let d = r.room in let e = r.most in omega arith;
        }

    pub again : {r : Progress} {sent' : List ℕ} {buf' : Bytes}
        → TakesEntry s next clock p sent outgoing headers buf r sent' buf' → length buf' ≡ length buf
        → Going q s k clock sent₀ queue outgoing headers buf₀ sent' buf' r (i + 1)
    again {r} {sent'} {buf'} t same =
        let ws = entry_words q queue in
        let es = seen_entries headers q.gone ws in
        let d = send_loop clock i es (store_seen s sent₀ outgoing) in
        let v = g.ready.room in
        let m = g.ready.most in
        let a = g.short in
        let b = t.short in
        let x = entry_seen headers p.place next in
        let e : send_loop clock (i + 1) es (store_seen s sent₀ outgoing) ≡ then d (send_entry clock x (store_seen s sent outgoing)) =
        rw (add-one, g.place) (send_next clock i es _ _ (store_seen s sent₀ outgoing) (entry_at ws i inside headers q.gone))
        ∙ ap (λ (o : Slots model.Packet). then d (send_entry clock x o)) (sym g.written.marks) in
        let n : q.gone + state_words (take (i + 1) ws) ≡ place_after (q.gone + state_words (take i ws)) next =
        ap (λ (j : ℕ). q.gone + state_words (take j ws)) (add-one i) ∙ states_next ws i inside q.gone in
        let u : suc (7 + i) ≡ 7 + (i + 1) = omega arith in
        record {
          ready = g.ready;
          long = g.long;
          turns = omega arith;
          written =
              rw e
              (written_then d (send_entry clock x (store_seen s sent outgoing)) buf₀ p.at buf r.at buf' (store_seen s sent outgoing) (store_seen s sent' outgoing) g.written
              t.written (omega arith));
          place = t.place ∙ ap (λ (k : ℕ). place_after k next) g.place ∙ sym n;
          short = omega arith;
          within =
              rw (t.written.marks, ← u)
              (within_next clock (7 + i) x (store_seen s sent outgoing) (outgoing_length s.remote_acked s.seq sent outgoing) g.within);
          words = t.words ∙ g.words;
          sized = same ∙ g.sized;
        }
