-- The slots of either store, seen through a window of numbers: slot i shows its cell if the cell's number is in the window and belongs to
-- that slot. What `get` finds there, and when a change of cells or window is an `insert`, a `remove` or no change; proved once, for any
-- cell. Two slots are equal if every number has the same value in both.
use Rattle.std.proofs.Common.{◌≡◌, ℕ, suc, ◌+◌, ◌%◌, ◌<◌, ◌≤◌, Bool, true, false, cond, ◌&&◌, eqb, ltb, leb, ◌≢◌, length, get_or, set, sym, refl, ap, ◌∙◌, ap₂, arith, ltb-false, ltb-true, le-ltb, lt-ltb, eq-eqb, eqb-true, le-leb, leb-false, leb-true}
use mathlib.Core.Option.{Option, none, some}
use borrow.Author.Tests.{eqb-false, lt-leb}
use lib.Seq.{set-get_or}
use Rattle.model.specs.Lists.{on}
use Rattle.model.specs.Slots.{Numbered, Slots, ceiling, no_slots, value_of, get, insert, remove}
use Rattle.model.proofs.Slots.{no_some, some_inj}
use Rattle.records.specs.Table.{table}
use Rattle.records.specs.Seen.{numbered, in_slot}
use Rattle.records.proofs.Table.{table_length, table_get, table_same, table_set, table_replicate}

-- a decoded word: whether it is a packet, its number, its value
pub record Cell (A : Type 0) : Type 0 where
  pub there : Bool
  pub number : ℕ
  pub value : A

module _ {A : Type 0} where
  abbrev pub slot_of : (low high : ℕ) → Cell A → ℕ → Option (Numbered A)
  slot_of low high c i =
      numbered (leb low c.number && (ltb c.number high && (in_slot i c.number && (c.there && eqb c.number c.number)))) c.number c.value

  abbrev pub slots : (low high : ℕ) → (ℕ → Cell A) → Slots A
  slots low high cells = table ceiling (λ i. slot_of low high (cells i) i)

  -- the cell's value, if its number is n
  abbrev pub cell_at : Cell A → ℕ → Option A
  cell_at c n = cond (c.there && eqb c.number n) (some c.value) none

  -- number n's value, if n is in the window
  abbrev pub shown : (low high : ℕ) → Cell A → ℕ → Option A
  shown low high c n = cond (leb low n && ltb n high) (cell_at c n) none

  -- one slot

  -- the tests in either order
  tests : (a b d t : Bool) (n : ℕ) (v : A) → value_of n (numbered (a && (b && (d && (t && true)))) n v) ≡ cond d (cond (a && b) (cond (t && true) (some v) none) none) none
  tests true true true true n v = rw (eq-eqb n n refl) refl
  tests true true true false n v = refl
  tests true true false t n v = refl
  tests true false true t n v = refl
  tests true false false t n v = refl
  tests false b true t n v = refl
  tests false b false t n v = refl

  other : (b : Bool) (m n : ℕ) (v : A) → eqb m n ≡ false → value_of n (numbered b m v) ≡ none
  other true m n v e = rw e refl
  other false m n v e = refl

  nothing : (a b t : Bool) (v : A) → cond a (cond b (cond (t && false) (some v) none) none) none ≡ none
  nothing true true true v = refl
  nothing true true false v = refl
  nothing true false t v = refl
  nothing false b t v = refl

  slot_value : (low high : ℕ) (c : Cell A) (i n : ℕ) → value_of n (slot_of low high c i) ≡ cond (in_slot i n) (shown low high c n) none
  slot_value low high c i n = go (eqb c.number n) refl
    where
      go : (b : Bool) → eqb c.number n ≡ b → value_of n (slot_of low high c i) ≡ cond (in_slot i n) (shown low high c n) none
      go true e =
          let m = c.number in
          rw (← eqb-true m n e, eq-eqb m m refl) (tests (leb low m) (ltb m high) (in_slot i m) c.there m c.value)
      go false e =
          let m = c.number in
          other (leb low m && (ltb m high && (in_slot i m && (c.there && eqb m m)))) m n c.value e
          ∙ rw e (sym (nothing (in_slot i n) (leb low n && ltb n high) c.there c.value))

  self : (x : Numbered A) → value_of x.number (some x) ≡ some x.value
  self x = rw (eq-eqb x.number x.number refl) refl

  one : ℕ → A → Option (Numbered A)
  one n v = some (record { number = n; value = v })

  same : {x y : Numbered A} → x.number ≡ y.number → x.value ≡ y.value → some x ≡ some y
  unfolding one
  same p q = ap₂ one p q

  -- slots with the same values are equal
  slot_ext : (o p : Option (Numbered A)) → ((n : ℕ) → value_of n o ≡ value_of n p) → o ≡ p
  slot_ext none none h = refl
  slot_ext none (some y) h = absurd (no_some refl (h y.number ∙ self y))
  slot_ext (some x) none h = absurd (no_some refl (sym (h x.number) ∙ self x))
  slot_ext (some x) (some y) h = go (eqb y.number x.number) refl (sym (h x.number) ∙ self x)
    where
      go : (b : Bool) → eqb y.number x.number ≡ b → cond b (some y.value) none ≡ some x.value → some x ≡ some y
      go true e q = same (sym (eqb-true y.number x.number e)) (some_inj q refl)
      go false e q = absurd (no_some refl q)

  slot_same : (low high low' high' : ℕ) (c d : Cell A) (i : ℕ) → ((n : ℕ) → n % ceiling ≡ i → shown low high c n ≡ shown low' high' d n)
      → slot_of low high c i ≡ slot_of low' high' d i
  slot_same low high low' high' c d i h =
      slot_ext (slot_of low high c i) (slot_of low' high' d i) (λ n. slot_value low high c i n ∙ by n (in_slot i n) refl ∙ sym (slot_value low' high' d i n))
    where
      by : (n : ℕ) (b : Bool) → in_slot i n ≡ b → cond b (shown low high c n) none ≡ cond b (shown low' high' d n) none
      by n true e = h n (eqb-true (n % ceiling) i e)
      by n false e = refl

  slot_none : (low high : ℕ) (c : Cell A) (i : ℕ) → ((n : ℕ) → n % ceiling ≡ i → shown low high c n ≡ none) → slot_of low high c i ≡ none
  slot_none low high c i h = slot_ext (slot_of low high c i) none (λ n. slot_value low high c i n ∙ by n (in_slot i n) refl)
    where
      by : (n : ℕ) (b : Bool) → in_slot i n ≡ b → cond b (shown low high c n) none ≡ none
      by n true e = h n (eqb-true (n % ceiling) i e)
      by n false e = refl

  -- a number outside the window
  pub shown_below : (low high : ℕ) (c : Cell A) (n : ℕ) → n < low → shown low high c n ≡ none
  shown_below low high c n h = rw (lt-leb low n h) refl

  pub shown_above : (low high : ℕ) (c : Cell A) (n : ℕ) → high ≤ n → shown low high c n ≡ none
  shown_above low high c n h = rw (le-ltb n high h) (go (leb low n))
    where
      go : (b : Bool) → cond (b && false) (cell_at c n) none ≡ none
      go true = refl
      go false = refl

  -- a cell without a packet
  shown_empty : (low high : ℕ) (c : Cell A) (n : ℕ) → c.there ≡ false → shown low high c n ≡ none
  shown_empty low high c n e = rw e (go (leb low n && ltb n high))
    where
      go : (b : Bool) → ◌≡◌ {A = Option A} (cond b none none) none
      go true = refl
      go false = refl

  -- a number in the window
  pub shown_in : (low high : ℕ) (c : Cell A) (n : ℕ) → low ≤ n → n < high → shown low high c n ≡ cell_at c n
  shown_in low high c n l u = rw (le-leb low n l, lt-ltb n high u) refl

  -- cells with the same value for number n, if n is in the window
  pub shown_same : (low high : ℕ) (c d : Cell A) (n : ℕ) → (low ≤ n → n < high → cell_at c n ≡ cell_at d n) → shown low high c n ≡ shown low high d n
  shown_same low high c d n h = go (leb low n) refl (ltb n high) refl
    where
      go : (a : Bool) → leb low n ≡ a → (b : Bool) → ltb n high ≡ b → cond (a && b) (cell_at c n) none ≡ cond (a && b) (cell_at d n) none
      go true p true q = h (leb-true low n p) (ltb-true n high q)
      go true p false q = refl
      go false p b q = refl

  -- dropping the window's lowest number, or adding the next one, changes no other number
  shown_low : (low high : ℕ) (c : Cell A) (n : ℕ) → n ≢ low → shown (suc low) high c n ≡ shown low high c n
  shown_low low high c n ne = ap (λ (b : Bool). cond (b && ltb n high) (cell_at c n) none) (go (leb low n) refl)
    where
      go : (b : Bool) → leb low n ≡ b → leb (suc low) n ≡ b
      go true e = let h = leb-true low n e in le-leb (suc low) n (omega (arith, ne))
      go false e = let h = leb-false low n e in lt-leb (suc low) n (omega arith)

  pub shown_high : (low high : ℕ) (c : Cell A) (n : ℕ) → n ≢ high → shown low (suc high) c n ≡ shown low high c n
  shown_high low high c n ne = ap (λ (b : Bool). cond (leb low n && b) (cell_at c n) none) (go (ltb n high) refl)
    where
      go : (b : Bool) → ltb n high ≡ b → ltb n (suc high) ≡ b
      go true e = let h = ltb-true n high e in lt-ltb n (suc high) (omega arith)
      go false e = let h = ltb-false n high e in le-ltb n (suc high) (omega (arith, ne))

  -- all slots

  pub slots_length : (low high : ℕ) (cells : ℕ → Cell A) → length (slots low high cells) ≡ ceiling
  slots_length low high cells = table_length ceiling (λ i. slot_of low high (cells i) i)

  slots_at : (low high : ℕ) (cells : ℕ → Cell A) (n : ℕ) → get_or (slots low high cells) (n % ceiling) none ≡ slot_of low high (cells (n % ceiling)) (n % ceiling)
  slots_at low high cells n = table_get ceiling (λ i. slot_of low high (cells i) i) (n % ceiling) none (omega arith)

  pub slots_get : (low high : ℕ) (cells : ℕ → Cell A) (n : ℕ) → get (slots low high cells) n ≡ shown low high (cells (n % ceiling)) n
  unfolding get
  slots_get low high cells n =
      ap (value_of n) (slots_at low high cells n) ∙ slot_value low high (cells (n % ceiling)) (n % ceiling) n
      ∙ ap (λ (b : Bool). cond b (shown low high (cells (n % ceiling)) n) none) (eq-eqb (n % ceiling) (n % ceiling) refl)

  -- an empty window
  pub slots_none : (n : ℕ) (cells : ℕ → Cell A) → slots n n cells ≡ no_slots
  unfolding no_slots
  slots_none n cells = table_replicate ceiling (λ i. slot_of n n (cells i) i) none (λ i l. slot_none n n (cells i) i (λ m e. go m (cells i) (ltb m n) refl))
    where
      go : (m : ℕ) (c : Cell A) (b : Bool) → ltb m n ≡ b → shown n n c m ≡ none
      go m c true q = shown_below n n c m (ltb-true m n q)
      go m c false q = shown_above n n c m (ltb-false m n q)

  -- every number shows the same value
  pub slots_same : (low high low' high' : ℕ) (cells cells' : ℕ → Cell A)
      → ((n : ℕ) → shown low high (cells (n % ceiling)) n ≡ shown low' high' (cells' (n % ceiling)) n) → slots low high cells ≡ slots low' high' cells'
  slots_same low high low' high' cells cells' h =
      table_same ceiling (λ i. slot_of low high (cells i) i) (λ i. slot_of low' high' (cells' i) i)
      (λ i l. slot_same low high low' high' (cells i) (cells' i) i (λ n e. rw e at (h n)))

  -- every number outside the slot of n shows the same value
  slots_set : (low high low' high' : ℕ) (cells cells' : ℕ → Cell A) (n : ℕ)
      → ((m : ℕ) → m % ceiling ≢ n % ceiling → shown low high (cells (m % ceiling)) m ≡ shown low' high' (cells' (m % ceiling)) m)
      → slots low high cells ≡ set (slots low' high' cells') (n % ceiling) (slot_of low high (cells (n % ceiling)) (n % ceiling))
  slots_set low high low' high' cells cells' n h =
      table_set ceiling (λ i. slot_of low high (cells i) i) (λ i. slot_of low' high' (cells' i) i) (n % ceiling) (omega arith)
      (λ i l ne. slot_same low high low' high' (cells i) (cells' i) i (λ m e. rw e at (h m (λ q. ne (sym e ∙ q)))))

  -- number n in the window gets a value
  pub slots_insert : (low high high' : ℕ) (cells cells' : ℕ → Cell A) (n : ℕ) (v : A) → low ≤ n → n < high
      → cells (n % ceiling) ≡ record { there = true; number = n; value = v }
      → ((m : ℕ) → m % ceiling ≢ n % ceiling → shown low high (cells (m % ceiling)) m ≡ shown low high' (cells' (m % ceiling)) m)
      → slots low high cells ≡ insert (slots low high' cells') n v
  unfolding insert
  slots_insert low high high' cells cells' n v l u e h =
      slots_set low high low high' cells cells' n h
      ∙ ap (set (slots low high' cells') (n % ceiling))
      (rw (e, le-leb low n l, lt-ltb n high u, eq-eqb (n % ceiling) (n % ceiling) refl, eq-eqb n n refl) refl)

  -- number n in the window loses its value
  slots_remove : (low high low' high' : ℕ) (cells cells' : ℕ → Cell A) (n : ℕ) → low' ≤ n → n < high' → high' ≤ low' + ceiling
      → ((m : ℕ) → m % ceiling ≡ n % ceiling → shown low high (cells (m % ceiling)) m ≡ none)
      → ((m : ℕ) → m % ceiling ≢ n % ceiling → shown low high (cells (m % ceiling)) m ≡ shown low' high' (cells' (m % ceiling)) m)
      → slots low high cells ≡ remove (slots low' high' cells') n
  unfolding remove
  slots_remove low high low' high' cells cells' n l u w gone h =
      slots_set low high low' high' cells cells' n h
      ∙ ap (set s (n % ceiling)) (slot_none low high (cells (n % ceiling)) (n % ceiling) (λ m e. rw e at (gone m e)))
      ∙ go (get s n) refl
    where
      s : Slots A
      s = slots low' high' cells'

      empty : get s n ≡ none → (m : ℕ) → m % ceiling ≡ n % ceiling → shown low' high' (cells' (n % ceiling)) m ≡ none
      empty z m e = by (ltb m low') refl (ltb m high') refl
        where
          by : (a : Bool) → ltb m low' ≡ a → (b : Bool) → ltb m high' ≡ b → shown low' high' (cells' (n % ceiling)) m ≡ none
          by true p b q = shown_below low' high' (cells' (n % ceiling)) m (ltb-true m low' p)
          by false p false q = shown_above low' high' (cells' (n % ceiling)) m (ltb-false m high' q)
          by false p true q =
              let x : low' ≤ m = ltb-false m low' p in
              let y : m < high' = ltb-true m high' q in
              let same : m ≡ n = omega arith in
              rw same (sym (slots_get low' high' cells' n) ∙ z)

      go : (o : Option A) → get s n ≡ o → set s (n % ceiling) none ≡ on o s (λ v. set s (n % ceiling) none)
      go none z =
          ap (set s (n % ceiling)) (sym (slots_at low' high' cells' n ∙ slot_none low' high' (cells' (n % ceiling)) (n % ceiling) (empty z)))
          ∙ set-get_or s (n % ceiling) none
      go (some v) z = refl

  -- the cell of number n in the window is cleared
  pub slots_drop : (low high : ℕ) (cells cells' : ℕ → Cell A) (n : ℕ) → low ≤ n → n < high → high ≤ low + ceiling
      → (cells (n % ceiling)).there ≡ false → ((i : ℕ) → i < ceiling → i ≢ n % ceiling → cells i ≡ cells' i)
      → slots low high cells ≡ remove (slots low high cells') n
  slots_drop low high cells cells' n l u w e h =
      slots_remove low high low high cells cells' n l u w (λ m q. rw q (shown_empty low high (cells (n % ceiling)) m e))
      (λ m ne. ap (λ (c : Cell A). shown low high c m) (h (m % ceiling) (omega arith) ne))

  -- the window moves past its lowest number
  pub slots_settle : (low high : ℕ) (cells : ℕ → Cell A) → low < high → high ≤ low + ceiling → slots (suc low) high cells ≡ remove (slots low high cells) low
  slots_settle low high cells u w =
      slots_remove (suc low) high low high cells cells low (omega arith) u w (λ m e. gone m e (ltb m high) refl)
      (λ m ne. shown_low low high (cells (m % ceiling)) m (λ q. ne (ap (λ (k : ℕ). k % ceiling) q)))
    where
      gone : (m : ℕ) → m % ceiling ≡ low % ceiling → (b : Bool) → ltb m high ≡ b → shown (suc low) high (cells (m % ceiling)) m ≡ none
      gone m e true q = let h = ltb-true m high q in shown_below (suc low) high (cells (m % ceiling)) m (omega arith)
      gone m e false q = shown_above (suc low) high (cells (m % ceiling)) m (ltb-false m high q)

  -- the window gains a number whose cell is no packet
  pub slots_clear : (low high : ℕ) (cells cells' : ℕ → Cell A) → high < low + ceiling → (cells (high % ceiling)).there ≡ false
      → ((i : ℕ) → i < ceiling → i ≢ high % ceiling → cells i ≡ cells' i) → slots low (suc high) cells ≡ slots low high cells'
  slots_clear low high cells cells' w e h = slots_same low (suc high) low high cells cells' (λ m. go m (eqb (m % ceiling) (high % ceiling)) refl)
    where
      gone : (m : ℕ) → m % ceiling ≡ high % ceiling → (b : Bool) → ltb m low ≡ b → shown low high (cells' (m % ceiling)) m ≡ none
      gone m q true z = shown_below low high (cells' (m % ceiling)) m (ltb-true m low z)
      gone m q false z = let x = ltb-false m low z in shown_above low high (cells' (m % ceiling)) m (omega arith)

      go : (m : ℕ) (b : Bool) → eqb (m % ceiling) (high % ceiling) ≡ b → shown low (suc high) (cells (m % ceiling)) m ≡ shown low high (cells' (m % ceiling)) m
      go m true q =
          let s = eqb-true (m % ceiling) (high % ceiling) q in
          ap (λ (i : ℕ). shown low (suc high) (cells i) m) s ∙ shown_empty low (suc high) (cells (high % ceiling)) m e ∙ sym (gone m s (ltb m low) refl)
      go m false q =
          let ne = eqb-false (m % ceiling) (high % ceiling) q in
          ap (λ (c : Cell A). shown low (suc high) c m) (h (m % ceiling) (omega arith) ne)
          ∙ shown_high low high (cells' (m % ceiling)) m (λ r. ne (ap (λ (k : ℕ). k % ceiling) r))

  -- a number without a value
  pub remove_absent : (s : Slots A) (n : ℕ) → get s n ≡ none → remove s n ≡ s
  unfolding remove
  remove_absent s n e = rw e refl
