-- The datagrams kept: how many there are, which has which number, and that keeping one more leaves the last 32 of all. It goes into the
-- slot after the newest: a free slot if fewer than 32 are kept, otherwise, as slots wrap around, the oldest's. The others stay where they
-- are, as numbers less than 32 apart have different slots.
use Prim.Native.Nat.{ℕ, zero, suc, ◌+◌, ◌-◌, ◌*◌, ◌%◌, ◌≤◌, ◌<◌, min}
use native.Mathlib.Nat.{mul-le-mul_right, suc-mul}
use native.Mathlib.Omega.{arith}
use mathlib.Core.Path.{◌≡◌, refl, sym, ap, ap₂, ◌∙◌}
use mathlib.Core.Logic.{◌≢◌}
use mathlib.Core.List.{List, [], ◌∷◌, ◌++◌}
use mathlib.Core.Bool.{Bool, true, false}
use lib.Dec.{ltb}
use borrow.Author.Tests.{ltb-true, ltb-false}
use lib.ListN.{length, take, drop, get_or, set, length-append, length-take, length-drop}
use lib.Seq.{take_all, drop-append-le, drop-drop, get_or-set_same, get_or-set_other}
use Rattle.model.specs.Lists.{Bytes}
use Rattle.records.specs.Table.{table}
use Rattle.records.proofs.Table.{table_length, table_get, table_same}
use Rattle.records.specs.Put.{put}
use Rattle.records.proofs.Put.{put_same, put_before, put_after}
use Rattle.session_kept.specs.declared.Kept.{Kept}
use Rattle.session_kept.specs.Kept.{slot_size, count_of, slot_of, slot_bytes, kept_of, last_kept, fitted, PutInSlot, OneMoreKept}

pub slot_is : slot_size ≡ 1_400
unfolding slot_size
slot_is = refl

-- how many are kept, and which

abbrev numbered : Kept → Bytes → ℕ → Bytes
numbered k store n = slot_bytes k store (slot_of k n)

pub kept_length : (k : Kept) (store : Bytes) → length (kept_of k store) ≡ count_of k
unfolding kept_of
kept_length k store = table_length (count_of k) (numbered k store)

pub kept_few : (k : Kept) (store : Bytes) → length (kept_of k store) ≤ 32
kept_few k store = rw (kept_length k store) (omega arith)

pub kept_get : (k : Kept) (store : Bytes) (n : ℕ) → n < length (kept_of k store) → get_or (kept_of k store) n [] ≡ slot_bytes k store (slot_of k n)
unfolding kept_of
kept_get k store n h = table_get (count_of k) (numbered k store) n [] (rw (kept_length k store) at h)

-- the part of the store that starts at a slot and is as long as its datagram
pub slot_part : (k : Kept) (store : Bytes) (i n : ℕ) → n ≡ min (get_or k.lengths i 0) slot_size
    → take (i * slot_size + n - i * slot_size) (drop (i * slot_size) store) ≡ slot_bytes k store i
unfolding slot_bytes
slot_part k store i n e =
    let m : i * slot_size + n - i * slot_size ≡ min (get_or k.lengths i 0) slot_size = omega arith in
    ap (λ (x : ℕ). take x (drop (i * slot_size) store)) m

-- the last 32

-- all, if there are at most 32
pub last_all : (ds : List Bytes) → length ds ≤ 32 → last_kept ds ≡ ds
unfolding last_kept
last_all ds h = let z : length ds - 32 ≡ 0 = omega arith in rw z refl

-- those that left before do not matter
pub last_last : (xs ys : List Bytes) → last_kept (last_kept xs ++ ys) ≡ last_kept (xs ++ ys)
unfolding last_kept
last_last xs ys =
    let n : ℕ = length xs - 32 in
    let front : n ≤ length xs = omega arith in
    let e : n + (length (drop n (xs ++ ys)) - 32) ≡ length (xs ++ ys) - 32 = simp (length-drop, length-append) (omega arith) in
    ap (λ (l : List Bytes). drop (length l - 32) l) (sym (drop-append-le n xs ys front))
    ∙ drop-drop (length (drop n (xs ++ ys)) - 32) n (xs ++ ys)
    ∙ ap (λ (m : ℕ). drop m (xs ++ ys)) e

-- one more after 32: the first leaves
last_full : (x : Bytes) (xs : List Bytes) (y : Bytes) → length xs ≡ 31 → last_kept ((x ∷ xs) ++ (y ∷ [])) ≡ xs ++ (y ∷ [])
unfolding last_kept
last_full x xs y h = let e : length ((x ∷ xs) ++ (y ∷ [])) - 32 ≡ 1 = simp length-append (omega arith) in rw e refl

-- a datagram put into a slot

-- slots do not overlap
earlier : (j i z : ℕ) → j < i → j * z + z ≤ i * z
earlier j i z h = let m = mul-le-mul_right {m = suc j} {n = i} z (omega arith) in rw suc-mul at m

-- the bytes that are copied are the datagram as it is kept
pub copied : (d : Bytes) (n : ℕ) → n ≡ min (length d) slot_size → (take n d ≡ fitted d) × (length (take n d) ≡ n) × (n ≤ slot_size)
unfolding fitted
copied d n e = go (ltb (length d) slot_size) refl
  where
    go : (b : Bool) → ltb (length d) slot_size ≡ b → (take n d ≡ take slot_size d) × (length (take n d) ≡ n) × (n ≤ slot_size)
    go true h =
        let l : length d < slot_size = ltb-true (length d) slot_size h in
        let q : n ≡ length d = omega arith in
        (take_all n d (omega arith) ∙ sym (take_all slot_size d (omega arith)), simp length-take (omega arith), omega arith)
    go false h =
        let l : slot_size ≤ length d = ltb-false (length d) slot_size h in
        let q : n ≡ slot_size = omega arith in
        (ap (λ (m : ℕ). take m d) q, simp length-take (omega arith), omega arith)

module _ (k r : Kept) (i n : ℕ) (bytes store after : Bytes) (first : r.first ≡ k.first) (count : r.count ≡ k.count) (long : length k.lengths ≡ 32)
    (lengths : r.lengths ≡ set k.lengths i n) (l : i < 32) (size : length bytes ≡ n) (short : n ≤ slot_size)
    (room : i * slot_size + slot_size ≤ length store) (is : after ≡ put store (i * slot_size) bytes) where
  fits : i * slot_size + length bytes ≤ length store
  fits = omega arith

  put_there : slot_bytes r after i ≡ bytes
  unfolding slot_bytes
  put_there =
      let e : get_or r.lengths i 0 ≡ n = ap (λ (x : List ℕ). get_or x i 0) lengths ∙ get_or-set_same k.lengths i n 0 (omega arith) in
      let m : min (get_or r.lengths i 0) slot_size ≡ length bytes = omega arith in
      ap₂ {C = Bytes} (λ (x : ℕ) (s : Bytes). take x (drop (i * slot_size) s)) m is ∙ put_same store (i * slot_size) bytes fits

  put_others : (j : ℕ) → j ≢ i → slot_bytes r after j ≡ slot_bytes k store j
  unfolding slot_bytes
  put_others j ne =
      ap₂ {C = Bytes} (λ (x : List ℕ) (s : Bytes). take (min (get_or x j 0) slot_size) (drop (j * slot_size) s)) lengths is
      ∙ ap (λ (x : ℕ). take (min x slot_size) (drop (j * slot_size) (put store (i * slot_size) bytes))) (get_or-set_other k.lengths i j n 0 ne)
      ∙ go (min (get_or k.lengths j 0) slot_size) (omega arith) (ltb j i) refl
    where
      go : (m : ℕ) → m ≤ slot_size → (b : Bool) → ltb j i ≡ b
          → take m (drop (j * slot_size) (put store (i * slot_size) bytes)) ≡ take m (drop (j * slot_size) store)
      go m h true e = let apart = earlier j i slot_size (ltb-true j i e) in put_before store (i * slot_size) bytes fits (j * slot_size) m (omega arith)
      go m h false e =
          let q : i ≤ j = ltb-false j i e in
          let apart = earlier i j slot_size (omega (arith, ne)) in
          put_after store (i * slot_size) bytes fits (j * slot_size) m (omega arith)

  pub put_slot : (d : Bytes) → bytes ≡ fitted d → PutInSlot k i d store r after
  put_slot d e = record { first = first; count = count; there = put_there ∙ e; others = λ j h ne. put_others j ne }

-- one more after those kept

-- a table with one more element
table_last : (m : ℕ) (f : ℕ → Bytes) → table (suc m) f ≡ table m f ++ (f m ∷ [])
table_last zero f = refl
table_last (suc m) f = ap (λ (t : List Bytes). f 0 ∷ t) (table_last m (λ i. f (suc i)))

module _ (m : ℕ) (f g : ℕ → Bytes) (x : Bytes) (new : f m ≡ x) where
  -- with room
  more_room : m < 32 → ((i : ℕ) → i < m → f i ≡ g i) → table (suc m) f ≡ last_kept (table m g ++ (x ∷ []))
  more_room h same =
      let few : length (table m g ++ (x ∷ [])) ≤ 32 = simp (length-append, table_length) (omega arith) in
      table_last m f ∙ ap₂ {C = List Bytes} (λ (t : List Bytes) (y : Bytes). t ++ (y ∷ [])) (table_same m f g same) new
      ∙ sym (last_all (table m g ++ (x ∷ [])) few)

  -- with 32
  more_full : m ≡ 31 → ((i : ℕ) → i < m → f i ≡ g (suc i)) → table (suc m) f ≡ last_kept (table (suc m) g ++ (x ∷ []))
  more_full h same =
      table_last m f ∙ ap₂ {C = List Bytes} (λ (t : List Bytes) (y : Bytes). t ++ (y ∷ [])) (table_same m f (λ i. g (suc i)) same) new
      ∙ sym (last_full (g 0) (table m (λ i. g (suc i))) x (table_length m (λ i. g (suc i)) ∙ h))

module _ (k p r : Kept) (d store after : Bytes) (put : PutInSlot k (slot_of k (count_of k)) d store p after) (more : OneMoreKept p r) where
  -- of the record, a slot's bytes depend only on its length
  same_slot : (i : ℕ) → slot_bytes r after i ≡ slot_bytes p after i
  unfolding slot_bytes
  same_slot i = ap (λ (l : List ℕ). take (min (get_or l i 0) slot_size) (drop (i * slot_size) after)) more.lengths

  old_slot : (j i : ℕ) → j ≡ i → i < 32 → i ≢ slot_of k (count_of k) → slot_bytes r after j ≡ slot_bytes k store i
  old_slot j i e l ne = same_slot j ∙ rw e (put.others i l ne)

  new_slot : (j : ℕ) → j ≡ slot_of k (count_of k) → slot_bytes r after j ≡ fitted d
  new_slot j e = same_slot j ∙ rw e put.there

  pub kept_more : kept_of r after ≡ last_kept (kept_of k store ++ (fitted d ∷ []))
  unfolding kept_of
  kept_more = go (ltb (count_of k) 32) refl
    where
      go : (b : Bool) → ltb (count_of k) 32 ≡ b → kept_of r after ≡ last_kept (kept_of k store ++ (fitted d ∷ []))
      go true e =
          let h : count_of k < 32 = ltb-true (count_of k) 32 e in
          let c : k.count ≡ p.count = sym put.count in
          let f : k.first ≡ p.first = sym put.first in
          let same = more.room (rw c at h) in
          let n : count_of r ≡ suc (count_of k) = omega arith in
          let first : r.first ≡ k.first = omega arith in
          ap (λ (m : ℕ). table m (numbered r after)) n
          ∙ more_room (count_of k) (numbered r after) (numbered k store) (fitted d) (new_slot (slot_of r (count_of k)) (omega arith)) h
          (λ i l. old_slot (slot_of r i) (slot_of k i) (omega arith) (omega arith) (λ q. omega arith))
      go false e =
          let h : 32 ≤ count_of k = ltb-false (count_of k) 32 e in
          let c : k.count ≡ p.count = sym put.count in
          let f : k.first ≡ p.first = sym put.first in
          let same = more.full (rw c at h) in
          let n : count_of r ≡ 32 = omega arith in
          let o : count_of k ≡ 32 = omega arith in
          let first : r.first ≡ (k.first + 1) % 32 = same.0 ∙ ap (λ (a : ℕ). (a + 1) % 32) put.first in
          ap (λ (m : ℕ). table m (numbered r after)) n
          ∙ more_full 31 (numbered r after) (numbered k store) (fitted d) (new_slot (slot_of r 31) (omega arith)) refl
          (λ i l. old_slot (slot_of r i) (slot_of k (suc i)) (omega arith) (omega arith) (λ q. omega arith))
          ∙ ap (λ (m : ℕ). last_kept (table m (numbered k store) ++ (fitted d ∷ []))) (sym o)
