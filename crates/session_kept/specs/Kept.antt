-- An end's kept datagrams, "the other end's last 32 taken" (01, 04 hand), in the slots of a lent store. Every record and store has a
-- meaning: a count above 32 is 32, and slot numbers wrap around.
use Rattle.std.specs.Prelude as rust
use Rattle.std.specs.Prelude.{ℕ, ◌+◌, ◌-◌, ◌*◌, ◌%◌, ◌≤◌, ◌<◌, min, max, ◌≡◌, ◌≢◌, List, None, Some, length, take, drop, get_or}
use Rattle.std.proofs.Math.Option.{Option, none, some}
use Rattle.model.specs.Lists.{Bytes}
use Rattle.records.specs.Table.{table}
use Rattle.session_kept.specs.declared.Kept.{Kept}

-- bytes in a slot, the most a datagram has. Opaque, so that no proof computes with it; `slot_is` in proofs/KeptLaws.antt gives its value.
unfoldable pub slot_size : ℕ
slot_size = 1_400

-- how many are kept
abbrev pub count_of : Kept → ℕ
count_of k = min k.count 32

-- the slot of number n, "0 the oldest kept"
abbrev pub slot_of : Kept → ℕ → ℕ
slot_of k n = (k.first + n) % 32

-- the bytes of the datagram in slot i
unfoldable pub slot_bytes : Kept → Bytes → ℕ → Bytes
slot_bytes k store i = take (min (get_or k.lengths i 0) slot_size) (drop (i * slot_size) store)

-- the datagrams kept, oldest first
unfoldable pub kept_of : Kept → Bytes → List Bytes
kept_of k store = table (count_of k) (λ n. slot_bytes k store (slot_of k n))

-- the last 32
unfoldable pub last_kept : List Bytes → List Bytes
last_kept ds = drop (length ds - 32) ds

-- a datagram as it is kept: no end hands out one longer than a slot
unfoldable pub fitted : Bytes → Bytes
fitted d = take slot_size d

-- A take's segment size, by which a batch is cut. No take answers a size of 0 (`Agrees.not_zero` in udx/specs/Agree.antt); here 0 counts as
-- 1, so that every batch has an end.
abbrev pub kept_segment : rust.Option ℕ → Option ℕ
kept_segment None = none
kept_segment (Some size) = some (max size 1)

-- what the steps of keeping do

-- datagram d was put into slot i; the other slots are unchanged
pub record PutInSlot (k : Kept) (i : ℕ) (d : Bytes) (store : Bytes) (r : Kept) (after : Bytes) : Type 0 where
  pub first : r.first ≡ k.first
  pub count : r.count ≡ k.count
  pub there : slot_bytes r after i ≡ fitted d
  pub others : (j : ℕ) → j < 32 → j ≢ i → slot_bytes r after j ≡ slot_bytes k store j

-- the slot after the newest counts too; with 32 kept the oldest leaves
pub record OneMoreKept (k r : Kept) : Type 0 where
  pub lengths : r.lengths ≡ k.lengths
  pub room : count_of k < 32 → (r.first ≡ k.first) × (r.count ≡ count_of k + 1)
  pub full : 32 ≤ count_of k → (r.first ≡ slot_of k 1) × (r.count ≡ 32)
