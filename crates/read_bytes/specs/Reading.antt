-- What a read does to the receiver and to the caller's buffer.
use Rattle.std.specs.Prelude.{ℕ, ◌+◌, ◌-◌, ◌%◌, ◌^◌, ◌≤◌, ◌<◌, ◌≡◌, List, true, false, length, get_or, set, take}
use Rattle.model.specs.Lists.{Bytes}
use Rattle.model.specs.Slots.{ceiling}
use Rattle.model.specs.Receiving.{Got, rest, read_next}
use Rattle.records_words.specs.declared.Held.{Held}
use Rattle.records.specs.declared.Receiver.{Receiver}
use Rattle.records_words.specs.Words.{held_of, held_word, is_held}
use Rattle.records.specs.Put.{put}
use Rattle.records.specs.Seen.{held_payload, seen_receiver}
use Rattle.read_bytes.specs.declared.Read.{Read}
use Rattle.records.specs.Laid.{LaidReceiver}

-- 01, 'Rules of the records': "lengths are .. at most 1,380 held"; "offsets fit the lengths"
pub record Fit (p : Held) : Type 0 where
  pub short : p.past - 1 ≤ 1_380
  pub inside : p.offset ≤ p.past - 1

-- every held packet obeys that rule
abbrev pub HeldFit : Receiver → List ℕ → Type 0
HeldFit r held =
    (n : ℕ) → r.read_cursor ≤ n → n < r.top → is_held (held_of (get_or held (n % ceiling) 0)) n ≡ true → Fit (held_of (get_or held (n % ceiling) 0))

-- a read's precondition: what 01's rules and the layout guarantee
pub record Readable (r : Receiver) (held : List ℕ) (incoming : Bytes) : Type 0 where
  pub store : length incoming ≡ 44_160
  pub laid : LaidReceiver r
  pub packets : HeldFit r held

-- how many bytes of a packet are left to read, and which
abbrev pub left_count : Held → ℕ
left_count p = (p.past - 1) - p.offset

abbrev pub left_bytes : Bytes → Held → Bytes
left_bytes incoming p = rest (held_payload incoming (p.number % ceiling) p)

-- `count` more bytes of a packet can be put into the buffer at `at`
pub record CanPut (p : Held) (incoming buf : Bytes) (at count : ℕ) : Type 0 where
  pub store : length incoming ≡ 44_160
  pub fit : Fit p
  pub enough : count ≤ left_count p
  pub room : at + count ≤ length buf

-- the packet after k more bytes were read
abbrev pub moved_by : ℕ → Held → Held
moved_by k p = record { number = p.number; past = p.past; offset = p.offset + k }

-- the front part of a packet that is longer than the room: it fills the buffer, and the packet's read offset moves. `long` and `number`
-- come from the types of the array and of the packet.
pub record Front (p : Held) (incoming : Bytes) (at : ℕ) (held : List ℕ) (buf : Bytes) (held' : List ℕ) (buf' : Bytes) : Type 0 where
  pub long : length held ≡ 32
  pub number : p.number < 2 ^ 32
  pub moved : held' ≡ set held (p.number % 32) (held_word (moved_by (length buf - at) p))
  pub copied : buf' ≡ put buf at (take (length buf - at) (left_bytes incoming p))

-- the model's read of what is seen
abbrev pub got : Receiver → List ℕ → Bytes → Bytes → Got
got r held incoming buf = read_next (length buf) (seen_receiver r held incoming)

-- 01, call 6: "a packet longer than what remains of the buffer gives its front part and ends the read. Ready only if a packet was
-- finished, .. with the count of bytes put."; "An output buffer's bytes past the count stay."
pub record HasRead (r : Receiver) (held : List ℕ) (incoming buf : Bytes) (a : Read) (held' : List ℕ) (buf' : Bytes) : Type 0 where
  pub count : a.count ≡ length (got r held incoming buf).bytes
  pub finished : a.finished ≡ (got r held incoming buf).ready
  pub copied : buf' ≡ put buf 0 (got r held incoming buf).bytes
  pub seen : seen_receiver a.receiver held' incoming ≡ (got r held incoming buf).receiver
  pub laid : LaidReceiver a.receiver
  -- a read that finished no packet moved at most a read offset
  pub unmoved : a.finished ≡ false → a.receiver ≡ r
