-- Progress: a stream that did nothing would break no safety promise; these facts rule it out. Statements only: the proofs are
-- proofs/Alive*.antt.
use Rattle.std.specs.Prelude.{ℕ, ◌≤◌, ◌<◌, min, ◌≡◌, ◌⊎◌, true, false, length, Ok, Some}
use mathlib.Core.List.{List, Memᴰ}
use Rattle.std.proofs.Math.Option.{none, some}
use Rattle.error.specs.declared.UdxError.TheVariants.{TimedOut}
use Rattle.error.specs.declared.Outcome.TheVariants.{Ready}
use Rattle.model.specs.Lists.{Bytes}
use Rattle.model.specs.Slots.{Slots, get}
use Rattle.model.specs.Stream.{Packet, packet, fresh}
use Rattle.model.specs.Sending.{open_refusal, write}
use Rattle.model.specs.Receiving.{deliver, read}
use Rattle.model.specs.Driving.{drive_clock, settle, due, drive, take}
use Rattle.model.specs.Calls.{Call, after}
use Rattle.model_ends.specs.TwoEnds.{Id}

-- A write on a fresh stream is accepted up to the window: two pieces of 1,380 bytes with their headers fill 2,800.
abbrev pub FreshWrite : Type 0
FreshWrite =
    (local remote segments clock : ℕ)
    → open_refusal segments clock ≡ none
    → (bytes : Bytes)
    → let a = write bytes (fresh local remote segments clock) in (a.outcome ≡ Ok Ready) × (a.count ≡ min (length bytes) 2_760)

-- One piece written, driven and taken at a fresh end, handed to the other fresh end and read there: every call answers ok, and
-- the bytes read are the bytes written.
abbrev pub CarriedOnce : Type 0
CarriedOnce =
    (i j segmentsA segmentsB clockA clockB : ℕ)
    → Id i
    → Id j
    → open_refusal segmentsA clockA ≡ none
    → open_refusal segmentsB clockB ≡ none
    → (bytes : Bytes)
    → 1 ≤ length bytes
    → length bytes ≤ 1_380
    → let w = write bytes (fresh i j segmentsA clockA) in
    let d = drive clockA w.end in
    let t = take 14_000 d.end in
    let h = deliver t.bytes clockB (fresh j i segmentsB clockB) in
    let r = read 1_380 h.end in
    (w.outcome ≡ Ok Ready) × (d.outcome ≡ Ok Ready) × (t.outcome ≡ Ok Ready) × (h.outcome ≡ Ok Ready) × (r.outcome ≡ Ok Ready) × (r.bytes ≡ bytes)

-- A packet that a due drive fails on: "each stored packet not waiting, ascending, fails with TimedOut if transmits exceeds 5"
pub record Exhausted (s : Slots Packet) : Type 0 where
  pub number : ℕ
  pub packet : Packet
  pub stored : get s number ≡ some packet
  pub sent : packet.marks.waiting ≡ false
  pub tries : 5 < packet.marks.transmits

-- If the timer is due once a drive has settled the acks, and a packet is then stored, the drive fails with TimedOut on one that was sent
-- too often, or queues the lowest one.
abbrev pub DueDrive : Type 0
DueDrive =
    (local remote segments clock : ℕ)
    → open_refusal segments clock ≡ none
    → (calls : List Call) (at : ℕ)
    → let e = after calls (fresh local remote segments clock) in
    let d = drive at e in
    let s = settle at (drive_clock at e) in
    d.outcome ≡ Ok Ready
    → due at s ≡ true
    → (n : ℕ) (p : Packet)
    → get s.sender.outgoing n ≡ some p
    → ((m : ℕ) → m < n → get s.sender.outgoing m ≡ none)
    → ((d.end.ending.error ≡ Some TimedOut) × Exhausted s.sender.outgoing) ⊎ Memᴰ (packet n (length p.bytes)) d.end.queue.entries
