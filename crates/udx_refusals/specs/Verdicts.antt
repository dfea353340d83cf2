-- The refusals of each call on the records, in 01's order.
use Rattle.std.specs.Prelude.{ℕ, ◌+◌, ◌-◌, ◌^◌, List, length, Bool, cond, ◌&&◌, ◌||◌, not, ltb, leb, eqb, ⊤, Result, Ok, Err, None, Some}
use Rattle.std.specs.Prelude as rust
use Rattle.std.proofs.Math.Option.{Option, none, some}
use Rattle.error.specs.declared.UdxError.{UdxError}
use Rattle.error.specs.Answers.{met}
use Rattle.error.specs.declared.Refusal.{Refusal}
use Rattle.error.specs.declared.Refusal.TheVariants as refusal
use Rattle.packet.specs.declared.header.Header.{Header}
use Rattle.packet.specs.Header.{has_type, decoded}
use Rattle.records.specs.declared.Stream.{Stream}

-- the model's first refusal, if any, as a verdict
abbrev pub verdict_of : Option Refusal → Result ⊤ Refusal
verdict_of none = Ok tt
verdict_of (some why) = Err why

-- refusals 14, 15 and 16
abbrev pub error_verdict : rust.Option UdxError → Result ⊤ Refusal → Result ⊤ Refusal
error_verdict None later = later
error_verdict (Some error) later = Err (met error)

-- refusals 1, 6, 14 to 16 and 17 of a write
unfoldable pub write_verdict : (broken : Bool) → Stream → (empty : Bool) → Result ⊤ Refusal
write_verdict broken s empty =
    cond broken (Err refusal.BrokenRecords)
    (cond (ltb 0 s.queue.left) (Err refusal.BatchesLeft)
    (error_verdict s.ending.error
    (cond (not empty && leb 4_294_967_295 s.sender.seq) (Err refusal.SeqExhausted) (Ok tt))))

-- refusals 1 and 2 of a take
unfoldable pub take_verdict : (broken : Bool) → (room : ℕ) → Result ⊤ Refusal
take_verdict broken room = cond broken (Err refusal.BrokenRecords) (cond (ltb room 14_000) (Err refusal.ShortBuffer) (Ok tt))

-- refusals 1, 5, 6 and 13 of a close
unfoldable pub close_verdict : (broken : Bool) → Stream → Result ⊤ Refusal
close_verdict broken s =
    cond broken (Err refusal.BrokenRecords)
    (cond s.ending.ended (Err refusal.AfterDone)
    (cond (ltb 0 s.queue.left) (Err refusal.BatchesLeft) (cond (leb 63 s.queue.states) (Err refusal.StateQueueFull) (Ok tt))))

-- refusals 1, 4, 5 and 6: those of a drive, and the first ones of a delivery
unfoldable pub early_verdict : (broken : Bool) → Stream → (clock : ℕ) → Result ⊤ Refusal
early_verdict broken s clock =
    cond broken (Err refusal.BrokenRecords)
    (cond (leb (2 ^ 60) clock || ltb clock s.clocks.last.0) (Err refusal.BadClock)
    (cond s.ending.ended (Err refusal.AfterDone) (cond (ltb 0 s.queue.left) (Err refusal.BatchesLeft) (Ok tt))))

-- refusals 8 to 13 of a delivery with header h and a payload of this length; with nothing left to take no state packet is gone, so `states`
-- is the number queued
unfoldable pub header_verdict : Stream → Header → (payload : ℕ) → Result ⊤ Refusal
header_verdict s h payload =
    cond (not (eqb h.stream_id s.ids.local)) (Err refusal.OtherStream)
    (cond (ltb 1_380 payload) (Err refusal.LongPayload)
    (cond (ltb s.sender.seq h.ack) (Err refusal.AckPastSeq)
    (cond (has_type 1 h.typ && leb 4_294_967_295 h.seq) (Err refusal.SeqEnd)
    (cond (has_type 1 h.typ && leb (s.receiver.read_cursor + 32) h.seq) (Err refusal.PastIncoming)
    (cond (leb 62 s.queue.states) (Err refusal.StateQueueFull) (Ok tt))))))

-- the next list of tests, if none of the last one holds
abbrev pub and_then : {A B : Type 0} → Result A Refusal → (A → Result B Refusal) → Result B Refusal
and_then (Ok a) next = next a
and_then (Err why) next = Err why

-- refusals 1 and 4 to 13 of a delivery; of none, the datagram's header
unfoldable pub delivery_verdict : (broken : Bool) → Stream → (clock : ℕ) → (datagram : List ℕ) → Result Header Refusal
delivery_verdict broken s clock datagram =
    and_then (early_verdict broken s clock)
    (λ _. and_then (decoded datagram) (λ h. and_then (header_verdict s h (length datagram - 20)) (λ _. Ok h)))
