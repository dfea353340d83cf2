-- Refusal 1 on the records: 01's rules over the records' numbers and words, and how the records are laid out. No byte of a store is read.
-- proofs/Seen.antt proves that this is exactly `formed` and the model's `rules` of what is seen.
use Rattle.std.specs.Prelude.{ℕ, List, Bool, ◌&&◌, ltb, leb}
use Rattle.model.specs.Rules.{rtt_ranges, segments_range}
use Rattle.records.specs.declared.Clocks.{Clocks}
use Rattle.records.specs.declared.Stream.{Stream}
use Rattle.records.specs.declared.Totals.{Totals}
use Rattle.rules_packets.specs.Packets.{ok_sender, ok_receiver}
use Rattle.rules_queue.specs.Entries.{ok_queue}

-- "neither .. nor the last drive's clock is past the last clock, which is below 2^60"
abbrev pub clocks_ok : Clocks → Bool
clocks_ok c = leb c.drive.0 c.last.0 && ltb c.last.0 1_152_921_504_606_846_976

-- all the rules of the records
unfoldable pub ok_stream : Stream → Totals → (sent held queue : List ℕ) → Bool
ok_stream s t sent held queue =
    segments_range s.ids.segments
    && (rtt_ranges s.timing.rtt
    && (clocks_ok s.clocks
    && (ok_sender s.sender t s.clocks.last.0 sent && (ok_receiver s.receiver held && ok_queue s.queue s.sender queue sent))))
