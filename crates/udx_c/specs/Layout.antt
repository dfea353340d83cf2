-- The structs as lists of their fields, in order: what the layout functions give a binding to compare with its own.
use Rattle.std.specs.Prelude.{ℕ, zero, suc, List, [], ◌∷◌, ◌++◌}
use Rattle.udx_c_numbers.specs.declared.structs.FlatStream.{FlatStream}
use Rattle.udx_c_numbers.specs.declared.structs.FlatTotals.{FlatTotals}
use Rattle.udx_c_numbers.specs.declared.structs.FlatStep.{FlatStep}

abbrev pub stream_fields : FlatStream → List ℕ
stream_fields s =
    s.ids.local
    ∷ s.ids.remote
    ∷ s.ids.segments
    ∷ s.sender.seq
    ∷ s.sender.remote_acked
    ∷ s.sender.largest_ack
    ∷ s.sender.inflight
    ∷ s.sender.cwnd
    ∷ s.receiver.ack
    ∷ s.receiver.read_cursor
    ∷ s.receiver.top
    ∷ s.queue.count
    ∷ s.queue.left
    ∷ s.queue.states
    ∷ s.queue.gone
    ∷ s.timing.srtt
    ∷ s.timing.rttvar
    ∷ s.timing.rto
    ∷ s.timing.deadline
    ∷ s.clocks.last
    ∷ s.clocks.drive
    ∷ s.ending.error
    ∷ s.ending.state
    ∷ s.ending.ended
    ∷ []

abbrev pub totals_fields : FlatTotals → List ℕ
totals_fields t =
    t.tx_packets
    ∷ t.tx_bytes
    ∷ t.rx_packets
    ∷ t.rx_bytes
    ∷ t.inflight_packets
    ∷ t.inflight_bytes
    ∷ []

abbrev pub step_fields : FlatStep → List ℕ
step_fields r = stream_fields r.stream ++ (totals_fields r.totals ++ (r.count ∷ r.segment ∷ r.outcome ∷ r.refusal ∷ []))

-- 1, 2, 3 and so on
abbrev pub count_from : (k n : ℕ) → List ℕ
count_from zero n = []
count_from (suc k) n = n ∷ count_from k (suc n)
