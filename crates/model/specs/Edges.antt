-- 01, 'Edges (m: proved)': every edge marked m, as one computed list with one theorem, `edges_hold`.
use Rattle.std.specs.Prelude.{ℕ, ◌*◌, ◌≡◌, refl, List, [], ◌∷◌, map, cond, length, replicate}
use Rattle.packet.specs.Blocks.{blocks_in, blocks}
use Rattle.rtt.specs.declared.estimate.Rtt.{Rtt}
use Rattle.rtt.specs.Estimate as estimate
use Rattle.rtt.specs.Estimate.{sampled}
use Rattle.rtt.specs.Window.{grown, halved}
use Rattle.model.specs.Lists.{Bytes}
use Rattle.model.specs.Slots.{no_slots, get}
use Rattle.model.specs.Stream.{Sender, fresh, with_sender}
use Rattle.model.specs.Sending.{goes, send_data_packet}
use Rattle.model.specs.Receiving.{on_ack_sender}
use Rattle.model.specs.Driving.{due, backed_off, time_out_loop, check_timeouts}

-- the value that a definition gives, and the value that 01 states
pub record Edge : Type 0 where
  pub found : ℕ
  pub stated : ℕ

abbrev edge : ℕ → ℕ → Edge
edge f d = record { found = f; stated = d }

abbrev ms : ℕ → ℕ
ms n = n * 1_000_000

-- the estimate after a sample of 100 ms, and after another of 900 ms
abbrev one : Rtt
one = sampled estimate.fresh (ms 100)

abbrev two : Rtt
two = sampled one (ms 900)

abbrev blocks_of : ℕ → ℕ
blocks_of bytes = length (blocks (replicate bytes 0))

-- a sender with inflight 2,799 and window 2,800
abbrev nearly_full : Sender
nearly_full = record { seq = 2; remote_acked = 0; largest_ack = 0; inflight = 2_799; cwnd = 2_800; outgoing = no_slots }

abbrev one_byte : Bytes
one_byte = 0 ∷ []

-- inflight after one byte was written, or 0 if it does not go
abbrev inflight_then : ℕ
inflight_then = cond (goes one_byte nearly_full) (send_data_packet one_byte (with_sender nearly_full (fresh 1 2 10 0))).sender.inflight 0

-- a sender with this window and one unacknowledged packet
abbrev with_window : ℕ → Sender
with_window w = record { seq = 1; remote_acked = 0; largest_ack = 0; inflight = 0; cwnd = w; outgoing = no_slots }

-- the window after a delivery that acknowledges the packet
abbrev acknowledged : ℕ → ℕ
acknowledged w =
    (on_ack_sender (record { typ = 0; data_offset = 0; stream_id = 1; recv_win = 0; seq = 0; ack = 1 }) (with_window w)).cwnd

-- the window after a due timeout: a fresh stream's deadline is 1,000 ms
abbrev timed_out : ℕ → ℕ
timed_out w = (check_timeouts (ms 1_000) (with_sender (with_window w) (fresh 1 2 10 0))).sender.cwnd

abbrev pub edges : List Edge
edges =
    -- "window 65,534 grows to 66,934; 65,535 to 65,564; 1,960,001 by 1"
    edge (acknowledged 65_534) 66_934
    ∷ edge (acknowledged 65_535) 65_564
    ∷ edge (acknowledged 1_960_001) 1_960_002
    -- "a due timeout takes 2,801 to 1,400, and 1,400 stays"
    ∷ edge (timed_out 2_801) 1_400
    ∷ edge (timed_out 1_400) 1_400
    -- "SACK payloads of 8, 9, 16, 17 bytes hold 0, 1, 1, 2 blocks"
    ∷ edge (blocks_of 8) 0
    ∷ edge (blocks_of 9) 1
    ∷ edge (blocks_of 16) 1
    ∷ edge (blocks_of 17) 2
    -- "samples 100 ms, 900 ms: rto 1,000 ms, then 1,150 ms (srtt 200, rttvar 237.5)"
    ∷ edge one.rto.0 (ms 1_000)
    ∷ edge two.rto.0 (ms 1_150)
    ∷ edge two.srtt.0 (ms 200)
    ∷ edge two.rttvar.0 237_500_000
    -- "at inflight 2,799, window 2,800, one byte goes and inflight is 2,820"
    ∷ edge inflight_then 2_820
    ∷ []

abbrev found : Edge → ℕ
found e = e.found

abbrev stated : Edge → ℕ
stated e = e.stated

-- every edge is as 01 says
pub edges_hold : map found edges ≡ map stated edges
unfolding grown halved sampled blocks_in goes fresh due backed_off time_out_loop check_timeouts get no_slots
edges_hold = refl
