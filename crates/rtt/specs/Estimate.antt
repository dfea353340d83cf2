-- The round-trip estimate of RFC 6298, sections 2.2 to 2.4, in nanoseconds, with 01's roundings.
use Rattle.std.specs.Prelude.{ℕ, ◌+◌, ◌-◌, ◌*◌, ◌/◌, ◌^◌, ◌≤◌, ◌<◌, max, ◌≡◌, cond, eqb}
use Rattle.rtt.specs.declared.nanos.Nanos.{Nanos}
use Rattle.rtt.specs.declared.estimate.Rtt.{Rtt}

abbrev pub nanos : ℕ → Nanos
nanos n = record { 0 = n }

-- |a - b|; `-` stops at 0, so one of the two differences is 0
abbrev pub apart : ℕ → ℕ → ℕ
apart a b = (a - b) + (b - a)

-- RFC 6298, 2.2: "RTO <- SRTT + max (G, K*RTTVAR) where K = 4"; 2.4: if it is "less than 1 second, then the RTO SHOULD be
-- rounded up to 1 second". 01: "rto = max(1,000 ms, srtt + max(20 ms, 4 rttvar))"; G is 20 ms.
abbrev pub rto_of : ℕ → ℕ → ℕ
rto_of srtt rttvar = max 1_000_000_000 (srtt + max 20_000_000 (4 * rttvar))

-- srtt and rttvar with their rto
abbrev pub timed : ℕ → ℕ → Rtt
timed srtt rttvar = record { srtt = nanos srtt; rttvar = nanos rttvar; rto = nanos (rto_of srtt rttvar) }

-- RFC 6298, 2.2, the first measurement R: "SRTT <- R, RTTVAR <- R/2". 01: "while srtt is 0, srtt = sample and rttvar = half".
abbrev pub first_sample : ℕ → Rtt
first_sample r = timed r (r / 2)

-- RFC 6298, 2.3, a later measurement R': "RTTVAR <- (1 - beta) * RTTVAR + beta * |SRTT - R'|, SRTT <- (1 - alpha) * SRTT +
-- alpha * R'", with the SRTT before it, alpha = 1/8 and beta = 1/4. 01: "rttvar = (3 rttvar + difference) / 4,
-- srtt = (7 srtt + sample) / 8, rounded down".
abbrev pub later_sample : Rtt → ℕ → Rtt
later_sample e r = timed ((7 * e.srtt.0 + r) / 8) ((3 * e.rttvar.0 + apart e.srtt.0 r) / 4)

-- the estimate after a sample (handle_remote_ack_for_packet)
unfoldable pub sampled : Rtt → ℕ → Rtt
sampled e r = cond (eqb e.srtt.0 0) (first_sample r) (later_sample e r)

-- 01, 'Fresh': "rto 1,000 ms"
abbrev pub fresh : Rtt
fresh = record { srtt = nanos 0; rttvar = nanos 0; rto = nanos 1_000_000_000 }

-- 01, 'Rules of the records': "srtt and rttvar are below 2^60, rto is 1,000 ms to 5 × 2^60"
pub record InRange (e : Rtt) : Type 0 where
  pub srtt : e.srtt.0 < 2 ^ 60
  pub rttvar : e.rttvar.0 < 2 ^ 60
  pub least : 1_000_000_000 ≤ e.rto.0
  pub most : e.rto.0 ≤ 5 * 2 ^ 60

-- the contract of a sample: the estimate follows the rule, and the ranges are kept
pub record Samples (before : Rtt) (r : ℕ) (after : Rtt) : Type 0 where
  pub estimate : after ≡ sampled before r
  pub range : InRange after
