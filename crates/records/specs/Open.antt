-- What open returns: its outcome, the stream and the totals.
use Rattle.std.specs.Prelude.{◌≡◌, ℕ, ◌+◌, ◌%◌, ◌^◌, Bool, false, not, ◌||◌, List, length, ◌==◌, Result, Ok, Err, None}
use Rattle.std.proofs.Math.Option.{Option, none, some}
use Rattle.error.specs.declared.Refusal.{Refusal}
use Rattle.error.specs.declared.Outcome.{Outcome}
use Rattle.error.specs.declared.Outcome.TheVariants.{Ready}
use Rattle.rtt.specs.Estimate as estimate
use Rattle.rtt.specs.Estimate.{nanos}
use Rattle.model.specs.Answers.{first}
use Rattle.model.specs.Sending.{open_tests_on}
use Rattle.records.specs.declared.StreamState.TheVariants as state
use Rattle.records.specs.declared.Sender.{Sender}
use Rattle.records.specs.declared.Timing.{Timing}
use Rattle.records.specs.declared.Stream.{Stream}
use Rattle.records.specs.declared.Totals.{Totals}
use Rattle.records.specs.declared.«open».Opened.{Opened}

abbrev pub fresh_sender : Sender
fresh_sender = record { seq = 0; remote_acked = 0; largest_ack = 0; inflight = 0; cwnd = 2_800 }

abbrev pub fresh_timing : ℕ → Timing
fresh_timing clock = record { rtt = estimate.fresh; deadline = record { 0 = nanos ((clock + 1_000_000_000) % 2 ^ 64) } }

-- 01, 'Fresh': "numbers and totals 0, stores empty, no error, both sides open, window 2,800, rto 1,000 ms, deadline now + rto, queue
-- empty"
unfoldable pub fresh_stream : (local remote segments clock : ℕ) → Stream
fresh_stream local remote segments clock =
    record {
      ids = record { local = local; remote = remote; segments = segments };
      sender = fresh_sender;
      receiver = record { ack = 0; read_cursor = 0; top = 0 };
      queue = record { count = 0; left = 0; states = 0; gone = 0 };
      timing = fresh_timing clock;
      ending = record { error = None; state = state.Open; ended = false };
      clocks = record { last = nanos clock; drive = nanos clock };
    }

abbrev pub fresh_totals : Totals
fresh_totals =
    record { tx_packets = 0; tx_bytes = 0; rx_packets = 0; rx_bytes = 0; inflight_packets = 0; inflight_bytes = 0 }

-- 01, 1: "Open tests the lengths only"
abbrev pub stores_test : (outgoing incoming headers : List ℕ) → Bool
stores_test outgoing incoming headers =
    not (length outgoing == 44_800) || (not (length incoming == 44_160) || not (length headers == 1_280))

-- refusals 1, 3 and 4 of an open
unfoldable pub open_why : (segments clock : ℕ) (outgoing incoming headers : List ℕ) → Option Refusal
open_why segments clock outgoing incoming headers =
    first (open_tests_on (stores_test outgoing incoming headers) segments clock)

-- a refused open returns a stream that every call refuses: its segment ceiling is 0
abbrev pub opened_stream : Option Refusal → Stream → Stream
opened_stream none s = s
opened_stream (some why) s = fresh_stream 0 0 0 0

abbrev pub opened_outcome : Option Refusal → Result Outcome Refusal
opened_outcome none = Ok Ready
opened_outcome (some why) = Err why

abbrev pub refused_open : Refusal → Opened
refused_open why = record { outcome = Err why; stream = fresh_stream 0 0 0 0; totals = fresh_totals }

pub record Opens (local remote segments clock : ℕ) (outgoing incoming headers : List ℕ) (r : Opened) : Type 0 where
  pub outcome : r.outcome ≡ opened_outcome (open_why segments clock outgoing incoming headers)
  pub stream : r.stream ≡ opened_stream (open_why segments clock outgoing incoming headers) (fresh_stream local remote segments clock)
  pub totals : r.totals ≡ fresh_totals
