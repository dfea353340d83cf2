-- One end of a stream as a plain value: the groups of its record, a fresh end, and a setter for each group. Instants and spans are
-- nanoseconds; no definition adds one to a packet number.
use Rattle.std.specs.Prelude as rust
use Rattle.std.specs.Prelude.{ℕ, ◌+◌, List, [], Bool, false, None}
use Rattle.std.proofs.Math.Option.{Option}
use Rattle.error.specs.declared.UdxError.{UdxError}
use Rattle.rtt.specs.declared.estimate.Rtt.{Rtt}
use Rattle.rtt.specs.Estimate as estimate
use Rattle.model.specs.Lists.{Bytes}
use Rattle.model.specs.Slots.{Slots, no_slots}

-- what a store holds

-- Packet::waiting, Packet::transmits, Packet::time_sent
pub record Marks : Type 0 where
  pub waiting : Bool
  pub transmits : ℕ
  pub sent : Option ℕ

-- 01: in the outgoing store "A packet has number, length, waiting mark, transmits and time sent". Here with its bytes, header
-- and payload; the number is the slot's.
pub record Packet : Type 0 where
  pub bytes : Bytes
  pub marks : Marks

-- 01: in the incoming store "A packet has number, length and read offset". Here with its payload (IncomingPacket).
pub record Held : Type 0 where
  pub payload : Bytes
  pub offset : ℕ

-- 01: the send queue holds "a state packet frozen when queued, or a stored packet's number and length" (PacketRef)
pub data Entry : Type 0 where
  state : Bytes → Entry
  packet : ℕ → ℕ → Entry

-- the groups

pub record Ids : Type 0 where
  pub local : ℕ
  pub remote : ℕ
  -- the segment ceiling: most entries of a batch
  pub segments : ℕ

pub record Sender : Type 0 where
  -- the number of the next packet
  pub seq : ℕ
  -- every packet below it has been settled
  pub remote_acked : ℕ
  -- the largest ack delivered since the last drive
  pub largest_ack : ℕ
  -- bytes of the stored packets that are not waiting
  pub inflight : ℕ
  -- the congestion window
  pub cwnd : ℕ
  pub outgoing : Slots Packet

pub record Receiver : Type 0 where
  -- every number below it has been delivered
  pub ack : ℕ
  -- the number of the packet that the next read starts with
  pub read_cursor : ℕ
  pub incoming : Slots Held

pub record Queue : Type 0 where
  pub entries : List Entry
  -- how many of them the last drive left to take
  pub left : ℕ

pub record Timing : Type 0 where
  pub rtt : Rtt
  -- when the retransmission timer is due (rto_timeout)
  pub deadline : ℕ

-- the Rust's StreamState
pub data CloseState : Type 0 where
  both_open local_closed remote_closed both_closed : CloseState

pub record Ending : Type 0 where
  pub error : rust.Option UdxError
  pub state : CloseState
  -- a drive has answered done
  pub ended : Bool

pub record Clocks : Type 0 where
  -- of the last accepted call with a clock
  pub last : ℕ
  -- of the last drive
  pub drive : ℕ

-- the Rust's StreamStats
pub record Totals : Type 0 where
  pub tx_packets : ℕ
  pub tx_bytes : ℕ
  pub rx_packets : ℕ
  pub rx_bytes : ℕ
  pub inflight_packets : ℕ
  pub inflight_bytes : ℕ

pub record End : Type 0 where
  pub ids : Ids
  pub sender : Sender
  pub receiver : Receiver
  pub queue : Queue
  pub timing : Timing
  pub ending : Ending
  pub clocks : Clocks
  pub totals : Totals

-- 01, 'Fresh': "numbers and totals 0, stores empty, no error, both sides open, window 2,800, rto 1,000 ms, deadline now + rto,
-- queue empty" (UdxStream::connect). The last drive's clock is the open's.
unfoldable pub fresh : (local remote segments clock : ℕ) → End
fresh local remote segments clock =
    record {
      ids = record { local = local; remote = remote; segments = segments };
      sender = record { seq = 0; remote_acked = 0; largest_ack = 0; inflight = 0; cwnd = 2_800; outgoing = no_slots };
      receiver = record { ack = 0; read_cursor = 0; incoming = no_slots };
      queue = record { entries = []; left = 0 };
      timing = record { rtt = estimate.fresh; deadline = clock + 1_000_000_000 };
      ending = record { error = None; state = both_open; ended = false };
      clocks = record { last = clock; drive = clock };
      totals = record { tx_packets = 0; tx_bytes = 0; rx_packets = 0; rx_bytes = 0; inflight_packets = 0; inflight_bytes = 0 };
    }

-- an end with one group replaced

abbrev pub with_sender : Sender → End → End
with_sender s e = record { ids = e.ids; sender = s; receiver = e.receiver; queue = e.queue; timing = e.timing; ending = e.ending; clocks = e.clocks; totals = e.totals }

abbrev pub with_receiver : Receiver → End → End
with_receiver r e = record { ids = e.ids; sender = e.sender; receiver = r; queue = e.queue; timing = e.timing; ending = e.ending; clocks = e.clocks; totals = e.totals }

abbrev pub with_queue : Queue → End → End
with_queue q e = record { ids = e.ids; sender = e.sender; receiver = e.receiver; queue = q; timing = e.timing; ending = e.ending; clocks = e.clocks; totals = e.totals }

abbrev pub with_timing : Timing → End → End
with_timing t e = record { ids = e.ids; sender = e.sender; receiver = e.receiver; queue = e.queue; timing = t; ending = e.ending; clocks = e.clocks; totals = e.totals }

abbrev pub with_ending : Ending → End → End
with_ending x e = record { ids = e.ids; sender = e.sender; receiver = e.receiver; queue = e.queue; timing = e.timing; ending = x; clocks = e.clocks; totals = e.totals }

abbrev pub with_clocks : Clocks → End → End
with_clocks c e = record { ids = e.ids; sender = e.sender; receiver = e.receiver; queue = e.queue; timing = e.timing; ending = e.ending; clocks = c; totals = e.totals }

abbrev pub with_totals : Totals → End → End
with_totals t e = record { ids = e.ids; sender = e.sender; receiver = e.receiver; queue = e.queue; timing = e.timing; ending = e.ending; clocks = e.clocks; totals = t }
