-- The stored packets that drive's loops read: what 01's rules say of each, and a sender or stream with one part replaced.
use Rattle.std.specs.Prelude.{ℕ, ◌%◌, ◌^◌, ◌≤◌, ◌<◌, ◌≡◌, List, true}
use Rattle.std.specs.Option.{ForSome}
use Rattle.model.specs.Slots.{ceiling}
use Rattle.records_words.specs.declared.Sent.{Sent}
use Rattle.records.specs.declared.Sender.{Sender}
use Rattle.records.specs.declared.Stream.{Stream}
use Rattle.records_words.specs.Words.{sent_in, is_stored}

-- 01, 'Rules of the records': "lengths are 21 to 1,400 stored"; "neither a time sent nor the last drive's clock is past the last clock,
-- which is below 2^60"
pub record SentBounds (p : Sent) : Type 0 where
  pub short : p.length ≤ 1_400
  pub early : ForSome p.sent_at (λ t. t.0 < 2 ^ 60)

-- the same for every stored packet, from remote acked to below seq
abbrev pub AllSentBounds : Sender → List ℕ → Type 0
AllSentBounds s sent = (n : ℕ) → s.remote_acked ≤ n → n < s.seq → is_stored (sent_in sent (n % ceiling)) n ≡ true → SentBounds (sent_in sent (n % ceiling))

abbrev pub with_inflight : ℕ → Sender → Sender
with_inflight inflight s =
    record { seq = s.seq; remote_acked = s.remote_acked; largest_ack = s.largest_ack; inflight = inflight; cwnd = s.cwnd }

abbrev pub with_sender : Sender → Stream → Stream
with_sender s st =
    record {
      ids = st.ids;
      sender = s;
      receiver = st.receiver;
      queue = st.queue;
      timing = st.timing;
      ending = st.ending;
      clocks = st.clocks;
    }
