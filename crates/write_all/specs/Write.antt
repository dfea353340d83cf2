-- A write on the records: it sends its pieces as the model's loop does on what is seen.
use Rattle.std.specs.Prelude.{ℕ, ◌+◌, ◌-◌, ◌≤◌, ◌<◌, ◌≡◌, List, true, false, length, drop}
use Rattle.model.specs.Sending.{piece, goes, write_loop}
use Rattle.records.specs.declared.Stream.{Stream}
use Rattle.records.specs.Cut.{outgoing_slot}
use Rattle.records.specs.Seen.{Lent, seen, seen_sender, formed_queue}
use Rattle.records.specs.Beside.{Stay, sent_size}
use Rattle.write_piece.specs.declared.Outbox.{Outbox}
use Rattle.write_piece.specs.Piece.{with_outbox, with_outbox_lent}
use Rattle.write_all.specs.declared.Written.{Written}

-- what 01's rules guarantee a write: nothing is left to take, and the store and the queue have room for what may go
pub record Ready (o : Outbox) (store : ℕ) : Type 0 where
  pub whole : store ≡ 44_800
  pub acked : o.sender.remote_acked ≤ o.sender.seq
  pub near : o.sender.seq ≤ o.sender.remote_acked + 32
  pub inflight : o.sender.inflight ≤ 44_800
  pub rest : o.queue.left ≡ 0
  pub queued : o.queue.count ≤ 63 + (o.sender.seq - o.sender.remote_acked)
  pub packets : o.totals.inflight_packets ≤ o.sender.seq - o.sender.remote_acked
  pub bytes : o.totals.inflight_bytes ≤ 44_160

pub record Writes (o : Outbox) (remote ack : ℕ) (bytes sent queue outgoing : List ℕ) (r : Written) (sent' queue' outgoing' : List ℕ) : Type 0 where
  -- for any stream with these numbers, over any stores that are not lent here: the bytes accepted and the end are the model's
  pub count : (s : Stream) (l : Lent) → s.ids.remote ≡ remote → s.receiver.ack ≡ ack
      → r.count ≡ (write_loop (length bytes) bytes (seen (with_outbox o s) o.totals (with_outbox_lent sent queue outgoing l))).count
  pub end : (s : Stream) (l : Lent) → s.ids.remote ≡ remote → s.receiver.ack ≡ ack
      → seen (with_outbox r.outbox s) r.outbox.totals (with_outbox_lent sent' queue' outgoing' l)
      ≡ (write_loop (length bytes) bytes (seen (with_outbox o s) o.totals (with_outbox_lent sent queue outgoing l))).end
  pub within : r.count ≤ length bytes
  -- it stops before the end of the bytes only at a piece that does not go
  pub stops : r.count < length bytes → goes (piece (drop r.count bytes)) (seen_sender r.outbox.sender sent' outgoing') ≡ false
  -- the queue stays properly laid out
  pub formed : formed_queue o.queue queue ≡ true → formed_queue r.outbox.queue queue' ≡ true
  pub places : (r.outbox.queue.left ≡ 0) × (r.outbox.queue.states ≡ o.queue.states) × (r.outbox.queue.gone ≡ o.queue.gone)
  pub queued : r.outbox.queue.count ≤ 127
  -- the slots' bytes past their packets are unchanged
  pub beside : Stay outgoing_slot (sent_size sent') outgoing outgoing'
