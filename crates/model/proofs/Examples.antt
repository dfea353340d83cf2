-- The examples of specs/Examples.antt, computed: every definition that they use is unfolded.
use mathlib.Core.Path.{refl}
use Rattle.packet.specs.Header.{header_bytes}
use Rattle.packet.specs.Blocks.{blocks_in}
use Rattle.rtt.specs.Estimate.{sampled}
use Rattle.rtt.specs.Window.{grown, halved}
use Rattle.model.specs.Slots.{no_slots, get, insert, remove}
use Rattle.model.specs.Stream.{fresh}
use Rattle.model.specs.Answers.{gate}
use Rattle.model.specs.Rules.{rules}
use Rattle.model.specs.Sending.{open_refusal, count_sent, count_state, goes, write_loop, write_refusal, write, close_refusal, close}
use Rattle.model.specs.Receiving.{measured, count_acked, ack_number, ack_numbers, ack_blocks, count_received, count_data, on_sack, on_end, advance, absorb, on_data, handle_incoming, deliver_refusal, deliver, read_loop, read_next, read_refusal, read}
use Rattle.model.specs.Driving.{settle_loop, restarted, settle, due, backed_off, time_out_packet, time_out_loop, check_timeouts, fits, flush_loop, flush, any_stored, drained, drive_refusal, poll_drive, drive, same_length, batch, take_entry, take_loop, take_refusal, take, look}
use Rattle.model.specs.Examples.{Examples}

pub examples : Examples
unfolding header_bytes no_slots get insert remove fresh gate rules open_refusal count_sent count_state goes write_loop write_refusal write close_refusal close measured count_acked ack_number ack_numbers ack_blocks count_received count_data on_sack on_end advance absorb on_data handle_incoming deliver_refusal deliver read_loop read_next read_refusal read settle_loop restarted settle due backed_off time_out_packet time_out_loop check_timeouts fits flush_loop flush any_stored drained drive_refusal poll_drive drive same_length batch take_entry take_loop take_refusal take look sampled grown halved blocks_in
examples =
    record {
      session-sender = refl;
      session-receiver = refl;
      acknowledged = refl;
      settled-once = refl;
      resent-no-sample = refl;
      never-acked = refl;
      third-goes = refl;
      fourth-fails = refl;
      front-first = refl;
      settled-by-drive = refl;
      gap-closed = refl;
      repeat-replaces = refl;
      old-not-held = refl;
      repeats-counted = refl;
      block-ends = refl;
      settled-entry = refl;
      fills-window = refl;
      flush_stops = refl;
      acks-swapped = refl;
      idle_not_due = refl;
      idle_drive = refl;
      queued-again = refl;
      batches = refl;
      looks = refl;
      ended-by-peer = refl;
      closed-to-done = refl;
      sides-closed = refl;
      closed-and-ended = refl;
      backed-off = refl;
      opened_at = refl;
      ack_in_time = refl;
      refused-deliveries = refl;
      after-done = refl;
      short_buffer = refl;
      just_fits = refl;
      empty_write = refl;
      looks_past = refl;
      end-before-data = refl;
      segments = refl;
      totals-wrap = refl;
      opens = refl;
      state-packets-full = refl;
      last-number = refl;
      failed-with-end = refl;
    }
