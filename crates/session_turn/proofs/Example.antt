-- 01's example session, computed by unfolding every definition it uses.
use mathlib.Core.Path.{refl}
use Rattle.packet.specs.Header.{header_bytes}
use Rattle.rtt.specs.Estimate.{sampled}
use Rattle.rtt.specs.Window.{grown, halved}
use Rattle.model.specs.Slots.{no_slots, get, insert, remove}
use Rattle.model.specs.Stream.{fresh}
use Rattle.model.specs.Answers.{gate}
use Rattle.model.specs.Rules.{rules}
use Rattle.model.specs.Sending.{count_sent, count_state, goes, write_loop, write_refusal, write, close_refusal, close}
use Rattle.model.specs.Receiving.{measured, count_acked, ack_number, ack_numbers, ack_blocks, count_received, count_data, on_sack, on_end, advance, absorb, on_data, handle_incoming, deliver_refusal, deliver, read_loop, read_next, read_refusal, read}
use Rattle.model.specs.Driving.{settle_loop, restarted, settle, due, backed_off, time_out_packet, time_out_loop, check_timeouts, fits, flush_loop, flush, any_stored, drained, drive_refusal, poll_drive, drive, same_length, batch, take_entry, take_loop, take_refusal, take}
use Rattle.session_kept.specs.Kept.{slot_size, last_kept, fitted}
use Rattle.session_script.specs.Script.{width_of, operands_of, parsed_of}
use Rattle.session_text.specs.Text.{bytes_of, answer_of, line_of, bytes_line_of, script_line_of}
use Rattle.session_commands.specs.Acting.{acted}
use Rattle.session_turn.specs.Session.{turn, session}
use Rattle.session_turn.specs.Example.{Example}

pub example : Example
unfolding header_bytes no_slots get insert remove fresh gate rules count_sent count_state goes write_loop write_refusal write close_refusal close measured count_acked ack_number ack_numbers ack_blocks count_received count_data on_sack on_end advance absorb on_data handle_incoming deliver_refusal deliver read_loop read_next read_refusal read settle_loop restarted settle due backed_off time_out_packet time_out_loop check_timeouts fits flush_loop flush any_stored drained drive_refusal poll_drive drive same_length batch take_entry take_loop take_refusal take sampled grown halved slot_size last_kept fitted width_of operands_of parsed_of bytes_of answer_of line_of bytes_line_of script_line_of acted turn session
example = refl
