-- Runs over a line that carry bytes: 01's example session is computed; the run of one piece follows from what each of its calls answers
-- (AliveCarried.antt), since the histories are made of those answers.
use Prim.Native.Nat.{ℕ, zero, suc, ◌≤◌}
use native.Mathlib.Omega.{arith}
use mathlib.Core.Path.{◌≡◌, refl, sym, ap, ◌∙◌, subst}
use mathlib.Core.Logic.{inl}
use mathlib.Core.List.{List, [], ◌∷◌, Memᴰ}
use mathlib.Core.Bool.{cond}
use lib.ListN.{length, take, drop_of_length-le}
use lib.Seq.{take_all}
use Rattle.error.specs.declared.Refusal.{Refusal}
use Rattle.std.specs.Prelude.{Result}
use Rattle.error.specs.declared.Outcome.{Outcome}
use Rattle.packet.specs.Header.{header_bytes}
use Rattle.model.specs.Lists.{Bytes, cut}
use Rattle.model.specs.Slots.{no_slots, get, insert, remove}
use Rattle.model.specs.Stream.{fresh}
use Rattle.model.specs.Answers.{gate}
use Rattle.model.specs.Rules.{rules}
use Rattle.model.specs.Sending.{count_sent, count_state, goes, write_loop, write_refusal, write, close_refusal, close}
use Rattle.model.specs.Receiving.{count_received, count_data, on_sack, on_end, advance, absorb, on_data, handle_incoming, deliver_refusal, deliver, read_loop, read_next, read_refusal, read}
use Rattle.model.specs.Driving.{settle_loop, restarted, settle, due, check_timeouts, flush_loop, flush, drained, drive_refusal, poll_drive, drive, same_length, batch, take_entry, take_loop, take_refusal}
use Rattle.model.specs.Driving as driving
use Rattle.model_ends.specs.TwoEnds.{is_refused, data_number}
use Rattle.model_alive.specs.Traffic.{SessionCarries, PieceCarries}
use Rattle.model_alive.proofs.AliveWrite.{fresh_write}
use Rattle.model_alive.proofs.AliveCarried.{carried_once, once}

pub session_carries : SessionCarries
unfolding header_bytes no_slots get insert remove fresh gate rules count_sent count_state goes write_loop write_refusal write close_refusal close count_received count_data on_sack on_end advance absorb on_data handle_incoming deliver_refusal deliver read_loop read_next read_refusal read settle_loop restarted settle due check_timeouts flush_loop flush drained drive_refusal poll_drive drive same_length batch take_entry take_loop take_refusal driving.take
session_carries =
    record {
      line = (tt, (tt, (tt, (tt, (inl (Memᴰ.head refl), (tt, (tt, (tt, tt))))))));
      accepted = refl;
      pieces = refl;
      taken = refl;
      reads = refl;
      brought = refl;
      ack = refl;
    }

-- the bytes of one piece are cut into one piece
cut_one : (k : ℕ) (bytes : Bytes) → 1 ≤ k → 1 ≤ length bytes → length bytes ≤ 1_380 → cut k 1_380 bytes ≡ bytes ∷ []
cut_one zero bytes a l m = absurd (omega arith)
cut_one (suc k) [] a l m = absurd (omega arith)
cut_one (suc k) (b ∷ bytes) a l m = rw (take_all 1_380 (b ∷ bytes) m, drop_of_length-le (b ∷ bytes) m) (none_cut k)
  where
    none_cut : (k : ℕ) → (b ∷ bytes) ∷ cut k 1_380 [] ≡ (b ∷ bytes) ∷ []
    none_cut zero = refl
    none_cut (suc k) = refl

pub piece_carries : PieceCarries
piece_carries i j segmentsA segmentsB clockA clockB idI idJ openA openB bytes l m =
    let (w, d, t, h, r, same) = carried_once i j segmentsA segmentsB clockA clockB idI idJ openA openB bytes l m in
    let o = once i j segmentsA segmentsB clockA clockB idJ openA openB bytes l m in
    let n = (fresh_write i j segmentsA clockA openA bytes).1 in
    let count : (write bytes (fresh i j segmentsA clockA)).count ≡ length bytes = n ∙ omega arith in
    let whole : take (write bytes (fresh i j segmentsA clockA)).count bytes ≡ bytes = ap (λ (k : ℕ). take k bytes) count ∙ take_all (length bytes) bytes (omega arith) in
    let sent = (driving.take 14_000 (drive clockA (write bytes (fresh i j segmentsA clockA)).end).end).bytes in
    record {
      line = (tt, (tt, (tt, (inl (subst (λ (x : List Bytes). Memᴰ sent x) (sym o.one_datagram) (Memᴰ.head refl)), (tt, tt)))));
      accepted = whole;
      pieces = ap (λ (x : Bytes). cut (length bytes) 1_380 x) whole ∙ cut_one (length bytes) bytes l l m;
      taken = o.one_datagram;
      reads = same;
      brought = ap (λ (x : Result Outcome Refusal). cond (is_refused x) [] (data_number sent)) h ∙ o.first_number;
      ack = o.acked;
    }
