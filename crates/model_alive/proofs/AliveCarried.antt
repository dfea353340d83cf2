-- One piece goes from a fresh end to a fresh end and is read there. The idea: each call is computed once, to an explicit end, and the rules
-- hold at each end because calls from a fresh stream keep them.
use Prim.Native.Nat.{ℕ, zero, suc, ◌+◌, ◌^◌, ◌≤◌, ◌<◌, min}
use native.Mathlib.Nat.{le_refl}
use native.Mathlib.Omega.{arith}
use mathlib.Core.Path.{◌≡◌, refl, sym, ap, ap₂, ◌∙◌, subst}
use mathlib.Core.List.{List, [], ◌∷◌, ◌++◌, append-nil}
use mathlib.Core.Option.{none, some}
use mathlib.Core.Bool.{Bool, true, false, cond, ◌||◌}
use lib.Dec.{ltb}
use lib.ListN.{length, drop, drop_of_length-le}
use lib.Seq.{take_all}
use borrow.Author.Tests.{lt-leb, lt-ltb, le-ltb, eq-eqb, leb-false, ltb-false}
use Rattle.std.specs.Prelude.{Ok}
use Rattle.error.specs.declared.Outcome.TheVariants.{Ready}
use Rattle.packet.specs.declared.header.Header.{Header}
use Rattle.packet.specs.Header.{header_bytes, fields, has_header, has_type}
use Rattle.model.specs.Lists.{Bytes, joined}
use Rattle.model.specs.Slots.{no_slots, get, insert, remove}
use Rattle.model.specs.Stream.{Packet, Held, Receiver, End, fresh, with_sender}
use Rattle.model.specs.Answers.{first, Answer, answered}
use Rattle.model.specs.Rules.{rules}
use Rattle.model.specs.Sending.{count_sent, create_header, create_packet, new_marks, piece, send_data_packet, write_loop, open_refusal, open_tests, write_refusal, write_outcome, write}
use Rattle.model.specs.Receiving.{on_sack, on_end, advance, absorb, on_data, handle_incoming, deliver_tests, deliver_refusal, deliver, Got, read_loop, read_next, read_refusal, read_outcome, read_answer, finished, read}
use Rattle.model.specs.Driving.{settle_loop, restarted, settle, due, check_timeouts, flush_loop, flush, drained, drive_refusal, drive_clock, left_to_take, no_ack, poll_drive, drive, head_length, same_length, batch, take_entry, take_loop, take_refusal, segment_of, take_answer, take, datagrams_of}
use Rattle.model.specs.Calls.{Call, write_call, deliver_call, drive_call, after}
use Rattle.model_ends.specs.TwoEnds.{data_number, Id}
use Rattle.model_alive.specs.Alive.{CarriedOnce}
use Rattle.model.proofs.Lists.{not_empty}
use Rattle.model.proofs.Gate.{gate_open, clear}
use Rattle.model.proofs.Slots.{insert_length, insert_same, insert_none, none_length, get_none, remove_none}
use Rattle.model.proofs.Wire.{payload_back, fields_back, header_back}
use Rattle.model_rules.proofs.NeverBroken.{never_broken}
use Rattle.model_alive.proofs.AliveWrite.{Sends, goes_now, first_write}

-- what open accepts
opens : (segments clock : ℕ) → open_refusal segments clock ≡ none → (1 ≤ segments) × (segments ≤ 10) × (clock < 2 ^ 60)
unfolding open_refusal
opens segments clock o =
    let ceiling-fits = clear (open_tests segments clock) o 0 in
    (lo (ltb segments 1) refl ceiling-fits, hi (ltb segments 1) ceiling-fits, leb-false (2 ^ 60) clock (clear (open_tests segments clock) o 1))
  where
    lo : (b : Bool) → ltb segments 1 ≡ b → (b || ltb 10 segments) ≡ false → 1 ≤ segments
    lo true e z = absurd (let y : ◌≡◌ {A = ℕ} 0 1 = cc in omega arith)
    lo false e z = ltb-false segments 1 e

    hi : (b : Bool) → (b || ltb 10 segments) ≡ false → segments ≤ 10
    hi true z = absurd (let y : ◌≡◌ {A = ℕ} 0 1 = cc in omega arith)
    hi false z = ltb-false 10 segments z

-- calls from a fresh stream keep the rules
pub rules_hold : (local remote segments clock : ℕ) → open_refusal segments clock ≡ none → (calls : List Call)
    → rules (after calls (fresh local remote segments clock)) ≡ true
rules_hold local remote segments clock o calls = (never_broken local remote segments clock o calls).0

module _ (i j segments clock : ℕ) (o : open_refusal segments clock ≡ none) (bytes : Bytes) (some_bytes : 1 ≤ length bytes) (one_piece : length bytes ≤ 1_380) where
  start : End
  start = fresh i j segments clock

  -- after the write
  wrote : End
  wrote = send_data_packet bytes start

  whole : piece bytes ≡ bytes
  whole = take_all 1_380 bytes one_piece

  sends : Sends 0 0 start.sender
  unfolding start fresh
  sends = record { seq = refl; remote_acked = refl; inflight = refl; cwnd = refl }

  written_end : (k : ℕ) → (write_loop (suc k) bytes start).end ≡ wrote
  unfolding write_loop wrote
  written_end k =
      rw (not_empty bytes some_bytes, goes_now (piece bytes) start.sender sends (omega arith) (rw whole (omega arith)), whole, drop_of_length-le bytes one_piece)
      (nothing_left k (send_data_packet bytes start))
    where
      nothing_left : (k : ℕ) (e : End) → (write_loop k [] e).end ≡ e
      nothing_left zero e = refl
      nothing_left (suc k) e = refl

  ruled : (calls : List Call) → rules (after calls start) ≡ true
  unfolding start
  ruled calls = rules_hold i j segments clock o calls

  write_clear : write_refusal bytes start ≡ none
  unfolding write_refusal start fresh
  write_clear = rw (ruled [], not_empty bytes some_bytes) refl

  wrote_is : (write bytes start).end ≡ wrote
  unfolding write
  wrote_is = ap (λ (a : Answer). a.end) (gate_open (write_refusal bytes start) start _ write_clear) ∙ go (length bytes) some_bytes
    where
      go : (k : ℕ) → 1 ≤ k → (write_loop k bytes start).end ≡ wrote
      go zero l = absurd (omega arith)
      go (suc k) l = written_end k

  write-outcome : (write bytes start).outcome ≡ Ok Ready
  unfolding write
  write-outcome =
      ap (λ (a : Answer). a.outcome) (gate_open (write_refusal bytes start) start _ write_clear)
      ∙ ap (λ (k : ℕ). Ok (write_outcome bytes k)) (first_write (length bytes) bytes start (le_refl _) sends)
      ∙ rw (not_empty bytes some_bytes, lt-ltb 0 (min (length bytes) 2_760) (omega arith)) refl

  -- the packet
  sent_packet : Packet
  sent_packet = record { bytes = create_packet 1 bytes start; marks = new_marks }

  stored : get wrote.sender.outgoing 0 ≡ some sent_packet
  unfolding wrote start fresh sent_packet
  stored = insert_same no_slots 0 _ (none_length Packet)

  -- after the drive
  drove : End
  drove = left_to_take (with_sender (no_ack wrote.sender) (drive_clock clock wrote))

  not_due : (due clock (with_sender (no_ack wrote.sender) (drive_clock clock wrote))) ≡ false
  unfolding due wrote start fresh
  not_due = rw (lt-leb (clock + 1_000_000_000) clock (omega arith)) refl

  drove_end : poll_drive clock wrote ≡ drove
  unfolding poll_drive settle settle_loop restarted check_timeouts flush flush_loop drove wrote start fresh sent_packet count_sent
  drove_end = rw (not_due, stored) refl

  drive_clear : drive_refusal clock wrote ≡ none
  unfolding drive_refusal wrote start fresh
  drive_clear =
      let c = (opens segments clock o).2 in
      rw (subst (λ (e : End). rules e ≡ true) wrote_is (ruled (write_call bytes ∷ [])), lt-leb (2 ^ 60) clock c, le-ltb clock clock (le_refl clock)) refl

  not_drained : drained wrote ≡ false
  unfolding drained wrote start fresh
  not_drained = refl

  drive_answer : (drive clock wrote) ≡ answered Ready drove
  unfolding drive
  drive_answer = gate_open (drive_refusal clock wrote) wrote _ drive_clear ∙ rw not_drained (ap (answered Ready) drove_end)

  -- the batch
  datagram : Bytes
  datagram = header_bytes (create_header 1 start) ++ bytes

  one_entry : batch drove ≡ 1
  unfolding batch same_length drove wrote start fresh
  one_entry =
      let c = (opens segments clock o).0 in
      let m : min segments 1 ≡ 1 = omega arith in
      rw (m, eq-eqb (20 + length bytes) (20 + length bytes) refl) refl

  take_clear : take_refusal 14_000 drove ≡ none
  unfolding take_refusal
  take_clear = rw (subst (λ (e : End). rules e ≡ true) (ap (λ (a : Answer). a.end) drive_answer) (subst (λ (e : End). rules (drive clock e).end ≡ true) wrote_is (ruled (write_call bytes ∷ drive_call clock ∷ [])))) refl

  one_left : ltb 0 drove.queue.left ≡ true
  unfolding drove wrote start fresh
  one_left = refl

  taken : (take_loop 1 drove.queue.entries drove).datagrams ≡ datagram ∷ []
  unfolding take_loop take_entry drove wrote start fresh datagram sent_packet
  taken = rw stored refl

  take-answer : take 14_000 drove ≡ take_answer (take_loop (batch drove) drove.queue.entries drove) drove
  unfolding take
  take-answer = gate_open (take_refusal 14_000 drove) drove _ take_clear ∙ rw one_left refl

  take_bytes : (take 14_000 drove).bytes ≡ datagram
  take_bytes =
      ap (λ (a : Answer). a.bytes) take-answer
      ∙ ap (λ (n : ℕ). joined (take_loop n drove.queue.entries drove).datagrams) one_entry
      ∙ ap joined taken
      ∙ append-nil datagram

  one_datagram : datagrams_of (take 14_000 drove).segment (take 14_000 drove).bytes ≡ datagram ∷ []
  unfolding datagram header_bytes
  one_datagram =
      ap₂ datagrams_of
      (ap (λ (a : Answer). a.segment) take-answer ∙ ap (λ (n : ℕ). segment_of n (head_length drove.queue.entries)) one_entry)
      take_bytes

-- the other end, and a datagram for it: a header of type 1, seq 0 and ack 0, and a payload
module _ (j i segments clock : ℕ) (o : open_refusal segments clock ≡ none) (bytes : Bytes) (some_bytes : 1 ≤ length bytes) (one_piece : length bytes ≤ 1_380) (idFits : Id j) where
  other : End
  other = fresh j i segments clock

  first_header : Header
  first_header = record { typ = 1; data_offset = 0; stream_id = j; recv_win = 4_294_967_295; seq = 0; ack = 0 }

  arriving : Bytes
  arriving = header_bytes first_header ++ bytes

  read_header : fields arriving ≡ first_header
  unfolding arriving first_header
  read_header = fields_back first_header bytes (omega arith) (omega arith) (omega arith) (omega arith) (omega arith) (omega arith)

  read_payload : drop 20 arriving ≡ bytes
  unfolding arriving
  read_payload = payload_back first_header bytes

  has-header : has_header arriving ≡ true
  unfolding arriving
  has-header = header_back first_header bytes

  deliver_clear : deliver_refusal arriving clock other ≡ none
  unfolding deliver_refusal other fresh first_header
  deliver_clear =
      let c = (opens segments clock o).2 in
      ap₂ (λ (h : Header) (p : Bytes). first (deliver_tests clock arriving h p other)) read_header read_payload
      ∙ rw (rules_hold j i segments clock o [], lt-leb (2 ^ 60) clock c, le-ltb clock clock (le_refl clock), has-header, eq-eqb j j refl, le-ltb 1_380 (length bytes) one_piece)
      refl

  kept : Held
  kept = record { payload = bytes; offset = 0 }

  -- the receiver after the delivery
  holding : Receiver
  holding = record { ack = 1; read_cursor = 0; incoming = insert no_slots 0 kept }

  there : get holding.incoming 0 ≡ some kept
  unfolding holding
  there = insert_same no_slots 0 kept (none_length Held)

  not_there : get holding.incoming 1 ≡ none
  unfolding holding
  not_there = insert_none no_slots 0 1 kept (none_length Held) (get_none Held 1) (λ q. absurd (omega arith))

  delivered : End
  delivered = (deliver arriving clock other).end

  deliver_answer : deliver arriving clock other ≡ answered Ready (handle_incoming clock first_header bytes other)
  unfolding deliver
  deliver_answer =
      gate_open (deliver_refusal arriving clock other) other _ deliver_clear
      ∙ ap₂ (λ (h : Header) (p : Bytes). answered Ready (handle_incoming clock h p other)) read_header read_payload

  advanced : absorb 0 bytes other.receiver ≡ holding
  unfolding absorb advance other fresh holding kept
  advanced = rw (there, not_there) refl

  held_now : delivered.receiver ≡ holding
  unfolding delivered handle_incoming on_data on_end on_sack other fresh first_header
  held_now = ap (λ (a : Answer). a.end.receiver) deliver_answer ∙ advanced

  -- the read
  read_clear : read_refusal delivered ≡ none
  unfolding read_refusal delivered other
  read_clear = rw (rules_hold j i segments clock o (deliver_call arriving clock ∷ [])) refl

  nothing_after : get (remove holding.incoming 0) 1 ≡ none
  unfolding holding
  nothing_after = remove_none (insert no_slots 0 kept) 0 1 (insert_length no_slots 0 kept ∙ none_length Held) not_there

  got : read_next 1_380 holding ≡ record { bytes = bytes ++ []; ready = true; receiver = finished holding }
  unfolding read_next read_loop holding kept
  got = rw (there, le-ltb 1_380 (length bytes) one_piece, nothing_after) refl

  read_answer_lem : read 1_380 delivered ≡ read_answer (read_next 1_380 delivered.receiver) delivered
  unfolding read
  read_answer_lem = gate_open (read_refusal delivered) delivered _ read_clear

  got_now : read_next 1_380 delivered.receiver ≡ record { bytes = bytes ++ []; ready = true; receiver = finished holding }
  got_now = ap (read_next 1_380) held_now ∙ got

  read-outcome : (read 1_380 delivered).outcome ≡ Ok Ready
  read-outcome = ap (λ (a : Answer). a.outcome) read_answer_lem ∙ ap (λ (g : Got). read_outcome g.ready delivered) got_now

  read_bytes : (read 1_380 delivered).bytes ≡ bytes
  read_bytes = ap (λ (a : Answer). a.bytes) read_answer_lem ∙ ap (λ (g : Got). g.bytes) got_now ∙ append-nil bytes

  read_ack : (read 1_380 delivered).end.receiver.ack ≡ 1
  unfolding holding
  read_ack = ap (λ (a : Answer). a.end.receiver.ack) read_answer_lem ∙ ap (λ (g : Got). g.receiver.ack) got_now

pub carried_once : CarriedOnce
unfolding start fresh other arriving datagram first_header delivered
carried_once i j segmentsA segmentsB clockA clockB idA idB oA oB bytes l m =
    let a = drive_answer i j segmentsA clockA oA bytes l m in
    let w = wrote_is i j segmentsA clockA oA bytes l m in
    let d = ap (λ (e : End). (drive clockA e).end) w ∙ ap (λ (x : Answer). x.end) a in
    let b = ap (λ (e : End). (take 14_000 e).bytes) d ∙ take_bytes i j segmentsA clockA oA bytes l m in
    let h = deliver_answer j i segmentsB clockB oB bytes l m idB in (
      write-outcome i j segmentsA clockA oA bytes l m,
      ap (λ (e : End). (drive clockA e).outcome) w ∙ ap (λ (x : Answer). x.outcome) a,
      ap (λ (e : End). (take 14_000 e).outcome) d ∙ ap (λ (x : Answer). x.outcome) (take-answer i j segmentsA clockA oA bytes l m),
      ap (λ (x : Bytes). (deliver x clockB (fresh j i segmentsB clockB)).outcome) b ∙ ap (λ (x : Answer). x.outcome) h,
      ap (λ (x : Bytes). (read 1_380 (deliver x clockB (fresh j i segmentsB clockB)).end).outcome) b
          ∙ read-outcome j i segmentsB clockB oB bytes l m idB,
      ap (λ (x : Bytes). (read 1_380 (deliver x clockB (fresh j i segmentsB clockB)).end).bytes) b
          ∙ read_bytes j i segmentsB clockB oB bytes l m idB,
    )

-- the batch is one datagram, which brings number 0 as DATA; after the read the receiver's ack is 1
pub record Once (t : Answer) (r : End) : Type 0 where
  pub one_datagram : datagrams_of t.segment t.bytes ≡ t.bytes ∷ []
  pub first_number : data_number t.bytes ≡ 0 ∷ []
  pub acked : r.receiver.ack ≡ 1

pub once : (i j segmentsA segmentsB clockA clockB : ℕ) → Id j → open_refusal segmentsA clockA ≡ none → open_refusal segmentsB clockB ≡ none → (bytes : Bytes)
    → 1 ≤ length bytes
    → length bytes ≤ 1_380
    → let t = take 14_000 (drive clockA (write bytes (fresh i j segmentsA clockA)).end).end in
    Once t (read 1_380 (deliver t.bytes clockB (fresh j i segmentsB clockB)).end).end
unfolding start fresh other arriving datagram first_header delivered
once i j segmentsA segmentsB clockA clockB idJ oA oB bytes l m =
    let d =
    ap (λ (e : End). (drive clockA e).end) (wrote_is i j segmentsA clockA oA bytes l m)
    ∙ ap (λ (x : Answer). x.end) (drive_answer i j segmentsA clockA oA bytes l m) in
    let b = ap (λ (e : End). (take 14_000 e).bytes) d ∙ take_bytes i j segmentsA clockA oA bytes l m in
    record {
      one_datagram =
          ap (λ (e : End). datagrams_of (take 14_000 e).segment (take 14_000 e).bytes) d
          ∙ one_datagram i j segmentsA clockA oA bytes l m
          ∙ ap (λ (x : Bytes). x ∷ []) (sym b);
      first_number =
          ap data_number b
          ∙ ap (λ (h : Header). cond (has_type 1 h.typ) (h.seq ∷ []) []) (read_header j i segmentsB clockB oB bytes l m idJ);
      acked =
          ap (λ (x : Bytes). (read 1_380 (deliver x clockB (fresh j i segmentsB clockB)).end).end.receiver.ack) b
          ∙ read_ack j i segmentsB clockB oB bytes l m idJ;
    }
