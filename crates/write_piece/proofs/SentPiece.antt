-- Sending one piece on the records is the model's: what is seen after `SendsPiece` is `send_data_packet` of what was seen before. The sender
-- follows from the law of a new packet in the outgoing store, the queue from that of a pushed entry, and the totals are the same sums. The
-- queue stays properly laid out, and the store changes only in the packet's bytes.
use Rattle.std.proofs.Common.{◌≡◌, ℕ, suc, ◌+◌, ◌*◌, ◌%◌, ◌<◌, ◌≤◌, true, ◌≢◌, List, ◌++◌, length, set, sym, refl, ap, ◌∙◌, ap₂, add-one, arith, length-append, length-set}
use Rattle.packet.specs.Header.{header_bytes}
use Rattle.packet.proofs.HeaderLaws.{header_length}
use Rattle.model.specs.Lists.{Bytes}
use Rattle.model.specs.Slots.{Slots, ceiling, insert}
use Rattle.model.specs.Stream as model
use Rattle.model.specs.Sending.{new_marks, pushed, count_sent, send_data_packet}
use Rattle.records_words.specs.declared.Sent.{Sent}
use Rattle.records.specs.declared.Sender.{Sender}
use Rattle.records.specs.declared.Queue.{Queue}
use Rattle.records.specs.declared.Stream.{Stream}
use Rattle.records_words.specs.Words.{sent_of, sent_word, sent_time, entry_of, entry_word}
use Rattle.records.specs.Cut.{beyond, outgoing_slot}
use Rattle.records.specs.Put.{put}
use Rattle.records.specs.Beside.{sent_size}
use Rattle.records.specs.Seen.{Lent, seen, seen_sender, seen_queue, seen_totals, seen_outgoing, formed_queue}
use Rattle.records_words.proofs.WordLaws.{sent_back, entry_back}
use Rattle.records.proofs.Put.{put_length}
use Rattle.records.proofs.Cut.{out_is, beyond_same, beyond_other}
use Rattle.records.proofs.SeenOutgoing.{sent_same, sent_other, write_outgoing}
use Rattle.records.proofs.SeenQueue.{queue_packet}
use Rattle.records.proofs.FormedQueue.{queue_said, queue_says, formed_packet}
use Rattle.write_piece.specs.declared.Outbox.{Outbox}
use Rattle.write_piece.specs.Piece.{header_of, new_packet, new_entry, pushed_queue, Room, SendsPiece}
use Rattle.write_piece.specs.Piece.{with_outbox, with_outbox_lent}

-- three groups of an end
groups : (e : model.End) {a a' : model.Sender} {b b' : model.Queue} {c c' : model.Totals} → a ≡ a' → b ≡ b' → c ≡ c'
    → model.with_totals c (model.with_queue b (model.with_sender a e)) ≡ model.with_totals c' (model.with_queue b' (model.with_sender a' e))
groups e p q r = cc

-- the sender with another seq, inflight and store
abbrev numbers_of : Sender → (seq inflight : ℕ) → Slots model.Packet → model.Sender
numbers_of s seq inflight outgoing =
    record { seq = seq; remote_acked = s.remote_acked; largest_ack = s.largest_ack; inflight = inflight; cwnd = s.cwnd; outgoing = outgoing }

-- the outgoing store with one more packet
abbrev one_more : Sender → (remote ack : ℕ) → Bytes → List ℕ → Bytes → Slots model.Packet
one_more s remote ack piece sent outgoing =
    insert (seen_outgoing s.remote_acked s.seq sent outgoing) s.seq
    (record { bytes = header_bytes (header_of 1 remote s.seq ack) ++ piece; marks = new_marks })

module _ {o r : Outbox} {remote ack : ℕ} {piece sent queue outgoing sent' queue' outgoing' : List ℕ}
    (x : SendsPiece o remote ack piece sent queue outgoing r sent' queue' outgoing') (room : Room o (length outgoing) (length piece))
    (sent_long : length sent ≡ 64) (queue_long : length queue ≡ 128) (acked : o.sender.remote_acked ≤ o.sender.seq) (rest : o.queue.left ≡ 0) where
  back : sent_of (sent_word (new_packet o.sender.seq (length piece))) (sent_time (new_packet o.sender.seq (length piece))) ≡ new_packet o.sender.seq (length piece)
  back =
      sent_back (new_packet o.sender.seq (length piece)) (omega (arith, room.short)) (omega arith) (omega (arith, room.seq)) (λ t e. absurd (cc))

  entry_said : entry_of (entry_word (new_entry o.sender.seq (length piece))) ≡ new_entry o.sender.seq (length piece)
  entry_said = entry_back _ (omega (arith, room.short)) (omega (arith, room.seq))

  packet_length : length (header_bytes (header_of 1 remote o.sender.seq ack) ++ piece) ≡ length piece + 20
  packet_length = rw (length-append, header_length (header_of 1 remote o.sender.seq ack)) (omega arith)

  stored : seen_outgoing o.sender.remote_acked (o.sender.seq + 1) sent' outgoing' ≡ one_more o.sender remote ack piece sent outgoing
  stored =
      let full : length piece + 20 ≢ 0 = λ e. omega arith in
      rw (add-one, x.sent_words, x.bytes)
      (write_outgoing o.sender.remote_acked sent sent_long o.sender.seq (new_packet o.sender.seq (length piece)) refl full
      back acked outgoing (header_bytes (header_of 1 remote o.sender.seq ack) ++ piece) room.whole
      (omega (arith, packet_length, room.short)) (sym packet_length))

  sender_seen : seen_sender r.sender sent' outgoing'
      ≡ numbers_of o.sender (suc o.sender.seq) (o.sender.inflight + (20 + length piece)) (one_more o.sender remote ack piece sent outgoing)
  sender_seen =
      let more : length piece + 20 ≡ 20 + length piece = omega arith in
      ap (λ (s : Sender). seen_sender s sent' outgoing') x.numbers
      ∙ ap (numbers_of o.sender (o.sender.seq + 1) (o.sender.inflight + (length piece + 20))) stored
      ∙ ap₂ (λ (seq size : ℕ). numbers_of o.sender seq (o.sender.inflight + size) (one_more o.sender remote ack piece sent outgoing)) (add-one o.sender.seq) more

  queue_seen : (headers : Bytes)
      → seen_queue r.queue queue' headers ≡ pushed (model.packet o.sender.seq (20 + length piece)) (seen_queue o.queue queue headers)
  queue_seen headers =
      let more : length piece + 20 ≡ 20 + length piece = omega arith in
      let fits : o.queue.count < length queue = omega (arith, room.queue) in
      ap₂ (λ (q : Queue) (words : List ℕ). seen_queue q words headers) x.places x.queue_words
      ∙ queue_packet o.queue (pushed_queue o.queue) queue fits rest rest refl refl _ entry_said headers
      ∙ ap (λ (size : ℕ). pushed (model.packet o.sender.seq size) (seen_queue o.queue queue headers)) more

  totals_seen : seen_totals r.totals ≡ count_sent (length piece) (seen_totals o.totals)
  unfolding count_sent
  totals_seen = ap seen_totals x.totals

  pub piece_seen : (s : Stream) (l : Lent) → s.ids.remote ≡ remote → s.receiver.ack ≡ ack
      → seen (with_outbox r s) r.totals (with_outbox_lent sent' queue' outgoing' l)
      ≡ send_data_packet piece (seen (with_outbox o s) o.totals (with_outbox_lent sent queue outgoing l))
  unfolding seen
  piece_seen s l p q =
      groups (seen (with_outbox o s) o.totals (with_outbox_lent sent queue outgoing l))
      (sender_seen
      ∙ ap₂ (λ (remote ack : ℕ). numbers_of o.sender (suc o.sender.seq) (o.sender.inflight + (20 + length piece)) (one_more o.sender remote ack piece sent outgoing)) (sym p) (sym q))
      (queue_seen l.headers) totals_seen

  pub piece_formed : formed_queue o.queue queue ≡ true → formed_queue r.queue queue' ≡ true
  piece_formed f =
      let fits : o.queue.count < length queue = omega (arith, room.queue) in
      rw (x.places, x.queue_words)
      (queue_said (pushed_queue o.queue) (set queue o.queue.count (entry_word (new_entry o.sender.seq (length piece))))
      (formed_packet o.queue (pushed_queue o.queue) queue (queue_says o.queue queue f) fits room.queue rest rest refl refl _ entry_said refl))

  pub sent_length : length sent' ≡ 64
  sent_length = ap length x.sent_words ∙ simp length-set sent_long

  pub queue_length : length queue' ≡ 128
  queue_length = ap length x.queue_words ∙ simp length-set queue_long

  pub store_length : length outgoing' ≡ 44_800
  store_length =
      ap length x.bytes
      ∙ put_length outgoing (o.sender.seq % 32 * 1_400) (header_bytes (header_of 1 remote o.sender.seq ack) ++ piece) (omega (arith, packet_length, room.whole, room.short)) ∙ room.whole

  -- the slot of the packet, and the others

  fits : length (header_bytes (header_of 1 remote o.sender.seq ack) ++ piece) ≤ outgoing_slot
  fits = omega (arith, packet_length, room.short, out_is)

  inside : o.sender.seq % ceiling * outgoing_slot + length (header_bytes (header_of 1 remote o.sender.seq ack) ++ piece) ≤ length outgoing
  inside = rw out_is (omega (arith, packet_length, room.whole, room.short))

  store_is : outgoing' ≡ put outgoing (o.sender.seq % ceiling * outgoing_slot) (header_bytes (header_of 1 remote o.sender.seq ack) ++ piece)
  store_is = rw out_is x.bytes

  pub size_here : sent_size sent' (o.sender.seq % ceiling) ≡ length piece + 20
  size_here =
      ap (λ (words : List ℕ). sent_size words (o.sender.seq % ceiling)) x.sent_words
      ∙ ap (λ (p : Sent). p.length) (sent_same sent sent_long o.sender.seq (new_packet o.sender.seq (length piece)) ∙ back)

  pub size_other : (i : ℕ) → i < ceiling → i ≢ o.sender.seq % ceiling → sent_size sent' i ≡ sent_size sent i
  size_other i l ne =
      ap (λ (words : List ℕ). sent_size words i) x.sent_words
      ∙ ap (λ (p : Sent). p.length) (sent_other sent sent_long o.sender.seq (new_packet o.sender.seq (length piece)) i l ne)

  pub beyond_here : beyond outgoing_slot outgoing' (o.sender.seq % ceiling) (length piece + 20) ≡ beyond outgoing_slot outgoing (o.sender.seq % ceiling) (length piece + 20)
  beyond_here =
      rw (store_is, ← packet_length)
      (beyond_same outgoing_slot outgoing (header_bytes (header_of 1 remote o.sender.seq ack) ++ piece) (o.sender.seq % ceiling) fits inside)

  pub beyond_elsewhere : (i k : ℕ) → i ≢ o.sender.seq % ceiling → beyond outgoing_slot outgoing' i k ≡ beyond outgoing_slot outgoing i k
  beyond_elsewhere i k ne =
      ap (λ (store : List ℕ). beyond outgoing_slot store i k) store_is
      ∙ beyond_other outgoing_slot outgoing (header_bytes (header_of 1 remote o.sender.seq ack) ++ piece) (o.sender.seq % ceiling) fits inside i k ne
