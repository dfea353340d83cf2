-- Queuing a state packet on the records is the model's. Its bytes at the next place and its word at the end of the queue are one more entry
-- of what is seen (`state_queued`, from the laws of a pushed entry); over a whole stream that is `send_state_packet` (`state_seen`), and with
-- the ending replaced first it is `terminate` (`terminate_seen`).
use Rattle.std.specs.Prelude.{Option}
use Rattle.std.proofs.Common.{◌≡◌, ℕ, ◌+◌, ◌*◌, ◌<◌, ◌≤◌, true, List, length, set, sym, refl, ap, ◌∙◌, append-nil, arith, length-set}
use Rattle.error.specs.declared.UdxError.{UdxError}
use Rattle.packet.specs.Header.{header_bytes}
use Rattle.packet.proofs.HeaderLaws.{header_length}
use Rattle.model.specs.Lists.{Bytes}
use Rattle.model.specs.Stream as model
use Rattle.model.specs.Sending.{pushed, count_state, send_state_packet, failed, terminate}
use Rattle.records.specs.declared.Ending.{Ending}
use Rattle.records.specs.declared.Queue.{Queue}
use Rattle.records.specs.declared.Stream.{Stream}
use Rattle.records.specs.declared.Totals.{Totals}
use Rattle.records_words.specs.declared.Entry.TheVariants.{State}
use Rattle.records_words.specs.Words.{entry_word}
use Rattle.records.specs.Put.{put}
use Rattle.records.specs.Seen.{Lent, seen, seen_queue, seen_totals, formed_queue}
use Rattle.records.specs.Setters.{with_queue}
use Rattle.records.proofs.Put.{put_length}
use Rattle.records.proofs.SeenQueue.{queue_state}
use Rattle.records.proofs.FormedQueue.{queue_said, queue_says, formed_state}
use Rattle.close_state.specs.declared.Queued.{Queued}
use Rattle.close_state.specs.State.{seen_ending, state_header, pushed_state, counted_state, Pushable, StateQueued, with_ending, with_state, Terminates}

totals_seen : (t : Totals) → seen_totals (counted_state t) ≡ count_state (seen_totals t)
unfolding count_state
totals_seen t = refl

module _ (q : Queue) (queue : List ℕ) (headers : Bytes) (able : Pushable q (length headers)) (long : length queue ≡ 128) where
  room : q.count < length queue
  room = omega (arith, able.queued)

  module _ (bytes : Bytes) (twenty : length bytes ≡ 20) where
    fits : q.states * 20 + length bytes ≤ length headers
    fits = omega (arith, able.places, able.whole)

    queue_seen : formed_queue q queue ≡ true
        → seen_queue (pushed_state q) (set queue q.count (entry_word State)) (put headers (q.states * 20) bytes) ≡ pushed (model.state bytes) (seen_queue q queue headers)
    queue_seen f =
        queue_state q (pushed_state q) queue room able.rest able.rest refl refl headers bytes (queue_says q queue f).places twenty
        (rw twenty at fits)

    headers_length : length (put headers (q.states * 20) bytes) ≡ 1_280
    headers_length = put_length headers (q.states * 20) bytes fits ∙ able.whole

  stays_formed : formed_queue q queue ≡ true → formed_queue (pushed_state q) (set queue q.count (entry_word State)) ≡ true
  stays_formed f =
      queue_said (pushed_state q) (set queue q.count (entry_word State))
      (formed_state q (pushed_state q) queue (queue_says q queue f) room able.queued able.rest able.rest refl refl refl able.places)

  pub state_queued : (t : Totals) (error : Option UdxError) (remote seq ack : ℕ) (r : Queued) (queue' : List ℕ) (headers' : Bytes) → r.queue ≡ pushed_state q → r.totals ≡ counted_state t
      → queue' ≡ set queue q.count (entry_word State) → headers' ≡ put headers (q.states * 20) (header_bytes (state_header error remote seq ack))
      → StateQueued q t error remote seq ack queue headers r queue' headers'
  state_queued t error remote seq ack r queue' headers' places totals words bytes =
      let twenty = header_length (state_header error remote seq ack) in
      record {
        places = places;
        totals = totals;
        seen-totals = ap seen_totals totals ∙ totals_seen t;
        seen-queue = λ f. rw (places, words, bytes) (queue_seen (header_bytes (state_header error remote seq ack)) twenty f);
        formed = λ f. rw (places, words) (stays_formed f);
        queue_long = ap length words ∙ simp length-set long;
        headers_long = ap length bytes ∙ headers_length (header_bytes (state_header error remote seq ack)) twenty;
      }

-- two groups of an end
groups : (e : model.End) {a a' : model.Queue} {b b' : model.Totals} → a ≡ a' → b ≡ b'
    → model.with_totals b (model.with_queue a e) ≡ model.with_totals b' (model.with_queue a' e)
groups e p q = cc

header_same : {e e' : Option UdxError} {remote remote' seq seq' ack ack' : ℕ} → e ≡ e' → remote ≡ remote' → seq ≡ seq' → ack ≡ ack'
    → header_bytes (state_header e remote seq ack) ≡ header_bytes (state_header e' remote' seq' ack')
header_same p q r s = cc

-- for any stream with these numbers
pub state_seen : (s : Stream) (t : Totals) (l : Lent) {error : Option UdxError} {remote seq ack : ℕ} {r : Queued} {queue' : List ℕ} {headers' : Bytes}
    → StateQueued s.queue t error remote seq ack l.queue l.headers r queue' headers' → s.ending.error ≡ error → s.ids.remote ≡ remote → s.sender.seq ≡ seq → s.receiver.ack ≡ ack
    → formed_queue s.queue l.queue ≡ true → seen (with_queue r.queue s) r.totals (with_state queue' headers' l) ≡ send_state_packet (seen s t l)
unfolding seen
state_seen s t l x e remote seq ack f =
    let h = header_bytes (state_header s.ending.error s.ids.remote s.sender.seq s.receiver.ack) in
    let bytes = header_same (sym e) (sym remote) (sym seq) (sym ack) ∙ sym (append-nil h) in
    groups (seen s t l) (x.seen-queue f ∙ ap (λ (b : Bytes). pushed (model.state b) (seen_queue s.queue l.queue l.headers)) bytes) x.seen-totals

-- with the ending replaced first
pub terminate_seen : (s : Stream) (t : Totals) (l : Lent) (x : Ending) (why : UdxError) {error : Option UdxError} {remote seq ack : ℕ} {r : Queued} {queue' : List ℕ} {headers' : Bytes}
    → seen_ending x ≡ failed why (seen_ending s.ending)
    → StateQueued s.queue t error remote seq ack l.queue l.headers r queue' headers' → x.error ≡ error → s.ids.remote ≡ remote → s.sender.seq ≡ seq → s.receiver.ack ≡ ack
    → formed_queue s.queue l.queue ≡ true → seen (with_queue r.queue (with_ending x s)) r.totals (with_state queue' headers' l) ≡ terminate why (seen s t l)
unfolding seen
terminate_seen s t l x why ended q e remote seq ack f =
    state_seen (with_ending x s) t l q e remote seq ack f
    ∙ ap (λ (y : model.Ending). send_state_packet (model.with_ending y (seen s t l))) ended

module _ (s : Stream) (t : Totals) (why : UdxError) (queue : List ℕ) (headers : Bytes) where
  pub terminates : (ending : Ending) {k : Queued} {queue' : List ℕ} {headers' : Bytes} → seen_ending ending ≡ failed why (seen_ending s.ending)
      → StateQueued s.queue t ending.error s.ids.remote s.sender.seq s.receiver.ack queue headers k queue' headers'
      → Terminates s t why queue headers (record { stream = with_queue k.queue (with_ending ending s); totals = k.totals }) queue' headers'
  terminates ending ends x =
      let count = ap (λ (q : Queue). q.count) x.places in
      let states = ap (λ (q : Queue). q.states) x.places in
      record {
        seen_after = λ f l. terminate_seen s t (with_state queue headers l) ending why ends x refl refl refl refl f;
        others = refl;
        pushed =
            record {
              left = ap (λ (q : Queue). q.left) x.places;
              count = omega arith;
              states = omega arith;
              formed = x.formed;
              whole = x.headers_long;
            };
      }
