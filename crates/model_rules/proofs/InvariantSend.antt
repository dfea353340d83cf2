-- Write and close keep the invariant. Both act only with nothing left to take (`Resting`), and leave it so: a write sends data
-- packets, each new and queued once, and a close queues one state packet.
use Prim.Native.Nat.{ℕ, zero, suc, ◌+◌, ◌-◌, ◌≤◌, ◌<◌}
use native.Mathlib.Omega.{arith}
use mathlib.Core.Path.{◌≡◌}
use mathlib.Core.List.{[], ◌∷◌}
use mathlib.Core.Bool.{Bool, true, false, ◌&&◌, not, true≢false}
use lib.Dec.{ltb, leb}
use borrow.Author.Tests.{ltb-true, ltb-false, leb-false, not-true}
use lib.ListN.{length, drop, length-take}
use Rattle.error.specs.declared.UdxError.{UdxError}
use Rattle.error.specs.declared.UdxError.TheVariants as error
use Rattle.error.specs.declared.Outcome.TheVariants.{Ready}
use Rattle.model.specs.Lists.{Bytes, is_empty}
use Rattle.model.specs.Slots.{ceiling}
use Rattle.model.specs.Stream.{Sender, End, with_ending}
use Rattle.model.specs.Answers.{Answer, answered}
use Rattle.model.specs.Rules.{states}
use Rattle.model.specs.Sending.{piece, goes, failed, terminate, send_state_packet, send_data_packet, Written, write_loop, write_tests, write_refusal, written, write, close_tests, close_refusal, close}
use Rattle.model.proofs.Lists.{by-test}
use Rattle.model.proofs.Gate.{by_gate, clear, and_left, and_right}
use Rattle.model_rules.proofs.Invariant.{RestIn, FactsWith, Left, at_rest, to_take, InvariantWith}
use Rattle.model_rules.proofs.InvariantSteps.{facts_state, rest_state, facts_sent, rest_sent}

-- nothing is left to take
abbrev pub Resting : Bool → End → Type 0
Resting more e =
    record {
      facts : FactsWith more e;
      none_left : e.queue.left ≡ 0;
      rest : RestIn more e;
    }

pub resting_of : {more : Bool} (e : End) → InvariantWith more e → ltb 0 e.queue.left ≡ false → Resting more e
resting_of {more} e g z = go g.left
  where
    go : Left more e → Resting more e
    go (at_rest a h) = record { facts = g.facts; none_left = a; rest = h }
    go (to_take p a h) = let u = ltb-false 0 e.queue.left z in absurd (omega arith)

pub invariant_of : {more : Bool} (e : End) → Resting more e → InvariantWith more e
invariant_of e r = record { facts = r.facts; left = at_rest r.none_left r.rest }

-- write

some_length : (bytes : Bytes) → is_empty bytes ≡ false → 1 ≤ length (piece bytes)
some_length [] e = absurd (true≢false e)
some_length (b ∷ bytes) e = omega arith

pub goes_room : (p : Bytes) (s : Sender) → goes p s ≡ true → (s.seq < 4_294_967_295) × (s.seq - s.remote_acked < ceiling)
unfolding goes
goes_room p s q =
    let both = and_right (leb (s.inflight + length p) s.cwnd) (near && fits) q in
    (ltb-true s.seq 4_294_967_295 (and_right near fits both), ltb-true (s.seq - s.remote_acked) ceiling (and_left near fits both))
  where
    near : Bool
    near = ltb (s.seq - s.remote_acked) ceiling

    fits : Bool
    fits = ltb s.seq 4_294_967_295

resting_write : {more : Bool} (k : ℕ) (bytes : Bytes) (e : End) → Resting more e → Resting more (write_loop k bytes e).end
unfolding write_loop
resting_write zero bytes e r = r
resting_write {more} (suc k) bytes e r =
    by-test (λ (w : Written). Resting more w.end) (not (is_empty bytes) && goes (piece bytes) e.sender)
    (let w = write_loop k (drop 1_380 bytes) (send_data_packet (piece bytes) e) in
    record { count = length (piece bytes) + w.count; end = w.end })
    (record { count = 0; end = e })
    (λ q. resting_write k (drop 1_380 bytes) (send_data_packet (piece bytes) e) (sent q)) (λ q. r)
  where
    sent : (not (is_empty bytes) && goes (piece bytes) e.sender) ≡ true → Resting more (send_data_packet (piece bytes) e)
    sent q =
        let l1 = some_length bytes (not-true (is_empty bytes) (and_left (not (is_empty bytes)) (goes (piece bytes) e.sender) q)) in
        let l2 : length (piece bytes) ≤ 1_380 = rw length-take (omega arith) in
        let (low, w) = goes_room (piece bytes) e.sender (and_right (not (is_empty bytes)) (goes (piece bytes) e.sender) q) in
        record {
          facts = facts_sent e (piece bytes) r.facts r.rest l1 l2 low w;
          none_left = r.none_left;
          rest = rest_sent e (piece bytes) r.facts r.rest l1 l2 low w;
        }

pub write_keeps : {more : Bool} (bytes : Bytes) (e : End) → InvariantWith more e → InvariantWith more (write bytes e).end
unfolding write_refusal write
write_keeps {more} bytes e g =
    by_gate (λ (a : Answer). InvariantWith more a.end) (write_refusal bytes e) e (written bytes (write_loop (length bytes) bytes e)) (λ why. g)
    (λ z. invariant_of (write_loop (length bytes) bytes e).end (resting_write (length bytes) bytes e (resting_of e g (clear (write_tests bytes e) z 1))))

-- a state packet, and ending

pub resting_state : {more : Bool} (e : End) → states e.queue.entries ≤ 62 → Resting more e → Resting more (send_state_packet e)
resting_state e l r = record { facts = facts_state e r.facts; none_left = r.none_left; rest = rest_state e r.facts l r.rest }

pub facts_terminate : {more : Bool} (why : UdxError) (e : End) → FactsWith more e → FactsWith more (terminate why e)
facts_terminate why e g = facts_state (with_ending (failed why e.ending) e) g

pub resting_terminate : {more : Bool} (why : UdxError) (e : End) → states e.queue.entries ≤ 62 → Resting more e → Resting more (terminate why e)
resting_terminate why e l r = resting_state (with_ending (failed why e.ending) e) l r

-- close

pub close_keeps : {more : Bool} (e : End) → InvariantWith more e → InvariantWith more (close e).end
unfolding close_refusal close
close_keeps {more} e g =
    by_gate (λ (a : Answer). InvariantWith more a.end) (close_refusal e) e (answered Ready (terminate error.ConnectionReset e)) (λ why. g)
    (λ z.
    let l = leb-false 63 (states e.queue.entries) (clear (close_tests e) z 3) in
    invariant_of (terminate error.ConnectionReset e) (resting_terminate error.ConnectionReset e (omega arith) (resting_of e g (clear (close_tests e) z 2))))
