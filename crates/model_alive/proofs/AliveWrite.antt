-- A write on a fresh stream is accepted up to the window. The idea: the first piece goes at inflight 0; a second one follows only a full
-- first one, at inflight 1,400; a third one follows only a full second one, at 2,800, and does not go.
use Prim.Native.Nat.{ℕ, zero, suc, ◌+◌, ◌-◌, ◌≤◌, ◌<◌, min}
use native.Mathlib.Nat.{le_refl}
use native.Mathlib.Decide.{dec_le}
use native.Mathlib.Omega.{arith}
use mathlib.Core.Path.{◌≡◌, refl, ap, ◌∙◌}
use mathlib.Core.List.{[], ◌∷◌}
use mathlib.Core.Option.{none, some}
use mathlib.Core.Bool.{true, false, cond, ◌&&◌, not}
use lib.ListN.{length, drop, length-take, length-drop}
use borrow.Author.Tests.{le-leb, lt-leb, lt-ltb}
use Rattle.std.specs.Prelude.{Ok}
use Rattle.model.specs.Lists.{Bytes, is_empty}
use Rattle.model.specs.Slots.{ceiling}
use Rattle.error.specs.declared.Refusal.TheVariants.{SeqExhausted}
use Rattle.error.specs.declared.Outcome.{Outcome}
use Rattle.error.specs.declared.Outcome.TheVariants.{Ready}
use Rattle.model.specs.Stream.{Sender, End, fresh}
use Rattle.model.specs.Answers.{Answer}
use Rattle.model.specs.Sending.{piece, goes, send_data_packet, write_loop, open_refusal, write_refusal, write_outcome, written, write}
use Rattle.model_alive.specs.Alive.{FreshWrite}
use Rattle.model.proofs.Gate.{gate_open, and-true}
use Rattle.model.proofs.NotDead.{turn}
use Rattle.model_rules.proofs.NeverBroken.{never_broken}

-- the loop stops when no byte is left or a piece does not go

none_left : (k : ℕ) (bytes : Bytes) (e : End) → length bytes ≡ 0 → (write_loop k bytes e).count ≡ 0
unfolding write_loop
none_left zero bytes e z = refl
none_left (suc k) [] e z = refl
none_left (suc k) (b ∷ bytes) e z = absurd (omega arith)

stop : (k : ℕ) (bytes : Bytes) (e : End) → goes (piece bytes) e.sender ≡ false → (write_loop k bytes e).count ≡ 0
unfolding write_loop
stop zero bytes e g = refl
stop (suc k) [] e g = refl
stop (suc k) (b ∷ bytes) e g = rw g refl

-- a sender that has sent n packets, i bytes in all, since its stream was fresh

pub record Sends (n i : ℕ) (s : Sender) : Type 0 where
  pub seq : s.seq ≡ n
  pub remote_acked : s.remote_acked ≡ 0
  pub inflight : s.inflight ≡ i
  pub cwnd : s.cwnd ≡ 2_800

pub goes_now : {seq inflight : ℕ} (p : Bytes) (s : Sender) → Sends seq inflight s → seq < 32 → inflight + length p ≤ 2_800 → goes p s ≡ true
unfolding goes
goes_now p s x l m =
    let a = x.seq in
    let b = x.remote_acked in
    let c = x.inflight in
    let d = x.cwnd in
    and-true (le-leb (s.inflight + length p) s.cwnd (omega arith))
    (and-true (lt-ltb (s.seq - s.remote_acked) ceiling (omega arith)) (lt-ltb s.seq 4_294_967_295 (omega arith)))

full : {seq : ℕ} (p : Bytes) (s : Sender) → Sends seq 2_800 s → 1 ≤ length p → goes p s ≡ false
unfolding goes
full p s x l = let c = x.inflight in let d = x.cwnd in rw (lt-leb (s.inflight + length p) s.cwnd (omega arith)) refl

third : (k : ℕ) (bytes : Bytes) (e : End) → Sends 2 2_800 e.sender → (write_loop k bytes e).count ≡ 0
third k [] e x = none_left k [] e refl
third k (b ∷ bytes) e x = stop k (b ∷ bytes) e (full (piece (b ∷ bytes)) e.sender x (rw length-take (omega arith)))

second : (k : ℕ) (bytes : Bytes) (e : End) → length bytes ≤ k → Sends 1 1_400 e.sender → (write_loop k bytes e).count ≡ min (length bytes) 1_380
second k [] e l x = none_left k [] e refl
second zero (b ∷ bytes) e l x = absurd (omega arith)
second (suc k) (b ∷ bytes) e l x =
    let q = length-take 1_380 (b ∷ bytes) in
    turn k (b ∷ bytes) e (omega arith) (goes_now (piece (b ∷ bytes)) e.sender x (omega arith) (omega arith))
    ∙ (let z = rest (dec_le (length (b ∷ bytes)) 1_380) in omega arith)
  where
    rest : Dec (length (b ∷ bytes) ≤ 1_380) → (write_loop k (drop 1_380 (b ∷ bytes)) (send_data_packet (piece (b ∷ bytes)) e)).count ≡ 0
    rest (yes s) = none_left k (drop 1_380 (b ∷ bytes)) (send_data_packet (piece (b ∷ bytes)) e) (rw length-drop (omega arith))
    rest (no s) =
        let q = length-take 1_380 (b ∷ bytes) in
        let c = x.inflight in
        let a = x.seq in
        third k (drop 1_380 (b ∷ bytes)) (send_data_packet (piece (b ∷ bytes)) e)
        (record { seq = omega arith; remote_acked = x.remote_acked; inflight = omega arith; cwnd = x.cwnd })

pub first_write : (k : ℕ) (bytes : Bytes) (e : End) → length bytes ≤ k → Sends 0 0 e.sender → (write_loop k bytes e).count ≡ min (length bytes) 2_760
first_write k [] e l x = none_left k [] e refl
first_write zero (b ∷ bytes) e l x = absurd (omega arith)
first_write (suc k) (b ∷ bytes) e l x =
    let q = length-take 1_380 (b ∷ bytes) in
    turn k (b ∷ bytes) e (omega arith) (goes_now (piece (b ∷ bytes)) e.sender x (omega arith) (omega arith))
    ∙ (let z = rest (dec_le (length (b ∷ bytes)) 1_380) in omega arith)
  where
    rest : Dec (length (b ∷ bytes) ≤ 1_380)
        → (write_loop k (drop 1_380 (b ∷ bytes)) (send_data_packet (piece (b ∷ bytes)) e)).count ≡ min (length (b ∷ bytes)) 2_760 - min 1_380 (length (b ∷ bytes))
    rest (yes s) =
        let z = none_left k (drop 1_380 (b ∷ bytes)) (send_data_packet (piece (b ∷ bytes)) e) (rw length-drop (omega arith)) in omega arith
    rest (no s) =
        let q = length-take 1_380 (b ∷ bytes) in
        let d = length-drop 1_380 (b ∷ bytes) in
        let c = x.inflight in
        let a = x.seq in
        let z = second k (drop 1_380 (b ∷ bytes)) (send_data_packet (piece (b ∷ bytes)) e) (omega arith)
        (record { seq = omega arith; remote_acked = x.remote_acked; inflight = omega arith; cwnd = x.cwnd }) in
        omega arith

-- the theorem

outcome : (bytes : Bytes) (count : ℕ) → count ≡ min (length bytes) 2_760 → write_outcome bytes count ≡ Ready
outcome [] count e = refl
outcome (b ∷ bytes) count e = rw (lt-ltb 0 count (omega arith)) refl

module _ (local remote segments clock : ℕ) (o : open_refusal segments clock ≡ none) (bytes : Bytes) where
  start : End
  start = fresh local remote segments clock

  accepts : write_refusal bytes start ≡ none
  unfolding write_refusal start fresh
  accepts = rw (never_broken local remote segments clock o []).0 (go bytes)
    where
      go : (bytes : Bytes) → cond (not (is_empty bytes) && false) (some SeqExhausted) none ≡ none
      go [] = refl
      go (b ∷ bytes) = refl

  accepted : (write_loop (length bytes) bytes start).count ≡ min (length bytes) 2_760
  unfolding start fresh
  accepted = first_write (length bytes) bytes start (le_refl _) (record { seq = refl; remote_acked = refl; inflight = refl; cwnd = refl })

pub fresh_write : FreshWrite
unfolding write start
fresh_write local remote segments clock o bytes =
    let e = start local remote segments clock o bytes in
    let w = write_loop (length bytes) bytes e in
    let n = accepted local remote segments clock o bytes in
    let a = gate_open (write_refusal bytes e) e (written bytes w) (accepts local remote segments clock o bytes) in
    (ap (λ (x : Answer). x.outcome) a ∙ ap (λ (o : Outcome). Ok o) (outcome bytes w.count n), ap (λ (x : Answer). x.count) a ∙ n)
