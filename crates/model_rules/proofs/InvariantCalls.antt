-- Every call keeps the invariant, and a stream that open accepts starts with it.
use Prim.Native.Nat.{ℕ, ◌^◌, ◌≤◌, ◌<◌, zero-le}
use native.Mathlib.Nat.{le_refl}
use native.Mathlib.Omega.{arith}
use mathlib.Core.Path.{◌≡◌, refl}
use mathlib.Core.List.{List, [], ◌∷◌}
use mathlib.Core.Option.{none}
use mathlib.Core.Bool.{Bool, true, false, ◌||◌, true≢false}
use lib.Dec.{ltb, leb}
use borrow.Author.Tests.{ltb-false, leb-false}
use Rattle.error.specs.declared.Refusal.TheVariants as refusal
use Rattle.model.specs.Slots.{no_slots}
use Rattle.model.specs.Stream.{Packet, Held, End, fresh}
use Rattle.model.specs.Answers.{Test}
use Rattle.model.specs.Sending.{open_refusal}
use Rattle.model.specs.Calls.{Call, write_call, deliver_call, drive_call, take_call, read_call, close_call, answer, after}
use Rattle.model.proofs.Slots.{no_some, get_none, none_length, get_d_none}
use Rattle.model.proofs.Gate.{clear}
use Rattle.model_rules.proofs.Ranges.{fresh_range}
use Rattle.model_rules.proofs.Invariant.{Invariant, at_rest}
use Rattle.model_rules.proofs.InvariantSend.{write_keeps, close_keeps}
use Rattle.model_rules.proofs.InvariantRead.{read_keeps}
use Rattle.model_rules.proofs.InvariantTake.{take_keeps}
use Rattle.model_rules.proofs.InvariantDrive.{drive_keeps}
use Rattle.model_rules.proofs.InvariantDeliver.{deliver_keeps}

-- a fresh stream

fresh_invariant : (local remote segments clock : ℕ) → 1 ≤ segments → segments ≤ 10 → clock < 2 ^ 60 → Invariant (fresh local remote segments clock)
unfolding fresh no_slots
fresh_invariant local remote segments clock least most y =
    record {
      facts =
          record {
            numbers = record { acked_seq = le_refl _; seq_near = zero-le; largest_seq = le_refl _ };
            slots = none_length Packet;
            stored = λ i x z. absurd (no_some (get_d_none Packet i) z);
            spare = λ y i x z. absurd (no_some (get_d_none Packet i) z);
            sums = record { inflight = refl; packets = refl; bytes = refl };
            receiver =
                record {
                  cursor_ack = le_refl _;
                  ack_near = zero-le;
                  slots = none_length Held;
                  held = λ i x z. absurd (no_some (get_d_none Held i) z);
                  gap = λ y. get_none Held 0;
                };
            ranges =
                record {
                  estimate = fresh_range;
                  window = record { least = omega arith; most = omega arith };
                  drive_last = le_refl _;
                  last_fits = y;
                };
            segments = record { least = least; most = most };
            entries = tt;
            fits = λ y. record { seq_fits = zero-le; below = tt };
          };
      left = at_rest refl (record { once = refl; known = tt; states = zero-le; queued = λ y i x z. absurd (no_some (get_d_none Packet i) z) });
    }

pub or_false : (a b : Bool) → (a || b) ≡ false → (a ≡ false) × (b ≡ false)
or_false true b e = absurd (true≢false e)
or_false false b e = (refl, e)

pub open_keeps : (local remote segments clock : ℕ) → open_refusal segments clock ≡ none → Invariant (fresh local remote segments clock)
unfolding open_refusal
open_keeps local remote segments clock z =
    let tests : List Test =
    record { holds = ltb segments 1 || ltb 10 segments; refusal = refusal.SegmentCeiling } ∷ record { holds = leb (2 ^ 60) clock; refusal = refusal.BadClock } ∷ [] in
    let (a, b) = or_false (ltb segments 1) (ltb 10 segments) (clear tests z 0) in
    fresh_invariant local remote segments clock (ltb-false segments 1 a) (ltb-false 10 segments b) (leb-false (2 ^ 60) clock (clear tests z 1))

-- a call, and a list of calls

pub call_keeps : (c : Call) (e : End) → Invariant e → Invariant (answer c e).end
call_keeps (write_call bytes) e g = write_keeps bytes e g
call_keeps (deliver_call datagram clock) e g = deliver_keeps datagram clock e g
call_keeps (drive_call clock) e g = drive_keeps clock e g
call_keeps (take_call room) e g = take_keeps room e g
call_keeps (read_call room) e g = read_keeps room e g
call_keeps close_call e g = close_keeps e g

pub calls_keep : (cs : List Call) (e : End) → Invariant e → Invariant (after cs e)
calls_keep [] e g = g
calls_keep (c ∷ cs) e g = calls_keep cs (answer c e).end (call_keeps c e g)
