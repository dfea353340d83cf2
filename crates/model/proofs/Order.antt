-- The refusals of each call are in 01's order, by computation. Those of header coding and of a read are cases of their definitions.
use Prim.Native.Nat.{ℕ}
use mathlib.Core.Path.{◌≡◌, refl, sym, ap, ◌∙◌}
use mathlib.Core.Option.{some}
use mathlib.Core.Bool.{Bool, true, false, ◌&&◌}
use lib.Dec.{leb, eqb}
use lib.ListN.{length, get_or}
use borrow.Author.Tests.{eqb-true, le-leb, eq-eqb}
use Rattle.std.specs.Prelude.{Option}
use Rattle.error.specs.Answers.{error_or}
use Rattle.error.specs.declared.UdxError.{UdxError}
use Rattle.error.specs.declared.Outcome.TheVariants.{Waiting}
use Rattle.packet.specs.Header.{has_header, decoded}
use Rattle.packet.proofs.HeaderLaws.{answer_long, answer_short, decoded_short}
use Rattle.model.specs.Lists.{Bytes}
use Rattle.model.specs.Stream.{End}
use Rattle.model.specs.Rules.{rules}
use Rattle.model.specs.Receiving.{read_next, read_refusal, read_outcome, read_answer, read}
use Rattle.model.specs.Order.{refused_by, undecoded_by, RefusalsInOrder}
use Rattle.model.proofs.Gate.{gate_open}

-- a read that finished no packet answers the stream's error
read_answers : (room : ℕ) (e : End) → rules e ≡ true → (read_next room e.receiver).ready ≡ false → (read room e).outcome ≡ error_or e.ending.error Waiting
unfolding read read_refusal
read_answers room e ok none =
    ap (λ a. a.outcome) (gate_open (read_refusal e) e (read_answer (read_next room e.receiver) e) (rw ok refl)) ∙ ap (λ (b : Bool). read_outcome b e) none

read_by : (room : ℕ) (e : End) (why : Option UdxError) → rules e ≡ true → (read_next room e.receiver).ready ≡ false → e.ending.error ≡ why
    → refused_by (read room e).outcome ≡ refused_by (error_or why Waiting)
read_by room e why ok none is = ap refused_by (read_answers room e ok none ∙ ap (λ (x : Option UdxError). error_or x Waiting) is)

-- bytes that have no header in front

no_header : (bytes : Bytes) → has_header bytes ≡ false → undecoded_by (decoded bytes) ≡ some 7
unfolding decoded
no_header bytes e = rw e refl

other_bytes : (a b c : Bool) → (b ≡ true → c ≡ true → ⊥) → (a && (b && c)) ≡ false
other_bytes false b c other = refl
other_bytes true false c other = refl
other_bytes true true false other = refl
other_bytes true true true other = absurd (other refl refl)

pub refusals_in_order : RefusalsInOrder
unfolding decoded
refusals_in_order =
    record {
      opens = λ differ segments clock. refl;
      writes = λ bytes e. refl;
      delivers = λ clock datagram h payload e. refl;
      drives = λ clock e. refl;
      takes = λ room e. refl;
      reads = λ e. refl;
      closes = λ e. refl;
      read_reset = λ room e ok none is. read_by room e _ ok none is;
      read_eof = λ room e ok none is. read_by room e _ ok none is;
      read_timed_out = λ room e ok none is. read_by room e _ ok none is;
      encode_short = λ h before after r does short. ap refused_by (does.answer ∙ sym (answer_short before short));
      encode_long = λ h before after r does long. ap refused_by (does.answer ∙ sym (answer_long before long));
      decode_short = λ bytes short. ap undecoded_by (sym (decoded_short bytes short));
      decode_other = λ bytes other.
          no_header bytes (other_bytes (leb 20 (length bytes)) (eqb (get_or bytes 0 0) 255) (eqb (get_or bytes 1 0) 1) (λ p q. other (eqb-true _ _ p) (eqb-true _ _ q)));
      decode_header = λ bytes long magic version.
          rw (le-leb 20 (length bytes) long, eq-eqb (get_or bytes 0 0) 255 magic, eq-eqb (get_or bytes 1 0) 1 version) refl;
    }
