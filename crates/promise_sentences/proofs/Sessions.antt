-- 'The session program' in 01's sentences, from the contracts of `fresh_end`, `open_ends` and `run_one`.
use Prim.Native.Nat.{ℕ}
use mathlib.Core.Path.{◌≡◌, refl, ◌∙◌}
use mathlib.Core.Bool.{false}
use mathlib.Core.List.{[]}
use seplogic.Ra.Ura.{Ura}
use base.Logic.{SProp, fst∗, snd∗}
use prog.Memory.{Memory}
use prog.Routine.{Routine}
use types.Logic.{Logic}
use contract.Monad.{Fun}
use contract.Notation.{connectives}
use Rattle.std.specs.Prelude.{Ok}
use Rattle.error.specs.declared.Outcome.TheVariants.{Ready}
use Rattle.model.specs.Lists.{Bytes}
use Rattle.records.specs.declared.«open».Opened.{Opened}
use Rattle.records.specs.Open.{stores_test, open_why, Opens}
use Rattle.session_turn.proofs.Contracts.{fresh-end, runs_one, opens_ends}
use Rattle.promise_sentences.specs.Calls.{Promises}
use Rattle.promise_sentences.specs.Sessions.{SessionSentences}
use Rattle.promise_sentences.proofs.Calls.{promises_by, promises, opens_fresh}

-- an open at clock 0 with ceiling 10 can be refused only for its stores
ends_ready : (local remote : ℕ) (outgoing incoming headers : Bytes) (o : Opened) → Opens local remote 10 0 outgoing incoming headers o
    → stores_test outgoing incoming headers ≡ false → o.outcome ≡ Ok Ready
unfolding open_why
ends_ready local remote outgoing incoming headers o does sized = does.outcome ∙ rw sized refl

-- an `ensures` of two facts
module _ {M : Type 1} (𝓤 : Ura M) (requires ensures : SProp 𝓤) (p q sentence : Type 0) where
  open connectives 𝓤 use {⌜◌⌝, ⊤ₛ, ◌∗◌}

  promises_first : (requires ≡ ⊤ₛ) × (ensures ≡ (⌜ p ⌝ ∗ ⌜ q ⌝)) → (p → sentence) → Promises 𝓤 requires ensures sentence
  promises_first c f = promises_by 𝓤 requires ensures (⌜ p ⌝ ∗ ⌜ q ⌝) p sentence c (fst∗ 𝓤 ⌜ p ⌝ ⌜ q ⌝) f

  promises_second : (requires ≡ ⊤ₛ) × (ensures ≡ (⌜ p ⌝ ∗ ⌜ q ⌝)) → (q → sentence) → Promises 𝓤 requires ensures sentence
  promises_second c f = promises_by 𝓤 requires ensures (⌜ p ⌝ ∗ ⌜ q ⌝) q sentence c (snd∗ 𝓤 ⌜ p ⌝ ⌜ q ⌝) f

pub session_sentences : {M : Type 1} {𝓤 : Ura M} (𝓛 : Logic 𝓤) (mem : Memory → SProp 𝓤) (run : Routine → Fun 𝓤)
    → SessionSentences 𝓛 mem run
session_sentences {𝓤 = 𝓤} 𝓛 mem run =
    record {
      ends = λ κs x r y.
          promises 𝓤 _ _ _ _ (fresh-end 𝓛 mem run κs x r y)
          (λ d sized.
          (opens_fresh _ _ _ _ _ _ _ _ d.opens (ends_ready _ _ _ _ _ _ d.opens sized), d.sent, d.held, d.queue, d.kept));
      opening = λ κs x r y.
          promises 𝓤 _ _ _ _ (opens_ends 𝓛 mem run κs x r y [] [])
          (λ d. (
            opens_fresh _ _ _ _ _ _ _ _ d.zero.opens (ends_ready _ _ _ _ _ _ d.zero.opens d.sized_zero),
            opens_fresh _ _ _ _ _ _ _ _ d.one.opens (ends_ready _ _ _ _ _ _ d.one.opens d.sized_one),
          ));
      turns = λ κs x r y. (
        promises_first 𝓤 _ _ _ _ _ (runs_one 𝓛 mem run κs x r y) (λ d l. (d.on l, d.within)),
        promises_second 𝓤 _ _ _ _ _ (runs_one 𝓛 mem run κs x r y) (λ d l zero one. let p = d l zero one in (p.line, p.next)),
      );
    }
