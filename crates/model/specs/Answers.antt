-- The answer of a call: the first refusal that applies, or what the call does.
use Rattle.std.specs.Prelude.{ℕ, List, [], ◌∷◌, Bool, cond, Result, Err, Ok}
use Rattle.std.proofs.Math.Option.{Option, none, some}
use Rattle.error.specs.declared.Refusal.{Refusal}
use Rattle.error.specs.declared.Outcome.{Outcome}
use Rattle.model.specs.Lists.{Bytes}
use Rattle.model.specs.Stream.{End}

-- a refusal and when it applies
pub record Test : Type 0 where
  pub holds : Bool
  pub refusal : Refusal

-- 01, 'Seventeen refusals, in checking order': the first that applies
abbrev pub first : List Test → Option Refusal
first [] = none
first (t ∷ ts) = cond t.holds (some t.refusal) (first ts)

-- the answer of a call
pub record Answer : Type 0 where
  pub outcome : Result Outcome Refusal
  -- bytes accepted, taken or put
  pub count : ℕ
  -- the bytes taken or put
  pub bytes : Bytes
  -- a batch's segment size
  pub segment : Option ℕ
  -- the end after the call
  pub end : End

-- 01: "Each returns its number and changes nothing"
abbrev pub refused : Refusal → End → Answer
refused why e = record { outcome = Err why; count = 0; bytes = []; segment = none; end = e }

-- an answer that has no bytes
abbrev pub answered : Outcome → End → Answer
answered o e = record { outcome = Ok o; count = 0; bytes = []; segment = none; end = e }

-- a refusal, or what the call does
unfoldable pub gate : Option Refusal → End → Answer → Answer
gate none e a = a
gate (some why) e a = refused why e
