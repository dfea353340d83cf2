-- A call on an end is the call of crate `udx` on the end's records: its numbers, its words, and the stores lent with it. No call changes
-- its kept datagrams.
use Rattle.error.specs.declared.Refusal.{Refusal}
use Rattle.std.specs.Prelude.{ℕ, ◌≡◌, List, [], replicate, Result}
use Rattle.error.specs.declared.Outcome.{Outcome}
use Rattle.model.specs.Lists.{Bytes}
use Rattle.model.specs.Stream as model
use Rattle.model.specs.Answers.{Answer}
use Rattle.records.specs.Seen.{Lent}
use Rattle.records.specs.Open.{Opens}
use Rattle.rules_lent.specs.Broken.{lent}
use Rattle.udx_steps.specs.declared.step.Step.{Step}
use Rattle.udx.specs.Agree.{Answers}
use Rattle.udx.specs.Take.{Hands}
use Rattle.udx.specs.Read.{Gives}
use Rattle.session_kept.specs.Kept.{kept_of}
use Rattle.session_ends.specs.declared.SessionEnd.{SessionEnd}
use Rattle.session_ends.specs.declared.calls.Called.{Called}

-- the stores lent with an end
pub record Stores : Type 0 where
  pub outgoing : Bytes
  pub incoming : Bytes
  pub headers : Bytes

abbrev pub stores : (outgoing incoming headers : Bytes) → Stores
stores outgoing incoming headers = record { outgoing = outgoing; incoming = incoming; headers = headers }

-- what a call of `udx` is lent: the end's words, and the stores
abbrev pub lent_of : SessionEnd → Stores → Lent
lent_of e b = lent e.sent e.held e.queue b.outgoing b.incoming b.headers

-- the step of `udx` in what a call on an end returns
abbrev pub step_of : Called → Step
step_of r = record { stream = r.end.stream; totals = r.end.totals; outcome = r.outcome; count = r.count; segment = r.segment }

-- an end after a step that left these words
abbrev pub stepped_of : SessionEnd → Step → (sent held queue : List ℕ) → Called
stepped_of e x sent held queue =
    record {
      end = record { stream = x.stream; totals = x.totals; sent = sent; held = held; queue = queue; kept = e.kept };
      outcome = x.outcome;
      count = x.count;
      segment = x.segment;
    }

-- write, deliver, drive and close
pub record Calls (call : model.End → Answer) (e : SessionEnd) (before : Stores) (r : Called) (after : Stores) : Type 0 where
  pub answers : Answers call e.stream e.totals (lent_of e before) (step_of r) (lent_of r.end after)
  pub keeps : r.end.kept ≡ e.kept

-- take and read, which change no store: `buf` before, `buf'` after

pub record CallsTake (e : SessionEnd) (b : Stores) (buf : Bytes) (r : Called) (buf' : Bytes) : Type 0 where
  pub hands : Hands e.stream e.totals (lent_of e b) buf (step_of r) (lent_of r.end b) buf'
  pub keeps : r.end.kept ≡ e.kept

pub record CallsRead (e : SessionEnd) (b : Stores) (buf : Bytes) (r : Called) (buf' : Bytes) : Type 0 where
  pub gives : Gives e.stream e.totals (lent_of e b) buf (step_of r) (lent_of r.end b) buf'
  pub keeps : r.end.kept ≡ e.kept

-- 01, 'The session program': "opened at clock 0 with ceiling 10". Its stream and totals are those that such an open hands out, its words
-- are zeros, and it has no kept datagrams.
pub record Fresh (local remote : ℕ) (b : Stores) (r : SessionEnd) : Type 0 where
  pub outcome : Result Outcome Refusal
  pub opens : Opens local remote 10 0 b.outgoing b.incoming b.headers (record { outcome = outcome; stream = r.stream; totals = r.totals })
  pub sent : r.sent ≡ replicate 64 0
  pub held : r.held ≡ replicate 32 0
  pub queue : r.queue ≡ replicate 128 0
  pub kept : (store : Bytes) → kept_of r.kept store ≡ []
