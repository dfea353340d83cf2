-- 'Seventeen refusals, in checking order', in the sentences of 01. For each call: the first of its refusals that applies is returned by
-- number, no other number is returned, and the call is not refused if none applies (`InOrder`); then what a read returns for the stream's
-- error, and what header coding refuses. Each follows from a field of `RefusalsInOrder` (model/specs/Order.antt); the one for open on the
-- records is stated here. Statements only: the proofs are in proofs/Refusals.antt.
use Rattle.std.specs.Prelude as rust
use Rattle.error.specs.declared.Refusal.{Refusal}
use Rattle.std.specs.Prelude.{ℕ, ◌<◌, ◌≡◌, ◌⊎◌, ◌↔◌, true, false, length, drop, get_or, Result, None, Some, ⊤}
use mathlib.Core.List.{List, [], ◌∷◌, map, Memᴰ}
use Rattle.std.proofs.Math.Option.{Option, none, some}
use Rattle.error.specs.declared.UdxError.{UdxError}
use Rattle.error.specs.declared.UdxError.TheVariants as error
use Rattle.error.specs.declared.Refusal.TheVariants.{BrokenRecords}
use Rattle.error.specs.declared.Outcome.{Outcome}
use Rattle.packet.specs.declared.header.Header.{Header}
use Rattle.packet.specs.Header.{fields, decoded, Encodes}
use Rattle.model.specs.Lists.{Bytes}
use Rattle.model.specs.Stream.{End}
use Rattle.model.specs.Answers.{Test, first}
use Rattle.model.specs.Rules.{rules}
use Rattle.model.specs.Sending.{open_tests_on, write_tests, write, close_tests, close}
use Rattle.model.specs.Receiving.{deliver_tests, deliver, read_next, read_tests, read}
use Rattle.model.specs.Driving as model
use Rattle.model.specs.Driving.{drive_tests, drive, take_tests}
use Rattle.model.specs.Order.{number, refused_by, undecoded_by}
use Rattle.records.specs.declared.«open».Opened.{Opened}
use Rattle.records.specs.Open.{stores_test, open_why, Opens}

-- past the end of a list no test holds
abbrev pub no_test : Test
no_test = record { holds = false; refusal = BrokenRecords }

-- "in checking order": the first of these tests that holds is answered by its number in 01's list
abbrev pub FirstAnswers : List Test → List ℕ → Result Outcome Refusal → Type 0
FirstAnswers tests numbers o =
    (k : ℕ) → (get_or tests k no_test).holds ≡ true → ((j : ℕ) → j < k → (get_or tests j no_test).holds ≡ false) → refused_by o ≡ some (get_or numbers k 0)

-- a call is refused with these numbers only
abbrev pub NoOther : List ℕ → Result Outcome Refusal → Type 0
NoOther numbers o = (n : ℕ) → refused_by o ≡ some n → Memᴰ n numbers

abbrev pub NoneHolds : List Test → Type 0
NoneHolds tests = (k : ℕ) → (get_or tests k no_test).holds ≡ false

-- and if no test holds it is not refused
abbrev pub InOrder : List Test → List ℕ → Result Outcome Refusal → Type 0
InOrder tests numbers o = FirstAnswers tests numbers o × NoOther numbers o × (NoneHolds tests → refused_by o ≡ none)

pub record OpenRefusals : Type 0 where
  pub numbers : (segments clock : ℕ) (outgoing incoming headers : Bytes) → map number (open_tests_on (stores_test outgoing incoming headers) segments clock) ≡ 1 ∷ 3 ∷ 4 ∷ []
  pub first_of : (segments clock : ℕ) (outgoing incoming headers : Bytes)
      → open_why segments clock outgoing incoming headers ≡ first (open_tests_on (stores_test outgoing incoming headers) segments clock)

-- refusals 14, 15 and 16
abbrev pub error_number : rust.Option UdxError → Option ℕ
error_number None = none
error_number (Some error.ConnectionReset) = some 14
error_number (Some error.UnexpectedEof) = some 15
error_number (Some error.TimedOut) = some 16

-- "its first bytes aren't 255, 1"
abbrev pub OtherBytes : Bytes → Type 0
OtherBytes bytes = get_or bytes 0 0 ≡ 255 → get_or bytes 1 0 ≡ 1 → ⊥

pub record RefusalSentences : Type 0 where
  pub open_in_order : (local remote segments clock : ℕ) (outgoing incoming headers : Bytes) (r : Opened)
      → Opens local remote segments clock outgoing incoming headers r
      → InOrder (open_tests_on (stores_test outgoing incoming headers) segments clock) (1 ∷ 3 ∷ 4 ∷ []) r.outcome
  pub write_in_order : (bytes : Bytes) (e : End) → InOrder (write_tests bytes e) (1 ∷ 6 ∷ 14 ∷ 15 ∷ 16 ∷ 17 ∷ []) (write bytes e).outcome
  pub deliver_in_order : (datagram : Bytes) (clock : ℕ) (e : End)
      → InOrder (deliver_tests clock datagram (fields datagram) (drop 20 datagram) e) (1 ∷ 4 ∷ 5 ∷ 6 ∷ 7 ∷ 8 ∷ 9 ∷ 10 ∷ 11 ∷ 12 ∷ 13 ∷ [])
      (deliver datagram clock e).outcome
  pub drive_in_order : (clock : ℕ) (e : End) → InOrder (drive_tests clock e) (1 ∷ 4 ∷ 5 ∷ 6 ∷ []) (drive clock e).outcome
  pub take_in_order : (room : ℕ) (e : End) → InOrder (take_tests room e) (1 ∷ 2 ∷ []) (model.take room e).outcome
  pub close_in_order : (e : End) → InOrder (close_tests e) (1 ∷ 5 ∷ 6 ∷ 13 ∷ []) (close e).outcome
  pub read_in_order : (room : ℕ) (e : End)
      → FirstAnswers (read_tests e) (1 ∷ []) (read room e).outcome
      × NoOther (1 ∷ 14 ∷ 15 ∷ 16 ∷ []) (read room e).outcome
      × (NoneHolds (read_tests e) → e.ending.error ≡ None → refused_by (read room e).outcome ≡ none)
  -- "Ready only if a packet was finished, else the error, else waiting"; 14 to 16: "Write or read meets" it
  pub read_meets : (room : ℕ) (e : End) → rules e ≡ true → (read_next room e.receiver).ready ≡ false → (n : ℕ)
      → error_number e.ending.error ≡ some n → refused_by (read room e).outcome ≡ some n
  pub read_finishes : (room : ℕ) (e : End) → rules e ≡ true → (read_next room e.receiver).ready ≡ true → refused_by (read room e).outcome ≡ none
  -- 2: "Encode has under 20 bytes"
  pub encode_refused : (h : Header) (before after : Bytes) (r : Result ⊤ Refusal) → Encodes h before after r → (refused_by r ≡ some 2) ↔ (length before < 20)
  -- 7: "A header is under 20 bytes or its first bytes aren't 255, 1."
  pub decode_refused : (bytes : Bytes) → (undecoded_by (decoded bytes) ≡ some 7) ↔ ((length bytes < 20) ⊎ OtherBytes bytes)
