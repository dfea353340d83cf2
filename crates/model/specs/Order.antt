-- 01, 'Seventeen refusals, in checking order': the refusals that each call tests, by 01's numbers, in the order in which it tests them. A
-- call answers with the first that holds (`first`, Answers.antt). Also the refusals of header coding, and those that a read answers because
-- of the stream's error. Statement only: the proof is proofs/Order.antt.
use Rattle.error.specs.declared.Refusal.{Refusal}
use Rattle.std.specs.Prelude.{ℕ, ◌≤◌, ◌<◌, ◌≡◌, [], ◌∷◌, map, Bool, true, false, length, get_or, Result, Ok, Err, Some, ⊤}
use Rattle.std.proofs.Math.Option.{Option, none, some}
use Rattle.error.specs.Answers.{number_of}
use Rattle.error.specs.declared.UdxError.TheVariants as error
use Rattle.packet.specs.declared.header.Header.{Header}
use Rattle.packet.specs.Header.{decoded, Encodes}
use Rattle.model.specs.Lists.{Bytes}
use Rattle.model.specs.Stream.{End}
use Rattle.model.specs.Answers.{Test}
use Rattle.model.specs.Rules.{rules}
use Rattle.model.specs.Sending.{open_tests_on, write_tests, close_tests}
use Rattle.model.specs.Receiving.{deliver_tests, read_next, read_tests, read}
use Rattle.model.specs.Driving.{drive_tests, take_tests}

abbrev pub number : Test → ℕ
number t = number_of t.refusal

-- the number that a refused call returns
abbrev pub refused_by : {A : Type 0} → Result A Refusal → Option ℕ
refused_by (Ok x) = none
refused_by (Err why) = some (number_of why)

-- the number that a refused header returns
abbrev pub undecoded_by : Result Header Refusal → Option ℕ
undecoded_by (Ok h) = none
undecoded_by (Err why) = some (number_of why)

pub record RefusalsInOrder : Type 0 where
  pub opens : (differ : Bool) (segments clock : ℕ) → map number (open_tests_on differ segments clock) ≡ 1 ∷ 3 ∷ 4 ∷ []
  pub writes : (bytes : Bytes) (e : End) → map number (write_tests bytes e) ≡ 1 ∷ 6 ∷ 14 ∷ 15 ∷ 16 ∷ 17 ∷ []
  pub delivers : (clock : ℕ) (datagram : Bytes) (h : Header) (payload : Bytes) (e : End)
      → map number (deliver_tests clock datagram h payload e) ≡ 1 ∷ 4 ∷ 5 ∷ 6 ∷ 7 ∷ 8 ∷ 9 ∷ 10 ∷ 11 ∷ 12 ∷ 13 ∷ []
  pub drives : (clock : ℕ) (e : End) → map number (drive_tests clock e) ≡ 1 ∷ 4 ∷ 5 ∷ 6 ∷ []
  pub takes : (room : ℕ) (e : End) → map number (take_tests room e) ≡ 1 ∷ 2 ∷ []
  -- 14 to 16 are outcomes of a read that ran, not tests before it
  pub reads : (e : End) → map number (read_tests e) ≡ 1 ∷ []
  pub closes : (e : End) → map number (close_tests e) ≡ 1 ∷ 5 ∷ 6 ∷ 13 ∷ []
  -- 14, 15, 16: "Write or read meets" this error. A read that finished no packet answers it: "Ready only if a packet was finished, else
  -- the error"
  pub read_reset : (room : ℕ) (e : End) → rules e ≡ true → (read_next room e.receiver).ready ≡ false → e.ending.error ≡ Some error.ConnectionReset
      → refused_by (read room e).outcome ≡ some 14
  pub read_eof : (room : ℕ) (e : End) → rules e ≡ true → (read_next room e.receiver).ready ≡ false → e.ending.error ≡ Some error.UnexpectedEof
      → refused_by (read room e).outcome ≡ some 15
  pub read_timed_out : (room : ℕ) (e : End) → rules e ≡ true → (read_next room e.receiver).ready ≡ false → e.ending.error ≡ Some error.TimedOut
      → refused_by (read room e).outcome ≡ some 16
  -- 2: "Encode has under 20 bytes", and no other encode is refused
  pub encode_short : (h : Header) (before after : Bytes) (r : Result ⊤ Refusal) → Encodes h before after r → length before < 20 → refused_by r ≡ some 2
  pub encode_long : (h : Header) (before after : Bytes) (r : Result ⊤ Refusal) → Encodes h before after r → 20 ≤ length before → refused_by r ≡ none
  -- 7: "A header is under 20 bytes or its first bytes aren't 255, 1", and no other header is refused
  pub decode_short : (bytes : Bytes) → length bytes < 20 → undecoded_by (decoded bytes) ≡ some 7
  pub decode_other : (bytes : Bytes) → (get_or bytes 0 0 ≡ 255 → get_or bytes 1 0 ≡ 1 → ⊥) → undecoded_by (decoded bytes) ≡ some 7
  pub decode_header : (bytes : Bytes) → 20 ≤ length bytes → get_or bytes 0 0 ≡ 255 → get_or bytes 1 0 ≡ 1 → undecoded_by (decoded bytes) ≡ none
