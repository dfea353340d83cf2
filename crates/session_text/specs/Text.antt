-- The lines of a session, as lists of ASCII codes.
use Rattle.error.specs.declared.Refusal.{Refusal}
use Rattle.std.specs.Prelude.{ℕ, zero, suc, ◌+◌, ◌/◌, ◌%◌, cond, List, [], ◌∷◌, ◌++◌, length, eqb, ltb, Result, Ok, Err}
use Rattle.error.specs.declared.Outcome.{Outcome}
use Rattle.error.specs.declared.Outcome.TheVariants.{Ready, Waiting, Done, Nothing}
use Rattle.error.specs.Answers.{number_of}
use Rattle.session_text.specs.declared.lines.Name.{Name}
use Rattle.session_text.specs.declared.lines.Name.TheVariants.{Write, Drive, Take, Hand, Read, Close, Script}

-- n in decimal, at most its last f + 1 digits
abbrev pub decimal_to : ℕ → ℕ → List ℕ
decimal_to zero n = (48 + n % 10) ∷ []
decimal_to (suc f) n = cond (ltb n 10) ((48 + n % 10) ∷ []) (decimal_to f (n / 10) ++ ((48 + n % 10) ∷ []))

-- "Offsets, counts and refusals print in decimal": numbers below 2 ^ 64, which have at most 20 digits
abbrev pub decimal_of : ℕ → List ℕ
decimal_of n = decimal_to 19 n

-- a hexadecimal digit, in lower case
abbrev pub digit : ℕ → ℕ
digit d = cond (ltb d 10) (48 + d) (87 + d)

abbrev pub hex_of : List ℕ → List ℕ
hex_of [] = []
hex_of (b ∷ bs) = digit (b / 16) ∷ digit (b % 16) ∷ hex_of bs

-- "the bytes in hexadecimal or `-`"
unfoldable pub bytes_of : List ℕ → List ℕ
bytes_of b = cond (eqb (length b) 0) (45 ∷ []) (hex_of b)

-- a line's first word: write, drive, take, hand, read, close, script
abbrev pub name_of : Name → List ℕ
name_of Write = 119 ∷ 114 ∷ 105 ∷ 116 ∷ 101 ∷ []
name_of Drive = 100 ∷ 114 ∷ 105 ∷ 118 ∷ 101 ∷ []
name_of Take = 116 ∷ 97 ∷ 107 ∷ 101 ∷ []
name_of Hand = 104 ∷ 97 ∷ 110 ∷ 100 ∷ []
name_of Read = 114 ∷ 101 ∷ 97 ∷ 100 ∷ []
name_of Close = 99 ∷ 108 ∷ 111 ∷ 115 ∷ 101 ∷ []
name_of Script = 115 ∷ 99 ∷ 114 ∷ 105 ∷ 112 ∷ 116 ∷ []

-- "outcome (ok, wait, done, none or the refusal's number)"
abbrev pub outcome_of : Result Outcome Refusal → List ℕ
outcome_of (Ok Ready) = 111 ∷ 107 ∷ []
outcome_of (Ok Waiting) = 119 ∷ 97 ∷ 105 ∷ 116 ∷ []
outcome_of (Ok Done) = 100 ∷ 111 ∷ 110 ∷ 101 ∷ []
outcome_of (Ok Nothing) = 110 ∷ 111 ∷ 110 ∷ 101 ∷ []
outcome_of (Err why) = decimal_of (number_of why)

abbrev pub space_of : List ℕ
space_of = 32 ∷ []

abbrev pub end_of : List ℕ
end_of = 10 ∷ []

-- end, outcome and count, each after a space
unfoldable pub answer_of : ℕ → Result Outcome Refusal → ℕ → List ℕ
answer_of end o n = space_of ++ decimal_of end ++ space_of ++ outcome_of o ++ space_of ++ decimal_of n

-- "A line has command, end, outcome .., count of bytes"
unfoldable pub line_of : Name → ℕ → Result Outcome Refusal → ℕ → List ℕ
line_of name end o n = name_of name ++ answer_of end o n ++ end_of

-- ".. and for reads the bytes"
unfoldable pub bytes_line_of : Name → ℕ → Result Outcome Refusal → ℕ → List ℕ → List ℕ
bytes_line_of name end o n b = name_of name ++ answer_of end o n ++ space_of ++ bytes_of b ++ end_of

-- "the last line is then `script` and its command's offset"
unfoldable pub script_line_of : ℕ → List ℕ
script_line_of n = name_of Script ++ space_of ++ decimal_of n ++ end_of
