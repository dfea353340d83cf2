-- 01's example session, computed over the definition: its script, and what it prints. Statement; computed in proofs/Example.antt.
use Rattle.std.specs.Prelude.{ℕ, ◌≡◌, List, [], ◌∷◌}
use Rattle.model.specs.Lists.{Bytes}
use Rattle.session_turn.specs.Session.{session}

-- "Input: `0100030041 02000000000000000000 0300 0300 040100000500000000000000 05010800 05010800 0601`"
abbrev pub example_script : Bytes
example_script =
    1 ∷ 0 ∷ 3 ∷ 0 ∷ 65 ∷
    2 ∷ 0 ∷ 0 ∷ 0 ∷ 0 ∷ 0 ∷ 0 ∷ 0 ∷ 0 ∷ 0 ∷
    3 ∷ 0 ∷
    3 ∷ 0 ∷
    4 ∷ 1 ∷ 0 ∷ 0 ∷ 5 ∷ 0 ∷ 0 ∷ 0 ∷ 0 ∷ 0 ∷ 0 ∷ 0 ∷
    5 ∷ 1 ∷ 8 ∷ 0 ∷
    5 ∷ 1 ∷ 8 ∷ 0 ∷
    6 ∷ 1 ∷
    []

-- "Output:" each line as ASCII codes
abbrev pub example_text : List ℕ
example_text =
    -- write 0 ok 3
    119 ∷ 114 ∷ 105 ∷ 116 ∷ 101 ∷ 32 ∷ 48 ∷ 32 ∷ 111 ∷ 107 ∷ 32 ∷ 51 ∷ 10 ∷
    -- drive 0 ok 0
    100 ∷ 114 ∷ 105 ∷ 118 ∷ 101 ∷ 32 ∷ 48 ∷ 32 ∷ 111 ∷ 107 ∷ 32 ∷ 48 ∷ 10 ∷
    -- take 0 ok 23
    116 ∷ 97 ∷ 107 ∷ 101 ∷ 32 ∷ 48 ∷ 32 ∷ 111 ∷ 107 ∷ 32 ∷ 50 ∷ 51 ∷ 10 ∷
    -- take 0 none 0
    116 ∷ 97 ∷ 107 ∷ 101 ∷ 32 ∷ 48 ∷ 32 ∷ 110 ∷ 111 ∷ 110 ∷ 101 ∷ 32 ∷ 48 ∷ 10 ∷
    -- hand 1 ok 0
    104 ∷ 97 ∷ 110 ∷ 100 ∷ 32 ∷ 49 ∷ 32 ∷ 111 ∷ 107 ∷ 32 ∷ 48 ∷ 10 ∷
    -- read 1 ok 3 414141
    114 ∷ 101 ∷ 97 ∷ 100 ∷ 32 ∷ 49 ∷ 32 ∷ 111 ∷ 107 ∷ 32 ∷ 51 ∷ 32 ∷ 52 ∷ 49 ∷ 52 ∷ 49 ∷ 52 ∷ 49 ∷ 10 ∷
    -- read 1 wait 0 -
    114 ∷ 101 ∷ 97 ∷ 100 ∷ 32 ∷ 49 ∷ 32 ∷ 119 ∷ 97 ∷ 105 ∷ 116 ∷ 32 ∷ 48 ∷ 32 ∷ 45 ∷ 10 ∷
    -- close 1 ok 0
    99 ∷ 108 ∷ 111 ∷ 115 ∷ 101 ∷ 32 ∷ 49 ∷ 32 ∷ 111 ∷ 107 ∷ 32 ∷ 48 ∷ 10 ∷
    []

abbrev pub Example : Type 0
Example = session example_script ≡ example_text
