-- The kinds of scripts in scripts.bin.
use Rattle.std.specs.Prelude.{ℕ, cond, eqb}
use Rattle.drill_replay.specs.declared.comparing.Kind.{Kind}
use Rattle.drill_replay.specs.declared.comparing.Kind.TheVariants as kind

-- src/main.rt: "its kind (1 byte: 0 session, 1 drill)". The file has no other number; the drill also runs all of the session's commands.
abbrev pub kind_of : ℕ → Kind
kind_of n = cond (eqb n 0) kind.Session kind.Drill
