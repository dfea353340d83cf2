-- A command of a script reads at most 4,096 bytes: a longer read ends the run when it is parsed.
use Prim.Native.Nat.{ℕ, ◌+◌}
use mathlib.Core.Path.{◌≡◌, refl}
use mathlib.Core.Bool.{true}
use mathlib.Core.List.{List}
use lib.Dec.{eqb, leb, ltb}
use lib.ListN.{length, get_or}
use borrow.Author.Tests.{ltb-false, le-leb}
use Rattle.model.proofs.Lists.{by-test}
use Rattle.std.proofs.Common.{Option, Some, None, IfSome}
use Rattle.session_script.specs.declared.Command.{Command}
use Rattle.session_script.specs.declared.Command.TheVariants.{Read, Close}
use Rattle.session_script.specs.declared.Parsed.{Parsed}
use Rattle.session_script.specs.Script.{u16_at, width_of, read_of, operands_of, sized, parsed_with, parsed_of}
use Rattle.session_commands.specs.Acting.{short_read}

abbrev Short : Option Command → Type 0
Short o = IfSome o (λ c. short_read c ≡ true)

abbrev pub ShortParsed : Option Parsed → Type 0
ShortParsed o = IfSome o (λ p. short_read p.command ≡ true)

-- a read that is not too long
short-read : (end n : ℕ) → Short (read_of end n)
short-read end n = by-test Short (ltb 4_096 n) None (Some (Read end n)) (λ long. tt) (λ e. le-leb n 4_096 (ltb-false 4_096 n e))

-- each kind of command in turn
short_operands : (c end : ℕ) (s : List ℕ) → Short (operands_of c end s)
unfolding operands_of
short_operands c end s =
    by-test Short (eqb c 1) _ _ (λ e. refl)
    (λ e. by-test Short (eqb c 2) _ _ (λ e. refl)
    (λ e. by-test Short (eqb c 3) _ _ (λ e. refl)
    (λ e. by-test Short (eqb c 4) _ _ (λ e. refl)
    (λ e. by-test Short (eqb c 5) _ _ (λ e. short-read end (u16_at s 2))
    (λ e. by-test Short (eqb c 6) (Some (Close end)) None (λ e. refl) (λ e. tt))))))

short_sized : (n : ℕ) (o : Option Command) → Short o → ShortParsed (sized n o)
short_sized n None h = tt
short_sized n (Some c) h = h

short_with : (w : Option ℕ) (c end : ℕ) (s : List ℕ) → ShortParsed (parsed_with w c end s)
short_with None c end s = tt
short_with (Some n) c end s =
    by-test ShortParsed (leb (length s) n) None _ (λ e. tt)
    (λ e. by-test ShortParsed (ltb 1 end) None _ (λ e. tt) (λ e. short_sized (n + 1) (operands_of c end s) (short_operands c end s)))

pub short_parsed : (s : List ℕ) → ShortParsed (parsed_of s)
unfolding parsed_of
short_parsed s = short_with (width_of (get_or s 0 0)) (get_or s 0 0) (get_or s 1 0) s
