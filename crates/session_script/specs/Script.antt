-- The commands of a session script.
use Rattle.std.specs.Prelude.{ℕ, ◌+◌, ◌*◌, ◌<◌, ◌≤◌, ◌≡◌, cond, List, length, get_or, eqb, leb, ltb, Option, Some, None, IfSome}
use Rattle.rtt.specs.Estimate.{nanos}
use Rattle.session_script.specs.declared.Command.{Command}
use Rattle.session_script.specs.declared.Command.TheVariants.{Write, Drive, Take, Hand, Read, Close}
use Rattle.session_script.specs.declared.Parsed.{Parsed}

-- "One-byte commands, hexadecimal": how many bytes of operands each has
unfoldable pub width_of : ℕ → Option ℕ
width_of c =
    cond (eqb c 1) (Some 4)
    (cond (eqb c 2) (Some 9)
    (cond (eqb c 3) (Some 1)
    (cond (eqb c 4) (Some 11)
    (cond (eqb c 5) (Some 3)
    (cond (eqb c 6) (Some 1)
    None)))))

-- "operands little-endian": the two-, four- and eight-byte numbers at a place; a missing byte is 0
abbrev pub u16_at : List ℕ → ℕ → ℕ
u16_at s i = get_or s i 0 + 256 * get_or s (i + 1) 0

abbrev pub u32_at : List ℕ → ℕ → ℕ
u32_at s i = u16_at s i + 65536 * u16_at s (i + 2)

abbrev pub u64_at : List ℕ → ℕ → ℕ
u64_at s i = u32_at s i + 4294967296 * u32_at s (i + 4)

-- "05 read: end, length (2, to 4,096)"; none "ends the run", as below
abbrev pub read_of : ℕ → ℕ → Option Command
read_of end n = cond (ltb 4096 n) None (Some (Read end n))

-- the command with byte c for an end, at the front of s, which has all its operands
unfoldable pub operands_of : ℕ → ℕ → List ℕ → Option Command
operands_of c end s =
    cond (eqb c 1) (Some (Write end (u16_at s 2) (get_or s 4 0)))
    (cond (eqb c 2) (Some (Drive end (nanos (u64_at s 2))))
    (cond (eqb c 3) (Some (Take end))
    (cond (eqb c 4) (Some (Hand end (u16_at s 2) (nanos (u64_at s 4))))
    (cond (eqb c 5) (read_of end (u16_at s 2))
    (cond (eqb c 6) (Some (Close end))
    None)))))

-- a command that takes n bytes
abbrev pub sized : ℕ → Option Command → Option Parsed
sized n None = None
sized n (Some c) = Some (record { command = c; size = n })

-- "Any other command byte ends the run, as does a short operand, an end above 1"
abbrev pub parsed_with : Option ℕ → ℕ → ℕ → List ℕ → Option Parsed
parsed_with None c end s = None
parsed_with (Some w) c end s =
    cond (leb (length s) w) None
    (cond (ltb 1 end) None
    (sized (w + 1) (operands_of c end s)))

-- the command at the front of the rest of a script
unfoldable pub parsed_of : List ℕ → Option Parsed
parsed_of s = parsed_with (width_of (get_or s 0 0)) (get_or s 0 0) (get_or s 1 0) s

-- what a loop over a script needs besides the command: it advances, and not past the end
pub record Parses (s : List ℕ) (r : Option Parsed) : Type 0 where
  pub is : r ≡ parsed_of s
  pub within : IfSome r (λ p. p.size ≤ length s)
  pub on : IfSome r (λ p. 0 < p.size)
