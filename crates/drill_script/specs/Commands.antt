-- The commands of the drill: the end that each is for, its size, the range of its operands, and how it is read.
use Rattle.std.specs.Prelude.{ℕ, ◌+◌, Bool, true, ◌&&◌, cond, eqb, leb, List, length, get_or, Option, Some, None}
use Rattle.rtt.specs.Estimate.{nanos}
use Rattle.packet.specs.declared.header.Header.{Header}
use Rattle.session_script.specs.Script.{u16_at, u32_at, u64_at}
use Rattle.drill_script.specs.declared.DrillCall.{DrillCall}
use Rattle.drill_script.specs.declared.DrillCall.TheVariants as call
use Rattle.drill_script.specs.declared.Parsed.{Parsed}
use Rattle.drill_script.specs.declared.Drill.{Drill}
use Rattle.drill_script.specs.declared.Drill.TheVariants as command

-- docs/DRILL.md, the table of commands: all but encode and decode have an end as their first operand. Those two leave both ends as they are,
-- and end 0 runs them.
abbrev pub end_of : Drill → ℕ
end_of (command.Raw r) = r.end
end_of (command.Base b) = b.end
end_of (command.Open o) = o.end
end_of (command.Room r) = r.end
end_of (command.Look end) = end
end_of (command.Numbers end) = end
end_of (command.Encode e) = 0
end_of (command.Decode size) = 0
end_of (command.Spoil s) = s.end

-- the same table: the bytes of each, its command byte among them, "widths in bytes are in brackets, one byte where there are none"; raw and
-- decode have as many more as they say
abbrev pub size_of : Drill → ℕ
size_of (command.Raw r) = 12 + r.length
size_of (command.Base b) = 14
size_of (command.Open o) = 19
size_of (command.Room r) = 4
size_of (command.Look end) = 2
size_of (command.Numbers end) = 2
size_of (command.Encode e) = 20
size_of (command.Decode size) = 2 + size
size_of (command.Spoil s) = 12

-- "a room length above 14,000, a header length above 64, a `which` above 24 .. ends the run"; a call that `call_of` does not know as well
abbrev pub are_operands_in_range : Drill → Bool
are_operands_in_range (command.Raw r) = true
are_operands_in_range (command.Base b) = true
are_operands_in_range (command.Open o) = true
are_operands_in_range (command.Room r) = leb r.length 14_000
are_operands_in_range (command.Look end) = true
are_operands_in_range (command.Numbers end) = true
are_operands_in_range (command.Encode e) = leb e.length 64
are_operands_in_range (command.Decode size) = leb size 64
are_operands_in_range (command.Spoil s) = leb s.which 24

-- so does "an end above 1"
abbrev pub is_in_range : Drill → Bool
is_in_range d = are_operands_in_range d && leb (end_of d) 1

-- and "a short operand": a command with its size, or none where the run ends
abbrev pub sized_in : List ℕ → Option Drill → Option Parsed
sized_in s None = None
sized_in s (Some d) = cond (leb (size_of d) (length s) && is_in_range d) (Some (record { drill = d; size = size_of d })) None

-- "The calls of 18": 0 open, 1 write, 2 drive, 3 take, 4 deliver, 5 read, 6 close, 7 look; "a `call` above 7 ends the run"
abbrev pub call_of : ℕ → Option DrillCall
call_of n =
    cond (eqb n 0) (Some call.Open)
    (cond (eqb n 1) (Some call.Write)
    (cond (eqb n 2) (Some call.Drive)
    (cond (eqb n 3) (Some call.Take)
    (cond (eqb n 4) (Some call.Deliver)
    (cond (eqb n 5) (Some call.Read)
    (cond (eqb n 6) (Some call.Close)
    (cond (eqb n 7) (Some call.Look)
    None)))))))

-- the call with any number: a number that no call has is a look
abbrev or_look : Option DrillCall → DrillCall
or_look None = call.Look
or_look (Some c) = c

unfoldable pub numbered : ℕ → DrillCall
numbered n = or_look (call_of n)

-- "type, offset, stream id (4), window (4), seq (4), ack (4)", after command byte and length
abbrev pub header_in : List ℕ → Header
header_in s =
    record {
      typ = get_or s 2 0;
      data_offset = get_or s 3 0;
      stream_id = u32_at s 4;
      recv_win = u32_at s 8;
      seq = u32_at s 12;
      ack = u32_at s 16;
    }

-- "18 | end, which (0 to 24), call (0 to 7), clock (8)"
abbrev pub spoil_with : Option DrillCall → List ℕ → Option Drill
spoil_with None s = None
spoil_with (Some c) s = Some (command.Spoil (record { end = get_or s 1 0; which = get_or s 2 0; call = c; clock = nanos (u64_at s 4) }))

abbrev pub spoil_in : List ℕ → Option Drill
spoil_in s = spoil_with (call_of (get_or s 3 0)) s

-- the operands of each command byte, hexadecimal there, at their places; a missing byte is 0
unfoldable pub command_of : List ℕ → Option Drill
command_of s =
    cond (eqb (get_or s 0 0) 16) (Some (command.Raw (record { end = get_or s 1 0; clock = nanos (u64_at s 2); length = u16_at s 10 })))
    (cond (eqb (get_or s 0 0) 17) (Some (command.Base (record { end = get_or s 1 0; seq = u32_at s 2; ack = u32_at s 6; window = u32_at s 10 })))
    (cond (eqb (get_or s 0 0) 18)
    (Some (command.Open (record { end = get_or s 1 0; local = u32_at s 2; remote = u32_at s 6; ceiling = get_or s 10 0; clock = nanos (u64_at s 11) })))
    (cond (eqb (get_or s 0 0) 19) (Some (command.Room (record { end = get_or s 1 0; length = u16_at s 2 })))
    (cond (eqb (get_or s 0 0) 20) (Some (command.Look (get_or s 1 0)))
    (cond (eqb (get_or s 0 0) 21) (Some (command.Numbers (get_or s 1 0)))
    (cond (eqb (get_or s 0 0) 22) (Some (command.Encode (record { length = get_or s 1 0; header = header_in s })))
    (cond (eqb (get_or s 0 0) 23) (Some (command.Decode (get_or s 1 0)))
    (cond (eqb (get_or s 0 0) 24) (spoil_in s)
    None))))))))

-- the drill's command at the front of the rest of a script
abbrev pub parsed_of : List ℕ → Option Parsed
parsed_of s = sized_in s (command_of s)
