use Rattle.std.proofs.Common.{◌≡◌, ◌++◌, drop}
use Rattle.std.specs.Prelude.{string_bytes}
use Rattle.asm_line.specs.Listing.{driver_lines, listed, text_of}
use Rattle.asm_line.proofs.listed_lines.write_drivers.Given as goal

-- what is written and what is left make the whole
abbrev pub invariant-loop-number : goal.invariant-loop-number
invariant-loop-number l =
    string_bytes l.text ++ text_of (listed driver_lines l.number (drop l.number l.drivers))
    ≡ string_bytes l.fn.text ++ text_of (listed driver_lines 0 l.drivers)
