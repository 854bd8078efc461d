use Rattle.std.proofs.Common.{◌≡◌, ◌++◌, drop}
use Rattle.std.specs.Prelude.{string_bytes}
use Rattle.asm_line.specs.Listing.{routine_lines, listed, text_of}
use Rattle.asm_line.proofs.listed_driver.write_routines.Given as goal

-- what is written and what is left make the whole
abbrev pub invariant-loop-number : goal.invariant-loop-number
invariant-loop-number l =
    string_bytes l.text ++ text_of (listed routine_lines l.number (drop l.number l.routines))
    ≡ string_bytes l.fn.text ++ text_of (listed routine_lines 0 l.routines)
