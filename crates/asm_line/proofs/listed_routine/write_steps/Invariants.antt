use Rattle.std.proofs.Common.{◌≡◌, ◌++◌, drop}
use Rattle.std.specs.Prelude.{string_bytes}
use Rattle.asm_line.specs.Listing.{step_lines, listed, text_of}
use Rattle.asm_line.proofs.listed_routine.write_steps.Given as goal

-- what is written and what is left make the whole
abbrev pub invariant-loop-position : goal.invariant-loop-position
invariant-loop-position l =
    string_bytes l.text ++ text_of (listed (step_lines l.code) l.position (drop l.position l.code))
    ≡ string_bytes l.fn.text ++ text_of (listed (step_lines l.code) 0 l.code)
