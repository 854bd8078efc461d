use Rattle.std.proofs.Common.{◌≡◌, ◌++◌, drop}
use Rattle.std.specs.Prelude.{string_bytes}
use Rattle.asm_line.specs.Listing.{queue_lines, listed, text_of}
use Rattle.asm_line.proofs.listed_driver.write_queues.Given as goal

-- what is written and what is left make the whole
abbrev pub invariant-loop-number : goal.invariant-loop-number
invariant-loop-number l =
    string_bytes l.text ++ text_of (listed queue_lines l.number (drop l.number l.queues))
    ≡ string_bytes l.fn.text ++ text_of (listed queue_lines 0 l.queues)
