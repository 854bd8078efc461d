use Rattle.std.proofs.Common.{◌≡◌, ◌++◌, drop, true}
use Rattle.drvhost_many.specs.Marked.{lines_named}
use Rattle.drvhost_many.proofs.named.name_lines.Given as goal

abbrev pub invariant-loop-byte : goal.invariant-loop-byte
invariant-loop-byte l =
    l.bytes.items ++ lines_named l.name l.starts (drop l.byte-index l.text)
    ≡ lines_named l.name true l.text
