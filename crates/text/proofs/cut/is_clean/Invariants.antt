use Rattle.std.specs.Prelude.{◌≡◌, take}
use Rattle.std.specs.List.{list_all}
use Rattle.text.specs.Cut.{is_written}
use Rattle.text.proofs.cut.is_clean.Given as goal

-- the bytes so far may all stand in a line, or not
abbrev pub invariant-loop-byte : goal.invariant-loop-byte
invariant-loop-byte l = l.clean ≡ list_all is_written (take l.byte-index l.line)
