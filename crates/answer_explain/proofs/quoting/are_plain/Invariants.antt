use Rattle.std.specs.Prelude.{◌≡◌, take}
use Rattle.std.specs.List.{list_all}
use Rattle.answer_explain.specs.Quoting.{is_plain}
use Rattle.answer_explain.proofs.quoting.are_plain.Given as goal

-- the bytes so far may all stand bare, or not
abbrev pub invariant-loop-byte : goal.invariant-loop-byte
invariant-loop-byte l = l.plain ≡ list_all is_plain (take l.byte-index l.bytes)
