use Rattle.std.proofs.Common.{◌≡◌, ◌++◌, drop}
use Rattle.answer_explain.specs.Quoting.{all_between}
use Rattle.answer_explain.proofs.quoting.add_between.Given as goal

-- what is added, and what the bytes that are left add, is the whole
abbrev pub invariant-loop-byte : goal.invariant-loop-byte
invariant-loop-byte l =
    l.line.items ++ all_between (drop l.byte-index l.bytes)
    ≡ l.fn.line.items ++ all_between l.bytes
