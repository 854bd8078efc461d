use Rattle.std.proofs.Common.{◌≡◌, ◌++◌, drop, false, string_bytes}
use Rattle.drvhost_tests.specs.Written.{written}
use Rattle.drvhost_tests.proofs.written.add_written.Given as goal

abbrev pub invariant-loop-byte : goal.invariant-loop-byte
invariant-loop-byte l =
    l.words.lacks ≡ false
    → (l.initial.words.lacks ≡ false)
    × (string_bytes l.words.text ++ written l.place (drop l.byte-index l.bytes)
    ≡ string_bytes l.initial.words.text ++ written l.place l.bytes)
