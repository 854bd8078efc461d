use Rattle.std.proofs.Common.{◌≡◌, ◌++◌, drop, string_bytes}
use Rattle.report_sarif.specs.Message.{all_marked}
use Rattle.report_sarif.proofs.message.all_marked.Given as goal

abbrev pub invariant-loop-letter : goal.invariant-loop-letter
invariant-loop-letter l =
    string_bytes l.message ++ all_marked l.form (drop l.letter-index l.letters)
    ≡ all_marked l.form l.letters
