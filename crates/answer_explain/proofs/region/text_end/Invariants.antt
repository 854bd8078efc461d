use Rattle.std.proofs.Common.{◌≡◌, ◌+◌, ◌*◌, ◌≤◌, drop}
use Rattle.answer_explain.specs.Regions.{end_from, text_end}
use Rattle.answer_explain.proofs.region.text_end.Given as goal

abbrev pub invariant-loop-byte : goal.invariant-loop-byte
invariant-loop-byte l =
    (end_from l.end (drop l.byte-index l.text) ≡ text_end l.text)
    × (l.end.line ≤ 1 + l.byte-index) × (l.end.column ≤ 1 + 2 * l.byte-index)
