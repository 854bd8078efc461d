use Rattle.std.proofs.Common.{◌≡◌, ◌+◌, ◌*◌, ◌≤◌, drop}
use Rattle.answer_explain.specs.Regions.{units}
use Rattle.answer_explain.proofs.region.units.Given as goal

abbrev pub invariant-loop-byte : goal.invariant-loop-byte
invariant-loop-byte l =
    (l.all + units (drop l.byte-index l.raw) ≡ units l.raw) × (l.all ≤ 2 * l.byte-index)
