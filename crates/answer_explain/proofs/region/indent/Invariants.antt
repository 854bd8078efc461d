use Rattle.std.proofs.Common.{◌≡◌, ◌+◌, ◌-◌, ◌≤◌, drop, length}
use Rattle.answer_explain.specs.Regions.{indent}
use Rattle.answer_explain.proofs.region.indent.Given as goal

abbrev pub invariant-loop-count : goal.invariant-loop-count
invariant-loop-count l =
    (l.count + indent (drop l.count l.raw) ≡ indent l.raw) × (l.count ≤ length l.raw)

abbrev pub decreases-loop-count : goal.decreases-loop-count
decreases-loop-count l = length l.raw - l.count
