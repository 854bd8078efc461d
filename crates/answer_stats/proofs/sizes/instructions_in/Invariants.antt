use Rattle.std.proofs.Common.{◌≡◌, ◌+◌, ◌*◌, ◌≤◌, drop}
use Rattle.answer_stats.specs.Sizes.{instructions_in}
use Rattle.answer_stats.proofs.sizes.instructions_in.Given as goal

abbrev pub invariant-loop-routine : goal.invariant-loop-routine
invariant-loop-routine l =
    (l.count + instructions_in (drop l.routine-index l.routines) ≡ instructions_in l.routines)
    × (l.count ≤ 1024 * l.routine-index)
