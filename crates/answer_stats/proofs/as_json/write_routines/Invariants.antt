use Rattle.std.proofs.Common.{◌≡◌, ◌++◌, drop}
use Rattle.json.specs.Tree.{items_tokens}
use Rattle.answer_stats.specs.Json.{routines_json}
use Rattle.answer_stats.proofs.as_json.write_routines.Given as goal

abbrev pub invariant-loop-routine : goal.invariant-loop-routine
invariant-loop-routine l =
    (l.out.before ≡ l.fn.out.before)
    × (l.out.tokens ++ items_tokens (routines_json l.set (drop l.routine-index l.routines))
    ≡ l.fn.out.tokens ++ items_tokens (routines_json l.set l.routines))
