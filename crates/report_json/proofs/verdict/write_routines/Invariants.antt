use Rattle.std.proofs.Common.{◌≡◌, ◌++◌, drop}
use Rattle.json.specs.Tree.{items_tokens}
use Rattle.report_json.specs.Verdict.{routines_json}
use Rattle.report_json.proofs.verdict.write_routines.Given as goal

abbrev pub invariant-loop-routine : goal.invariant-loop-routine
invariant-loop-routine l =
    (l.out.before ≡ l.fn.out.before)
    × (l.out.tokens ++ items_tokens (routines_json (drop l.routine-index l.routines))
    ≡ l.fn.out.tokens ++ items_tokens (routines_json l.routines))
