use Rattle.std.proofs.Common.{◌≡◌, ◌++◌, drop}
use Rattle.json.specs.Tree.{items_tokens}
use Rattle.answer_explain.specs.Explanation.{steps_json}
use Rattle.answer_explain.proofs.objects.write_steps.Given as goal

abbrev pub invariant-loop-step : goal.invariant-loop-step
invariant-loop-step l =
    (l.out.before ≡ l.fn.out.before)
    × (l.out.tokens ++ items_tokens (steps_json (drop l.step-index l.steps))
    ≡ l.fn.out.tokens ++ items_tokens (steps_json l.steps))
