use Rattle.std.proofs.Common.{◌≡◌, map, take}
use Rattle.text.specs.Places.{numbers}
use Rattle.answer_explain.specs.Shown.{place_by, step_place, step_position}
use Rattle.answer_explain.proofs.shown.steps_along.Given as goal

abbrev pub invariant-loop-step : goal.invariant-loop-step
invariant-loop-step l =
    map step_place l.steps.items
    ≡ map (place_by l.bytes (numbers l.lines))
    (map step_position (take l.step-index l.path.before))
