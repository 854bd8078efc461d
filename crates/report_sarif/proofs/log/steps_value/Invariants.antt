use Rattle.std.proofs.Common.{◌≡◌, false, map, take}
use Rattle.serde_json.specs.View.{view}
use Rattle.report_sarif.specs.Log.{step_data}
use Rattle.report_sarif.proofs.log.steps_value.Given as goal

abbrev pub invariant-loop-step : goal.invariant-loop-step
invariant-loop-step l =
    l.list.lacks ≡ false
    → map view l.list.values.items ≡ map (step_data l.file) (take l.step-index l.steps)
