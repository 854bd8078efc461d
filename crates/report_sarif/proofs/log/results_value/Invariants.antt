use Rattle.std.proofs.Common.{◌≡◌, false, map, take}
use Rattle.serde_json.specs.View.{view}
use Rattle.report_sarif.specs.Log.{result_data}
use Rattle.report_sarif.proofs.log.results_value.Given as goal

abbrev pub invariant-loop-finding : goal.invariant-loop-finding
invariant-loop-finding l =
    l.list.lacks ≡ false
    → map view l.list.values.items ≡ map (result_data l.rules) (take l.finding-index l.findings)
