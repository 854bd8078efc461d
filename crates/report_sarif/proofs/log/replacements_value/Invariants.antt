use Rattle.std.proofs.Common.{◌≡◌, false, map, take}
use Rattle.serde_json.specs.View.{view}
use Rattle.report_sarif.specs.Log.{replacement_data}
use Rattle.report_sarif.proofs.log.replacements_value.Given as goal

abbrev pub invariant-loop-edit : goal.invariant-loop-edit
invariant-loop-edit l =
    l.list.lacks ≡ false
    → map view l.list.values.items ≡ map (replacement_data l.end) (take l.edit-index l.edits)
