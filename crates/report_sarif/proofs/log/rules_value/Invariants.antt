use Rattle.std.proofs.Common.{◌≡◌, false, map, take}
use Rattle.serde_json.specs.View.{view}
use Rattle.report_sarif.specs.Log.{rule_data}
use Rattle.report_sarif.proofs.log.rules_value.Given as goal

abbrev pub invariant-loop-words : goal.invariant-loop-words
invariant-loop-words l =
    l.list.lacks ≡ false
    → map view l.list.values.items ≡ map rule_data (take l.words-index l.rules)
