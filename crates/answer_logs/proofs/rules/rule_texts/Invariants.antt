use Rattle.std.proofs.Common.{◌≡◌, map, take}
use Rattle.answer_logs.specs.Log.{entry_of, rule_entry}
use Rattle.answer_logs.proofs.rules.rule_texts.Given as goal

abbrev pub invariant-loop-rule : goal.invariant-loop-rule
invariant-loop-rule l = map entry_of l.texts.items ≡ map rule_entry (take l.rule-index l.rules)
