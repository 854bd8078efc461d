use Rattle.std.proofs.Common.{◌≡◌, map, take}
use Rattle.answer_logs.specs.Log.{entry_of, fault_entry}
use Rattle.answer_logs.proofs.rules.kind_texts.Given as goal

abbrev pub invariant-loop-kind : goal.invariant-loop-kind
invariant-loop-kind l =
    map entry_of l.texts.items ≡ map (λ kind. fault_entry kind.now) (take l.kind-index l.kinds)
