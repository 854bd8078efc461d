use Rattle.std.proofs.Common.{◌≡◌, ◌++◌, drop}
use Rattle.json.specs.Tree.{items_tokens}
use Rattle.answer_explain.specs.Explanation.{edits_json}
use Rattle.answer_explain.proofs.objects.write_edits.Given as goal

abbrev pub invariant-loop-edit : goal.invariant-loop-edit
invariant-loop-edit l =
    (l.out.before ≡ l.fn.out.before)
    × (l.out.tokens ++ items_tokens (edits_json (drop l.edit-index l.edits))
    ≡ l.fn.out.tokens ++ items_tokens (edits_json l.edits))
