use Rattle.std.proofs.Common.{◌≡◌, ◌++◌, drop}
use Rattle.json.specs.Tree.{items_tokens}
use Rattle.tell_json.specs.Audit.{left_json}
use Rattle.tell_json.proofs.audit.write_left.Given as goal

abbrev pub invariant-loop-lock : goal.invariant-loop-lock
invariant-loop-lock l =
    (l.out.before ≡ l.fn.out.before)
    × (l.out.tokens ++ items_tokens (left_json (drop l.lock-index l.left))
    ≡ l.fn.out.tokens ++ items_tokens (left_json l.left))
