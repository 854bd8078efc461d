use Rattle.std.proofs.Common.{◌≡◌, ◌++◌, drop}
use Rattle.json.specs.Tree.{items_tokens}
use Rattle.tell_json.specs.Audit.{uses_json}
use Rattle.tell_json.proofs.audit.write_uses.Given as goal

abbrev pub invariant-loop-location_use : goal.invariant-loop-location_use
invariant-loop-location_use l =
    (l.out.before ≡ l.fn.out.before)
    × (l.out.tokens ++ items_tokens (uses_json (drop l.location_use-index l.uses))
    ≡ l.fn.out.tokens ++ items_tokens (uses_json l.uses))
