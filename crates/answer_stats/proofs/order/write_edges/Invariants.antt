use Rattle.std.proofs.Common.{◌≡◌, ◌++◌, drop}
use Rattle.json.specs.Tree.{items_tokens}
use Rattle.answer_stats.specs.Order.{edges_json}
use Rattle.answer_stats.proofs.order.write_edges.Given as goal

abbrev pub invariant-loop-edge : goal.invariant-loop-edge
invariant-loop-edge l =
    (l.out.before ≡ l.fn.out.before)
    × (l.out.tokens ++ items_tokens (edges_json (drop l.edge-index l.edges))
    ≡ l.fn.out.tokens ++ items_tokens (edges_json l.edges))
