use Rattle.std.proofs.Common.{◌≡◌, ◌++◌, drop}
use Rattle.json.specs.Tree.{items_tokens}
use Rattle.report_json.specs.Served.{numbers_json}
use Rattle.report_json.proofs.served.write_threads.Given as goal

abbrev pub invariant-loop-thread : goal.invariant-loop-thread
invariant-loop-thread l =
    (l.out.before ≡ l.fn.out.before)
    × (l.out.tokens ++ items_tokens (numbers_json (drop l.thread-index l.threads))
    ≡ l.fn.out.tokens ++ items_tokens (numbers_json l.threads))
