use Rattle.std.proofs.Common.{◌≡◌, replicate}
use Rattle.workers.proofs.served.no_counts.Given as goal

abbrev pub invariant-loop-taker : goal.invariant-loop-taker
invariant-loop-taker l = l.counts.items ≡ replicate l._taker 0
