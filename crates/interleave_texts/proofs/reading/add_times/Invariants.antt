use Rattle.std.proofs.Common.{◌≡◌, ◌++◌, replicate}
use Rattle.interleave_texts.proofs.reading.add_times.Given as goal

abbrev pub invariant-loop : goal.invariant-loop
invariant-loop l = l.all.items ≡ l.initial.all.items ++ replicate l.counter l.event
