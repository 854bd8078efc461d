use Rattle.std.proofs.Common.{◌≡◌, ◌++◌, length}
use Rattle.interleave_texts.proofs.reading.events_of.Given as goal

abbrev pub invariant-loop-run : goal.invariant-loop-run
invariant-loop-run l = l.events ≡ l.all.items ++ l.upcoming

abbrev pub decreases-loop-run : goal.decreases-loop-run
decreases-loop-run l = length l.upcoming
