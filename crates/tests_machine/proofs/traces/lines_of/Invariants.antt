use Rattle.std.proofs.Common.{◌≡◌}
use Rattle.tests_machine.proofs.traces.lines_of.Given as goal

-- each line so far has a number of its own
abbrev pub invariant-loop-reply : goal.invariant-loop-reply
invariant-loop-reply l = l.number ≡ l.reply-index
