use Rattle.std.proofs.Common.{◌≡◌, length}
use Rattle.scenario_text.specs.Together.{threads_line}
use Rattle.scenario_text.proofs.together.threads_line.Given as goal

-- what is left is read as all was
abbrev pub invariant-loop-word : goal.invariant-loop-word
invariant-loop-word l =
    threads_line l.threads l.operands ≡ threads_line l.fn.threads l.fn.operands

abbrev pub decreases-loop-word : goal.decreases-loop-word
decreases-loop-word l = length l.operands
