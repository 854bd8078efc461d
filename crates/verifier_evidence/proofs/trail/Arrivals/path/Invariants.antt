use Rattle.verifier_evidence.proofs.Walked.{IsWalked, left}
use Rattle.verifier_evidence.proofs.trail.Arrivals.path.Given as goal

abbrev pub invariant-loop-from : goal.invariant-loop-from
invariant-loop-from l = IsWalked l.self.subject l.self.table.items l.last l.steps.items l.from

abbrev pub decreases-loop-from : goal.decreases-loop-from
decreases-loop-from l = left l.from
