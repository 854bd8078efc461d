use Rattle.tell_audit.proofs.ring.+is_met.Given as goal

abbrev pub decreases-is_met : goal.decreases-is_met
decreases-is_met l = l.steps
