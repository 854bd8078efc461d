use Rattle.hunt_exact.proofs.Coming.{came_back, came_on}
use Rattle.laws_runs.proofs.History.Waits.{waits_same}
use Rattle.hunt_exact.proofs.visiting.attempt.Goals as goal

pub returns-then-idle : goal.returns-then-idle
returns-then-idle c =
    came_back _ _ _ _ _ _ _ c.apply-reply.ensures c.stopped-halted.ensures c.if-halted.false
    c.in_ok-amiss.ensures c.if-amiss.false waits_same c.says_unchanged-idle.ensures c.if-idle.true

pub returns : goal.returns
returns c =
    came_on _ _ _ _ _ _ c.apply-reply.ensures c.stopped-halted.ensures c.if-halted.false
    c.in_ok-amiss.ensures c.if-amiss.false
