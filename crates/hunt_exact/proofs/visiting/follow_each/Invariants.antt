use Rattle.std.proofs.Common.{ℕ}
use Rattle.hunt_exact.specs.Searched.{IsAt, IsFollowing}
use Rattle.hunt_exact.proofs.visiting.follow_each.Given as goal

abbrev pub invariant-loop-event : goal.invariant-loop-event
invariant-loop-event l =
    (front : ℕ) → IsFollowing l.scope l.initial.seen front l.path 0
    → IsAt l.scope l.path l.initial.machine
    → IsFollowing l.scope l.seen front l.path l.event-index × IsAt l.scope l.path l.machine
