use Rattle.std.proofs.Common.{take}
use Rattle.tell_audit.specs.Ends.{Rehearses}
use Rattle.tell_audit.proofs.rehearsal.Rehearsal.replay.Given as goal

abbrev pub invariant-loop-event : goal.invariant-loop-event
invariant-loop-event l = Rehearses l.set l.threads (take l.event-index l.events) l.run
