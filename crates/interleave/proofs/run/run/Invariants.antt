use Rattle.std.proofs.Common.{◌≡◌, take}
use Rattle.model.specs.Machine.{Shows}
use Rattle.interleave.proofs.run.run.Given as goal

abbrev pub invariant-loop-event : goal.invariant-loop-event
invariant-loop-event l =
    record {
      set : l.world.set ≡ l.fn.accepted;
      shows : Shows l.world l.threads (take l.event-index l.events);
    }
