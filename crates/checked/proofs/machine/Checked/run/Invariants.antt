use Rattle.std.proofs.Common.{◌≡◌, take}
use Rattle.model.specs.Machine.{ShowsWhole}
use Rattle.checked.proofs.machine.Checked.run.Given as goal

abbrev pub invariant-loop-event : goal.invariant-loop-event
invariant-loop-event l =
    record {
      set : l.machine.set ≡ l.fn.set;
      shows : ShowsWhole l.machine l.threads (take l.event-index l.events);
    }
