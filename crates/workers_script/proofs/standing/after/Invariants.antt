use Rattle.std.proofs.Common.{◌≡◌, take}
use Rattle.model.specs.History.{events_of}
use Rattle.model.specs.Machine.{ShowsWhole}
use Rattle.workers_script.proofs.standing.after.Given as goal

abbrev pub invariant-loop-entry : goal.invariant-loop-entry
invariant-loop-entry l =
    record {
      set : l.machine.set ≡ l.fn.set;
      shows : ShowsWhole l.machine l.threads (events_of (take l.entry-index l.history));
    }
