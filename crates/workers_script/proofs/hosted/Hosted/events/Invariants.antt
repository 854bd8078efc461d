use Rattle.std.proofs.Common.{◌≡◌, take}
use Rattle.model.specs.History.{events_of}
use Rattle.workers_script.proofs.hosted.Hosted.events.Given as goal

abbrev pub invariant-loop-entry : goal.invariant-loop-entry
invariant-loop-entry l = l.events.items ≡ events_of (take l.entry-index l.history)
