use Rattle.std.proofs.Common.{◌≡◌, ◌++◌, take}
use Rattle.hunt_schedule.specs.Headline.{each_between}
use Rattle.hunt_schedule.proofs.headline.add_each.Given as goal

abbrev pub invariant-loop-number : goal.invariant-loop-number
invariant-loop-number l =
    l.line.items
    ≡ l.initial.line.items ++ each_between l.before (take l.number-index l.numbers) l.after
