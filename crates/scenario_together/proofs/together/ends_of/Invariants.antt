use Rattle.std.proofs.Common.{◌≡◌, take}
use Rattle.scenario_together.specs.Ends.{ends_of}
use Rattle.scenario_together.proofs.together.ends_of.Given as goal

-- those of so many are there
abbrev pub invariant-loop-path : goal.invariant-loop-path
invariant-loop-path l =
    l.plays.items ≡ ends_of l.home.named l.home.playing (take l.path-index l.paths)
