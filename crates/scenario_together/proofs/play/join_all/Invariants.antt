use Rattle.std.proofs.Common.{take}
use Rattle.scenario_together.specs.Joining.{JoinedOn}
use Rattle.scenario_together.proofs.play.join_all.Given as goal

-- so many are joined
abbrev pub invariant-loop-playing : goal.invariant-loop-playing
invariant-loop-playing l =
    JoinedOn l.merges l.crew.threads l.crew.worlds (take l.playing-index l.plays) l.all.items
