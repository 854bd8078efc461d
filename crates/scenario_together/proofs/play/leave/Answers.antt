use Rattle.scenario_together.specs.Plays.{worlds_of}
use Rattle.scenario_together.proofs.Joining.{joined_is, left_ends, left_fails, left_more, over_by}
use Rattle.scenario_together.proofs.play.leave.Goals as goal

pub returns-in-Ends : goal.returns-in-Ends
returns-in-Ends c =
    λ merges named crew joins.
    let step = c.args.step.now in
    left_ends merges step named c.args.plays.now.items c.in-Ends.ends.items crew
    (joined_is merges named (worlds_of step.action) step c.args.plays.now.items c.args.joined _
    joins c.in-Ends.is)

pub returns-in-Fails : goal.returns-in-Fails
returns-in-Fails c =
    λ merges named crew joins.
    let step = c.args.step.now in
    over_by step c.args.plays.now.items c.ended.result c.in-Fails.now _ c.ended.ensures
    (left_fails step named c.args.plays.now.items c.in-Fails.now crew
    (joined_is merges named (worlds_of step.action) step c.args.plays.now.items c.args.joined _
    joins c.in-Fails.is))

pub returns-in-More : goal.returns-in-More
returns-in-More c =
    λ merges named crew joins.
    let step = c.args.step.now in
    over_by step c.args.plays.now.items c.ended-in-More.result c.in-More.now _
    c.ended-in-More.ensures
    (left_more step named c.args.plays.now.items c.in-More.now crew
    (joined_is merges named (worlds_of step.action) step c.args.plays.now.items c.args.joined _
    joins c.in-More.is))
