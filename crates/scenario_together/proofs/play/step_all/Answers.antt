use Rattle.scenario_together.specs.Plays.{worlds_of}
use Rattle.scenario_together.proofs.Joining.{crew_is, each_merges, joined_so}
use Rattle.scenario_together.proofs.play.step_all.Goals as goal

pub returns-in_ok-joined-in-Some : goal.returns-in_ok-joined-in-Some
returns-in_ok-joined-in-Some c =
    let step = c.args.step.now in
    let crew = c.in-Some.crew in
    c.leave.ensures c.args.merges crew.threads
    (crew_is step.action c.crew_of.result crew c.crew_of.ensures.threads c.in-Some.is)
    (joined_so c.args.merges crew.threads crew.worlds (worlds_of step.action) step
    c.args.plays.now.items c.in_ok-joined-in-Some.joined c.in-Some.ensures.worlds
    (rw c.as_slice.ensures.value at (c.in_ok-joined-in-Some.ensures step)))

pub returns-in-None : goal.returns-in-None
returns-in-None c =
    each_merges c.args.merges c.args.step.now c.args.plays.now.items c.act_alone.new.plays.items
    c.act_alone.result c.act_alone.ensures
