use Rattle.scenario_together.proofs.Ending.{at_none, at_some, end_none, end_some}
use Rattle.scenario_together.proofs.together.add_end.Goals as goal

pub returns-in_ok-push-in-Some : goal.returns-in_ok-push-in-Some
returns-in_ok-push-in-Some c =
    let home = c.args.home.now in
    let at = at_some home.named home.merges home.playing c.args.path.now c.in_ok-there.there c.in-Some.place
    c.in_ok-there.ensures c.in-Some.is in
    end_some home.named home.playing c.args.path.now c.args.plays.now.items c.push.new.self.items
    c.in-Some.place.playing at.0 at.1.there c.in_ok-push-in-Some.ensures.items

pub returns-in-None : goal.returns-in-None
returns-in-None c =
    let home = c.args.home.now in
    end_none home.named home.playing c.args.path.now c.args.plays.now.items
    (at_none home.named home.merges home.playing c.args.path.now c.in_ok-there.there c.in_ok-there.ensures c.in-None.is)
