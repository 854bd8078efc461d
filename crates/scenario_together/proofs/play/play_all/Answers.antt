use Rattle.scenario_together.proofs.Playing.{may_merge}
use Rattle.scenario_together.proofs.play.play_all.Goals as goal

pub play_on-requires : goal.play_on-requires
play_on-requires c =
    may_merge c.in_ok-merges.merges c.has-audits.result c.args.steps.now
    c.in_ok-home.home c.has-audits.ensures c.in_ok-merges.ensures

pub returns : goal.returns
returns c = rw c.in_ok-home.ensures at c.play_on.ensures
