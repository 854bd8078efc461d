use Rattle.std.proofs.Common.{◌∙◌}
use Rattle.scenario_together.proofs.Standing.{stands_behind}
use Rattle.scenario_together.proofs.interleaving.InterleavingWalker.behind.Goals as goal

pub returns : goal.returns
returns c =
    let home = c.args.self.now in
    stands_behind home.named home.merges home.playing c.in_ok-playing.playing c.args.moves.now
    c.in_ok-events.events.items c.add_steps.new.events.items c.as_slice.result.now
    (c.in_ok-events.ensures ∙ c.past.ensures) c.in_ok-add_steps.ensures c.as_slice.ensures.value
    c.in_ok-playing.ensures
