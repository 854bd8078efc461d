use Rattle.scenario_together.proofs.Standing.{both_so, first_not, may_by}
use Rattle.scenario_together.proofs.interleaving.InterleavingWalker.may.Goals as goal

pub returns-then-is_named : goal.returns-then-is_named
returns-then-is_named c =
    λ home path stands.
    let its = c.args.self.now in
    may_by home.named its.named home.merges its.merges home.playing its.playing path c.args.number
    c.goes_on.result
    (both_so c.is_named.result _ c.goes_on.result _ c.is_named.ensures c.goes_on.ensures
    c.if-is_named.true) stands

pub returns-else-is_named : goal.returns-else-is_named
returns-else-is_named c =
    λ home path stands.
    let its = c.args.self.now in
    may_by home.named its.named home.merges its.merges home.playing its.playing path c.args.number
    c.is_named.result (first_not c.is_named.result _ _ c.is_named.ensures c.if-is_named.false) stands
