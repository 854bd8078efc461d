use Rattle.scenario_together.proofs.interleaving.InterleavingWalker.is_one.Goals as goal
use Rattle.scenario_together.proofs.Standing.{lead_by}

pub returns-then-self : goal.returns-then-self
returns-then-self c =
    λ alike home path others stands also.
    let its = c.args.self.now in
    let other = c.args.other.now in
    lead_by home.named other.named home.merges its.merges other.merges home.playing its.playing
    other.playing path others its.named stands also c.if-self.true (c.is_alike.ensures alike)
