use Rattle.scenario_together.proofs.Standing.{fails_by, stands_by}
use Rattle.scenario_together.proofs.interleaving.InterleavingWalker.go.Goals as goal

pub returns : goal.returns
returns c =
    let its = c.args.self.now in
    record {
      fails = λ home path stands may.
          fails_by home.playing its.playing c.one.new.self path c.args.number
          c.in_ok-outcome.outcome c.passes-well.result stands.there c.in_ok-outcome.ensures
          c.passes-well.ensures;
      stands = λ home path stands may on.
          stands_by home.named its.named home.merges its.merges home.playing its.playing
          c.one.new.self path c.args.number c.in_ok-outcome.outcome c.passes-well.result stands
          c.in_ok-outcome.ensures c.passes-well.ensures on;
    }
