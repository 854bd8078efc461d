use Rattle.scenario_run.proofs.runner.Runner.keep_ledger.Goals as goal

pub returns-clause-begun : goal.returns-clause-begun
returns-clause-begun c is =
    record { shows = is.shows; tells = c.in_ok-self.ensures c.args.self.now.machine.set }
