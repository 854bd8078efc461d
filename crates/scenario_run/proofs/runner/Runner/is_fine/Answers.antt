use Rattle.std.proofs.Common.{◌∙◌, ap}
use Rattle.std.specs.Prelude.{not}
use Rattle.scenario_run.proofs.Running.{finds_fine}
use Rattle.scenario_run.proofs.runner.Runner.is_fine.Goals as goal

pub returns-in_ok-found-in-Ledger : goal.returns-in_ok-found-in-Ledger
returns-in_ok-found-in-Ledger c threads events h =
    ap not c.any.ensures
    ∙ finds_fine c.args.self.now c.in_ok-found-in-Ledger.found c.in-Ledger.is
    c.in_ok-found-in-Ledger.ensures threads events h
