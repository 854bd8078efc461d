use Rattle.scenario_text.proofs.Usual.{run_read}
use Rattle.scenario_text.proofs.quick.run.Goals as goal

pub returns : goal.returns
returns c = run_read c.args.names.now c.in_ok-found.ensures c.in_ok-at_end.ensures
