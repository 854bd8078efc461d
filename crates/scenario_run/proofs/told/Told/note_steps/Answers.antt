use Rattle.std.proofs.Common.{arith, refl}
use Rattle.scenario_run.proofs.Telling.{steps_told}
use Rattle.scenario_run.proofs.told.Told.note_steps.Goals as goal

pub returns-then-count-gt0-clause-adds : goal.returns-then-count-gt0-clause-adds
returns-then-count-gt0-clause-adds c =
    steps_told c.args.self.now _ c.args.count (omega (arith, c.if-count-gt0.true)) refl refl refl
