use Rattle.std.proofs.Common.{refl}
use Rattle.scenario_names.proofs.operands.spot_parted.Goals as goal

pub returns-in-Some : goal.returns-in-Some
returns-in-Some c =
    rw (c.in-Some.is, c.known.ensures, c.labelled.ensures, c.routine_in.ensures, c.label_in.ensures) refl
