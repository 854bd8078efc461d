use Rattle.std.proofs.Common.{refl, ◌∙◌}
use Rattle.std.specs.Prelude.{slice_get}
use Rattle.machine.proofs.Worlds.{steps_in_place}
use Rattle.machine.proofs.slots.Slots.step.Goals as goal

pub returns : goal.returns
returns c =
    c.step_on.ensures
    ∙ steps_in_place c.args.set.now c.args.self.now c.args.thread
    (slice_get c.args.self.now.threads c.args.thread) refl
