use Rattle.driver_set.proofs.StackSizes.{stack_at_most}
use Rattle.driver_set.proofs.devices.device_of.Goals as goal

pub returns-clause-stack : goal.returns-clause-stack
returns-clause-stack c = stack_at_most c.args.set.now c.devices.ensures.sound c.args.number
