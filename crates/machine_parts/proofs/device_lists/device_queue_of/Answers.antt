use Rattle.std.proofs.Common.{arith}
use Rattle.machine_parts.proofs.Lists.{list_number}
use Rattle.machine_parts.proofs.device_lists.device_queue_of.Goals as goal

pub returns : goal.returns
returns c = omega (arith, list_number c.args.device 5)
