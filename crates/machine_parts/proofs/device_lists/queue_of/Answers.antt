use Rattle.std.proofs.Common.{sym}
use Rattle.machine_parts.proofs.Lists.{list_number}
use Rattle.machine_parts.proofs.device_lists.queue_of.Goals as goal

pub returns : goal.returns
returns c = sym (list_number c.args.device c.args.queue)
