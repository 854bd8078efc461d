use Rattle.laws_runs.proofs.OneDevice.{accepted_rings}
use Rattle.laws_runs.proofs.accepted_rings_are_at_one_device.Goals as goal

pub returns : goal.returns
returns c = accepted_rings
