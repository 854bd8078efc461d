use Rattle.std.proofs.Common.{◌≡◌, length, rules}
use Rattle.machine_parts.proofs.Showing.{device_seen}
use Rattle.machine_parts.proofs.device_lists.DeviceLists.has_device.Goals as goal

pub returns : goal.returns
returns c =
    let cs = c.self.inside.serving.items in
    let ls = c.self.inside.links.lists in
    let len : c.len.result ≡ length cs = search rules in
    rw (← c.self.view_is, len) (device_seen cs ls c.self.invariant.1 c.args.device)
