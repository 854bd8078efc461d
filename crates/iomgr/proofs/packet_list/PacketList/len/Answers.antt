use Rattle.std.proofs.Common.{arith}
use Rattle.devqueue.specs.Lists.{entries_of}
use Rattle.iomgr.proofs.Slots.{length_in}
use Rattle.iomgr.proofs.packet_list.PacketList.len.Goals as goal

pub returns : goal.returns
returns c =
    let slots = c.self.inside.slots in
    let keys = entries_of c.self.inside.keys 0 in
    rw (← c.self.view_is) (omega (arith, length_in slots keys c.self.invariant.held))
