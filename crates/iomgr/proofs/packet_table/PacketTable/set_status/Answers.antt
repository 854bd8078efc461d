use Rattle.std.proofs.Common.{ap}
use Rattle.model.specs.declared.world.Packet.{Packet}
use Rattle.iomgr.proofs.Numbered.{numbered_with}
use Rattle.iomgr.proofs.packet_table.PacketTable.set_status.Goals as goal

pub invariant_of-self : goal.invariant_of-self
invariant_of-self c =
    numbered_with c.self.inside.live c.self.inside.buckets _ c.self.invariant _
    c.packet_mut.result.now c.packet_mut.ensures.lies _ c.packet_mut.ensures.listed
    (ap (λ (p : Packet). p.number) c.set_status.ensures)
