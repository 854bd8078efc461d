use Rattle.std.proofs.Common.{ap, ◌∙◌}
use Rattle.model.specs.declared.world.Packet.{Packet}
use Rattle.iomgr.proofs.Numbered.{numbered_with}
use Rattle.iomgr.proofs.Places.{carried_number}
use Rattle.iomgr.proofs.packet_table.PacketTable.ascend.Goals as goal

pub invariant_of-self : goal.invariant_of-self
invariant_of-self c =
    numbered_with c.self.inside.live c.self.inside.buckets _ c.self.invariant _
    c.packet_mut-packet.result.now c.packet_mut-packet.ensures.lies _ c.packet_mut-packet.ensures.listed
    (ap (λ (p : Packet). p.number) c.carry_up.ensures ∙ carried_number c.leave.new.self ∙ ap (λ (p : Packet). p.number) c.leave.ensures)
