use Rattle.std.proofs.Common.{◌≡◌, ap}
use Rattle.model.specs.declared.world.Packet.{Packet}
use Rattle.iomgr.proofs.Numbered.{numbered_more, vacant_free}
use Rattle.iomgr.proofs.packet_table.PacketTable.issue.Goals as goal

pub push_back-requires-clause-free : goal.push_back-requires-clause-free
push_back-requires-clause-free c =
    vacant_free c.self.inside.live c.self.inside.buckets _ c.self.invariant c.push-slot.result
    c.push-slot.ensures.filled.was_vacant

pub invariant_of-self : goal.invariant_of-self
invariant_of-self c =
    let number = c.self.inside.issued_count in
    let packet = c.new.result in
    let named : packet.number ≡ number = ap (λ (p : Packet). p.number) c.new.ensures in
    let more =
    numbered_more c.self.inside.live c.self.inside.buckets number c.self.invariant
    c.push-slot.new.self c.push-slot.result packet named c.push-slot.ensures.filled in
    rw (c.push_back.ensures, c.bucket_of.ensures.bucket) (rw named at more)
