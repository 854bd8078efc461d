use Rattle.std.proofs.Common.{◌≡◌, ap, ◌∙◌}
use Rattle.model.specs.declared.world.Packet.{Packet}
use Rattle.iomgr.proofs.Numbered.{its_linked, numbered_without}
use Rattle.iomgr.specs.Buckets.{bucket_of}
use Rattle.iomgr.proofs.packet_table.PacketTable.remove.Goals as goal

pub invariant_of-self : goal.invariant_of-self
invariant_of-self c =
    let live = c.self.inside.live in
    let buckets = c.self.inside.buckets in
    let key = c.slot-slot.result in
    let p : Packet = c.packet.result.now in
    let lies = c.packet.ensures.lies in
    let named : c.bucket_of-bucket.result ≡ bucket_of p.number =
    c.bucket_of-bucket.ensures.bucket ∙ ap bucket_of c.number.ensures in
    let rest = rw named at c.unlink-listed.ensures.rest in
    let found =
    rw named at c.unlink-listed.ensures.found
    ∙ its_linked live buckets _ c.self.invariant key p lies in
    let free = rw rest at (c.unlink-listed.ensures.free found) in
    rw (c.remove.ensures, rest)
    (numbered_without live buckets _ c.self.invariant key p lies free)
