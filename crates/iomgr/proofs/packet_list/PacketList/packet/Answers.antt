use Rattle.std.proofs.Common.{◌∙◌}
use Rattle.devqueue.specs.Lists.{entries_of}
use Rattle.iomgr.proofs.Slots.{key_held, key_there, packet_at}
use Rattle.iomgr.specs.Numbers.{number_place}
use Rattle.iomgr.proofs.packet_list.PacketList.packet.Goals as goal

pub index-requires : goal.index-requires
index-requires c =
    let keys = entries_of c.self.inside.keys 0 in
    let key = c.args.key in
    let there = key_there keys key (rw (← c.self.view_is) at c.requires) in
    key_held c.self.inside.slots key keys (number_place keys key) c.self.invariant.held there

pub returns-clause-listed : goal.returns-clause-listed
returns-clause-listed c =
    let keys = entries_of c.self.inside.keys 0 in
    let key = c.args.key in
    let there = key_there keys key (rw (← c.self.view_is) at c.requires) in
    rw (← c.self.view_is)
    (packet_at c.self.inside.slots key keys (number_place keys key) c.self.invariant.held there
    ∙ c.index.ensures)
