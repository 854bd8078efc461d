use Rattle.std.proofs.Common.{◌≡◌}
use Rattle.model.specs.declared.world.Packet.{Packet}
use Rattle.iomgr.specs.Slots.{SlotTable, packet_at}
use Rattle.laws_slots.specs.Slots.{SlotShared}
use Rattle.machine_parts.proofs.Walks.{told_of, walks_on}
use Rattle.machine_parts.proofs.shared.Shared.walk.Goals as goal
use Rattle.machine_parts.proofs.shared.Shared.walk.Goals.{in-Runs, in-Ascends, in-TopsOut}

pub returns : goal.returns
returns c =
    let table : SlotTable = c.self.inside.packet_table in
    let s : SlotShared = record {
      slots = table.live.lying;
      order = table.live.order;
      issued = table.issued;
      locks = c.self.inside.lock_table;
      cells = c.self.inside.cell_list.items;
      queues = c.self.inside.lists.queues;
      starts = c.self.inside.lists.starts;
      dpcs = c.self.inside.dpc_list.items;
    } in
    let p : Packet = packet_at table.live c.used-key.result in
    let told : c.match-walk_on.result ≡ told_of p.number c.walk_on.result =
    elim c.match-walk_on.branch [
      | in-Runs w ↦ rw (w.in-Runs.is) (w.result-is)
      | in-Ascends w ↦ rw (w.in-Ascends.is) (w.result-is)
      | in-TopsOut w ↦ rw (w.in-TopsOut.is, ← c.packet.ensures.packet, ← c.number-number.ensures) (w.result-is)
    ] in
    let on = walks_on s table c.used-key.result c.used-key.ensures.holds p in
    let same = rw (← c.walk_on.ensures) at on in
    rw (← c.self.view_is, told, ← c.used-key.ensures.key) same
