use Rattle.std.proofs.Common.{arith}
use Rattle.iomgr.proofs.Used.{used_held, within}
use Rattle.iomgr.proofs.packet_table.PacketTable.used.Goals as goal

pub returns-clause-low : goal.returns-clause-low
returns-clause-low c =
    let there = within _ c.args.slot (rw (← c.self.view_is) at c.requires) in
    rw c.of.ensures (omega (arith, there, c.slots_are_in_order.ensures.few))

pub returns-clause-holds : goal.returns-clause-holds
returns-clause-holds c =
    rw (c.of.ensures, ← c.self.view_is)
    (used_held _ c.args.slot c.slots_are_in_order.ensures.ordered
    (rw (← c.self.view_is) at c.requires))
