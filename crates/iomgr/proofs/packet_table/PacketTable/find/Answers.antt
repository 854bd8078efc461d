use Rattle.iomgr.proofs.Found.{found_at, found_holds, found_key, found_packet, missing_key, missing_packet}
use Rattle.iomgr.proofs.packet_table.PacketTable.find.Goals as goal

pub returns-in_err-slot-clause-key : goal.returns-in_err-slot-clause-key
returns-in_err-slot-clause-key c =
    let none = c.in_err-slot.ensures.missing in
    rw (c.from_residual.ensures, ← c.self.view_is)
    (missing_key c.self.inside.live c.self.inside.buckets _ c.self.invariant
    c.slots_are_in_order.ensures.ordered c.args.n none)

pub returns-in_err-slot-clause-packet : goal.returns-in_err-slot-clause-packet
returns-in_err-slot-clause-packet c =
    let none = c.in_err-slot.ensures.missing in
    rw (c.from_residual.ensures, ← c.self.view_is)
    (missing_packet c.self.inside.live c.self.inside.buckets _ c.self.invariant
    c.slots_are_in_order.ensures.ordered c.args.n none)

pub returns-clause-key : goal.returns-clause-key
returns-clause-key c =
    rw (c.of.ensures, ← c.self.view_is)
    (found_key c.self.inside.live c.self.inside.buckets _ c.self.invariant
    c.slots_are_in_order.ensures.ordered c.args.n c.in_ok-slot.slot c.in_ok-slot.ensures.found)

pub returns-clause-packet : goal.returns-clause-packet
returns-clause-packet c =
    rw (c.of.ensures, ← c.self.view_is)
    (found_packet c.self.inside.live c.self.inside.buckets _ c.self.invariant
    c.slots_are_in_order.ensures.ordered c.args.n c.in_ok-slot.slot c.in_ok-slot.ensures.found)

pub returns-clause-holds : goal.returns-clause-holds
returns-clause-holds c =
    rw (c.of.ensures, ← c.self.view_is)
    (found_holds c.self.inside.live c.self.inside.buckets _ c.self.invariant
    c.slots_are_in_order.ensures.ordered c.args.n c.in_ok-slot.slot c.in_ok-slot.ensures.found)

pub returns-clause-place : goal.returns-clause-place
returns-clause-place c =
    rw (c.of.ensures, ← c.self.view_is)
    (found_at c.self.inside.live c.self.inside.buckets _ c.self.invariant
    c.slots_are_in_order.ensures.ordered c.args.n c.in_ok-slot.slot c.in_ok-slot.ensures.found)
