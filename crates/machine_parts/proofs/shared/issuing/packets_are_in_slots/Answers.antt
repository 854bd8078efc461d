use Rattle.std.proofs.Common.{◌≡◌, ◌∙◌, List, length, ap}
use Rattle.model.specs.declared.world.Packet.{Packet}
use Rattle.iomgr.specs.Slots.{IsOrdered, Slots}
use Rattle.laws_slots.specs.Rep.{packets_in}
use Rattle.machine_parts.proofs.Issuing.{key_place, packets_count, packets_same}
use Rattle.machine_parts.proofs.shared.issuing.packets_are_in_slots.Goals as goal

pub returns-clause-packets : goal.returns-clause-packets
returns-clause-packets c =
    let live : Slots = c.args.table.now.live in
    c.keys_are_in_order.ensures.live.packets ∙ packets_same live.lying live.order

pub returns-clause-count : goal.returns-clause-count
returns-clause-count c =
    let live : Slots = c.args.table.now.live in
    let order : IsOrdered live = c.keys_are_in_order.ensures.live in
    ap (λ (ps : List Packet). length ps) (order.packets ∙ packets_same live.lying live.order)
    ∙ packets_count live.lying live.order order.held

pub returns-clause-keys : goal.returns-clause-keys
returns-clause-keys c n =
    let live : Slots = c.args.table.now.live in
    let order : IsOrdered live = c.keys_are_in_order.ensures.live in
    let same : live.packets ≡ packets_in live.lying live.order =
    order.packets ∙ packets_same live.lying live.order in
    rw same (key_place live.lying live.order n order.held)
