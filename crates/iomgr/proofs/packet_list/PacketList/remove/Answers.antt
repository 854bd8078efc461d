use Rattle.std.proofs.Common.{◌≡◌, ◌∙◌, arith, refl}
use Rattle.std.specs.Prelude.{remove}
use Rattle.std.proofs.lemmas.List.{length-set}
use Rattle.std.proofs.lemmas.List.Edits.{length-remove}
use Rattle.model.specs.Queues.{unlinked}
use Rattle.devqueue.specs.Lists.{entries_of, with_entries}
use Rattle.iomgr.proofs.Order.{order_set, unlinked_place}
use Rattle.iomgr.proofs.Slots.{key_held, key_there, packet_removed, hold_removed}
use Rattle.iomgr.specs.Numbers.{number_place}
use Rattle.iomgr.proofs.packet_list.PacketList.remove.Goals as goal

pub remove-packet-requires : goal.remove-packet-requires
remove-packet-requires c =
    let keys = entries_of c.self.inside.keys 0 in
    let key = c.args.key in
    let there = key_there keys key (rw (← c.self.view_is) at c.requires) in
    key_held c.self.inside.slots key keys (number_place keys key) c.self.invariant.held there

pub invariant_of-self : goal.invariant_of-self
invariant_of-self c =
    let slots = c.self.inside.slots in
    let order = c.self.inside.keys in
    let keys = entries_of order 0 in
    let key = c.args.key in
    let place = number_place keys key in
    let within = rw (← c.self.view_is) at c.requires in
    let there = key_there keys key within in
    let gone = c.remove-packet.ensures in
    let left : entries_of (with_entries order 0 (unlinked keys key)) 0 ≡ remove keys place =
    order_set order (unlinked keys key) c.self.invariant.one_list ∙ unlinked_place keys key in
    rw c.unlink-listed.ensures.rest
    record {
      held =
          rw left
          (hold_removed slots c.remove-packet.new.self key gone.updates keys place
          c.self.invariant.held there);
      counted =
          rw left
          (omega (
            arith,
            gone.len,
            c.self.invariant.counted,
            length-remove keys place within,
          ));
      slot_room = rw gone.capacity c.self.invariant.slot_room;
      key_room = c.self.invariant.key_room;
      one_list = length-set order.lists 0 _ ∙ c.self.invariant.one_list;
    }

pub returns : goal.returns
returns c =
    let slots = c.self.inside.slots in
    let order = c.self.inside.keys in
    let keys = entries_of order 0 in
    let key = c.args.key in
    let place = number_place keys key in
    let within = rw (← c.self.view_is) at c.requires in
    let there = key_there keys key within in
    let gone = c.remove-packet.ensures in
    let left : entries_of (with_entries order 0 (unlinked keys key)) 0 ≡ remove keys place =
    order_set order (unlinked keys key) c.self.invariant.one_list ∙ unlinked_place keys key in
    let packets =
    packet_removed slots c.remove-packet.new.self key gone.updates keys place
    c.self.invariant.held there in
    rw (← c.self.view_is, c.unlink-listed.ensures.rest, left, packets, gone.slots) refl
