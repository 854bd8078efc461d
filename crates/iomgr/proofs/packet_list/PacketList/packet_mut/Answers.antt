use Rattle.std.proofs.Common.{◌∙◌, refl}
use Rattle.model.specs.declared.world.Packet.{Packet}
use Rattle.slab.specs.Slab.{with_value}
use Rattle.slab.proofs.SlabLemmas.{Updates-with_value}
use Rattle.devqueue.specs.Lists.{entries_of}
use Rattle.iomgr.proofs.Slots.{key_held, key_there, packet_at, packet_set, hold_set, counted_set}
use Rattle.iomgr.specs.Numbers.{number_place}
use Rattle.iomgr.proofs.packet_list.PacketList.packet_mut.Goals as goal

pub index_mut-requires : goal.index_mut-requires
index_mut-requires c =
    let keys = entries_of c.self.inside.keys 0 in
    let key = c.args.key in
    let there = key_there keys key (rw (← c.self.view_is) at c.requires) in
    key_held c.self.inside.slots key keys (number_place keys key) c.self.invariant.held there

pub invariant_of-self-lent : goal.invariant_of-self-lent
invariant_of-self-lent c w =
    let slots = c.self.inside.slots in
    let keys = entries_of c.self.inside.keys 0 in
    let key = c.args.key in
    let held = c.self.invariant.held in
    let there = key_there keys key (rw (← c.self.view_is) at c.requires) in
    let full = key_held slots key keys (number_place keys key) held there in
    record {
      held =
          hold_set slots (with_value slots key w) key w (Updates-with_value slots key w full) keys
          held;
      counted = rw (counted_set slots key w full) c.self.invariant.counted;
      slot_room = c.self.invariant.slot_room;
      key_room = c.self.invariant.key_room;
      one_list = c.self.invariant.one_list;
    }

pub returns : goal.returns
returns c =
    let slots = c.self.inside.slots in
    let keys = entries_of c.self.inside.keys 0 in
    let key = c.args.key in
    let held = c.self.invariant.held in
    let place = number_place keys key in
    let there = key_there keys key (rw (← c.self.view_is) at c.requires) in
    let full = key_held slots key keys place held there in
    let written = λ (w : Packet).
    packet_set slots (with_value slots key w) key w (Updates-with_value slots key w full) keys
    place held there in
    rw (← c.self.view_is) (
      (refl, λ w. rw (written w) refl),
      record {
        writes_back = tt;
        packet = rw c.index_mut.ensures.value refl;
        lies = c.index_mut.ensures.value;
        listed = packet_at slots key keys place held there ∙ c.index_mut.ensures.value;
      },
    )
