use Rattle.std.proofs.Common.{[], ◌∷◌, arith, length-append, ◌++◌, ◌∙◌, refl}
use Rattle.std.proofs.lemmas.List.{length-set}
use Rattle.devqueue.specs.Lists.{entries_of}
use Rattle.iomgr.proofs.Order.{order_free, order_set}
use Rattle.iomgr.proofs.Slots.{length_in, vacant_lacks, packet_pushed, hold_pushed}
use Rattle.iomgr.proofs.packet_list.PacketList.push.Goals as goal

pub insert_reserved-key-requires : goal.insert_reserved-key-requires
insert_reserved-key-requires c =
    let held = length_in c.self.inside.slots (entries_of c.self.inside.keys 0) c.self.invariant.held in
    let room = rw (← c.self.view_is) at c.requires in
    omega (arith, held, room, c.self.invariant.counted, c.self.invariant.slot_room)

pub push_back-requires-clause-free : goal.push_back-requires-clause-free
push_back-requires-clause-free c =
    let slots = c.self.inside.slots in
    let keys = entries_of c.self.inside.keys 0 in
    let made = c.insert_reserved-key.ensures in
    order_free c.self.inside.keys c.insert_reserved-key.result c.self.invariant.one_list
    (vacant_lacks slots c.insert_reserved-key.result made.was_vacant keys c.self.invariant.held)

pub invariant_of-self : goal.invariant_of-self
invariant_of-self c =
    let slots = c.self.inside.slots in
    let keys = entries_of c.self.inside.keys 0 in
    let key = c.insert_reserved-key.result in
    let made = c.insert_reserved-key.ensures in
    let lacks = vacant_lacks slots key made.was_vacant keys c.self.invariant.held in
    let order = order_set c.self.inside.keys (keys ++ key ∷ []) c.self.invariant.one_list in
    rw c.push_back.ensures
    record {
      held =
          rw order
          (hold_pushed slots c.insert_reserved-key.new.self key c.args.packet made.updates keys
          lacks c.self.invariant.held);
      counted =
          rw order
          (omega (arith, made.len, c.self.invariant.counted, length-append keys (key ∷ [])));
      slot_room = rw made.capacity c.self.invariant.slot_room;
      key_room = c.self.invariant.key_room;
      one_list = length-set c.self.inside.keys.lists 0 _ ∙ c.self.invariant.one_list;
    }

pub returns-clause-filled : goal.returns-clause-filled
returns-clause-filled c =
    let slots = c.self.inside.slots in
    let keys = entries_of c.self.inside.keys 0 in
    let key = c.insert_reserved-key.result in
    let made = c.insert_reserved-key.ensures in
    let lacks = vacant_lacks slots key made.was_vacant keys c.self.invariant.held in
    let order = order_set c.self.inside.keys (keys ++ key ∷ []) c.self.invariant.one_list in
    rw (← c.self.view_is, c.push_back.ensures, order)
    record {
      was_vacant = made.was_vacant;
      filled = made.updates.changed;
      others = made.updates.others;
      order = refl;
      packets =
          packet_pushed slots c.insert_reserved-key.new.self key c.args.packet made.updates keys
          lacks;
    }
