-- How a list of packets lies in slots.
use Rattle.std.specs.Prelude.{◌≡◌, length}
use Rattle.model.specs.declared.limits.TheConstants.{MAX_LIVE_PACKETS}
use Rattle.model.specs.declared.world.Packet.{Packet}
use Rattle.slab.specs.Slab.{Slab, slab_len}
use Rattle.devqueue.specs.Lists.{Lists, entries_of}
use Rattle.iomgr.specs.Slots.{Hold}

-- the keys stand in the one list that there is; they have packets, no further slot is in use, and
-- there is room for all packets that may live and for no more
pub record IsSound (slots : Slab Packet) (keys : Lists) : Type 0 where
  pub held : Hold slots.slots (entries_of keys 0)
  pub counted : slab_len slots ≡ length (entries_of keys 0)
  pub slot_room : slots.capacity ≡ MAX_LIVE_PACKETS
  pub key_room : keys.slots ≡ MAX_LIVE_PACKETS
  pub one_list : length keys.lists ≡ 1
