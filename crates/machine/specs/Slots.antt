-- The slots of a machine: in each stands one live packet or none, and each live packet stands in
-- one, whoever has it: a register, a queue, a current slot, or nobody but the I/O manager.
use Rattle.std.specs.Prelude.{ℕ, ◌≡◌, ◌<◌, true, List, Option, None, Some, is_some, slice_get, slice_index_or}
use Rattle.model.specs.declared.event.Event.{Event}
use Rattle.model.specs.Machine.{Shows}
use Rattle.model.specs.Run.{run}
use Rattle.model.specs.Shown.{Shown, ShownPacket}
use Rattle.model.specs.World.{Shared, packet_of}
use Rattle.machine.specs.Runs.{IsShown}

-- the number of the packet in a slot: none where the slot is free, or there is no such slot
abbrev pub number_at : Shown → ℕ → Option ℕ
number_at m slot = slice_index_or m.slots slot None

-- a live packet has this number
pub record HasPacket (m : Shown) (n : ℕ) : Type 0 where
  pub place : ℕ
  pub packet : ShownPacket
  pub listed : slice_get m.packets place ≡ Some packet
  pub number : packet.number ≡ n

-- each live packet stands in a slot, and in no other; and a slot has none but live ones
pub record AreSlots (m : Shown) : Type 0 where
  pub stands : (place : ℕ) (p : ShownPacket) → slice_get m.packets place ≡ Some p
      → (slot : ℕ) × (number_at m slot ≡ Some p.number)
  pub alone : (j k n : ℕ) → number_at m j ≡ Some n → number_at m k ≡ Some n → j ≡ k
  pub live : (slot n : ℕ) → number_at m slot ≡ Some n → HasPacket m n

-- a packet was issued, and is live
abbrev pub IsLive : Shared → ℕ → Type 0
IsLive s n = (n < s.issued) × (is_some (packet_of s n) ≡ true)

-- it shows some run; its slots are those of the packets that it shows; and in whatever run it
-- shows, the packet of a slot is live
pub record HasSlots (m : Shown) : Type 0 where
  pub shown : IsShown m
  pub slots : AreSlots m
  pub live : (slot n : ℕ) → number_at m slot ≡ Some n → (threads : ℕ) (events : List Event)
      → Shows m threads events → IsLive (run m.set threads events).world.shared n
