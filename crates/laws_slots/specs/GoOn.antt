-- An event on slots shows the same event of the run whose world they mean.
use Rattle.std.specs.Prelude.{ℕ, ◌≡◌, ◌<◌, ◌++◌, ⊤, true, List, [], ◌∷◌, length, None}
use Rattle.model.specs.declared.event.Event.{Event}
use Rattle.model.specs.declared.event.Event.TheVariants.{Issue, Cancel as CancelEvent, Interrupt, Dpc as DpcEvent, StartIo as StartIoEvent, Step}
use Rattle.model.specs.Machine.{reply_to}
use Rattle.model.specs.Run.{run}
use Rattle.model.specs.Set.{Set}
use Rattle.model.specs.Sound.{IsSound}
use Rattle.model.specs.Typable.{IsTypable}
use Rattle.laws_slots.specs.Rep.{Means}
use Rattle.laws_slots.specs.SlotEvents.{can_issue_slot, opening_slots, slot_event}
use Rattle.laws_slots.specs.Slots.{SlotShared, SlotWorld, packet_at}

-- free slots mean the world before the first event
abbrev pub FreeSlotsMeanTheBeginning : Type 0
FreeSlotsMeanTheBeginning =
    (set : Set) (threads slots : ℕ)
    → Means set (opening_slots (length set.devices) threads slots) (run set threads []).world

-- the slot of a key is there, and free, where a request may need it
abbrev pub HasPlace : SlotShared → ℕ → Event → Type 0
HasPlace s key (Issue t d major argument) =
    can_issue_slot s ≡ true → (packet_at s key ≡ None) × (key < length s.slots)
HasPlace s key (CancelEvent t n level) = ⊤
HasPlace s key (Interrupt d) = ⊤
HasPlace s key (DpcEvent t d) = ⊤
HasPlace s key (StartIoEvent t d) = ⊤
HasPlace s key (Step t) = ⊤

-- after an event the slots mean the run's world with that event added, and it is replied to as the
-- run does: of a packet the number is told
pub record EventShows (set : Set) (threads : ℕ) (events : List Event) (v : SlotWorld) (key : ℕ)
    (e : Event) : Type 0 where
  pub means : Means set (slot_event set v key e).world (run set threads (events ++ e ∷ [])).world
  pub replies : (slot_event set v key e).reply ≡ reply_to set threads events e

-- for every accepted set, and every run of it whose world is meant
abbrev pub SlotEventsShowRuns : Type 0
SlotEventsShowRuns =
    (set : Set) → IsTypable set → IsSound set
    → (threads : ℕ) (events : List Event) (v : SlotWorld) (key : ℕ) (e : Event)
    → Means set v (run set threads events).world → HasPlace v.shared key e
    → EventShows set threads events v key e
