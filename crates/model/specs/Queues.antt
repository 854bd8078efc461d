-- The queues of a device, as lists of packet numbers, and what it has for its StartIo routine.
use Rattle.std.specs.Prelude.{ℕ, Bool, true, false, not, nat_eq, nat_le, List, [], ◌∷◌, ◌++◌, length, Option, None, Some, if◌then◌else◌}
use Rattle.std.specs.List.{list_any}
use Rattle.model.specs.declared.limits.TheConstants.{MAX_ENTRIES}

-- there is room for no further entry
abbrev pub is_full : List ℕ → Bool
is_full entries = nat_le MAX_ENTRIES (length entries)

-- the entries with a packet inserted at the back
abbrev pub inserted : List ℕ → ℕ → List ℕ
inserted entries n = entries ++ n ∷ []

-- the first entry, if there is one
abbrev pub head_of : List ℕ → Option ℕ
head_of [] = None
head_of (n ∷ entries) = Some n

-- the entries without the first one; an empty queue stays empty
abbrev pub without_head : List ℕ → List ℕ
without_head [] = []
without_head (n ∷ entries) = entries

-- a packet stands in the queue
abbrev pub is_linked : List ℕ → ℕ → Bool
is_linked entries n = list_any (λ entry. nat_eq entry n) entries

-- the entries without the first one of a packet; the others keep their order
abbrev pub unlinked : List ℕ → ℕ → List ℕ
unlinked [] n = []
unlinked (entry ∷ entries) n = if nat_eq entry n then entries else entry ∷ unlinked entries n

-- What a device has for its StartIo routine. IoStartPacket and IoStartNextPacket change it, and the
-- StartIo routine takes packets from it.

-- the packets for which StartIo has to begin, in that order; those that wait in the device queue
-- while the device is busy; whether it is busy; and the packet in its current slot, if there is one
pub record StartState : Type 0 where
  pub start_list : List ℕ
  pub device_queue : List ℕ
  pub busy : Bool
  pub slot : Option ℕ

-- an idle device without packets
abbrev pub idle : StartState
idle = record { start_list = []; device_queue = []; busy = false; slot = None }

-- IoStartPacket: on an idle device StartIo has to begin for the packet, and the device becomes
-- busy; on a busy one the packet waits in the device queue
abbrev pub started : StartState → ℕ → StartState
started s n =
    if s.busy then record s { device_queue = inserted s.device_queue n }
    else record s { start_list = inserted s.start_list n; busy = true }

-- there is room in the list that IoStartPacket puts a packet into
abbrev pub has_room_to_start : StartState → Bool
has_room_to_start s = not (is_full (if s.busy then s.device_queue else s.start_list))

-- IoStartNextPacket: StartIo has to begin for the first packet that waits in the device queue;
-- where none waits, the device becomes idle
abbrev pub next_of : StartState → List ℕ → StartState
next_of s [] = record s { busy = false }
next_of s (n ∷ waiting) =
    record s { start_list = inserted s.start_list n; device_queue = waiting }

abbrev pub next_started : StartState → StartState
next_started s = next_of s s.device_queue

-- there is room in the start list for the packet that IoStartNextPacket puts there, if it does
abbrev pub room_for_next : List ℕ → List ℕ → Bool
room_for_next starts [] = true
room_for_next starts (n ∷ waiting) = not (is_full starts)

abbrev pub has_room_for_next : StartState → Bool
has_room_for_next s = room_for_next s.start_list s.device_queue

-- the same without a packet in the device queue
abbrev pub dequeued : StartState → ℕ → StartState
dequeued s n = record s { device_queue = unlinked s.device_queue n }

-- the same after StartIo began for the first packet of the start list
abbrev pub without_first_to_start : StartState → StartState
without_first_to_start s = record s { start_list = without_head s.start_list }

-- the same with another packet in the current slot, or none
abbrev pub with_slot : StartState → Option ℕ → StartState
with_slot s slot = record s { slot = slot }
