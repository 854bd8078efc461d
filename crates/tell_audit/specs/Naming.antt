-- Which packets the places of a world name, whatever right goes with a place. In the run of a set
-- that was refused no register has a right: who names a packet may still come to it. A packet that
-- no place names is lost: nothing that can happen reaches it.
use Rattle.std.specs.Prelude.{ℕ, ◌||◌, ◌++◌, zero, suc, Bool, false, List, [], ◌∷◌, Option, None, Some, is_some, nat_eq, if◌then◌else◌}
use Rattle.std.specs.List.{list_any}
use Rattle.model.specs.declared.world.Frame.{Frame}
use Rattle.model.specs.declared.world.Frame.TheVariants.{Routine, Walk, Cancel as CancelFrame}
use Rattle.model.specs.declared.world.Packet.{Packet}
use Rattle.model.specs.declared.world.Thread.{Thread}
use Rattle.model.specs.declared.world.Value.{Value}
use Rattle.model.specs.declared.world.Value.TheVariants.{Blank, Num, Ref, Status as StatusValue}
use Rattle.model.specs.Queues.{StartState, is_linked}
use Rattle.model.specs.World.{World, packet_of}

-- a register's value
abbrev pub value_names : ℕ → Value → Bool
value_names n Blank = false
value_names n (Num number) = false
value_names n (Ref m) = nat_eq m n
value_names n (StatusValue status) = false

-- a frame: a register of a routine, or the I/O manager that completes the packet. IoCancelIrp
-- doesn't hold the packet that it cancels
abbrev pub frame_names : ℕ → Frame → Bool
frame_names n (Routine a) = list_any (value_names n) a.registers
frame_names n (Walk m) = nat_eq m n
frame_names n (CancelFrame c) = false

abbrev pub thread_names : ℕ → Thread → Bool
thread_names n thread = list_any (frame_names n) thread.frames.items

-- a queue of a device, and what it has for StartIo
abbrev pub queues_name : ℕ → List (List ℕ) → Bool
queues_name n queues = list_any (λ entries. is_linked entries n) queues

abbrev pub slot_names : ℕ → Option ℕ → Bool
slot_names n None = false
slot_names n (Some m) = nat_eq m n

abbrev pub start_names : ℕ → StartState → Bool
start_names n start =
    is_linked start.start_list n || is_linked start.device_queue n || slot_names n start.slot

-- its cancel word, which names the list whose cancel routine will be handed the packet
abbrev pub has_word : Option Packet → Bool
has_word None = false
has_word (Some p) = is_some p.armer

-- some place names it
abbrev pub is_named : World → ℕ → Bool
is_named w n =
    list_any (thread_names n) w.threads || list_any (queues_name n) w.shared.queues
    || list_any (start_names n) w.shared.starts || has_word (packet_of w.shared n)

-- a live packet that no place names; those of so many numbers, and all of them
abbrev pub lost_at : World → ℕ → Option Packet → List ℕ
lost_at w n None = []
lost_at w n (Some p) = if is_named w n then [] else n ∷ []

abbrev pub lost_below : World → ℕ → List ℕ
lost_below w zero = []
lost_below w (suc n) = lost_below w n ++ lost_at w n (packet_of w.shared n)

abbrev pub lost_packets : World → List ℕ
lost_packets w = lost_below w w.shared.issued
