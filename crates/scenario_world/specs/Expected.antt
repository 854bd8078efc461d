-- What may be expected of a world: where its packets stand, which frames have them, what the cells of
-- devices have, and who owns a lock.
use Rattle.std.specs.Prelude.{ℕ, ◌-◌, ◌&&◌, Bool, true, false, not, List, [], ◌∷◌, nat_eq, Option, None, Some, option_map, slice_index_or}
use Rattle.std.specs.List.{list_any}
use Rattle.hunt_worlds.specs.Alike.{paged_at, plain_at}
use Rattle.model.specs.declared.view.LiveView.{LiveView}
use Rattle.model.specs.declared.view.PacketView.{PacketView}
use Rattle.model.specs.declared.view.PacketView.TheVariants as view
use Rattle.model.specs.declared.world.Activation.{Activation}
use Rattle.model.specs.declared.world.Frame.{Frame}
use Rattle.model.specs.declared.world.Frame.TheVariants.{Routine, Walk, Cancel as CancelFrame}
use Rattle.model.specs.declared.world.Thread.{Thread}
use Rattle.model.specs.Queues.{StartState, is_linked}
use Rattle.model.specs.World.{Shared, World, queue_of, start_of}
use Rattle.scenario_names.specs.declared.operands.CellName.{CellName}
use Rattle.scenario_names.specs.declared.operands.CellName.TheVariants.{Plain, Paged}
use Rattle.scenario_expected.specs.declared.expectation.List.{List as ListName}
use Rattle.scenario_expected.specs.declared.expectation.List.TheVariants.{Queue, StartList, DeviceQueue}
use Rattle.tell_audit.specs.Naming.{slot_names, value_names}

-- a packet is live, and its current location is marked, or isn't
abbrev pub current_mark : LiveView → Bool
current_mark live = slice_index_or live.marks (live.depth - 1) false

abbrev pub is_marked : PacketView → Bool
is_marked view.Never = false
is_marked (view.Live live) = current_mark live
is_marked view.Topped = false

abbrev pub is_unmarked : PacketView → Bool
is_unmarked view.Never = false
is_unmarked (view.Live live) = not (current_mark live)
is_unmarked view.Topped = false

-- the packets in a list of a device, in order, if there is such a list
abbrev pub entries_of : Shared → ℕ → ListName → Option (List ℕ)
entries_of s d (Queue q) = queue_of s d q
entries_of s d StartList = option_map (λ (start : StartState). start.start_list) (start_of s d)
entries_of s d DeviceQueue =
    option_map (λ (start : StartState). start.device_queue) (start_of s d)

-- a packet stands there
abbrev pub has_entry : ℕ → Option (List ℕ) → Bool
has_entry n None = false
has_entry n (Some entries) = is_linked entries n

-- these stand there and no others, in this order: each was issued, and has the number of its entry
abbrev pub is_entry : ℕ → Option ℕ → Bool
is_entry entry None = false
is_entry entry (Some n) = nat_eq entry n

abbrev pub are_entries : List ℕ → List (Option ℕ) → Bool
are_entries [] [] = true
are_entries [] (n ∷ numbers) = false
are_entries (entry ∷ entries) [] = false
are_entries (entry ∷ entries) (n ∷ numbers) = is_entry entry n && are_entries entries numbers

-- one stands at a place
abbrev pub has_at : Option ℕ → Option ℕ → Bool
has_at None n = false
has_at (Some entry) n = is_entry entry n

abbrev pub has_entries : List (Option ℕ) → Option (List ℕ) → Bool
has_entries numbers None = false
has_entries numbers (Some entries) = are_entries entries numbers

-- a packet is in the current slot of a device
abbrev pub is_current : ℕ → Option StartState → Bool
is_current n None = false
is_current n (Some start) = slot_names n start.slot

-- a frame of a routine has it in a register, by the numbers of its driver and of itself
abbrev pub runs_with : ℕ → ℕ → ℕ → Activation → Bool
runs_with n driver routine a =
    nat_eq a.driver driver && nat_eq a.routine routine && list_any (value_names n) a.registers

abbrev pub frame_has : ℕ → ℕ → ℕ → Frame → Bool
frame_has n driver routine (Routine a) = runs_with n driver routine a
frame_has n driver routine (Walk m) = false
frame_has n driver routine (CancelFrame c) = false

abbrev pub thread_has : ℕ → ℕ → ℕ → Thread → Bool
thread_has n driver routine thread = list_any (frame_has n driver routine) thread.frames.items

abbrev pub is_held : World → ℕ → ℕ → ℕ → Bool
is_held w n driver routine = list_any (thread_has n driver routine) w.threads

-- the number in a cell of a device, if there is such a device
abbrev pub number_in : Shared → ℕ → CellName → Option ℕ
number_in s d (Plain c) = plain_at s d c
number_in s d (Paged c) = paged_at s d c

abbrev pub is_number : ℕ → Option ℕ → Bool
is_number n None = false
is_number n (Some m) = nat_eq m n

-- a lock that there is has this owner, or none
abbrev pub is_owner : Option ℕ → Option ℕ → Bool
is_owner None None = true
is_owner None (Some u) = false
is_owner (Some t) None = false
is_owner (Some t) (Some u) = nat_eq u t

abbrev pub is_owned : Option ℕ → Option (Option ℕ) → Bool
is_owned owner None = false
is_owned owner (Some its) = is_owner owner its
