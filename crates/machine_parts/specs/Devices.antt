-- What a device has in a world of slots, read where it is known to be there.
use Rattle.std.specs.Prelude.{ℕ, Bool, false, List, [], Option, None, Some, is_some, slice_index_or}
use Rattle.model.specs.declared.world.Cells.{Cells}
use Rattle.model.specs.Queues.{StartState, head_of, idle}
use Rattle.laws_slots.specs.SlotEvents.{slot_queued}
use Rattle.laws_slots.specs.Slots.{SlotShared, slot_start}

-- the cells of a device
abbrev pub no_cells : Cells
no_cells = record { plain = []; paged = [] }

abbrev pub cells_in : SlotShared → ℕ → Cells
cells_in s device = slice_index_or s.cells device no_cells

-- the entries of a queue of a device
abbrev pub entries_in : SlotShared → ℕ → ℕ → List ℕ
entries_in s device q = slice_index_or (slice_index_or s.queues device []) q []

-- what a device has for StartIo
abbrev pub start_in : SlotShared → ℕ → StartState
start_in s device = slice_index_or s.starts device idle

-- what is due of a device: a packet for which its StartIo routine has to begin, and its DPC
abbrev pub starts_one : Option StartState → Bool
starts_one None = false
starts_one (Some start) = is_some (head_of start.start_list)

abbrev pub slot_due : SlotShared → ℕ → Bool × Bool
slot_due s d = (starts_one (slot_start s d), slot_queued s d)
