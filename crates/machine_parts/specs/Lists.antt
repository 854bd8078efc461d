-- The lists of keys of devices. Each device has six lists that stand one after another: its queues,
-- then the start list, then the device queue.
use Rattle.std.specs.Prelude.{ℕ, zero, suc, List, [], ◌∷◌, replicate, slice_index_or, slice_set}
use Rattle.model.specs.declared.limits.TheConstants.{MAX_QUEUES}
use Rattle.model.specs.Queues.{StartState, idle}
use Rattle.machine_parts.specs.declared.device_lists.Serving.{Serving}

-- the queues of each device, and what it has for StartIo
pub record DeviceLists : Type 0 where
  pub queues : List (List (List ℕ))
  pub starts : List StartState

-- so many devices without entries, which are idle
abbrev pub no_entries : ℕ → DeviceLists
no_entries devices =
    record { queues = replicate devices (replicate MAX_QUEUES []); starts = replicate devices idle }

-- the entries of a queue of a device, and the same with other entries
abbrev pub queue_entries : DeviceLists → ℕ → ℕ → List ℕ
queue_entries s device q = slice_index_or (slice_index_or s.queues device []) q []

abbrev pub with_queue_entries : DeviceLists → ℕ → ℕ → List ℕ → DeviceLists
with_queue_entries s device q entries =
    record s {
      queues =
          slice_set s.queues device (slice_set (slice_index_or s.queues device []) q entries);
    }

-- what a device has for StartIo, and the same with something else
abbrev pub start_entries : DeviceLists → ℕ → StartState
start_entries s device = slice_index_or s.starts device idle

abbrev pub with_start_entries : DeviceLists → ℕ → StartState → DeviceLists
with_start_entries s device start = record s { starts = slice_set s.starts device start }

-- the number of a list of a device; and how many lists so many devices have
abbrev pub list_at : ℕ → ℕ → ℕ
list_at zero list = list
list_at (suc device) list = suc (suc (suc (suc (suc (suc (list_at device list))))))

abbrev pub lists_of : ℕ → ℕ
lists_of devices = list_at devices 0

-- what lists of devices show
abbrev pub start_shown : Serving → List ℕ → List ℕ → StartState
start_shown c starts waiting =
    record { start_list = starts; device_queue = waiting; busy = c.busy; slot = c.slot }

abbrev pub queues_shown : List Serving → List (List ℕ) → List (List (List ℕ))
queues_shown (c ∷ serving) (first ∷ second ∷ third ∷ fourth ∷ starts ∷ waiting ∷ lists) =
    (first ∷ second ∷ third ∷ fourth ∷ []) ∷ queues_shown serving lists
queues_shown _ _ = []

abbrev pub starts_shown : List Serving → List (List ℕ) → List StartState
starts_shown (c ∷ serving) (first ∷ second ∷ third ∷ fourth ∷ starts ∷ waiting ∷ lists) =
    start_shown c starts waiting ∷ starts_shown serving lists
starts_shown _ _ = []
