-- The lines of a text with the outline behind them, and the names that a line may use, as lines are
-- read one after another.
use Rattle.std.specs.Prelude.{ℕ, ◌≡◌, ◌+◌, Bool, true, ◌&&◌, List, [], ◌∷◌, ◌++◌, Option, Some, None, option_to_list, Ok, if◌then◌else◌}
use Rattle.model.specs.declared.set.Sort.{Sort}
use Rattle.asm_line.specs.declared.line.Body.{Body}
use Rattle.asm_line.specs.declared.line.Body.TheVariants.{Blank, OpenDriver, CloseDriver, AddQueue, Handle, HandleStartIo, HandleDpc, OpenRoutine, CloseRoutine, AddDevice, Step}
use Rattle.asm_line.specs.declared.line.Line.{Line}
use Rattle.asm_line.specs.declared.line.UsedNames.{UsedNames}
use Rattle.asm_line.specs.Line.{read_line}
use Rattle.asm.specs.declared.roles.Role.{Role}
use Rattle.asm.specs.declared.roles.Role.TheVariants.{Handler, Completion, StartIo, Dpc, Cancel}
pub use Rattle.asm.specs.Names.{is_known}
use Rattle.asm.specs.Names.{is_among}
use Rattle.asm.specs.Outline.{Outline, has_routine, draft_misfit, noted}

-- these are the lines from number n on, each without a fault, and the outline at their end
abbrev pub Reads : Outline → ℕ → List (List ℕ) → List Line → Outline → Type 0
Reads o n [] [] end = o ≡ end
Reads o n (raw ∷ raws) (l ∷ ls) end =
    (read_line raw ≡ Ok l)
    × ((draft_misfit o l ≡ None) × Reads (noted o n l.label l.body) (n + 1) raws ls end)
Reads o n _ _ end = ⊥

-- the names of the routines from a line to the end of the driver, after which there are these
abbrev pub named_ahead : Body → List (List ℕ) → List (List ℕ)
named_ahead CloseDriver after = []
named_ahead (OpenRoutine name sort) after = name ∷ after
named_ahead Blank after = after
named_ahead (OpenDriver name) after = after
named_ahead (AddQueue name guard cancel) after = after
named_ahead (Handle major routine) after = after
named_ahead (HandleStartIo routine cancel) after = after
named_ahead (HandleDpc routine) after = after
named_ahead CloseRoutine after = after
named_ahead (AddDevice name driver stack lower) after = after
named_ahead (Step instr used) after = after

-- the names of the routines from here to the end of the driver
abbrev pub routines_ahead : List Line → List (List ℕ)
routines_ahead [] = []
routines_ahead (l ∷ ls) = named_ahead l.body (routines_ahead ls)

-- the sorts of the routines from a line to the end of the driver, after which there are these
abbrev pub sorted_ahead : Body → List Sort → List Sort
sorted_ahead CloseDriver after = []
sorted_ahead (OpenRoutine name sort) after = sort ∷ after
sorted_ahead Blank after = after
sorted_ahead (OpenDriver name) after = after
sorted_ahead (AddQueue name guard cancel) after = after
sorted_ahead (Handle major routine) after = after
sorted_ahead (HandleStartIo routine cancel) after = after
sorted_ahead (HandleDpc routine) after = after
sorted_ahead CloseRoutine after = after
sorted_ahead (AddDevice name driver stack lower) after = after
sorted_ahead (Step instr used) after = after

-- the sorts of the routines from here to the end of the driver
abbrev pub sorts_ahead : List Line → List Sort
sorts_ahead [] = []
sorts_ahead (l ∷ ls) = sorted_ahead l.body (sorts_ahead ls)

-- the names of the queues from a line to the end of the driver, after which there are these
abbrev pub queued_ahead : Body → List (List ℕ) → List (List ℕ)
queued_ahead CloseDriver after = []
queued_ahead (AddQueue name guard cancel) after = name ∷ after
queued_ahead Blank after = after
queued_ahead (OpenDriver name) after = after
queued_ahead (Handle major routine) after = after
queued_ahead (HandleStartIo routine cancel) after = after
queued_ahead (HandleDpc routine) after = after
queued_ahead (OpenRoutine name sort) after = after
queued_ahead CloseRoutine after = after
queued_ahead (AddDevice name driver stack lower) after = after
queued_ahead (Step instr used) after = after

-- the names of the queues from here to the end of the driver
abbrev pub queues_ahead : List Line → List (List ℕ)
queues_ahead [] = []
queues_ahead (l ∷ ls) = queued_ahead l.body (queues_ahead ls)

-- the labels from a line to the end of the routine, after which there are these
abbrev pub labelled_ahead : Option (List ℕ) → Body → List (List ℕ) → List (List ℕ)
labelled_ahead label CloseRoutine after = []
labelled_ahead label (Step instr used) after = option_to_list label ++ after
labelled_ahead label Blank after = after
labelled_ahead label (OpenDriver name) after = after
labelled_ahead label CloseDriver after = after
labelled_ahead label (AddQueue name guard cancel) after = after
labelled_ahead label (Handle major routine) after = after
labelled_ahead label (HandleStartIo routine cancel) after = after
labelled_ahead label (HandleDpc routine) after = after
labelled_ahead label (OpenRoutine name sort) after = after
labelled_ahead label (AddDevice name driver stack lower) after = after

-- the labels from here to the end of the routine
abbrev pub labels_ahead : List Line → List (List ℕ)
labels_ahead [] = []
labels_ahead (l ∷ ls) = labelled_ahead l.label l.body (labels_ahead ls)

-- the names that a line may use: of the drivers and devices before it, of the routines in the
-- driver around it, whose sorts are given in the same order, of the queues in that driver, and of
-- the labels in the routine around it
pub record Scope : Type 0 where
  pub drivers : List (List ℕ)
  pub devices : List (List ℕ)
  pub routines : List (List ℕ)
  pub sorts : List Sort
  pub queues : List (List ℕ)
  pub labels : List (List ℕ)

-- before the first line
abbrev pub nothing_named : Scope
nothing_named = record {
  drivers = [];
  devices = [];
  routines = [];
  sorts = [];
  queues = [];
  labels = [];
}

-- the names of the drivers before the next line
abbrev pub drivers_after : List (List ℕ) → Body → List (List ℕ)
drivers_after drivers (OpenDriver name) = drivers ++ name ∷ []
drivers_after drivers Blank = drivers
drivers_after drivers CloseDriver = drivers
drivers_after drivers (AddQueue name guard cancel) = drivers
drivers_after drivers (Handle major routine) = drivers
drivers_after drivers (HandleStartIo routine cancel) = drivers
drivers_after drivers (HandleDpc routine) = drivers
drivers_after drivers (OpenRoutine name sort) = drivers
drivers_after drivers CloseRoutine = drivers
drivers_after drivers (AddDevice name driver stack lower) = drivers
drivers_after drivers (Step instr used) = drivers

-- the names of the devices before the next line
abbrev pub devices_after : List (List ℕ) → Body → List (List ℕ)
devices_after devices (AddDevice name driver stack lower) = devices ++ name ∷ []
devices_after devices Blank = devices
devices_after devices (OpenDriver name) = devices
devices_after devices CloseDriver = devices
devices_after devices (AddQueue name guard cancel) = devices
devices_after devices (Handle major routine) = devices
devices_after devices (HandleStartIo routine cancel) = devices
devices_after devices (HandleDpc routine) = devices
devices_after devices (OpenRoutine name sort) = devices
devices_after devices CloseRoutine = devices
devices_after devices (Step instr used) = devices

-- the names of the routines in the driver around the next line
abbrev pub routines_around : List (List ℕ) → Body → List Line → List (List ℕ)
routines_around routines (OpenDriver name) next = routines_ahead next
routines_around routines Blank next = routines
routines_around routines CloseDriver next = routines
routines_around routines (AddQueue name guard cancel) next = routines
routines_around routines (Handle major routine) next = routines
routines_around routines (HandleStartIo routine cancel) next = routines
routines_around routines (HandleDpc routine) next = routines
routines_around routines (OpenRoutine name sort) next = routines
routines_around routines CloseRoutine next = routines
routines_around routines (AddDevice name driver stack lower) next = routines
routines_around routines (Step instr used) next = routines

-- the sorts of the routines in the driver around the next line
abbrev pub sorts_around : List Sort → Body → List Line → List Sort
sorts_around sorts (OpenDriver name) next = sorts_ahead next
sorts_around sorts Blank next = sorts
sorts_around sorts CloseDriver next = sorts
sorts_around sorts (AddQueue name guard cancel) next = sorts
sorts_around sorts (Handle major routine) next = sorts
sorts_around sorts (HandleStartIo routine cancel) next = sorts
sorts_around sorts (HandleDpc routine) next = sorts
sorts_around sorts (OpenRoutine name sort) next = sorts
sorts_around sorts CloseRoutine next = sorts
sorts_around sorts (AddDevice name driver stack lower) next = sorts
sorts_around sorts (Step instr used) next = sorts

-- the names of the queues in the driver around the next line
abbrev pub queues_around : List (List ℕ) → Body → List Line → List (List ℕ)
queues_around queues (OpenDriver name) next = queues_ahead next
queues_around queues Blank next = queues
queues_around queues CloseDriver next = queues
queues_around queues (AddQueue name guard cancel) next = queues
queues_around queues (Handle major routine) next = queues
queues_around queues (HandleStartIo routine cancel) next = queues
queues_around queues (HandleDpc routine) next = queues
queues_around queues (OpenRoutine name sort) next = queues
queues_around queues CloseRoutine next = queues
queues_around queues (AddDevice name driver stack lower) next = queues
queues_around queues (Step instr used) next = queues

-- the labels in the routine around the next line
abbrev pub labels_around : List (List ℕ) → Body → List Line → List (List ℕ)
labels_around labels (OpenRoutine name sort) next = labels_ahead next
labels_around labels Blank next = labels
labels_around labels (OpenDriver name) next = labels
labels_around labels CloseDriver next = labels
labels_around labels (AddQueue name guard cancel) next = labels
labels_around labels (Handle major routine) next = labels
labels_around labels (HandleStartIo routine cancel) next = labels
labels_around labels (HandleDpc routine) next = labels
labels_around labels CloseRoutine next = labels
labels_around labels (AddDevice name driver stack lower) next = labels
labels_around labels (Step instr used) next = labels

-- the names that the next line may use
abbrev pub scope_after : Scope → Body → List Line → Scope
scope_after s body next = record {
  drivers = drivers_after s.drivers body;
  devices = devices_after s.devices body;
  routines = routines_around s.routines body next;
  sorts = sorts_around s.sorts body next;
  queues = queues_around s.queues body next;
  labels = labels_around s.labels body next;
}

-- there is no name, or it is one of a routine of a sort for the role
abbrev pub is_served : Scope → Role → Option (List ℕ) → Bool
is_served s role None = true
is_served s role (Some routine) = has_routine s.routines s.sorts role routine

-- each name that an instruction uses is there
abbrev pub all_known : Scope → UsedNames → Bool
all_known s used = is_known s.labels used.label
    && (is_served s Completion used.routine && is_known s.queues used.queue)

-- the line's own number where it uses a name that nothing has: a routine that isn't in the driver
-- around it or isn't of the sort that serves a major function, that begins packets, that an
-- interrupt queues, that a call sets or that cancels the packets of a queue or of the device queue;
-- a queue that isn't in the driver around it; a driver or lower device that isn't before it; or a
-- label that isn't in the routine around it; else what comes of the lines after it
abbrev pub unknown_at : Scope → ℕ → Body → Option ℕ → Option ℕ
unknown_at s n (Handle major routine) after = if has_routine s.routines s.sorts Handler routine
    then after else Some n
unknown_at s n (HandleStartIo routine cancel) after =
    if has_routine s.routines s.sorts StartIo routine && is_served s Cancel cancel then after
    else Some n
unknown_at s n (HandleDpc routine) after = if has_routine s.routines s.sorts Dpc routine then after
    else Some n
unknown_at s n (AddDevice name driver stack lower) after =
    if is_among s.drivers driver && is_known s.devices lower then after else Some n
unknown_at s n (Step instr used) after = if all_known s used then after else Some n
unknown_at s n (AddQueue name guard cancel) after =
    if is_served s Cancel cancel then after else Some n
unknown_at s n Blank after = after
unknown_at s n (OpenDriver name) after = after
unknown_at s n CloseDriver after = after
unknown_at s n (OpenRoutine name sort) after = after
unknown_at s n CloseRoutine after = after

-- the first line from number n on that uses a name which nothing has; given are the names that the
-- first of them may use
abbrev pub unknown_from : Scope → ℕ → List Line → Option ℕ
unknown_from s n [] = None
unknown_from s n (l ∷ ls) =
    unknown_at s n l.body (unknown_from (scope_after s l.body ls) (n + 1) ls)
