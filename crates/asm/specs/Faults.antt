-- What is wrong with a line behind others, of which the last is given first, and which line uses a
-- name that nothing has.
use Rattle.std.specs.Prelude.{ℕ, ◌+◌, Bool, true, false, not, ◌&&◌, nat_le, nat_lt, List, [], ◌∷◌, length, Option, Some, None, is_none, if◌then◌else◌}
use Rattle.model.specs.declared.limits.TheConstants.{MAX_DEVICES, MAX_DRIVERS, MAX_INSTRUCTIONS, MAX_QUEUES, MAX_ROUTINES, MAX_STACK}
use Rattle.asm_line.specs.declared.line.Body.{Body}
use Rattle.asm_line.specs.declared.line.Body.TheVariants.{Blank, OpenDriver, CloseDriver, AddQueue, Handle, HandleStartIo, HandleDpc, OpenRoutine, CloseRoutine, AddDevice, Step}
use Rattle.asm_line.specs.declared.line.Line.{Line}
use Rattle.asm.specs.declared.draft.Place.{Place}
use Rattle.asm.specs.declared.draft.Place.TheVariants.{Outside, InDriver, InRoutine}
use Rattle.asm.specs.declared.fault.AsmKind.{AsmKind}
use Rattle.asm.specs.declared.fault.AsmKind.TheVariants.{UnknownWord, DuplicateName, OutOfRange, OverLimit}
use Rattle.asm.specs.declared.roles.Role.TheVariants.{Handler, Completion, StartIo, Dpc, Cancel}
use Rattle.asm.specs.Parts.{device_on, dpc_on, driver_around, driver_on, handler_on, labels_on, opens_driver, opens_routine, place_after, queue_on, routine_around, routine_on, said, startio_on, step_on, up_to}
use Rattle.asm.specs.Names.{Inventory, inventory, is_among, is_known, is_served}

-- whether a line may stand in a place
abbrev pub stands : Place → Body → Bool
stands place Blank = true
stands Outside (OpenDriver name) = true
stands Outside (AddDevice name driver stack lower) = true
stands InDriver CloseDriver = true
stands InDriver (AddQueue name guard cancel) = true
stands InDriver (Handle major routine) = true
stands InDriver (HandleStartIo routine cancel) = true
stands InDriver (HandleDpc routine) = true
stands InDriver (OpenRoutine name sort) = true
stands InRoutine CloseRoutine = true
stands InRoutine (Step instr used) = true
stands _ _ = false

-- there is one at least
abbrev pub has_any : List (List ℕ) → Bool
has_any [] = false
has_any (name ∷ names) = true

-- the line gives a name, a table entry or a label again: given are the lines before it, those of
-- the open driver and those of the open routine
abbrev pub gives_again : List Line → List Line → List Line → Option (List ℕ) → Body → Bool
gives_again before driver routine label (OpenDriver name) = is_among (said driver_on before) name
gives_again before driver routine label (AddDevice name of stack lower) =
    is_among (said device_on before) name
gives_again before driver routine label (AddQueue name guard cancel) =
    is_among (said queue_on driver) name
gives_again before driver routine label (OpenRoutine name sort) =
    is_among (said routine_on driver) name
gives_again before driver routine label (Handle major name) =
    has_any (said (handler_on major) driver)
gives_again before driver routine label (HandleStartIo name cancel) =
    has_any (said startio_on driver)
gives_again before driver routine label (HandleDpc name) = has_any (said dpc_on driver)
gives_again before driver routine None (Step instr used) = false
gives_again before driver routine (Some label) (Step instr used) =
    is_among (labels_on routine) label
gives_again before driver routine label Blank = false
gives_again before driver routine label CloseDriver = false
gives_again before driver routine label CloseRoutine = false

abbrev pub is_again : List Line → Option (List ℕ) → Body → Bool
is_again before label body =
    gives_again before (up_to opens_driver before) (up_to opens_routine before) label body

-- a device may have this stack size
abbrev pub is_stack_size : ℕ → Bool
is_stack_size n = nat_le 1 n && nat_le n MAX_STACK

-- an operand of the line is out of range
abbrev pub is_out_of_range : Body → Bool
is_out_of_range (AddDevice name driver stack lower) = not (is_stack_size stack)
is_out_of_range (AddQueue name guard cancel) = is_none guard
is_out_of_range (Step instr used) = is_none instr
is_out_of_range Blank = false
is_out_of_range (OpenDriver name) = false
is_out_of_range CloseDriver = false
is_out_of_range (Handle major routine) = false
is_out_of_range (HandleStartIo routine cancel) = false
is_out_of_range (HandleDpc routine) = false
is_out_of_range (OpenRoutine name sort) = false
is_out_of_range CloseRoutine = false

-- there is room for what the line adds
abbrev pub has_room : List Line → Body → Bool
has_room before (OpenDriver name) = nat_lt (length (said driver_on before)) MAX_DRIVERS
has_room before (AddDevice name driver stack lower) =
    nat_lt (length (said device_on before)) MAX_DEVICES
has_room before (AddQueue name guard cancel) =
    nat_lt (length (said queue_on (up_to opens_driver before))) MAX_QUEUES
has_room before (OpenRoutine name sort) =
    nat_lt (length (said routine_on (up_to opens_driver before))) MAX_ROUTINES
has_room before (Step instr used) =
    nat_lt (length (said step_on (up_to opens_routine before))) MAX_INSTRUCTIONS
has_room before Blank = true
has_room before CloseDriver = true
has_room before (Handle major routine) = true
has_room before (HandleStartIo routine cancel) = true
has_room before (HandleDpc routine) = true
has_room before CloseRoutine = true

-- the line's fault behind those lines: the least kind of those that it has
abbrev pub misfit : List Line → Line → Option AsmKind
misfit before l =
    if not (stands (place_after before) l.body) then Some UnknownWord else
    (if is_again before l.label l.body then Some DuplicateName else
    (if is_out_of_range l.body then Some OutOfRange else
    (if not (has_room before l.body) then Some OverLimit else None)))

-- each name that a line uses is there: of a routine of the right sort or a queue in the driver
-- around it, of a driver or device before it, of a label in the routine around it
abbrev pub all_known : Inventory → List Line → List (List ℕ) → Body → Bool
all_known has before labels (Handle major name) = is_served has Handler (Some name)
all_known has before labels (HandleStartIo name cancel) =
    is_served has StartIo (Some name) && is_served has Cancel cancel
all_known has before labels (HandleDpc name) = is_served has Dpc (Some name)
all_known has before labels (AddQueue name guard cancel) = is_served has Cancel cancel
all_known has before labels (AddDevice name driver stack lower) =
    is_among (said driver_on before) driver && is_known (said device_on before) lower
all_known has before labels (Step instr used) = is_known labels used.label
    && (is_served has Completion used.routine && is_known has.queues used.queue)
all_known has before labels Blank = true
all_known has before labels (OpenDriver name) = true
all_known has before labels CloseDriver = true
all_known has before labels (OpenRoutine name sort) = true
all_known has before labels CloseRoutine = true

-- the first line from number n on that uses a name which nothing has, behind those lines
abbrev pub unknown_from : List Line → ℕ → List Line → Option ℕ
unknown_from before n [] = None
unknown_from before n (l ∷ ls) =
    if all_known (inventory (driver_around before (l ∷ ls))) before
    (labels_on (routine_around before (l ∷ ls))) l.body
    then unknown_from (l ∷ before) (n + 1) ls else Some n
