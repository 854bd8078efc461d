-- A driver fits when it is closed, and then its routines and queues are known.
use Rattle.std.proofs.Common.{◌≡◌, ℕ, ◌<◌, List, [], append-nil, length, Option, Some, None, IfSome, get_or, refl, sym, ◌∙◌, ap, subst, arith}
use Rattle.std.specs.Prelude.{map, slice_get, is_some, option_map, option_and_then, if◌then◌else◌}
use Rattle.std.proofs.lemmas.List.Elements.{All-map}
use Rattle.std.proofs.lemmas.List.{length-map}
use Rattle.std.proofs.lemmas.Option.{slice_get-map}
use Rattle.model.specs.declared.set.Routine.{Routine}
use Rattle.model.specs.Sound.{DriverFits, RoutineFits, LabelFits, OperandFits, CallFits, CallsFit, CancelFits, GuardFits, QueueFits, QueuesFit, WaitingFits, queue_named, HasSort, IsDispatch, IsCompletion, IsStartIo, IsDpc, IsCancel}
use Rattle.model.specs.declared.set.Sort.{Sort}
use Rattle.model.specs.declared.set.Sort.TheVariants.{Dispatch, StartIo, Dpc, Propagate, Hold, Cancel}
use Rattle.model.specs.declared.instr.Instr.{Instr}
use Rattle.model.specs.declared.instr.Instr.TheVariants.{Insert, Call}
use Rattle.asm.specs.declared.draft.ClosedRoutine.{ClosedRoutine}
use Rattle.asm.specs.declared.draft.StartIoLine.{StartIoLine}
use Rattle.asm.specs.declared.names.Use.{Use}
use Rattle.asm.specs.declared.roles.Role.{Role}
use Rattle.asm.specs.declared.roles.Role.TheVariants.{Handler, Completion, StartIo as StartIoRole, Dpc as DpcRole, Cancel as CancelRole}
use Rattle.asm.specs.Outline.{Outline, with_queue, with_routine, number_of, number_for, routine_called, entry_in, called, finished, finished_driver, finished_queue, earliest, missed_calls, missed_cancels, missed_entry, missed_handler, missed_queue, missed_routine, missed_server, missed_startio, missed_use, queue_at, routine_named, startio_named, waiting_named, ClosedFits, IsUse, QueuesOrderly, RoutinesOrderly}
use Rattle.asm.proofs.Orderly.Names.{neither, use_known, number_within}

-- the sort of a closed routine
abbrev pub sort_at : ClosedRoutine → Sort
sort_at routine = routine.sort

-- the sorts of all routines of a driver in which no routine is open
pub sorts_closed : {names : List (List ℕ)} {sorts : List Sort} {routines : List ClosedRoutine}
    {uses : ℕ} → RoutinesOrderly [] names sorts routines uses → map sort_at routines ≡ sorts
sorts_closed {routines = routines} h = sym (append-nil (map sort_at routines)) ∙ h.sorts_known

-- a label is one still when the routine of a call is known
labelled_still : (count : ℕ) (i : Instr) (f : Option ℕ) → LabelFits count i
    → LabelFits count (with_routine i f)
labelled_still count (Call r old) f h = tt
labelled_still count _ f h = h

-- and when its queue is known
label_queued : (count : ℕ) (i : Instr) (q : ℕ) → LabelFits count i
    → LabelFits count (with_queue i q)
label_queued count (Insert r old) q h = h
label_queued count _ q h = h

-- the operands of an instruction fit still when the routine of a call is known
operands_still : (i : Instr) (f : Option ℕ) → OperandFits i → OperandFits (with_routine i f)
operands_still (Call r old) f h = h
operands_still _ f h = h

operands_queued : (i : Instr) (q : ℕ) → OperandFits i → OperandFits (with_queue i q)
operands_queued (Insert r old) q h = h
operands_queued _ q h = h

-- so a closed routine fits when its driver is finished
finished_fits : (o : Outline) (uses : ℕ) (routine : ClosedRoutine) → ClosedFits uses routine
    → RoutineFits (finished o routine)
finished_fits o uses routine h =
    let same = length-map routine.code (called o) in
    let count = length (map (called o) routine.code) in
    record {
      few = omega (arith, same, h.few);
      labels = All-map (LabelFits count) (called o) routine.code (λ i d inside.
          let step = get_or routine.code i d in
          let numbered = with_routine step.instr (routine_called o step.call) in
          label_queued count numbered (queue_at o step.queue)
          (labelled_still count step.instr (routine_called o step.call)
          (subst (λ (k : ℕ). LabelFits k step.instr) (sym same) (h.labels i d inside))));
      operands = All-map OperandFits (called o) routine.code (λ i d inside.
          let step = get_or routine.code i d in
          operands_queued (with_routine step.instr (routine_called o step.call))
          (queue_at o step.queue)
          (operands_still step.instr (routine_called o step.call) (h.operands i d inside)));
    }

-- a routine's sort stays when its driver is finished
sort_stays : (P : Sort → Type 0) (o : Outline) (sort : Sort) (routine : Option ClosedRoutine)
    → option_map sort_at routine ≡ Some sort → P sort → HasSort P (option_map (finished o) routine)
sort_stays P o sort None is h = cc
sort_stays P o sort (Some routine) is h = let same : sort ≡ routine.sort = cc in subst P same h

sort_kept : (P : Sort → Type 0) (o : Outline) (number : ℕ) (sort : Sort)
    → map sort_at o.routines ≡ o.sorts → slice_get o.sorts number ≡ Some sort → P sort
    → HasSort P (slice_get (map (finished o) o.routines) number)
sort_kept P o number sort sorts is h =
    let here : option_map sort_at (slice_get o.routines number) ≡ Some sort =
    sym (slice_get-map sort_at o.routines number)
    ∙ ap (λ (all : List Sort). slice_get all number) sorts ∙ is in
    subst (HasSort P) (sym (slice_get-map (finished o) o.routines number))
    (sort_stays P o sort (slice_get o.routines number) here h)

-- a number that is given for a role is that of a routine of a sort for it
abbrev SortFor : Role → Sort → Type 0
SortFor Handler sort = IsDispatch sort
SortFor Completion sort = IsCompletion sort
SortFor StartIoRole sort = IsStartIo sort
SortFor DpcRole sort = IsDpc sort
SortFor CancelRole sort = IsCancel sort

number_has_sort : (o : Outline) (role : Role) (number : ℕ) (sort : Option Sort)
    → map sort_at o.routines ≡ o.sorts → slice_get o.sorts number ≡ sort
    → IfSome (number_for role number sort)
    (λ n. HasSort (SortFor role) (slice_get (map (finished o) o.routines) n))
number_has_sort o role number None sorts is = tt
number_has_sort o Handler number (Some Dispatch) sorts is =
    sort_kept IsDispatch o number Dispatch sorts is tt
number_has_sort o Handler number (Some _) sorts is = tt
number_has_sort o Completion number (Some Propagate) sorts is =
    sort_kept IsCompletion o number Propagate sorts is tt
number_has_sort o Completion number (Some Hold) sorts is =
    sort_kept IsCompletion o number Hold sorts is tt
number_has_sort o Completion number (Some _) sorts is = tt
number_has_sort o StartIoRole number (Some StartIo) sorts is =
    sort_kept IsStartIo o number StartIo sorts is tt
number_has_sort o StartIoRole number (Some _) sorts is = tt
number_has_sort o DpcRole number (Some Dpc) sorts is =
    sort_kept IsDpc o number Dpc sorts is tt
number_has_sort o DpcRole number (Some _) sorts is = tt
number_has_sort o CancelRole number (Some Cancel) sorts is =
    sort_kept IsCancel o number Cancel sorts is tt
number_has_sort o CancelRole number (Some _) sorts is = tt

named_has_sort : (o : Outline) (role : Role) (number : Option ℕ) → map sort_at o.routines ≡ o.sorts
    → IfSome (option_and_then (λ n. number_for role n (slice_get o.sorts n)) number)
    (λ n. HasSort (SortFor role) (slice_get (map (finished o) o.routines) n))
named_has_sort o role None sorts = tt
named_has_sort o role (Some n) sorts = number_has_sort o role n (slice_get o.sorts n) sorts refl

-- so a table entry, or the routine of a call, is of a sort for its role
entry_fits : (o : Outline) (role : Role) (u : Option Use) → map sort_at o.routines ≡ o.sorts
    → IfSome (entry_in o.routine_names o.sorts role u)
    (λ n. HasSort (SortFor role) (slice_get (map (finished o) o.routines) n))
entry_fits o role None sorts = tt
entry_fits o role (Some u) sorts = named_has_sort o role (number_of o.routine_names u.name) sorts

call_fits : (o : Outline) (i : Instr) (f : Option ℕ)
    → IfSome f (λ n. HasSort IsCompletion (slice_get (map (finished o) o.routines) n))
    → CallFits (map (finished o) o.routines) (with_routine i f)
call_fits o (Call r old) f h = h
call_fits o _ f h = tt

call_queued : (routines : List Routine) (i : Instr) (q : ℕ) → CallFits routines i
    → CallFits routines (with_queue i q)
call_queued routines (Insert r old) q h = h
call_queued routines _ q h = h

calls_fit : (o : Outline) (routine : ClosedRoutine) → map sort_at o.routines ≡ o.sorts
    → CallsFit (map (finished o) o.routines) (finished o routine)
calls_fit o routine sorts = All-map (CallFits (map (finished o) o.routines)) (called o) routine.code
    (λ i d inside.
    let step = get_or routine.code i d in
    call_queued (map (finished o) o.routines) (with_routine step.instr (routine_called o step.call))
    (queue_at o step.queue)
    (call_fits o step.instr (routine_called o step.call)
    (entry_fits o Completion (option_and_then (λ place. slice_get o.calls place) step.call) sorts)))

place_within : (o : Outline) (place : ℕ) → missed_queue o ≡ None → place < length o.queue_uses
    → queue_at o (Some place) < length o.queue_names
place_within o place known inside =
    let used = use_known o.queue_names None o.queue_uses place known inside in
    rw used.1 (number_within o.queue_names used.0.name used.2)

-- the number of a queue that an instruction names is below the count of queues
queue_below : (o : Outline) (named place : Option ℕ) (queues : ℕ)
    → queues ≡ length o.queue_names → missed_queue o ≡ None
    → IsUse (length o.queue_uses) named place → IfSome named (λ old. queue_at o place < queues)
queue_below o None place queues count known used = tt
queue_below o (Some old) None queues count known used = absurd used
queue_below o (Some old) (Some place) queues count known used =
    let within = place_within o place known used in omega (arith, within, count)

queue_fits : (count : ℕ) (i : Instr) (q : ℕ) → IfSome (queue_named i) (λ old. q < count)
    → QueueFits count (with_queue i q)
queue_fits count (Insert r old) q h = h
queue_fits count _ q h = assumption h

-- an instruction names the same queue when the routine of a call is known
queue_still : (i : Instr) (f : Option ℕ) → queue_named (with_routine i f) ≡ queue_named i
queue_still (Call r old) f = refl
queue_still _ f = refl

queues_fit : (o : Outline) (routine : ClosedRoutine) (queues : ℕ)
    → queues ≡ length o.queue_names → missed_queue o ≡ None
    → ClosedFits (length o.queue_uses) routine → QueuesFit queues (finished o routine)
queues_fit o routine queues count known h =
    All-map (QueueFits queues) (called o) routine.code (λ i d inside.
    let step = get_or routine.code i d in
    let numbered = with_routine step.instr (routine_called o step.call) in
    let below = queue_below o (queue_named step.instr) step.queue queues count known
    (h.queues i d inside) in
    queue_fits queues numbered (queue_at o step.queue)
    (subst (λ (named : Option ℕ). IfSome named (λ old. queue_at o step.queue < queues))
    (sym (queue_still step.instr (routine_called o step.call))) below))

-- no routine is missed, so none of a `startio` line is
startio_known : (o : Outline) → missed_routine o ≡ None
    → missed_startio o.routine_names o.sorts o.startio ≡ None
startio_known o known =
    let names = o.routine_names in
    let sorts = o.sorts in
    let read = missed_entry names sorts Handler o.read in
    let write = missed_entry names sorts Handler o.write in
    let control = missed_entry names sorts Handler o.control in
    let startio = missed_startio names sorts o.startio in
    let dpc = missed_entry names sorts DpcRole o.dpc in
    let server = neither (missed_calls names sorts None o.calls) (missed_server names sorts o)
    known in
    let table = neither (missed_cancels names sorts None o.queues) (missed_handler names sorts o)
    server.1 in
    let first = neither read (earliest write (earliest control (earliest startio dpc))) table.1 in
    let second = neither write (earliest control (earliest startio dpc)) first.1 in
    let third = neither control (earliest startio dpc) second.1 in
    (neither startio dpc third.1).0

-- the cancel routine of the device queue fits, where the StartIo routine isn't missed
waiting_with : (o : Outline) (line : ℕ) (startio cancel : Option ℕ)
    → IfSome cancel (λ n. HasSort IsCancel (slice_get (map (finished o) o.routines) n))
    → (if is_some startio then None else Some line) ≡ None
    → WaitingFits (map (finished o) o.routines) startio cancel
waiting_with o line None cancel fits known = cc
waiting_with o line (Some n) None fits known = tt
waiting_with o line (Some n) (Some number) fits known = fits

waiting_fits : (o : Outline) (l : Option StartIoLine) → map sort_at o.routines ≡ o.sorts
    → missed_startio o.routine_names o.sorts l ≡ None
    → WaitingFits (map (finished o) o.routines)
    (entry_in o.routine_names o.sorts StartIoRole (startio_named l))
    (entry_in o.routine_names o.sorts CancelRole (waiting_named l))
waiting_fits o None sorts known = tt
waiting_fits o (Some l) sorts known =
    let names = o.routine_names in
    let there = neither (missed_use names o.sorts StartIoRole l.routine)
    (missed_entry names o.sorts CancelRole l.cancel) known in
    waiting_with o l.routine.line (routine_named names o.sorts StartIoRole l.routine.name)
    (entry_in names o.sorts CancelRole l.cancel) (entry_fits o CancelRole l.cancel sorts) there.0

pub finished_driver_fits : (o : Outline) → missed_queue o ≡ None → missed_routine o ≡ None
    → RoutinesOrderly [] o.routine_names o.sorts o.routines (length o.queue_uses)
    → QueuesOrderly o.queue_names o.queues → DriverFits (finished_driver o)
finished_driver_fits o known named h queued =
    let sorts = sorts_closed h in
    let count = length-map o.routines (finished o) in
    let queues = length (map (finished_queue o) o.queues) in
    let all : queues ≡ length o.queue_names =
    length-map o.queues (finished_queue o) ∙ queued.count in
    record {
      few = omega (arith, count, h.count, h.few);
      routines = All-map RoutineFits (finished o) o.routines
          (λ i d inside. finished_fits o (length o.queue_uses) (get_or o.routines i d)
          (h.fit i d inside));
      read = entry_fits o Handler o.read sorts;
      write = entry_fits o Handler o.write sorts;
      control = entry_fits o Handler o.control sorts;
      startio = entry_fits o StartIoRole (startio_named o.startio) sorts;
      waiting = waiting_fits o o.startio sorts (startio_known o named);
      dpc = entry_fits o DpcRole o.dpc sorts;
      calls = All-map (CallsFit (map (finished o) o.routines)) (finished o) o.routines
          (λ i d inside. calls_fit o (get_or o.routines i d) sorts);
      few_queues = omega (arith, queued.few, all);
      guards = All-map GuardFits (finished_queue o) o.queues queued.guards;
      cancels = All-map (CancelFits (map (finished o) o.routines)) (finished_queue o) o.queues
          (λ i d inside. entry_fits o CancelRole (get_or o.queues i d).cancel sorts);
      queues = All-map (QueuesFit queues) (finished o) o.routines
          (λ i d inside. queues_fit o (get_or o.routines i d) queues all known
          (h.fit i d inside));
    }
