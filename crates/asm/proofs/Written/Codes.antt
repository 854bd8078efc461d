-- All drivers: those that were read, and those on the lines that are left.
use Rattle.std.proofs.Common.{◌≡◌, ℕ, List, [], ◌∷◌, ◌++◌, length, Option, Some, None}
use Rattle.std.specs.Prelude.{map, slice_get, unwrap_or, option_and_then, option_to_list}
use Rattle.model.specs.declared.instr.Instr.{Instr}
use Rattle.model.specs.declared.set.Driver.{Driver}
use Rattle.model.specs.declared.set.Queue.{Queue}
use Rattle.model.specs.declared.set.Routine.{Routine}
use Rattle.model.specs.declared.status.Major.TheVariants.{Read, Write, Control}
use Rattle.asm_line.specs.declared.line.Body.{Body}
use Rattle.asm_line.specs.declared.line.Body.TheVariants.{Step as TakeStep}
use Rattle.asm_line.specs.declared.line.Line.{Line}
use Rattle.asm.specs.declared.roles.Role.TheVariants.{Handler, Completion, StartIo, Dpc, Cancel}
use Rattle.asm.specs.declared.draft.ClosedRoutine.{ClosedRoutine}
use Rattle.asm.specs.declared.draft.Linked.{Linked}
use Rattle.asm.specs.declared.draft.Place.{Place}
use Rattle.asm.specs.declared.draft.Place.TheVariants.{Outside, InDriver, InRoutine}
use Rattle.asm.specs.declared.draft.QueueLine.{QueueLine}
use Rattle.asm.specs.declared.names.Use.{Use}
use Rattle.asm.specs.Outline.{Outline, entry_in, label_resolved, startio_named, waiting_named}
use Rattle.asm.specs.Names.{number_of, routine_named, Inventory}
use Rattle.asm.specs.Parts.{closes_driver, closes_routine, dpc_on, handler_on, place_next, queue_on, routine_on, said, sort_on, startio_on, up_to, waiting_on}
use Rattle.asm.specs.Said.{added_queue, drivers_on, first_in, routines_on, with_queue, with_routine}
use Rattle.asm.proofs.Written.Labels.{labels_in, positions_in, linked_lines}

-- the routines that calls name on lines of a driver
abbrev called_ahead : Body → List (List ℕ) → List (List ℕ)
called_ahead (TakeStep instr used) after = option_to_list used.routine ++ after
called_ahead _ after = after

abbrev pub calls_ahead : List Line → List (List ℕ)
calls_ahead [] = []
calls_ahead (l ∷ ls) = called_ahead l.body (calls_ahead ls)

-- the queues that instructions name on lines of a driver
abbrev used_ahead : Body → List (List ℕ) → List (List ℕ)
used_ahead (TakeStep instr used) after = option_to_list used.queue ++ after
used_ahead _ after = after

abbrev pub uses_ahead : List Line → List (List ℕ)
uses_ahead [] = []
uses_ahead (l ∷ ls) = used_ahead l.body (uses_ahead ls)

-- the open driver as it is when it is closed: what it has, the routines that its calls name, and
-- the queues that its instructions name
pub record Whole : Type 0 where
  pub has : Inventory
  pub calls : List (List ℕ)
  pub uses : List (List ℕ)

abbrev pub name_of : Use → List ℕ
name_of u = u.name

abbrev pub whole : Outline → List Line → Whole
whole o ls = record {
  has = record {
    routines = o.routine_names ++ said routine_on ls;
    sorts = o.sorts ++ said sort_on ls;
    queues = o.queue_names ++ said queue_on ls;
  };
  calls = map name_of o.calls ++ calls_ahead ls;
  uses = map name_of o.queue_uses ++ uses_ahead ls;
}

-- what the open driver has so far
abbrev pub whole_now : Outline → Whole
whole_now o = record {
  has = record { routines = o.routine_names; sorts = o.sorts; queues = o.queue_names };
  calls = map name_of o.calls;
  uses = map name_of o.queue_uses;
}

-- the number of the routine that the call of a place sets
abbrev pub number_called : Whole → Option ℕ → Option ℕ
number_called w call =
    option_and_then (λ name. routine_named w.has.routines w.has.sorts Completion name)
    (option_and_then (λ place. slice_get w.calls place) call)

-- the number of the queue that the instruction of a place touches
abbrev pub number_touched : Whole → Option ℕ → ℕ
number_touched w touch =
    unwrap_or (option_and_then (λ name. number_of w.has.queues name)
    (option_and_then (λ place. slice_get w.uses place) touch)) 0

abbrev pub finish : Whole → Linked → Instr
finish w step =
    with_queue (with_routine step.instr (number_called w step.call)) (number_touched w step.queue)

abbrev pub closed : Whole → ClosedRoutine → Routine
closed w r = record { sort = r.sort; code = map (finish w) r.code }

abbrev pub finish_queue : Inventory → QueueLine → Queue
finish_queue has q =
    record { guard = q.guard; cancel = entry_in has.routines has.sorts Cancel q.cancel }

-- the name that is used, if there is one
abbrev pub names_used : Option Use → List (List ℕ)
names_used None = []
names_used (Some u) = u.name ∷ []

-- the code of the open routine, of which these lines are left
abbrev pub open_code : Outline → Whole → List Line → List Instr
open_code o w ls =
    map (finish w)
    (map (label_resolved (o.labels ++ labels_in ls)
    (o.positions ++ positions_in (length o.steps) ls)) o.steps)
    ++ linked_lines w.has (o.labels ++ labels_in ls)
    (o.positions ++ positions_in (length o.steps) ls) ls

-- the open driver, with these routines: what was read, and what stands on the lines that are left
abbrev pub driver_with : Outline → Whole → List Line → List Routine → Driver
driver_with o w ls routines = record {
  routines = routines;
  queues = map (finish_queue w.has) o.queues ++ said (added_queue w.has) ls;
  read = first_in w.has Handler (names_used o.read ++ said (handler_on Read) ls);
  write = first_in w.has Handler (names_used o.write ++ said (handler_on Write) ls);
  control = first_in w.has Handler (names_used o.control ++ said (handler_on Control) ls);
  startio = first_in w.has StartIo (names_used (startio_named o.startio) ++ said startio_on ls);
  startio_cancel =
      first_in w.has Cancel (names_used (waiting_named o.startio) ++ said waiting_on ls);
  dpc = first_in w.has Dpc (names_used o.dpc ++ said dpc_on ls);
}

abbrev pub driver_left : Outline → Whole → List Line → List Line → Driver
driver_left o w inside ls =
    driver_with o w inside (map (closed w) o.routines ++ routines_on w.has ls)

abbrev pub routine_left : Outline → Whole → List Instr → List Line → List Line → Driver
routine_left o w code inside ls = driver_with o w inside
    (map (closed w) o.routines ++ record { sort = o.sort; code = code } ∷ routines_on w.has ls)

-- all drivers, of which this is the open one
abbrev pub around : Outline → List Line → Driver → List Driver
around o ls driver = o.drivers ++ driver ∷ drivers_on ls

-- all drivers, where these lines of the open one are left
abbrev pub left_in : Outline → Place → List Line → List Line → List Driver
left_in o Outside inside ls = o.drivers ++ drivers_on ls
left_in o InDriver inside ls = around o ls (driver_left o (whole o inside) inside ls)
left_in o InRoutine inside ls = around o ls
    (routine_left o (whole o inside) (open_code o (whole o inside) (up_to closes_routine ls))
    inside ls)

abbrev pub left : Outline → Place → List Line → List Driver
left o p ls = left_in o p (up_to closes_driver ls) ls

-- the next outline says the same of all drivers
pub record Turn (o next : Outline) (p : Place) (label : Option (List ℕ)) (body : Body)
    (ls : List Line) : Type 0 where
  pub place : next.place ≡ place_next body p
  pub same : left o p (record { label = label; body = body } ∷ ls) ≡ left next (place_next body p)
      ls
