-- An outline is that of the lines behind it, so a line has the same fault after either.
use Rattle.std.proofs.Common.{◌≡◌, ℕ, ◌||◌, Bool, true, false, not, List, [], ◌∷◌, ◌++◌, length, Option, Some, None, refl, ap, ◌∙◌, arith, append-nil}
use Rattle.std.specs.Prelude.{bytes_eq, is_some, nat_lt, option_to_list, if◌then◌else◌}
use Rattle.std.specs.List.{cons_option, list_any}
use Rattle.std.proofs.lemmas.List.{length_push}
use Rattle.std.proofs.lemmas.List.Folds.{list_any-append}
use Rattle.model.specs.declared.instr.Instr.{Instr}
use Rattle.model.specs.declared.limits.TheConstants.{MAX_DEVICES, MAX_DRIVERS, MAX_INSTRUCTIONS, MAX_QUEUES, MAX_ROUTINES}
use Rattle.model.specs.declared.set.Sort.{Sort}
use Rattle.model.specs.declared.status.Major.{Major}
use Rattle.model.specs.declared.status.Major.TheVariants.{Read, Write, Control}
use Rattle.asm_line.specs.declared.line.Body.{Body}
use Rattle.asm_line.specs.declared.line.Body.TheVariants.{Blank, OpenDriver, CloseDriver, AddQueue, Handle, HandleStartIo, HandleDpc, OpenRoutine, CloseRoutine, AddDevice, Step as TakeStep}
use Rattle.asm_line.specs.declared.line.Line.{Line}
use Rattle.asm_line.specs.declared.line.UsedNames.{UsedNames}
use Rattle.asm.specs.declared.draft.Place.TheVariants.{Outside, InRoutine}
use Rattle.asm.specs.declared.draft.Step.{Step}
use Rattle.asm.specs.declared.names.Use.{Use}
use Rattle.asm.specs.declared.fault.AsmKind.TheVariants.{UnknownWord, DuplicateName, OutOfRange, OverLimit}
use Rattle.asm.specs.Outline as outline
use Rattle.asm.specs.Outline.{Outline, nothing_read, noted, handled, stepped, used_at, draft_has_room, draft_is_again, draft_misfit}
use Rattle.asm.specs.Names.{is_among}
use Rattle.asm.specs.Parts.{device_on, dpc_on, driver_on, handler_on, labels_on, opens_driver, opens_routine, place_after, queue_on, routine_on, said, startio_on, step_on, up_to}
use Rattle.asm.specs.Faults.{has_any, has_room, is_again, is_out_of_range, misfit, stands}
use Rattle.asm.proofs.Added.{added_step}
use Rattle.asm.proofs.Fitting.{never_in, only_in_routine, only_outside}
use Rattle.asm.proofs.Tidy.{IsTidy}

-- the same names, in whatever order
pub record Alike (xs ys : List (List ℕ)) : Type 0 where
  pub among : (name : List ℕ) → is_among xs name ≡ is_among ys name
  pub count : length xs ≡ length ys

turned : (a b : Bool) → (a || (b || false)) ≡ (b || a)
turned true true = refl
turned true false = refl
turned false true = refl
turned false false = refl

pub none_alike : Alike [] []
none_alike = record { among = λ name. refl; count = refl }

pub more_alike : (xs ys : List (List ℕ)) (name : List ℕ) → Alike xs ys
    → Alike (xs ++ name ∷ []) (name ∷ ys)
more_alike xs ys name h = record {
  among = λ other.
      list_any-append (bytes_eq other) xs (name ∷ [])
      ∙ turned (list_any (bytes_eq other) xs) (bytes_eq other name)
      ∙ ap (λ (b : Bool). bytes_eq other name || b) (h.among other);
  count = omega (arith, length_push xs name, h.count);
}

none_there : (xs : List (List ℕ)) → xs ≡ [] → Alike xs []
none_there xs is = rw is none_alike

-- the open driver is that of these lines, and the open routine
abbrev pub DriverBehind : Outline → List Line → Type 0
DriverBehind o ls = record {
  routines : Alike o.routine_names (said routine_on ls);
  queues : Alike o.queue_names (said queue_on ls);
  read : is_some o.read ≡ has_any (said (handler_on Read) ls);
  write : is_some o.write ≡ has_any (said (handler_on Write) ls);
  control : is_some o.control ≡ has_any (said (handler_on Control) ls);
  startio : is_some o.startio ≡ has_any (said startio_on ls);
  dpc : is_some o.dpc ≡ has_any (said dpc_on ls);
}

abbrev pub RoutineBehind : Outline → List Line → Type 0
RoutineBehind o ls = record {
  labels : Alike o.labels (labels_on ls);
  steps : length o.steps ≡ length (said step_on ls);
}

pub record IsBehind (o : Outline) (before : List Line) : Type 0 where
  pub place : o.place ≡ place_after before
  pub drivers : Alike o.driver_names (said driver_on before)
  pub devices : Alike o.device_names (said device_on before)
  pub driver : (o.place ≡ Outside → ⊥) → DriverBehind o (up_to opens_driver before)
  pub routine : o.place ≡ InRoutine → RoutineBehind o (up_to opens_routine before)

pub nothing_behind : IsBehind nothing_read []
nothing_behind = record {
  place = refl;
  drivers = none_alike;
  devices = none_alike;
  driver = λ inside. absurd (inside refl);
  routine = λ is. cc;
}

abbrev line : Option (List ℕ) → Body → Line
line label body = record { label = label; body = body }

-- a driver that is opened, and a routine
driver_opened_behind : (o : Outline) (name : List ℕ) (label : Option (List ℕ)) (before : List Line)
    → stands o.place (OpenDriver name) ≡ true → IsTidy o → IsBehind o before
    → IsBehind (outline.driver_opened o name) (line label (OpenDriver name) ∷ before)
driver_opened_behind o name label before stood tidy h =
    let empty = tidy.outside (only_outside o.place (OpenDriver name) refl refl stood) in
    record {
      place = refl;
      drivers = more_alike o.driver_names (said driver_on before) name h.drivers;
      devices = h.devices;
      driver = λ inside. record {
        routines = none_there o.routine_names empty.names;
        queues = none_there o.queue_names empty.queues;
        read = ap is_some empty.read;
        write = ap is_some empty.write;
        control = ap is_some empty.control;
        startio = ap is_some empty.startio;
        dpc = ap is_some empty.dpc;
      };
      routine = λ is. cc;
    }

routine_opened_behind : (o : Outline) (name : List ℕ) (sort : Sort) (label : Option (List ℕ))
    (before : List Line) → stands o.place (OpenRoutine name sort) ≡ true → IsTidy o
    → IsBehind o before
    → IsBehind (outline.routine_opened o name sort) (line label (OpenRoutine name sort) ∷ before)
routine_opened_behind o name sort label before stood tidy h =
    let idle = tidy.idle (never_in InRoutine o.place (OpenRoutine name sort) refl stood) in
    let d = h.driver (never_in Outside o.place (OpenRoutine name sort) refl stood) in
    record {
      place = refl;
      drivers = h.drivers;
      devices = h.devices;
      driver = λ inside. record {
        routines = more_alike o.routine_names (said routine_on (up_to opens_driver before)) name
            d.routines;
        queues = d.queues;
        read = d.read;
        write = d.write;
        control = d.control;
        startio = d.startio;
        dpc = d.dpc;
      };
      routine = λ is. record {
        labels = none_there o.labels idle.labels;
        steps = ap (λ (steps : List Step). length steps) idle.steps;
      };
    }

-- what an open driver gets
queue_added_behind : (o : Outline) (name : List ℕ) (guard : ℕ) (cancel : Option (List ℕ))
    (u : Option Use) (label : Option (List ℕ)) (before : List Line) → IsBehind o before
    → IsBehind (outline.queue_added o name guard u)
    (line label (AddQueue name (Some guard) cancel) ∷ before)
queue_added_behind o name guard cancel u label before h = record {
  place = h.place;
  drivers = h.drivers;
  devices = h.devices;
  driver = λ inside. let d = h.driver inside in record {
    routines = d.routines;
    queues = more_alike o.queue_names (said queue_on (up_to opens_driver before)) name d.queues;
    read = d.read;
    write = d.write;
    control = d.control;
    startio = d.startio;
    dpc = d.dpc;
  };
  routine = h.routine;
}

handled_behind : (o : Outline) (u : Use) (major : Major) (name : List ℕ) (label : Option (List ℕ))
    (before : List Line) → stands o.place (Handle major name) ≡ true → IsBehind o before
    → IsBehind (handled o u major) (line label (Handle major name) ∷ before)
handled_behind o u Read name label before stood h =
    let d = h.driver (never_in Outside o.place (Handle Read name) refl stood) in
    record {
      place = h.place;
      drivers = h.drivers;
      devices = h.devices;
      driver = λ inside. record {
        routines = d.routines;
        queues = d.queues;
        read = refl;
        write = d.write;
        control = d.control;
        startio = d.startio;
        dpc = d.dpc;
      };
      routine = λ is. absurd (never_in InRoutine o.place (Handle Read name) refl stood is);
    }
handled_behind o u Write name label before stood h =
    let d = h.driver (never_in Outside o.place (Handle Write name) refl stood) in
    record {
      place = h.place;
      drivers = h.drivers;
      devices = h.devices;
      driver = λ inside. record {
        routines = d.routines;
        queues = d.queues;
        read = d.read;
        write = refl;
        control = d.control;
        startio = d.startio;
        dpc = d.dpc;
      };
      routine = λ is. absurd (never_in InRoutine o.place (Handle Write name) refl stood is);
    }
handled_behind o u Control name label before stood h =
    let d = h.driver (never_in Outside o.place (Handle Control name) refl stood) in
    record {
      place = h.place;
      drivers = h.drivers;
      devices = h.devices;
      driver = λ inside. record {
        routines = d.routines;
        queues = d.queues;
        read = d.read;
        write = d.write;
        control = refl;
        startio = d.startio;
        dpc = d.dpc;
      };
      routine = λ is. absurd (never_in InRoutine o.place (Handle Control name) refl stood is);
    }

startio_behind : (o : Outline) (u : Use) (v : Option Use) (name : List ℕ) (cancel : Option (List ℕ))
    (label : Option (List ℕ)) (before : List Line) → IsBehind o before
    → IsBehind (outline.startio_handled o u v) (line label (HandleStartIo name cancel) ∷ before)
startio_behind o u v name cancel label before h = record {
  place = h.place;
  drivers = h.drivers;
  devices = h.devices;
  driver = λ inside. let d = h.driver inside in record {
    routines = d.routines;
    queues = d.queues;
    read = d.read;
    write = d.write;
    control = d.control;
    startio = refl;
    dpc = d.dpc;
  };
  routine = h.routine;
}

dpc_behind : (o : Outline) (u : Use) (name : List ℕ) (label : Option (List ℕ))
    (before : List Line) → IsBehind o before
    → IsBehind (outline.dpc_handled o u) (line label (HandleDpc name) ∷ before)
dpc_behind o u name label before h = record {
  place = h.place;
  drivers = h.drivers;
  devices = h.devices;
  driver = λ inside. let d = h.driver inside in record {
    routines = d.routines;
    queues = d.queues;
    read = d.read;
    write = d.write;
    control = d.control;
    startio = d.startio;
    dpc = refl;
  };
  routine = h.routine;
}

-- what an open routine gets
labelled_behind : (labels ahead : List (List ℕ)) (label : Option (List ℕ)) → Alike labels ahead
    → Alike (labels ++ option_to_list label) (cons_option label ahead)
labelled_behind labels ahead None h = rw (append-nil labels) h
labelled_behind labels ahead (Some name) h = more_alike labels ahead name h

step_behind : (o : Outline) (n : ℕ) (label : Option (List ℕ)) (i : Instr) (used : UsedNames)
    (before : List Line) → IsBehind o before
    → IsBehind (stepped o n label i used) (line label (TakeStep (Some i) used) ∷ before)
step_behind o n label i used before h = record {
  place = h.place;
  drivers = h.drivers;
  devices = h.devices;
  driver = h.driver;
  routine = λ is. let r = h.routine is in record {
    labels = labelled_behind o.labels (labels_on (up_to opens_routine before)) label r.labels;
    steps = omega (arith, length_push o.steps (added_step o n i used), r.steps);
  };
}

-- each line leaves it so
pub behind_on : (o : Outline) (n : ℕ) (label : Option (List ℕ)) (body : Body) (before : List Line)
    → stands o.place body ≡ true → is_out_of_range body ≡ false → IsTidy o → IsBehind o before
    → IsBehind (noted o n label body) (line label body ∷ before)
behind_on o n label Blank before stood range tidy h = record {
  place = h.place;
  drivers = h.drivers;
  devices = h.devices;
  driver = h.driver;
  routine = h.routine;
}
behind_on o n label (OpenDriver name) before stood range tidy h =
    driver_opened_behind o name label before stood tidy h
behind_on o n label CloseDriver before stood range tidy h = record {
  place = refl;
  drivers = h.drivers;
  devices = h.devices;
  driver = λ inside. absurd (inside refl);
  routine = λ is. cc;
}
behind_on o n label (AddQueue name (Some guard) cancel) before stood range tidy h =
    queue_added_behind o name guard cancel (used_at n cancel) label before h
behind_on o n label (AddQueue name None cancel) before stood range tidy h = cc
behind_on o n label (Handle major name) before stood range tidy h =
    handled_behind o (record { line = n; name = name }) major name label before stood h
behind_on o n label (HandleStartIo name cancel) before stood range tidy h =
    startio_behind o (record { line = n; name = name }) (used_at n cancel) name cancel label before
    h
behind_on o n label (HandleDpc name) before stood range tidy h =
    dpc_behind o (record { line = n; name = name }) name label before h
behind_on o n label (OpenRoutine name sort) before stood range tidy h =
    routine_opened_behind o name sort label before stood tidy h
behind_on o n label CloseRoutine before stood range tidy h =
    let d = h.driver (never_in Outside o.place CloseRoutine refl stood) in
    record {
      place = refl;
      drivers = h.drivers;
      devices = h.devices;
      driver = λ inside. d;
      routine = λ is. cc;
    }
behind_on o n label (AddDevice name driver stack lower) before stood range tidy h = record {
  place = h.place;
  drivers = h.drivers;
  devices = more_alike o.device_names (said device_on before) name h.devices;
  driver = h.driver;
  routine = h.routine;
}
behind_on o n label (TakeStep (Some instr) used) before stood range tidy h =
    step_behind o n label instr used before h
behind_on o n label (TakeStep None used) before stood range tidy h = cc

-- a line that may stand there gives a name again after either, or has no room
again_same : (o : Outline) (label : Option (List ℕ)) (body : Body) (before : List Line)
    → stands o.place body ≡ true → IsBehind o before
    → draft_is_again o label body ≡ is_again before label body
again_same o label (OpenDriver name) before stood h = h.drivers.among name
again_same o label (AddQueue name guard cancel) before stood h =
    (h.driver (never_in Outside o.place (AddQueue name guard cancel) refl stood)).queues.among name
again_same o label (Handle Read name) before stood h =
    (h.driver (never_in Outside o.place (Handle Read name) refl stood)).read
again_same o label (Handle Write name) before stood h =
    (h.driver (never_in Outside o.place (Handle Write name) refl stood)).write
again_same o label (Handle Control name) before stood h =
    (h.driver (never_in Outside o.place (Handle Control name) refl stood)).control
again_same o label (HandleStartIo name cancel) before stood h =
    (h.driver (never_in Outside o.place (HandleStartIo name cancel) refl stood)).startio
again_same o label (HandleDpc name) before stood h =
    (h.driver (never_in Outside o.place (HandleDpc name) refl stood)).dpc
again_same o label (OpenRoutine name sort) before stood h =
    (h.driver (never_in Outside o.place (OpenRoutine name sort) refl stood)).routines.among name
again_same o label (AddDevice name driver stack lower) before stood h = h.devices.among name
again_same o None (TakeStep instr used) before stood h = refl
again_same o (Some label) (TakeStep instr used) before stood h =
    (h.routine (only_in_routine o.place (TakeStep instr used) refl refl stood)).labels.among label
again_same o label Blank before stood h = refl
again_same o label CloseDriver before stood h = refl
again_same o label CloseRoutine before stood h = refl

room_same : (o : Outline) (body : Body) (before : List Line)
    → stands o.place body ≡ true → IsBehind o before
    → draft_has_room o body ≡ has_room before body
room_same o (OpenDriver name) before stood h =
    ap (λ (n : ℕ). nat_lt n MAX_DRIVERS) h.drivers.count
room_same o (AddDevice name driver stack lower) before stood h =
    ap (λ (n : ℕ). nat_lt n MAX_DEVICES) h.devices.count
room_same o (AddQueue name guard cancel) before stood h =
    let d = h.driver (never_in Outside o.place (AddQueue name guard cancel) refl stood) in
    ap (λ (n : ℕ). nat_lt n MAX_QUEUES) d.queues.count
room_same o (OpenRoutine name sort) before stood h =
    let d = h.driver (never_in Outside o.place (OpenRoutine name sort) refl stood) in
    ap (λ (n : ℕ). nat_lt n MAX_ROUTINES) d.routines.count
room_same o (TakeStep instr used) before stood h =
    let r = h.routine (only_in_routine o.place (TakeStep instr used) refl refl stood) in
    ap (λ (n : ℕ). nat_lt n MAX_INSTRUCTIONS) r.steps
room_same o _ before stood h = refl

chosen_alike : (a b c d again room : Bool) → (a ≡ true → b ≡ again) → (a ≡ true → d ≡ room)
    → (if not a then Some UnknownWord
    else (if b then Some DuplicateName
    else (if c then Some OutOfRange else (if not d then Some OverLimit else None))))
    ≡ (if not a then Some UnknownWord
    else (if again then Some DuplicateName
    else (if c then Some OutOfRange else (if not room then Some OverLimit else None))))
chosen_alike false b c d again room same like = refl
chosen_alike true b c d again room same like = rw (same refl, like refl) refl

pub misfit_same : (o : Outline) (before : List Line) (l : Line) → IsBehind o before
    → draft_misfit o l ≡ misfit before l
misfit_same o before l h =
    rw (← h.place) (chosen_alike (stands o.place l.body) (draft_is_again o l.label l.body)
    (is_out_of_range l.body) (draft_has_room o l.body) (is_again before l.label l.body)
    (has_room before l.body) (λ stood. again_same o l.label l.body before stood h)
    (λ stood. room_same o l.body before stood h))
