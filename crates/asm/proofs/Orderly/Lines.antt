-- A line without a fault keeps what was read within the limits.
use Rattle.std.proofs.Common.{◌≡◌, ℕ, ◌<◌, ◌≤◌, true, false, List, [], ◌∷◌, ◌++◌, length, Option, Some, None, get_or, refl, sym, ◌∙◌, ap, subst, arith, length-append, append-nil}
use Rattle.std.specs.Prelude.{All, map, option_to_list, option_map}
use Rattle.std.proofs.lemmas.List.Elements.{All-push, All-append, All-nil}
use Rattle.std.proofs.lemmas.List.{length_push, map_push}
use Rattle.std.proofs.lemmas.Bool.{ltb-true, not-false}
use Rattle.model.specs.Sound.{DriverFits, DevicesFit, IsSpinLock, OperandFits, queue_named, IsSound}
use Rattle.model.specs.declared.status.Major.{Major}
use Rattle.model.specs.declared.status.Major.TheVariants.{Read, Write, Control}
use Rattle.model.specs.declared.set.Sort.{Sort}
use Rattle.model.specs.declared.instr.Instr.{Instr}
use Rattle.model.specs.declared.limits.TheConstants.{MAX_DEVICES, MAX_DRIVERS, MAX_INSTRUCTIONS, MAX_QUEUES, MAX_ROUTINES}
use Rattle.asm.specs.declared.draft.Place.{Place}
use Rattle.asm.specs.declared.draft.Place.TheVariants.{Outside, InDriver, InRoutine}
use Rattle.asm.specs.declared.draft.ClosedRoutine.{ClosedRoutine}
use Rattle.asm.specs.declared.draft.QueueLine.{QueueLine}
use Rattle.asm.specs.declared.draft.StartIoLine.{StartIoLine}
use Rattle.asm.specs.declared.draft.Step.{Step}
use Rattle.asm.specs.declared.names.Use.{Use}
use Rattle.asm_line.specs.declared.line.Body.{Body}
use Rattle.asm_line.specs.declared.line.Body.TheVariants.{Blank, OpenDriver, CloseDriver, AddQueue, Handle, HandleStartIo, HandleDpc, OpenRoutine, CloseRoutine, AddDevice, Step as TakeStep}
use Rattle.asm_line.specs.declared.line.Line.{Line}
use Rattle.asm_line.specs.declared.line.UsedNames.{UsedNames}
use Rattle.asm_line.specs.Line.{BodyFits, IsNoted, QueueNoted}
use Rattle.asm.specs.Outline.{Outline, label_added, nothing_read, use_place, label_resolved, used_at, stands, is_out_of_range, is_stack_size, draft_has_room, noted, finished_driver, missed, missed_in_driver, missed_queue, missed_routine, queue_added, earliest, driver_opened, driver_closed, handled, routine_opened, routine_closed, device_added, stepped, ClosedFits, IsFitting, IsOrderly, IsUse, OrderlyAt, QueueUsed}
use Rattle.asm.proofs.Fitting.{only_outside, only_in_driver, only_in_routine}
use Rattle.asm.proofs.Added.{with_entries, added_step}
use Rattle.asm.proofs.Orderly.Names.{neither, none_before}
use Rattle.asm.proofs.Orderly.Devices.{devices_stay, added_known}
use Rattle.asm.proofs.Orderly.ClosedRoutines.{closed_fits, use_stays, closed_stays}
use Rattle.asm.proofs.Orderly.ClosedDrivers.{sort_at, sorts_closed, finished_driver_fits}

-- the guard of a queue is a spin lock
abbrev GuardIs : QueueLine → Type 0
GuardIs queue = IsSpinLock queue.guard

-- a line's place tells what is open there
orderly_at : (o : Outline) (place : Place) → o.place ≡ place → IsOrderly o → OrderlyAt place o
orderly_at o place is h = subst (λ (p : Place). OrderlyAt p o) is h

driver_opened_orderly : (o : Outline) (name : List ℕ) → stands o.place (OpenDriver name) ≡ true
    → length o.driver_names < MAX_DRIVERS → IsOrderly o → IsOrderly (driver_opened o name)
driver_opened_orderly o name place room h =
    let old = orderly_at o Outside (only_outside o.place (OpenDriver name) refl refl place) h in
    let more = length_push o.driver_names name in
    record {
      drivers = record {
        few = omega (arith, more);
        count = omega (arith, more, old.drivers.count);
        fit = old.drivers.fit;
      };
      devices = record {
        few = old.devices.few;
        known = λ known.
            let devices = old.devices.known known in
            record {
              count = devices.count;
              fit =
                  devices_stay (length o.driver_names) (length (o.driver_names ++ name ∷ [])) 0
                  o.devices (omega (arith, more)) devices.fit;
            };
      };
      routines = old.routines;
      queues = old.queues;
      steps = old.steps;
    }

driver_closed_orderly : (o : Outline) → stands o.place CloseDriver ≡ true → IsOrderly o
    → IsOrderly (driver_closed o)
driver_closed_orderly o place h =
    let old = orderly_at o InDriver (only_in_driver o.place CloseDriver refl refl place) h in
    let more = length_push o.drivers (finished_driver o) in
    record {
      drivers = record {
        few = old.drivers.few;
        count = omega (arith, more, old.drivers.count);
        fit = λ known.
            let both = neither o.unknown (missed_in_driver o) known in
            let missed = neither (missed_queue o) (missed_routine o) both.1 in
            All-push DriverFits o.drivers (finished_driver o) (old.drivers.fit both.0)
            (finished_driver_fits o missed.0 missed.1 old.routines old.queues);
      };
      devices = record {
        few = old.devices.few;
        known = λ known. old.devices.known (neither o.unknown (missed_in_driver o) known).0;
      };
      routines = record {
        few = omega arith;
        count = refl;
        sorts_known = refl;
        fit = All-nil (ClosedFits 0);
      };
      queues = record { few = omega arith; count = refl; guards = All-nil GuardIs };
      steps = record {
        few = old.steps.few;
        idle = old.steps.idle;
        positions_fit = old.steps.positions_fit;
        operands_fit = old.steps.operands_fit;
        queues_used =
            subst (λ (steps : List Step). All (λ (step : Step). QueueUsed 0 step.instr step.queue)
            steps) (sym (old.steps.idle refl))
            (All-nil (λ (step : Step). QueueUsed 0 step.instr step.queue));
      };
    }

-- a table entry changes nothing else
entries_orderly : (o : Outline) (read write control : Option Use) (startio : Option StartIoLine)
    (dpc : Option Use) → IsOrderly o → IsOrderly (with_entries o read write control startio dpc)
entries_orderly o read write control startio dpc h =
    record {
      drivers = h.drivers;
      devices = h.devices;
      routines = h.routines;
      queues = h.queues;
      steps = h.steps;
    }

handled_orderly : (o : Outline) (u : Use) (major : Major) → IsOrderly o
    → IsOrderly (handled o u major)
handled_orderly o u Read h = entries_orderly o (Some u) o.write o.control o.startio o.dpc h
handled_orderly o u Write h = entries_orderly o o.read (Some u) o.control o.startio o.dpc h
handled_orderly o u Control h = entries_orderly o o.read o.write (Some u) o.startio o.dpc h

-- a queue more
queue_added_orderly : (o : Outline) (name : List ℕ) (guard : ℕ) (cancel : Option Use)
    → length o.queue_names < MAX_QUEUES → IsSpinLock guard → IsOrderly o
    → IsOrderly (queue_added o name guard cancel)
queue_added_orderly o name guard cancel room fits h =
    let queue : QueueLine = record { guard = guard; cancel = cancel } in
    let more = length_push o.queue_names name in
    let longer = length_push o.queues queue in
    record {
      drivers = h.drivers;
      devices = h.devices;
      routines = h.routines;
      queues = record {
        few = omega (arith, more, room);
        count = omega (arith, more, longer, h.queues.count);
        guards = All-push GuardIs o.queues queue h.queues.guards fits;
      };
      steps = h.steps;
    }

routine_opened_orderly : (o : Outline) (name : List ℕ) (sort : Sort)
    → stands o.place (OpenRoutine name sort) ≡ true → length o.routine_names < MAX_ROUTINES
    → IsOrderly o → IsOrderly (routine_opened o name sort)
routine_opened_orderly o name sort place room h =
    let old = orderly_at o InDriver
    (only_in_driver o.place (OpenRoutine name sort) refl refl place) h in
    let more = length_push o.routine_names name in
    record {
      drivers = old.drivers;
      devices = old.devices;
      routines = record {
        few = omega (arith, more);
        count = omega (arith, more, old.routines.count);
        sorts_known = ap (λ (all : List Sort). all ++ sort ∷ []) (sorts_closed old.routines);
        fit = old.routines.fit;
      };
      queues = old.queues;
      steps = record {
        few = old.steps.few;
        idle = λ none. cc;
        positions_fit = old.steps.positions_fit;
        operands_fit = old.steps.operands_fit;
        queues_used = old.steps.queues_used;
      };
    }

routine_closed_orderly : (o : Outline) → stands o.place CloseRoutine ≡ true → IsOrderly o
    → IsOrderly (routine_closed o)
routine_closed_orderly o place h =
    let old = orderly_at o InRoutine (only_in_routine o.place CloseRoutine refl refl place) h in
    let closed : ClosedRoutine =
    record { sort = o.sort; code = map (label_resolved o.labels o.positions) o.steps } in
    let more = length_push o.routines closed in
    record {
      drivers = record {
        few = old.drivers.few;
        count = old.drivers.count;
        fit = λ known. old.drivers.fit (none_before o.labels o.unknown o.steps known);
      };
      devices = record {
        few = old.devices.few;
        known = λ known. old.devices.known (none_before o.labels o.unknown o.steps known);
      };
      routines = record {
        few = old.routines.few;
        count = omega (arith, more, old.routines.count);
        sorts_known =
            append-nil (map sort_at (o.routines ++ closed ∷ []))
            ∙ map_push sort_at o.routines closed
            ∙ old.routines.sorts_known;
        fit = All-push (ClosedFits (length o.queue_uses)) o.routines closed old.routines.fit
            (closed_fits o old.steps);
      };
      queues = old.queues;
      steps = record {
        few = omega arith;
        idle = λ none. refl;
        positions_fit = All-nil (λ p. p < 0);
        operands_fit = All-nil (λ (step : Step). OperandFits step.instr);
        queues_used =
            All-nil (λ (step : Step). QueueUsed (length o.queue_uses) step.instr step.queue);
      };
    }

device_added_orderly : (o : Outline) (name : List ℕ) (u : Use) (stack : ℕ) (lower : Option Use)
    → is_stack_size stack ≡ true → length o.device_names < MAX_DEVICES → IsOrderly o
    → IsOrderly (device_added o name u stack lower)
device_added_orderly o name u stack lower size room h =
    let more = length_push o.device_names name in
    record {
      drivers = record {
        few = h.drivers.few;
        count = h.drivers.count;
        fit = λ known.
            h.drivers.fit (neither o.unknown
            (earliest (missed o.driver_names (Some u)) (missed o.device_names lower)) known).0;
      };
      devices = record {
        few = omega (arith, more);
        known = added_known o name u stack lower size h.devices.known;
      };
      routines = h.routines;
      queues = h.queues;
      steps = h.steps;
    }

-- positions are below a greater count too
positions_stay : (m n : ℕ) (positions : List ℕ) → m ≤ n → All (λ p. p < m) positions
    → All (λ p. p < n) positions
positions_stay m n positions more fit = λ i p inside. let one =
    fit i p inside in omega (arith, one, more)

-- so is that of the label that is added
added_fits : (o : Outline) (label : Option (List ℕ)) (n : ℕ) → length o.steps < n
    → All (λ p. p < length o.steps) o.positions → All (λ p. p < n) (label_added o label).positions
added_fits o label n more h =
    let old = positions_stay (length o.steps) n o.positions (omega (arith, more)) h in
    All-append (λ p. p < n) o.positions
    (option_to_list (option_map (λ label. length o.steps) label)) old (one label)
  where
    one : (label : Option (List ℕ))
        → All (λ p. p < n) (option_to_list (option_map (λ label. length o.steps) label))
    one None = All-nil (λ p. p < n)
    one (Some label) = All-push (λ p. p < n) [] (length o.steps) (All-nil (λ p. p < n)) more

-- the use of a queue that is added is one of all
use_noted : (uses : List Use) (n : ℕ) (named : Option ℕ) (name : Option (List ℕ))
    → IsNoted named name
    → IsUse (length (uses ++ option_to_list (used_at n name))) named (use_place (length uses) name)
use_noted uses n None name h = tt
use_noted uses n (Some q) None h = absurd h
use_noted uses n (Some q) (Some name) h =
    let u : Use = record { line = n; name = name } in
    let more = length_push uses u in omega (arith, more)

uses_more : (uses added : List Use) → length uses ≤ length (uses ++ added)
uses_more uses added = let more = length-append uses added in omega (arith, more)

stepped_in_routine : (o : Outline) (n : ℕ) (label : Option (List ℕ)) (instr : Instr)
    (used : UsedNames) → length o.steps < MAX_INSTRUCTIONS → OperandFits instr
    → QueueNoted used instr → OrderlyAt InRoutine o
    → OrderlyAt InRoutine (stepped o n label instr used)
stepped_in_routine o n label instr used room operand noting h =
    let step = added_step o n instr used in
    let more = length_push o.steps step in
    let old = length o.queue_uses in
    let new = length (o.queue_uses ++ option_to_list (used_at n used.queue)) in
    let longer : old ≤ new = uses_more o.queue_uses (option_to_list (used_at n used.queue)) in
    record {
      drivers = h.drivers;
      devices = h.devices;
      routines = record {
        few = h.routines.few;
        count = h.routines.count;
        sorts_known = h.routines.sorts_known;
        fit = λ i d inside.
            closed_stays old new (get_or o.routines i d) longer (h.routines.fit i d inside);
      };
      queues = h.queues;
      steps = record {
        few = omega (arith, more);
        idle = λ none. cc;
        positions_fit = added_fits o label (length (o.steps ++ step ∷ [])) (omega (arith, more))
            h.steps.positions_fit;
        operands_fit = All-push (λ (step : Step). OperandFits step.instr) o.steps step
            h.steps.operands_fit operand;
        queues_used = All-push (λ (step : Step). QueueUsed new step.instr step.queue) o.steps step
            (λ i d inside.
            let one = get_or o.steps i d in
            use_stays old new (queue_named one.instr) one.queue longer
            (h.steps.queues_used i d inside))
            (use_noted o.queue_uses n (queue_named instr) used.queue noting);
      };
    }

stepped_orderly : (o : Outline) (n : ℕ) (label : Option (List ℕ)) (instr : Instr) (used : UsedNames)
    → stands o.place (TakeStep (Some instr) used) ≡ true → length o.steps < MAX_INSTRUCTIONS
    → OperandFits instr → QueueNoted used instr → IsOrderly o
    → IsOrderly (stepped o n label instr used)
stepped_orderly o n label instr used place room operand noting h =
    let here = only_in_routine o.place (TakeStep (Some instr) used) refl refl place in
    let old = orderly_at o InRoutine here h in
    subst (λ (p : Place). OrderlyAt p (stepped o n label instr used)) (sym here)
    (stepped_in_routine o n label instr used room operand noting old)

orderly_with : (o : Outline) (n : ℕ) (label : Option (List ℕ)) (body : Body)
    → stands o.place body ≡ true → is_out_of_range body ≡ false → draft_has_room o body ≡ true
    → BodyFits body
    → IsOrderly o → IsOrderly (noted o n label body)
orderly_with o n label Blank place size room operand h = h
orderly_with o n label (OpenDriver name) place size room operand h =
    driver_opened_orderly o name place (ltb-true (length o.driver_names) MAX_DRIVERS room) h
orderly_with o n label CloseDriver place size room operand h = driver_closed_orderly o place h
orderly_with o n label (Handle major routine) place size room operand h =
    handled_orderly o (record { line = n; name = routine }) major h
orderly_with o n label (AddQueue name (Some guard) cancel) place size room operand h =
    queue_added_orderly o name guard (used_at n cancel)
    (ltb-true (length o.queue_names) MAX_QUEUES room) operand h
orderly_with o n label (AddQueue name None cancel) place size room operand h = h
orderly_with o n label (HandleStartIo routine cancel) place size room operand h =
    let u : Use = record { line = n; name = routine } in
    let line : StartIoLine = record { routine = u; cancel = used_at n cancel } in
    entries_orderly o o.read o.write o.control (Some line) o.dpc h
orderly_with o n label (HandleDpc routine) place size room operand h =
    let u : Use = record { line = n; name = routine } in
    entries_orderly o o.read o.write o.control o.startio (Some u) h
orderly_with o n label (OpenRoutine name sort) place size room operand h =
    routine_opened_orderly o name sort place (ltb-true (length o.routine_names) MAX_ROUTINES room) h
orderly_with o n label CloseRoutine place size room operand h = routine_closed_orderly o place h
orderly_with o n label (AddDevice name driver stack lower) place size room operand h =
    device_added_orderly o name (record { line = n; name = driver }) stack (used_at n lower)
    (not-false (is_stack_size stack) size) (ltb-true (length o.device_names) MAX_DEVICES room) h
orderly_with o n label (TakeStep (Some instr) used) place size room operand h =
    stepped_orderly o n label instr used place (ltb-true (length o.steps) MAX_INSTRUCTIONS room)
    operand.0 operand.1 h
orderly_with o n label (TakeStep None used) place size room operand h = h

pub orderly_on : (o : Outline) (n : ℕ) (l : Line) → IsFitting o l → BodyFits l.body → IsOrderly o
    → IsOrderly (noted o n l.label l.body)
orderly_on o n l fits operand h =
    orderly_with o n l.label l.body fits.standing fits.in_range fits.room operand h

-- what was read is a set, where no driver is open and no name is unknown
pub sound : (o : Outline) → IsOrderly o → o.place ≡ Outside → o.unknown ≡ None
    → IsSound (record { drivers = o.drivers; devices = o.devices })
sound o h closed known =
    let at = orderly_at o Outside closed h in
    let same : length o.driver_names ≡ length o.drivers = omega (arith, at.drivers.count) in
    let devices = h.devices.known known in
    record {
      few_drivers = omega (arith, same, h.drivers.few);
      few_devices = omega (arith, devices.count, h.devices.few);
      drivers = h.drivers.fit known;
      devices = subst (λ (n : ℕ). DevicesFit n 0 o.devices) same devices.fit;
    }

-- where nothing was read
pub nothing_orderly : IsOrderly nothing_read
nothing_orderly =
    record {
      drivers = record { few = omega arith; count = refl; fit = λ known. All-nil DriverFits };
      devices = record {
        few = omega arith;
        known = λ known. record { count = refl; fit = tt };
      };
      routines = record {
        few = omega arith;
        count = refl;
        sorts_known = refl;
        fit = All-nil (ClosedFits 0);
      };
      queues = record { few = omega arith; count = refl; guards = All-nil GuardIs };
      steps = record {
        few = omega arith;
        idle = λ none. refl;
        positions_fit = All-nil _;
        operands_fit = All-nil _;
        queues_used = All-nil _;
      };
    }
