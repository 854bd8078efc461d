-- The lines of a routine: one that opens it, one that closes it, and its instructions.
use Rattle.std.proofs.Common.{◌≡◌, ℕ, ◌+◌, List, [], ◌∷◌, ◌++◌, length, Option, Some, None, refl, ap, sym, ◌∙◌, append_assoc, append-nil, length-append}
use Rattle.std.specs.Prelude.{map, slice_get, unwrap_or, option_map, option_and_then, option_to_list}
use Rattle.std.proofs.lemmas.List.{map-append, map_push}
use Rattle.model.specs.declared.instr.Instr.{Instr}
use Rattle.model.specs.declared.set.Routine.{Routine}
use Rattle.model.specs.declared.set.Sort.{Sort}
use Rattle.asm_line.specs.declared.line.Body.TheVariants.{OpenRoutine, CloseRoutine, Step as TakeStep}
use Rattle.asm_line.specs.declared.line.Line.{Line}
use Rattle.asm_line.specs.declared.line.UsedNames.{UsedNames}
use Rattle.asm.specs.declared.roles.Role.TheVariants.{Completion}
use Rattle.asm.specs.declared.draft.ClosedRoutine.{ClosedRoutine}
use Rattle.asm.specs.declared.draft.Place.TheVariants.{InDriver, InRoutine}
use Rattle.asm.specs.declared.names.Use.{Use}
use Rattle.asm.specs.Outline.{Outline, label_resolved, routine_closed, routine_opened, stepped, target_position, use_place, used_at}
use Rattle.asm.specs.Names.{number_in, number_of, routine_named, Inventory}
use Rattle.asm.specs.Parts.{closes_driver, closes_routine, routine_on, said, sort_on, up_to}
use Rattle.asm.specs.Said.{instruction_on, queue_number, routines_on, with_label, with_queue, with_routine}
use Rattle.asm.proofs.Added.{added_step}
use Rattle.asm.proofs.Written.Labels.{labels_in, positions_in, jump_to, linked_lines, all_linked}
use Rattle.asm.proofs.Written.Codes.{calls_ahead, uses_ahead, Whole, name_of, whole, number_called, number_touched, finish, closed, open_code, driver_with, routine_left, around, Turn}
use Rattle.asm.proofs.Tidy.{IsIdle}

-- a routine that is opened
fresh_code : (o : Outline) (w : Whole) (ls : List Line) → IsIdle o
    → open_code o w ls ≡ said (instruction_on w.has ls) ls
fresh_code o w ls idle =
    rw (idle.labels, idle.positions, idle.steps) (all_linked w.has ls ls)

whole_opened : (o : Outline) (name : List ℕ) (sort : Sort) (label : Option (List ℕ))
    (ls : List Line) → whole o (record { label = label; body = OpenRoutine name sort } ∷ ls)
    ≡ whole (routine_opened o name sort) ls
whole_opened o name sort label ls =
    rw (
      append_assoc o.routine_names (name ∷ []) (said routine_on ls),
      append_assoc o.sorts (sort ∷ []) (said sort_on ls),
    ) refl

-- a routine that is closed
closed_code : (o : Outline) (w : Whole)
    → open_code o w [] ≡ map (finish w) (map (label_resolved o.labels o.positions) o.steps)
closed_code o w =
    rw (append-nil o.labels, append-nil o.positions)
    (append-nil (map (finish w) (map (label_resolved o.labels o.positions) o.steps)))

-- the name in the place of the next call
next_name : (calls : List Use) (name : List ℕ) (after : List (List ℕ))
    → slice_get (map name_of calls ++ name ∷ after) (length calls) ≡ Some name
next_name [] name after = refl
next_name (u ∷ us) name after = next_name us name after

-- a routine with one instruction more
calls_noted : (calls : List Use) (n : ℕ) (routine : Option (List ℕ)) (after : List (List ℕ))
    → map name_of calls ++ (option_to_list routine ++ after)
    ≡ map name_of (calls ++ option_to_list (used_at n routine)) ++ after
calls_noted calls n None after = rw (append-nil calls) refl
calls_noted calls n (Some name) after =
    let u : Use = record { line = n; name = name } in
    rw (map-append name_of calls (u ∷ []), append_assoc (map name_of calls) (name ∷ []) after) refl

whole_stepped : (o : Outline) (n : ℕ) (label : Option (List ℕ)) (i : Instr) (used : UsedNames)
    (ls : List Line)
    → whole o (record { label = label; body = TakeStep (Some i) used } ∷ ls)
    ≡ whole (stepped o n label i used) ls
whole_stepped o n label i used ls =
    rw (
      calls_noted o.calls n used.routine (calls_ahead ls),
      calls_noted o.queue_uses n used.queue (uses_ahead ls),
    ) refl

-- the call of an instruction that is added has the number of the routine that it names
number_named : (calls : List Use) (has : Inventory) (uses : List (List ℕ))
    (routine : Option (List ℕ)) (after : List (List ℕ))
    → number_called
    (record {
      has = has;
      calls = map name_of calls ++ (option_to_list routine ++ after);
      uses = uses;
    })
    (use_place (length calls) routine)
    ≡ number_in has Completion routine
number_named calls has uses None after = refl
number_named calls has uses (Some name) after =
    ap (λ (found : Option (List ℕ)). option_and_then
    (λ name. routine_named has.routines has.sorts Completion name) found)
    (next_name calls name after)

-- and it has the number of the queue that it names
queue_noted : (uses : List Use) (has : Inventory) (calls : List (List ℕ)) (queue : Option (List ℕ))
    (after : List (List ℕ))
    → number_touched
    (record {
      has = has;
      calls = calls;
      uses = map name_of uses ++ (option_to_list queue ++ after);
    })
    (use_place (length uses) queue)
    ≡ queue_number has queue
queue_noted uses has calls None after = refl
queue_noted uses has calls (Some name) after =
    ap (λ (found : Option (List ℕ)). unwrap_or
    (option_and_then (λ name. number_of has.queues name) found) 0)
    (next_name uses name after)

jump_same : (labels : List (List ℕ)) (positions : List ℕ) (n : ℕ) (label : Option (List ℕ))
    → target_position labels positions (used_at n label) ≡ jump_to labels positions label
jump_same labels positions n None = refl
jump_same labels positions n (Some name) = refl

finished_same : (w : Whole) (labels : List (List ℕ)) (positions : List ℕ) (i : Instr) (n : ℕ)
    (used : UsedNames) (call queue : Option ℕ)
    → number_called w call ≡ number_in w.has Completion used.routine
    → number_touched w queue ≡ queue_number w.has used.queue
    → finish w (label_resolved labels positions
    (record { instr = i; label = used_at n used.label; call = call; queue = queue }))
    ≡ with_queue (with_routine (with_label i (jump_to labels positions used.label))
    (number_in w.has Completion used.routine)) (queue_number w.has used.queue)
finished_same w labels positions i n used call queue called touched =
    ap (λ (p : ℕ). with_queue (with_routine (with_label i p) (number_called w call))
    (number_touched w queue)) (jump_same labels positions n used.label)
    ∙ ap (λ (number : Option ℕ). with_queue (with_routine
    (with_label i (jump_to labels positions used.label)) number) (number_touched w queue)) called
    ∙ ap (λ (q : ℕ). with_queue (with_routine
    (with_label i (jump_to labels positions used.label)) (number_in w.has Completion used.routine)) q)
    touched

step_code : (o : Outline) (w : Whole) (n : ℕ) (label : Option (List ℕ)) (i : Instr)
    (used : UsedNames) (ls : List Line)
    → number_called w (use_place (length o.calls) used.routine) ≡ number_in w.has Completion used.routine
    → number_touched w (use_place (length o.queue_uses) used.queue) ≡ queue_number w.has used.queue
    → open_code o w (record { label = label; body = TakeStep (Some i) used } ∷ ls)
    ≡ open_code (stepped o n label i used) w ls
step_code o w n label i used ls called touched =
    let step = added_step o n i used in
    let new = option_to_list (option_map (λ (label : List ℕ). length o.steps) label) in
    let labels = o.labels ++ (option_to_list label ++ labels_in ls) in
    let positions = o.positions ++ (new ++ positions_in (length o.steps + 1) ls) in
    let rest = linked_lines w.has labels positions ls in
    rw (
      length-append o.steps (step ∷ []),
      append_assoc o.labels (option_to_list label) (labels_in ls),
      append_assoc o.positions new (positions_in (length o.steps + 1) ls),
      map_push (label_resolved labels positions) o.steps step,
      map_push (finish w) (map (label_resolved labels positions) o.steps)
          (label_resolved labels positions step),
      append_assoc (map (finish w) (map (label_resolved labels positions) o.steps))
          (finish w (label_resolved labels positions step) ∷ []) rest,
      finished_same w labels positions i n used (use_place (length o.calls) used.routine)
          (use_place (length o.queue_uses) used.queue) called touched,
    ) refl

pub step_turn : (o : Outline) (n : ℕ) (label : Option (List ℕ)) (i : Instr) (used : UsedNames)
    (ls : List Line) → o.place ≡ InRoutine
    → Turn o (stepped o n label i used) InRoutine label (TakeStep (Some i) used) ls
step_turn o n label i used ls at =
    let next = stepped o n label i used in
    let inside = up_to closes_driver ls in
    let old = whole o (record { label = label; body = TakeStep (Some i) used } ∷ inside) in
    let called = number_named o.calls old.has old.uses used.routine (calls_ahead inside) in
    let touched = queue_noted o.queue_uses old.has old.calls used.queue (uses_ahead inside) in
    record {
      place = at;
      same =
          ap (λ (code : List Instr). around o ls (routine_left o old code inside ls))
          (step_code o old n label i used (up_to closes_routine ls) called touched)
          ∙ ap (λ (w : Whole). around o ls
          (routine_left o w (open_code next w (up_to closes_routine ls)) inside ls))
          (whole_stepped o n label i used inside);
    }

pub routine_closed_turn : (o : Outline) (label : Option (List ℕ)) (ls : List Line)
    → Turn o (routine_closed o) InRoutine label CloseRoutine ls
routine_closed_turn o label ls =
    let inside = up_to closes_driver ls in
    let w = whole o inside in
    let last : ClosedRoutine =
    record { sort = o.sort; code = map (label_resolved o.labels o.positions) o.steps } in
    let after = routines_on w.has ls in
    let pushed : map (closed w) (o.routines ++ last ∷ []) ≡ map (closed w) o.routines
    ++ closed w last ∷ [] = map_push (closed w) o.routines last in
    record {
      place = refl;
      same =
          ap (λ (code : List Instr). around o ls (routine_left o w code inside ls)) (closed_code o w)
          ∙ ap (λ (routines : List Routine). around o ls (driver_with o w inside routines))
          (sym (ap (λ (routines : List Routine). routines ++ after) pushed
          ∙ append_assoc (map (closed w) o.routines) (closed w last ∷ []) after));
    }

pub routine_opened_turn : (o : Outline) (name : List ℕ) (sort : Sort) (label : Option (List ℕ))
    (ls : List Line) → IsIdle o
    → Turn o (routine_opened o name sort) InDriver label (OpenRoutine name sort) ls
routine_opened_turn o name sort label ls idle =
    let inside = up_to closes_driver ls in
    let next = routine_opened o name sort in
    let old = whole o (record { label = label; body = OpenRoutine name sort } ∷ inside) in
    record {
      place = refl;
      same =
          ap (λ (code : List Instr). around o ls (routine_left next old code inside ls))
          (sym (fresh_code next old (up_to closes_routine ls) idle))
          ∙ ap (λ (w : Whole). around o ls
          (routine_left next w (open_code next w (up_to closes_routine ls)) inside ls))
          (whole_opened o name sort label inside);
    }
