-- The unknown name that is found when routines and drivers are closed is that of the first line
-- that uses one.
use Rattle.std.proofs.Common.{◌≡◌, ℕ, ◌+◌, true, false, ◌&&◌, List, [], ◌∷◌, Option, Some, None, refl, ap, sym, ◌∙◌, append_assoc, append-nil}
use Rattle.std.specs.Prelude.{if◌then◌else◌}
use Rattle.model.specs.declared.set.Sort.{Sort}
use Rattle.asm.specs.declared.draft.Place.TheVariants.{Outside, InRoutine}
use Rattle.asm_line.specs.declared.line.Body.{Body}
use Rattle.asm_line.specs.declared.line.Body.TheVariants.{Blank, OpenDriver, CloseDriver, AddQueue, Handle, HandleStartIo, HandleDpc, OpenRoutine, CloseRoutine, AddDevice, Step as TakeStep}
use Rattle.asm_line.specs.declared.line.Line.{Line}
use Rattle.asm.specs.Outline.{Outline, nothing_read, device_added, driver_closed, driver_opened, earliest, draft_is_again, is_among, is_out_of_range, missed, noted, routine_closed, routine_opened, stands, used_at}
use Rattle.asm.proofs.Scopes.{nothing_named, is_known, labels_ahead, unknown_from, Reads}
use Rattle.asm.proofs.Unknown.Earliest.{earliest_none, earliest_assoc, earliest_swap, used_now, both_count}
use Rattle.asm.proofs.Unknown.Missed.{pending, jumping, missed_split, name_missed}
use Rattle.asm.proofs.Unknown.Turn.{pending_none, rest_later, Names, names_of, Around, scope_of, ahead_of, ahead_with, around_next, left, Turn}
use Rattle.asm.proofs.Fitting.{fitting, never_in, only_outside, only_in_routine}
use Rattle.asm.proofs.Tidy.{IsEmpty, IsIdle, IsTidy, nothing_tidy, tidy_on}
use Rattle.asm.proofs.Unknown.Instructions.{step_turn}
use Rattle.asm.proofs.Unknown.Entries.{handled_turn, startio_handled_turn, dpc_handled_turn, queue_added_turn}

routine_closed_turn : (o : Outline) (label : Option (List ℕ)) (here ahead : Names) (n : ℕ)
    (ls : List Line) → stands o.place CloseRoutine ≡ true
    → Around o.place (names_of o) here (ahead_with label CloseRoutine ahead)
    → Turn o (routine_closed o) here here ahead n CloseRoutine ls
routine_closed_turn o label here ahead n ls stood h =
    let at = only_in_routine o.place CloseRoutine refl refl stood in
    let labels : here.labels ≡ o.labels = h.busy at
    ∙ append-nil o.labels in
    let rest = unknown_from (scope_of o here) (n + 1) ls in
    let uses = pending here.queues here.routines here.sorts o in
    let jumps = jumping o.labels o.steps in
    record {
      around = record {
        inside = λ opened. h.inside (never_in Outside o.place CloseRoutine refl stood);
        sorted = λ opened. h.sorted (never_in Outside o.place CloseRoutine refl stood);
        queued = λ opened. h.queued (never_in Outside o.place CloseRoutine refl stood);
        busy = λ is. cc;
      };
      same =
          ap (λ (x : Option ℕ). earliest x (earliest uses rest))
          (missed_split o.labels o.unknown o.steps)
          ∙ earliest_assoc o.unknown jumps (earliest uses rest)
          ∙ ap (λ (x : Option ℕ). earliest o.unknown x) (earliest_swap jumps uses rest)
          ∙ ap (λ (names : List (List ℕ)). earliest o.unknown
          (earliest uses (earliest (jumping names o.steps) rest))) (sym labels);
    }

routine_opened_turn : (o : Outline) (name : List ℕ) (sort : Sort) (here ahead : Names)
    (labels : List (List ℕ)) (n : ℕ) (ls : List Line)
    → stands o.place (OpenRoutine name sort) ≡ true
    → IsIdle o
    → Around o.place (names_of o) here
    (record {
      routines = name ∷ ahead.routines;
      sorts = sort ∷ ahead.sorts;
      queues = ahead.queues;
      labels = labels;
    })
    → Turn o (routine_opened o name sort) here
    (record {
      routines = here.routines;
      sorts = here.sorts;
      queues = here.queues;
      labels = ahead.labels;
    }) ahead n
    (OpenRoutine name sort) ls
routine_opened_turn o name sort here ahead labels n ls stood idle h =
    record {
      around = record {
        inside = λ opened. h.inside (never_in Outside o.place (OpenRoutine name sort) refl stood)
            ∙ sym (append_assoc o.routine_names (name ∷ []) ahead.routines);
        sorted = λ opened. h.sorted (never_in Outside o.place (OpenRoutine name sort) refl stood)
            ∙ sym (append_assoc o.sorts (sort ∷ []) ahead.sorts);
        queued = λ opened. h.queued (never_in Outside o.place (OpenRoutine name sort) refl stood);
        busy = λ is. rw idle.labels refl;
      };
      same = rw idle.steps refl;
    }

driver_opened_turn : (o : Outline) (name : List ℕ) (here ahead old : Names) (n : ℕ) (ls : List Line)
    → IsEmpty o → IsIdle o
    → Around o.place (names_of o) here old
    → Turn o (driver_opened o name) here
    (record {
      routines = ahead.routines;
      sorts = ahead.sorts;
      queues = ahead.queues;
      labels = here.labels;
    }) ahead n
    (OpenDriver name) ls
driver_opened_turn o name here ahead old n ls empty idle h =
    record {
      around = record {
        inside = λ opened. rw empty.names refl;
        sorted = λ opened. rw empty.sorts refl;
        queued = λ opened. rw empty.queues refl;
        busy = λ is. cc;
      };
      same = rw (
        pending_none ahead.queues ahead.routines ahead.sorts o empty,
        pending_none here.queues here.routines here.sorts o empty,
        idle.steps,
      ) refl;
    }

driver_closed_turn : (o : Outline) (label : Option (List ℕ)) (here ahead : Names) (n : ℕ)
    (ls : List Line) → stands o.place CloseDriver ≡ true
    → IsIdle o
    → Around o.place (names_of o) here (ahead_with label CloseDriver ahead)
    → Turn o (driver_closed o) here here ahead n CloseDriver ls
driver_closed_turn o label here ahead n ls stood idle h =
    let names : here.routines ≡ o.routine_names =
    h.inside (never_in Outside o.place CloseDriver refl stood) ∙ append-nil o.routine_names in
    let sorts : here.sorts ≡ o.sorts = h.sorted (never_in Outside o.place CloseDriver refl stood)
    ∙ append-nil o.sorts in
    let queues : here.queues ≡ o.queue_names =
    h.queued (never_in Outside o.place CloseDriver refl stood) ∙ append-nil o.queue_names in
    let rest = unknown_from (scope_of o here) (n + 1) ls in
    record {
      around = record {
        inside = λ opened. absurd (opened refl);
        sorted = λ opened. absurd (opened refl);
        queued = λ opened. absurd (opened refl);
        busy = λ is. cc;
      };
      same = rw idle.steps (
          earliest_assoc o.unknown (pending o.queue_names o.routine_names o.sorts o) rest
          ∙ ap (λ (names : List (List ℕ)). earliest o.unknown
          (earliest (pending o.queue_names names o.sorts o) rest)) (sym names)
          ∙ ap (λ (sorts : List Sort). earliest o.unknown
          (earliest (pending o.queue_names here.routines sorts o) rest)) (sym sorts)
          ∙ ap (λ (queues : List (List ℕ)). earliest o.unknown
          (earliest (pending queues here.routines here.sorts o) rest)) (sym queues));
    }

device_added_turn : (o : Outline) (name driver : List ℕ) (stack : ℕ) (lower : Option (List ℕ))
    (here ahead : Names) (n : ℕ) (ls : List Line)
    → IsEmpty o → IsIdle o → Around o.place (names_of o) here ahead
    → Turn o (device_added o name (record { line = n; name = driver }) stack (used_at n lower))
    here here ahead n (AddDevice name driver stack lower) ls
device_added_turn o name driver stack lower here ahead n ls empty idle h =
    let next = device_added o name (record { line = n; name = driver }) stack (used_at n lower) in
    let rest = unknown_from (scope_of next here) (n + 1) ls in
    let later = rest_later (scope_of next here) n ls in
    let known = is_among o.driver_names driver in
    let under = is_known o.device_names lower in
    let line : Option ℕ = if known then None else Some n in
    let counted : earliest line (missed o.device_names (used_at n lower))
    ≡ (if known && under then None else Some n) =
    ap (earliest line) (name_missed o.device_names lower n) ∙ both_count known under n in
    record {
      around = h;
      same = rw (pending_none here.queues here.routines here.sorts o empty, idle.steps)
          (ap (λ (x : Option ℕ). earliest (earliest o.unknown x) rest) counted
          ∙ earliest_assoc o.unknown (if known && under then None else Some n) rest
          ∙ ap (λ (x : Option ℕ). earliest o.unknown x) (used_now (known && under) n rest later));
    }

turn : (o : Outline) (n : ℕ) (label : Option (List ℕ)) (body : Body) (ls : List Line) (here : Names)
    → stands o.place body ≡ true → draft_is_again o label body ≡ false
    → is_out_of_range body ≡ false → IsTidy o → Around o.place (names_of o) here (ahead_with label body (ahead_of ls))
    → Turn o (noted o n label body) here (around_next here body ls) (ahead_of ls) n body ls
turn o n label Blank ls here stood fresh range tidy h = record { around = h; same = refl }
turn o n label (OpenDriver name) ls here stood fresh range tidy h =
    let body = OpenDriver name in
    driver_opened_turn o name here (ahead_of ls) (ahead_of ls) n ls
    (tidy.outside (only_outside o.place body refl refl stood))
    (tidy.idle (never_in InRoutine o.place body refl stood)) h
turn o n label CloseDriver ls here stood fresh range tidy h =
    driver_closed_turn o label here (ahead_of ls) n ls stood
    (tidy.idle (never_in InRoutine o.place CloseDriver refl stood)) h
turn o n label (Handle major name) ls here stood fresh range tidy h =
    handled_turn o major name here (ahead_of ls) n ls fresh
    (tidy.idle (never_in InRoutine o.place (Handle major name) refl stood)) h
turn o n label (AddQueue name (Some guard) cancel) ls here stood fresh range tidy h =
    let body = AddQueue name (Some guard) cancel in
    queue_added_turn o name (Some guard) guard cancel here (ahead_of ls) n ls
    (tidy.idle (never_in InRoutine o.place body refl stood)) h
turn o n label (AddQueue name None cancel) ls here stood fresh range tidy h = cc
turn o n label (HandleStartIo name cancel) ls here stood fresh range tidy h =
    startio_handled_turn o name cancel here (ahead_of ls) n ls fresh
    (tidy.idle (never_in InRoutine o.place (HandleStartIo name cancel) refl stood)) h
turn o n label (HandleDpc name) ls here stood fresh range tidy h =
    dpc_handled_turn o name here (ahead_of ls) n ls fresh
    (tidy.idle (never_in InRoutine o.place (HandleDpc name) refl stood)) h
turn o n label (OpenRoutine name sort) ls here stood fresh range tidy h =
    routine_opened_turn o name sort here (ahead_of ls) (labels_ahead ls) n ls stood
    (tidy.idle (never_in InRoutine o.place (OpenRoutine name sort) refl stood)) h
turn o n label CloseRoutine ls here stood fresh range tidy h =
    routine_closed_turn o label here (ahead_of ls) n ls stood h
turn o n label (AddDevice name driver stack lower) ls here stood fresh range tidy h =
    let body = AddDevice name driver stack lower in
    device_added_turn o name driver stack lower here (ahead_of ls) n ls
    (tidy.outside (only_outside o.place body refl refl stood))
    (tidy.idle (never_in InRoutine o.place body refl stood)) h
turn o n label (TakeStep (Some instr) used) ls here stood fresh range tidy h =
    step_turn o label instr used here (ahead_of ls) n ls stood h
turn o n label (TakeStep None used) ls here stood fresh range tidy h = cc

unknown_in : (o : Outline) (n : ℕ) (raws : List (List ℕ)) (ls : List Line) (end : Outline)
    (here : Names)
    → Reads o n raws ls end → end.place ≡ Outside → IsTidy o
    → Around o.place (names_of o) here (ahead_of ls)
    → end.unknown ≡ left o here n ls
unknown_in o n [] [] end here read closed tidy h =
    let at : o.place ≡ Outside = ap (λ (x : Outline). x.place) read ∙ closed in
    let empty = tidy.outside at in
    let idle = tidy.idle (λ inside. let same : Outside ≡ InRoutine = sym at ∙ inside in cc) in
    rw (pending_none here.queues here.routines here.sorts o empty, idle.steps)
    (ap (λ (x : Outline). x.unknown) (sym read) ∙ sym (earliest_none o.unknown))
unknown_in o n [] (l ∷ ls) end here read closed tidy h = absurd read
unknown_in o n (raw ∷ raws) [] end here read closed tidy h = absurd read
unknown_in o n (raw ∷ raws) (l ∷ ls) end here read closed tidy h =
    let fits = fitting o l read.1.0 in
    let next = turn o n l.label l.body ls here fits.standing fits.fresh fits.in_range tidy h in
    unknown_in (noted o n l.label l.body) (n + 1) raws ls end (around_next here l.body ls) read.1.1
    closed
    (tidy_on o n l.label l.body fits.standing tidy) next.around ∙ next.same

pub unknown_is : (raws : List (List ℕ)) (ls : List Line) (end : Outline)
    → Reads nothing_read 1 raws ls end → end.place ≡ Outside
    → end.unknown ≡ unknown_from nothing_named 1 ls
unknown_is raws ls end read closed =
    unknown_in nothing_read 1 raws ls end (names_of nothing_read) read closed nothing_tidy (record {
      inside = λ opened. absurd (opened refl);
      sorted = λ opened. absurd (opened refl);
      queued = λ opened. absurd (opened refl);
      busy = λ is. cc;
    })
