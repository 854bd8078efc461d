-- The other lines of a driver: one that opens it, one that closes it, and what it has.
use Rattle.std.proofs.Common.{◌≡◌, ℕ, false, List, [], ◌∷◌, ◌++◌, Option, Some, None, refl, ap, sym, ◌∙◌, append_assoc, append-nil}
use Rattle.std.specs.Prelude.{map, slice_get, unwrap_or, is_some, option_map, option_and_then}
use Rattle.std.proofs.lemmas.List.{map_push}
use Rattle.std.proofs.lemmas.Option.{slice_get-map}
use Rattle.model.specs.declared.set.Driver.{Driver}
use Rattle.model.specs.declared.set.Queue.{Queue}
use Rattle.model.specs.declared.status.Major.{Major}
use Rattle.model.specs.declared.status.Major.TheVariants.{Read, Write, Control}
use Rattle.asm_line.specs.declared.line.Body.TheVariants.{OpenDriver, CloseDriver, AddQueue, Handle, HandleStartIo, HandleDpc}
use Rattle.asm_line.specs.declared.line.Line.{Line}
use Rattle.asm.specs.declared.roles.Role.{Role}
use Rattle.asm.specs.declared.roles.Role.TheVariants.{Handler, Completion, StartIo, Dpc, Cancel}
use Rattle.asm.specs.declared.draft.ClosedRoutine.{ClosedRoutine}
use Rattle.asm.specs.declared.draft.Linked.{Linked}
use Rattle.asm.specs.declared.draft.Place.TheVariants.{Outside, InDriver}
use Rattle.asm.specs.declared.draft.QueueLine.{QueueLine}
use Rattle.asm.specs.declared.names.Use.{Use}
use Rattle.asm.specs.Outline.{Outline, called, dpc_handled, driver_closed, driver_opened, entry_in, finished, finished_driver, handled, handler_of, queue_added, queue_at, routine_called, startio_handled, startio_named, used_at, waiting_named}
use Rattle.asm.specs.Names.{number_of, routine_named, Inventory}
use Rattle.asm.specs.Parts.{closes_driver, queue_on, said, up_to}
use Rattle.asm.specs.Said.{added_queue, drivers_on, first_in}
use Rattle.asm.proofs.Written.Codes.{Whole, name_of, names_used, whole, whole_now, number_called, number_touched, finish, finish_queue, closed, driver_left, around, Turn}
use Rattle.asm.proofs.Tidy.{IsEmpty}

pub driver_opened_turn : (o : Outline) (name : List ℕ) (label : Option (List ℕ)) (ls : List Line)
    → IsEmpty o → Turn o (driver_opened o name) Outside label (OpenDriver name) ls
driver_opened_turn o name label ls empty = record {
  place = refl;
  same = rw (
    empty.routines,
    empty.names,
    empty.sorts,
    empty.queues,
    empty.guards,
    empty.read,
    empty.write,
    empty.control,
    empty.startio,
    empty.dpc,
  ) refl;
}

-- a driver that is closed: its routines have their numbers
call_same : (o : Outline) (call : Option ℕ)
    → routine_called o call
    ≡ number_called (whole_now o) call
call_same o None = refl
call_same o (Some place) = by_use (slice_get o.calls place) (slice_get (map name_of o.calls) place)
    (slice_get-map name_of o.calls place)
  where
    by_use : (u : Option Use) (name : Option (List ℕ)) → name ≡ option_map name_of u
        → option_and_then (λ (u : Use). routine_named o.routine_names o.sorts Completion u.name) u
        ≡ option_and_then
        (λ (name : List ℕ). routine_named o.routine_names o.sorts Completion name) name
    by_use None name is = rw is refl
    by_use (Some u) name is = rw is refl

queue_same : (o : Outline) (touch : Option ℕ)
    → queue_at o touch ≡ number_touched (whole_now o) touch
queue_same o None = refl
queue_same o (Some place) =
    by_use (slice_get o.queue_uses place) (slice_get (map name_of o.queue_uses) place)
    (slice_get-map name_of o.queue_uses place)
  where
    by_use : (u : Option Use) (name : Option (List ℕ)) → name ≡ option_map name_of u
        → unwrap_or (option_and_then (λ (u : Use). number_of o.queue_names u.name) u) 0
        ≡ unwrap_or (option_and_then (λ (name : List ℕ). number_of o.queue_names name) name) 0
    by_use None name is = rw is refl
    by_use (Some u) name is = rw is refl

code_same : (o : Outline) (code : List Linked)
    → map (called o) code
    ≡ map (finish (whole_now o)) code
code_same o [] = refl
code_same o (step ∷ steps) =
    rw (call_same o step.call, queue_same o step.queue, code_same o steps) refl

closed_same : (o : Outline) (routines : List ClosedRoutine)
    → map (finished o) routines ≡ map (closed (whole_now o)) routines
closed_same o [] = refl
closed_same o (r ∷ rs) = rw (code_same o r.code, closed_same o rs) refl

-- the number of a routine that is named
entry_same : (o : Outline) (role : Role) (u : Option Use)
    → first_in (whole_now o).has role (names_used u ++ [])
    ≡ entry_in o.routine_names o.sorts role u
entry_same o role None = refl
entry_same o role (Some u) = refl

closed_driver : (o : Outline) (label : Option (List ℕ)) (ls : List Line)
    → driver_left o (whole_now o) [] (record { label = label; body = CloseDriver } ∷ ls)
    ≡ finished_driver o
closed_driver o label ls = rw (
  closed_same o o.routines,
  append-nil (map (closed (whole_now o)) o.routines),
  append-nil (map (finish_queue (whole_now o).has) o.queues),
  entry_same o Handler o.read,
  entry_same o Handler o.write,
  entry_same o Handler o.control,
  entry_same o StartIo (startio_named o.startio),
  entry_same o Cancel (waiting_named o.startio),
  entry_same o Dpc o.dpc,
) refl

pub driver_closed_turn : (o : Outline) (label : Option (List ℕ)) (ls : List Line)
    → Turn o (driver_closed o) InDriver label CloseDriver ls
driver_closed_turn o label ls =
    let same : whole o [] ≡ whole_now o =
    rw (
      append-nil o.routine_names,
      append-nil o.sorts,
      append-nil o.queue_names,
      append-nil (map name_of o.calls),
      append-nil (map name_of o.queue_uses),
    ) refl
    in
    record {
      place = refl;
      same =
          ap (λ (w : Whole). around o ls (driver_left o w [] (record { label = label; body = CloseDriver } ∷ ls)))
          same
          ∙ ap (λ (d : Driver). around o ls d) (closed_driver o label ls)
          ∙ sym (append_assoc o.drivers (finished_driver o ∷ []) (drivers_on ls));
    }

-- what wasn't given before
absent : {A : Type 0} (x : Option A) → is_some x ≡ false → x ≡ None
absent None h = refl
absent (Some x) h = cc

pub handled_turn : (o : Outline) (u : Use) (major : Major) (label : Option (List ℕ))
    (ls : List Line) → o.place ≡ InDriver → is_some (handler_of o major) ≡ false
    → Turn o (handled o u major) InDriver label (Handle major u.name) ls
handled_turn o u Read label ls at fresh =
    record { place = at; same = rw (absent o.read fresh) refl }
handled_turn o u Write label ls at fresh =
    record { place = at; same = rw (absent o.write fresh) refl }
handled_turn o u Control label ls at fresh =
    record { place = at; same = rw (absent o.control fresh) refl }

pub dpc_turn : (o : Outline) (u : Use) (label : Option (List ℕ)) (ls : List Line)
    → o.place ≡ InDriver → is_some o.dpc ≡ false
    → Turn o (dpc_handled o u) InDriver label (HandleDpc u.name) ls
dpc_turn o u label ls at fresh = record { place = at; same = rw (absent o.dpc fresh) refl }

pub startio_turn : (o : Outline) (u : Use) (n : ℕ) (cancel : Option (List ℕ))
    (label : Option (List ℕ)) (ls : List Line) → o.place ≡ InDriver → is_some o.startio ≡ false
    → Turn o (startio_handled o u (used_at n cancel)) InDriver label (HandleStartIo u.name cancel)
    ls
startio_turn o u n None label ls at fresh =
    record { place = at; same = rw (absent o.startio fresh) refl }
startio_turn o u n (Some name) label ls at fresh =
    record { place = at; same = rw (absent o.startio fresh) refl }

-- a queue more: it was ahead
whole_queued : (o : Outline) (name : List ℕ) (guard : Option ℕ) (lock : ℕ)
    (cancel : Option (List ℕ)) (u : Option Use) (label : Option (List ℕ)) (ls : List Line)
    → whole o (record { label = label; body = AddQueue name guard cancel } ∷ ls)
    ≡ whole (queue_added o name lock u) ls
whole_queued o name guard lock cancel u label ls =
    rw (append_assoc o.queue_names (name ∷ []) (said queue_on ls)) refl

queues_more : (has : Inventory) (queues : List QueueLine) (q : QueueLine) (after : List Queue)
    → map (finish_queue has) queues ++ finish_queue has q ∷ after
    ≡ map (finish_queue has) (queues ++ q ∷ []) ++ after
queues_more has queues q after =
    sym (ap (λ (qs : List Queue). qs ++ after) (map_push (finish_queue has) queues q)
    ∙ append_assoc (map (finish_queue has) queues) (finish_queue has q ∷ []) after)

queues_pushed : (o : Outline) (w : Whole) (n : ℕ) (name : List ℕ) (guard : ℕ)
    (cancel : Option (List ℕ)) (label : Option (List ℕ)) (ls more : List Line)
    → driver_left o w (record { label = label; body = AddQueue name (Some guard) cancel } ∷ ls)
    (record { label = label; body = AddQueue name (Some guard) cancel } ∷ more)
    ≡ driver_left (queue_added o name guard (used_at n cancel)) w ls more
queues_pushed o w n name guard None label ls more =
    let next = driver_left (queue_added o name guard None) w ls more in
    ap (λ (queues : List Queue). record next { queues = queues })
    (queues_more w.has o.queues (record { guard = guard; cancel = None })
    (said (added_queue w.has) ls))
queues_pushed o w n name guard (Some routine) label ls more =
    let q : QueueLine = record { guard = guard; cancel = used_at n (Some routine) } in
    let next = driver_left (queue_added o name guard (used_at n (Some routine))) w ls more in
    ap (λ (queues : List Queue). record next { queues = queues })
    (queues_more w.has o.queues q (said (added_queue w.has) ls))

pub queue_added_turn : (o : Outline) (n : ℕ) (name : List ℕ) (guard : ℕ)
    (cancel : Option (List ℕ)) (label : Option (List ℕ)) (ls : List Line) → o.place ≡ InDriver
    → Turn o (queue_added o name guard (used_at n cancel)) InDriver label
    (AddQueue name (Some guard) cancel) ls
queue_added_turn o n name guard cancel label ls at =
    let inside = up_to closes_driver ls in
    let next = queue_added o name guard (used_at n cancel) in
    let old = whole o (record { label = label; body = AddQueue name (Some guard) cancel } ∷ inside)
    in record {
      place = at;
      same =
          ap (λ (d : Driver). around o ls d)
          (queues_pushed o old n name guard cancel label inside ls)
          ∙ ap (λ (w : Whole). around o ls (driver_left next w inside ls))
          (whole_queued o name (Some guard) guard cancel (used_at n cancel) label inside);
    }
