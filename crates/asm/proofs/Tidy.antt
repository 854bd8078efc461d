-- What is open is empty where nothing is open.
use Rattle.std.proofs.Common.{◌≡◌, ℕ, true, List, [], Option, Some, None, refl}
use Rattle.model.specs.declared.status.Major.{Major}
use Rattle.model.specs.declared.status.Major.TheVariants.{Read, Write, Control}
use Rattle.asm.specs.declared.draft.Place.TheVariants.{Outside, InRoutine}
use Rattle.asm.specs.declared.names.Use.{Use}
use Rattle.asm_line.specs.declared.line.Body.{Body}
use Rattle.asm_line.specs.declared.line.Body.TheVariants.{Blank, OpenDriver, CloseDriver, AddQueue, Handle, HandleStartIo, HandleDpc, OpenRoutine, CloseRoutine, AddDevice, Step as TakeStep}
use Rattle.asm.specs.Outline.{Outline, dpc_handled, handled, noted, nothing_read, queue_added, startio_handled, stands, used_at}
use Rattle.asm.proofs.Fitting.{never_in, only_in_routine}

-- no driver is open
abbrev pub IsEmpty : Outline → Type 0
IsEmpty o = record {
  routines : o.routines ≡ [];
  names : o.routine_names ≡ [];
  sorts : o.sorts ≡ [];
  calls : o.calls ≡ [];
  queues : o.queue_names ≡ [];
  guards : o.queues ≡ [];
  uses : o.queue_uses ≡ [];
  read : o.read ≡ None;
  write : o.write ≡ None;
  control : o.control ≡ None;
  startio : o.startio ≡ None;
  dpc : o.dpc ≡ None;
}

-- no routine is open
abbrev pub IsIdle : Outline → Type 0
IsIdle o = record { labels : o.labels ≡ []; positions : o.positions ≡ []; steps : o.steps ≡ [] }

-- before the first line, and after the last one of a driver or routine, nothing is there
all_empty : IsEmpty nothing_read
all_empty = record {
  routines = refl;
  names = refl;
  sorts = refl;
  calls = refl;
  queues = refl;
  guards = refl;
  uses = refl;
  read = refl;
  write = refl;
  control = refl;
  startio = refl;
  dpc = refl;
}

none_open : IsIdle nothing_read
none_open = record { labels = refl; positions = refl; steps = refl }

-- what isn't open is empty
pub record IsTidy (o : Outline) : Type 0 where
  pub outside : o.place ≡ Outside → IsEmpty o
  pub idle : (o.place ≡ InRoutine → ⊥) → IsIdle o

-- so it is in a driver, where no routine is open
tidy_in_driver : (o : Outline) → (o.place ≡ Outside → ⊥) → ((o.place ≡ InRoutine → ⊥) → IsIdle o)
    → IsTidy o
tidy_in_driver o inside idle = record { outside = λ is. absurd (inside is); idle = idle }

handled_tidy : (o : Outline) (u : Use) (major : Major) → (o.place ≡ Outside → ⊥) → IsTidy o
    → IsTidy (handled o u major)
handled_tidy o u Read inside h = tidy_in_driver (handled o u Read) inside h.idle
handled_tidy o u Write inside h = tidy_in_driver (handled o u Write) inside h.idle
handled_tidy o u Control inside h = tidy_in_driver (handled o u Control) inside h.idle

-- each line leaves it so
pub tidy_on : (o : Outline) (n : ℕ) (label : Option (List ℕ)) (body : Body)
    → stands o.place body ≡ true → IsTidy o → IsTidy (noted o n label body)
tidy_on o n label Blank stood h = h
tidy_on o n label (OpenDriver name) stood h =
    let idle = h.idle (never_in InRoutine o.place (OpenDriver name) refl stood) in
    record { outside = λ is. cc; idle = λ closed. idle }
tidy_on o n label CloseDriver stood h =
    let idle = h.idle (never_in InRoutine o.place CloseDriver refl stood) in
    record {
      outside = λ is. all_empty;
      idle = λ closed. idle;
    }
tidy_on o n label (AddQueue name (Some guard) cancel) stood h =
    let inside = never_in Outside o.place (AddQueue name (Some guard) cancel) refl stood in
    tidy_in_driver (queue_added o name guard (used_at n cancel)) inside h.idle
tidy_on o n label (AddQueue name None cancel) stood h = h
tidy_on o n label (Handle major routine) stood h =
    let inside = never_in Outside o.place (Handle major routine) refl stood in
    handled_tidy o (record { line = n; name = routine }) major inside h
tidy_on o n label (HandleStartIo routine cancel) stood h =
    let inside = never_in Outside o.place (HandleStartIo routine cancel) refl stood in
    tidy_in_driver (startio_handled o (record { line = n; name = routine }) (used_at n cancel))
    inside h.idle
tidy_on o n label (HandleDpc routine) stood h =
    let inside = never_in Outside o.place (HandleDpc routine) refl stood in
    tidy_in_driver (dpc_handled o (record { line = n; name = routine })) inside h.idle
tidy_on o n label (OpenRoutine name sort) stood h =
    record { outside = λ is. cc; idle = λ closed. absurd (closed refl) }
tidy_on o n label CloseRoutine stood h = record {
  outside = λ is. cc;
  idle = λ closed. none_open;
}
tidy_on o n label (AddDevice name driver stack lower) stood h =
    record { outside = h.outside; idle = h.idle }
tidy_on o n label (TakeStep (Some instr) used) stood h =
    let body = TakeStep (Some instr) used in
    let at = only_in_routine o.place body refl refl stood in
    record {
      outside = λ is. absurd (never_in Outside o.place body refl stood is);
      idle = λ closed. absurd (closed at);
    }
tidy_on o n label (TakeStep None used) stood h = h

-- before the first line
pub nothing_tidy : IsTidy nothing_read
nothing_tidy = record { outside = λ is. all_empty; idle = λ closed. none_open }
