-- What is left of a text to find, from a line on, and the names that hold there.
use Rattle.std.proofs.Common.{◌≡◌, ℕ, ◌+◌, ◌<◌, ◌≤◌, ◌&&◌, List, [], ◌∷◌, ◌++◌, Option, None, IfSome, refl}
use Rattle.model.specs.declared.set.Sort.{Sort}
use Rattle.asm.specs.declared.draft.Place.{Place}
use Rattle.asm.specs.declared.draft.Place.TheVariants.{Outside, InRoutine}
use Rattle.asm_line.specs.declared.line.Body.{Body}
use Rattle.asm_line.specs.declared.line.Body.TheVariants.{AddQueue, Handle, HandleStartIo, HandleDpc, AddDevice, Step as TakeStep}
use Rattle.asm_line.specs.declared.line.Line.{Line}
use Rattle.asm.specs.declared.roles.Role.TheVariants.{Handler, StartIo, Dpc, Cancel}
use Rattle.asm.specs.Outline.{Outline, earliest, has_routine, is_among}
use Rattle.asm.proofs.Scopes.{Scope, all_known, scope_after, drivers_after, devices_after, is_known, is_served, labelled_ahead, labels_ahead, labels_around, named_ahead, routines_ahead, routines_around, sorted_ahead, sorts_ahead, sorts_around, queued_ahead, queues_ahead, queues_around, unknown_at, unknown_from}
use Rattle.asm.proofs.Tidy.{IsEmpty}
use Rattle.asm.proofs.Unknown.Earliest.{next_later, chosen_line, weaken}
use Rattle.asm.proofs.Unknown.Missed.{pending, jumping}

line_or_later : (s : Scope) (n : ℕ) (body : Body) (after : Option ℕ) → IfSome after (λ m. n < m)
    → IfSome (unknown_at s n body after) (λ m. n ≤ m)
line_or_later s n (AddQueue name guard cancel) after h =
    chosen_line (is_served s Cancel cancel) n after h
line_or_later s n (Handle major routine) after h =
    chosen_line (has_routine s.routines s.sorts Handler routine) n after h
line_or_later s n (HandleStartIo routine cancel) after h =
    chosen_line (has_routine s.routines s.sorts StartIo routine && is_served s Cancel cancel) n
    after h
line_or_later s n (HandleDpc routine) after h =
    chosen_line (has_routine s.routines s.sorts Dpc routine) n after h
line_or_later s n (AddDevice name driver stack lower) after h =
    chosen_line (is_among s.drivers driver && is_known s.devices lower) n after h
line_or_later s n (TakeStep instr used) after h =
    chosen_line (all_known s used) n after h
line_or_later s n _ after h = weaken n after h

-- the line that is found is one of those that are left
not_before : (s : Scope) (n : ℕ) (ls : List Line) → IfSome (unknown_from s n ls) (λ m. n ≤ m)
not_before s n [] = tt
not_before s n (l ∷ ls) =
    let after = unknown_from (scope_after s l.body ls) (n + 1) ls in
    let rest = not_before (scope_after s l.body ls) (n + 1) ls in
    line_or_later s n l.body after (next_later n after rest)

pub rest_later : (s : Scope) (n : ℕ) (ls : List Line)
    → IfSome (unknown_from s (n + 1) ls) (λ m. n < m)
rest_later s n ls = next_later n (unknown_from s (n + 1) ls) (not_before s (n + 1) ls)

-- where no driver is open, none uses what isn't there
pub pending_none : (queues names : List (List ℕ)) (sorts : List Sort) (o : Outline) → IsEmpty o
    → pending queues names sorts o ≡ None
pending_none queues names sorts o empty = rw (
  empty.calls,
  empty.uses,
  empty.guards,
  empty.read,
  empty.write,
  empty.control,
  empty.startio,
  empty.dpc,
) refl

-- names of the driver and routine around a place
pub record Names : Type 0 where
  pub routines : List (List ℕ)
  pub sorts : List Sort
  pub queues : List (List ℕ)
  pub labels : List (List ℕ)

-- the names so far of the open driver and routine
abbrev pub names_of : Outline → Names
names_of o =
    record {
      routines = o.routine_names;
      sorts = o.sorts;
      queues = o.queue_names;
      labels = o.labels;
    }

-- these are the routines and queues in the driver around the place, and the labels in the routine
-- around it: those so far, and those ahead
pub record Around (p : Place) (before here ahead : Names) : Type 0 where
  pub inside : (p ≡ Outside → ⊥) → here.routines ≡ before.routines ++ ahead.routines
  pub sorted : (p ≡ Outside → ⊥) → here.sorts ≡ before.sorts ++ ahead.sorts
  pub queued : (p ≡ Outside → ⊥) → here.queues ≡ before.queues ++ ahead.queues
  pub busy : p ≡ InRoutine → here.labels ≡ before.labels ++ ahead.labels

-- the names that the next line may use
abbrev pub scope_of : Outline → Names → Scope
scope_of o here =
    record {
      drivers = o.driver_names;
      devices = o.device_names;
      routines = here.routines;
      sorts = here.sorts;
      queues = here.queues;
      labels = here.labels;
    }

abbrev pub scope_next : Outline → Body → Names → Scope
scope_next o body after = record {
  drivers = drivers_after o.driver_names body;
  devices = devices_after o.device_names body;
  routines = after.routines;
  sorts = after.sorts;
  queues = after.queues;
  labels = after.labels;
}

-- the names ahead of these lines, and round the next one
abbrev pub ahead_of : List Line → Names
ahead_of ls =
    record {
      routines = routines_ahead ls;
      sorts = sorts_ahead ls;
      queues = queues_ahead ls;
      labels = labels_ahead ls;
    }

abbrev pub ahead_with : Option (List ℕ) → Body → Names → Names
ahead_with label body ahead =
    record {
      routines = named_ahead body ahead.routines;
      sorts = sorted_ahead body ahead.sorts;
      queues = queued_ahead body ahead.queues;
      labels = labelled_ahead label body ahead.labels;
    }

abbrev pub around_next : Names → Body → List Line → Names
around_next here body ls =
    record {
      routines = routines_around here.routines body ls;
      sorts = sorts_around here.sorts body ls;
      queues = queues_around here.queues body ls;
      labels = labels_around here.labels body ls;
    }

-- what is left from a line on: the lines after it, from what is noted with it
abbrev pub left : Outline → Names → ℕ → List Line → Option ℕ
left o here n ls =
    earliest o.unknown
    (earliest (pending here.queues here.routines here.sorts o)
    (earliest (jumping here.labels o.steps) (unknown_from (scope_of o here) n ls)))

-- the next outline has the names around it, and says the same of what is left
pub record Turn (o next : Outline) (here after ahead : Names) (n : ℕ) (body : Body) (ls : List Line)
    : Type 0 where
  pub around : Around next.place (names_of next) after ahead
  pub same : left next after (n + 1) ls ≡ earliest o.unknown
      (earliest (pending here.queues here.routines here.sorts o)
      (earliest (jumping here.labels o.steps)
      (unknown_at (scope_of o here) n body (unknown_from (scope_next o body after) (n + 1) ls))))
