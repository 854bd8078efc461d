-- The names that a line may use are those of the lines around it.
use Rattle.std.proofs.Common.{◌≡◌, ℕ, ◌+◌, ◌&&◌, Bool, true, List, [], ◌∷◌, Option, Some, None, refl, ap, ◌∙◌, subst}
use Rattle.std.specs.Prelude.{if◌then◌else◌}
use Rattle.model.specs.declared.set.Sort.{Sort}
use Rattle.asm_line.specs.declared.line.Body.{Body}
use Rattle.asm_line.specs.declared.line.Body.TheVariants.{OpenDriver, CloseDriver, AddQueue, Handle, HandleStartIo, HandleDpc, OpenRoutine, CloseRoutine, AddDevice, Step as TakeStep}
use Rattle.asm_line.specs.declared.line.Line.{Line}
use Rattle.asm.specs.declared.draft.Place.{Place}
use Rattle.asm.specs.declared.draft.Place.TheVariants.{Outside, InRoutine}
use Rattle.asm.specs.declared.roles.Role.{Role}
use Rattle.asm.specs.declared.roles.Role.TheVariants.{Completion, StartIo, Cancel}
use Rattle.asm.specs.Outline.{Outline, noted}
use Rattle.asm.proofs.Scopes as laws
use Rattle.asm.proofs.Scopes.{Reads, Scope, labelled_ahead, labels_ahead, named_ahead, nothing_named, queued_ahead, queues_ahead, routines_ahead, scope_after, sorted_ahead, sorts_ahead}
use Rattle.asm.specs.Names.{Inventory, inventory, is_among, is_known, is_served}
use Rattle.asm.specs.Parts.{closes_driver, closes_routine, device_on, driver_around, driver_on, labels_on, place_after, queue_on, routine_around, routine_on, said, sort_on, up_to}
use Rattle.asm.specs.Faults.{all_known, stands, unknown_from}
use Rattle.asm.proofs.Fitting.{fitting, never_in, only_in_routine}
use Rattle.asm.proofs.Tidy.{IsTidy, tidy_on}
use Rattle.asm.proofs.Declared.Behind.{Alike, IsBehind, behind_on, more_alike, none_alike}

-- what is ahead in a driver or routine stands on its lines
routine_ahead : (label : Option (List ℕ)) (body : Body) (ls : List Line)
    → routines_ahead ls ≡ said routine_on (up_to closes_driver ls)
    → named_ahead body (routines_ahead ls)
    ≡ said routine_on (up_to closes_driver (record { label = label; body = body } ∷ ls))
routine_ahead label CloseDriver ls h = refl
routine_ahead label (OpenRoutine name sort) ls h = ap (λ (xs : List (List ℕ)). name ∷ xs) h
routine_ahead label _ ls h = h

pub routines_said : (ls : List Line) → routines_ahead ls ≡ said routine_on (up_to closes_driver ls)
routines_said [] = refl
routines_said (l ∷ ls) = routine_ahead l.label l.body ls (routines_said ls)

sort_ahead : (label : Option (List ℕ)) (body : Body) (ls : List Line)
    → sorts_ahead ls ≡ said sort_on (up_to closes_driver ls)
    → sorted_ahead body (sorts_ahead ls)
    ≡ said sort_on (up_to closes_driver (record { label = label; body = body } ∷ ls))
sort_ahead label CloseDriver ls h = refl
sort_ahead label (OpenRoutine name sort) ls h = ap (λ (xs : List Sort). sort ∷ xs) h
sort_ahead label _ ls h = h

pub sorts_said : (ls : List Line) → sorts_ahead ls ≡ said sort_on (up_to closes_driver ls)
sorts_said [] = refl
sorts_said (l ∷ ls) = sort_ahead l.label l.body ls (sorts_said ls)

queue_ahead : (label : Option (List ℕ)) (body : Body) (ls : List Line)
    → queues_ahead ls ≡ said queue_on (up_to closes_driver ls)
    → queued_ahead body (queues_ahead ls)
    ≡ said queue_on (up_to closes_driver (record { label = label; body = body } ∷ ls))
queue_ahead label CloseDriver ls h = refl
queue_ahead label (AddQueue name guard cancel) ls h = ap (λ (xs : List (List ℕ)). name ∷ xs) h
queue_ahead label _ ls h = h

pub queues_said : (ls : List Line) → queues_ahead ls ≡ said queue_on (up_to closes_driver ls)
queues_said [] = refl
queues_said (l ∷ ls) = queue_ahead l.label l.body ls (queues_said ls)

label_ahead : (label : Option (List ℕ)) (body : Body) (ls : List Line)
    → labels_ahead ls ≡ labels_on (up_to closes_routine ls)
    → labelled_ahead label body (labels_ahead ls)
    ≡ labels_on (up_to closes_routine (record { label = label; body = body } ∷ ls))
label_ahead label CloseRoutine ls h = refl
label_ahead None (TakeStep instr used) ls h = h
label_ahead (Some name) (TakeStep instr used) ls h = ap (λ (xs : List (List ℕ)). name ∷ xs) h
label_ahead label _ ls h = h

labels_said : (ls : List Line) → labels_ahead ls ≡ labels_on (up_to closes_routine ls)
labels_said [] = refl
labels_said (l ∷ ls) = label_ahead l.label l.body ls (labels_said ls)

-- the names of a scope are those of the lines around it
pub record InScope (s : Scope) (before after : List Line) : Type 0 where
  pub drivers : Alike s.drivers (said driver_on before)
  pub devices : Alike s.devices (said device_on before)
  pub routines : (place_after before ≡ Outside → ⊥)
      → s.routines ≡ said routine_on (driver_around before after)
  pub sorts : (place_after before ≡ Outside → ⊥)
      → s.sorts ≡ said sort_on (driver_around before after)
  pub queues : (place_after before ≡ Outside → ⊥)
      → s.queues ≡ said queue_on (driver_around before after)
  pub labels : place_after before ≡ InRoutine
      → s.labels ≡ labels_on (routine_around before after)

pub nothing_scoped : (ls : List Line) → InScope nothing_named [] ls
nothing_scoped ls = record {
  drivers = none_alike;
  devices = none_alike;
  routines = λ inside. absurd (inside refl);
  sorts = λ inside. absurd (inside refl);
  queues = λ inside. absurd (inside refl);
  labels = λ is. cc;
}

scoped_on : (s : Scope) (label : Option (List ℕ)) (body : Body) (before ls : List Line)
    → stands (place_after before) body ≡ true
    → InScope s before (record { label = label; body = body } ∷ ls)
    → InScope (scope_after s body ls) (record { label = label; body = body } ∷ before) ls
scoped_on s label (OpenDriver name) before ls stood h = record {
  drivers = more_alike s.drivers (said driver_on before) name h.drivers;
  devices = h.devices;
  routines = λ inside. routines_said ls;
  sorts = λ inside. sorts_said ls;
  queues = λ inside. queues_said ls;
  labels = λ is. cc;
}
scoped_on s label CloseDriver before ls stood h = record {
  drivers = h.drivers;
  devices = h.devices;
  routines = λ inside. absurd (inside refl);
  sorts = λ inside. absurd (inside refl);
  queues = λ inside. absurd (inside refl);
  labels = λ is. cc;
}
scoped_on s label (OpenRoutine name sort) before ls stood h =
    let here = never_in Outside (place_after before) (OpenRoutine name sort) refl stood in
    record {
      drivers = h.drivers;
      devices = h.devices;
      routines = λ inside. h.routines here;
      sorts = λ inside. h.sorts here;
      queues = λ inside. h.queues here;
      labels = λ is. labels_said ls;
    }
scoped_on s label CloseRoutine before ls stood h =
    let here = never_in Outside (place_after before) CloseRoutine refl stood in
    record {
      drivers = h.drivers;
      devices = h.devices;
      routines = λ inside. h.routines here;
      sorts = λ inside. h.sorts here;
      queues = λ inside. h.queues here;
      labels = λ is. cc;
    }
scoped_on s label (AddDevice name driver stack lower) before ls stood h = record {
  drivers = h.drivers;
  devices = more_alike s.devices (said device_on before) name h.devices;
  routines = h.routines;
  sorts = h.sorts;
  queues = h.queues;
  labels = h.labels;
}
scoped_on s label body before ls stood h = record {
  drivers = h.drivers;
  devices = h.devices;
  routines = h.routines;
  sorts = h.sorts;
  queues = h.queues;
  labels = h.labels;
}

-- so a line uses a name that nothing has by either
served_same : (s : Scope) (has : Inventory) (role : Role) (name : Option (List ℕ))
    → s.routines ≡ has.routines → s.sorts ≡ has.sorts
    → laws.is_served s role name ≡ is_served has role name
served_same s has role None routines sorts = refl
served_same s has role (Some name) routines sorts = rw (routines, sorts) refl

known_alike : (xs ys : List (List ℕ)) (name : Option (List ℕ)) → Alike xs ys
    → is_known xs name ≡ is_known ys name
known_alike xs ys None h = refl
known_alike xs ys (Some name) h = h.among name

chosen_same : (a b : Bool) (n : ℕ) (after : Option ℕ) → a ≡ b
    → (if a then after else Some n) ≡ (if b then after else Some n)
chosen_same a b n after h = ap (λ (x : Bool). if x then after else Some n) h

known_same : (s : Scope) (n : ℕ) (label : Option (List ℕ)) (body : Body) (before ls : List Line)
    (after : Option ℕ) → stands (place_after before) body ≡ true
    → InScope s before (record { label = label; body = body } ∷ ls)
    → laws.unknown_at s n body after
    ≡ (if all_known
    (inventory (driver_around before (record { label = label; body = body } ∷ ls))) before
    (labels_on (routine_around before (record { label = label; body = body } ∷ ls))) body
    then after else Some n)
known_same s n label (Handle major name) before ls after stood h =
    let here = never_in Outside (place_after before) (Handle major name) refl stood in
    rw (h.routines here, h.sorts here) refl
known_same s n label (HandleStartIo name cancel) before ls after stood h =
    let l : Line = record { label = label; body = HandleStartIo name cancel } in
    let has = inventory (driver_around before (l ∷ ls)) in
    let here = never_in Outside (place_after before) (HandleStartIo name cancel) refl stood in
    let serves = served_same s has StartIo (Some name) (h.routines here) (h.sorts here) in
    let cancels = served_same s has Cancel cancel (h.routines here) (h.sorts here) in
    chosen_same (laws.is_served s StartIo (Some name) && laws.is_served s Cancel cancel)
    (is_served has StartIo (Some name) && is_served has Cancel cancel) n after
    (rw (serves, cancels) refl)
known_same s n label (HandleDpc name) before ls after stood h =
    let here = never_in Outside (place_after before) (HandleDpc name) refl stood in
    rw (h.routines here, h.sorts here) refl
known_same s n label (AddQueue name guard cancel) before ls after stood h =
    let l : Line = record { label = label; body = AddQueue name guard cancel } in
    let has = inventory (driver_around before (l ∷ ls)) in
    let here = never_in Outside (place_after before) (AddQueue name guard cancel) refl stood in
    chosen_same (laws.is_served s Cancel cancel) (is_served has Cancel cancel) n after
    (served_same s has Cancel cancel (h.routines here) (h.sorts here))
known_same s n label (AddDevice name driver stack lower) before ls after stood h =
    chosen_same (is_among s.drivers driver && is_known s.devices lower)
    (is_among (said driver_on before) driver && is_known (said device_on before) lower) n after
    (rw (
      h.drivers.among driver,
      known_alike s.devices (said device_on before) lower h.devices,
    ) refl)
known_same s n label (TakeStep instr used) before ls after stood h =
    let l : Line = record { label = label; body = TakeStep instr used } in
    let has = inventory (driver_around before (l ∷ ls)) in
    let here = never_in Outside (place_after before) (TakeStep instr used) refl stood in
    let at = only_in_routine (place_after before) (TakeStep instr used) refl refl stood in
    chosen_same (laws.all_known s used)
    (is_known (labels_on (routine_around before (l ∷ ls))) used.label
    && (is_served has Completion used.routine && is_known has.queues used.queue)) n after
    (rw (
      h.labels at,
      served_same s has Completion used.routine (h.routines here) (h.sorts here),
      h.queues here,
    ) refl)
known_same s n label _ before ls after stood h = refl

pub unknown_same : (o : Outline) (n : ℕ) (raws : List (List ℕ)) (ls : List Line) (end : Outline)
    (before : List Line) (s : Scope) → Reads o n raws ls end → IsBehind o before → IsTidy o
    → InScope s before ls → laws.unknown_from s n ls ≡ unknown_from before n ls
unknown_same o n [] [] end before s read behind tidy h = refl
unknown_same o n [] (l ∷ ls) end before s read behind tidy h = absurd read
unknown_same o n (raw ∷ raws) [] end before s read behind tidy h = absurd read
unknown_same o n (raw ∷ raws) (l ∷ ls) end before s read behind tidy h =
    let fits = fitting o l read.1.0 in
    let stood : stands (place_after before) l.body ≡ true =
    subst (λ (p : Place). stands p l.body ≡ true) behind.place fits.standing in
    let later = unknown_same (noted o n l.label l.body) (n + 1) raws ls end (l ∷ before)
    (scope_after s l.body ls) read.1.1
    (behind_on o n l.label l.body before fits.standing fits.in_range tidy behind)
    (tidy_on o n l.label l.body fits.standing tidy)
    (scoped_on s l.label l.body before ls stood h) in
    ap (λ (after : Option ℕ). laws.unknown_at s n l.body after) later
    ∙ known_same s n l.label l.body before ls (unknown_from (l ∷ before) (n + 1) ls) stood h
