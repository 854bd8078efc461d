-- No line of a listing uses an unknown name.
use Rattle.std.proofs.Common.{◌≡◌, ℕ, suc, ◌+◌, ◌<◌, ◌≤◌, true, List, [], ◌∷◌, ◌++◌, length, map, Option, Some, None, IfSome, refl, ap, sym, ◌∙◌, subst, arith, All}
use Rattle.std.specs.Prelude.{is_some, option_map, slice_get}
use Rattle.std.proofs.lemmas.List.Elements.{All-head, All-tail}
use Rattle.model.specs.declared.instr.Instr.{Instr}
use Rattle.model.specs.declared.set.Device.{Device}
use Rattle.model.specs.declared.set.Driver.{Driver}
use Rattle.model.specs.declared.set.Queue.{Queue}
use Rattle.model.specs.declared.set.Routine.{Routine}
use Rattle.model.specs.declared.set.Sort.{Sort}
use Rattle.model.specs.declared.status.Major.{Major}
use Rattle.model.specs.declared.status.Major.TheVariants.{Read, Write, Control}
use Rattle.model.specs.Set.{label_of, Set}
use Rattle.model.specs.Sound.{completion_named, queue_named, CallsFit, CancelFits, DevicesFit, DriverFits, HasSort, IsCancel, IsDispatch, IsDpc, IsSound, IsStartIo, QueuesFit, RoutineFits, WaitingFits}
use Rattle.asm_line.specs.declared.line.Line.{Line}
use Rattle.asm.specs.declared.roles.Role.{Role}
use Rattle.asm.specs.declared.roles.Role.TheVariants.{Handler, Completion, StartIo, Dpc, Cancel}
use Rattle.asm.specs.Outline.{is_among}
use Rattle.asm.proofs.Scopes.{all_known as names_known, is_known, is_served, labels_ahead, nothing_named, scope_after, unknown_at, unknown_from, Scope}
use Rattle.asm_line.specs.declared.entry.Entry.{Entry}
use Rattle.asm_line.specs.declared.entry.Entry.TheVariants as line
use Rattle.asm_line.specs.ListedWords.{device, label, numbered, queue, routine}
use Rattle.asm_line.specs.Listing.{device_lines, driver_lines, label_at, listed, naming, queue_lines, routine_lines, set_lines, starting, step_lines, table_lines}
use Rattle.asm_line.proofs.Meaning.{body_meant, meant, names_used}
use Rattle.asm.proofs.Listed.Ahead.{before, before_all, before_append, driver_rest, label_there, queues_there, rest_split, routines_there, sorts_there, IsTarget}
use Rattle.asm.proofs.Listed.Closing.{Served}
use Rattle.asm.proofs.Listed.Codes.{all_known, routine_found, InstrKnown}
use Rattle.asm.proofs.Listed.Names.{is_known_name, names_from, names_more}
use Rattle.asm.proofs.Listed.Sets.{is_cancel, is_dpc, is_handler, is_startio, served, sorts_of, waiting_cancel}

-- no line uses an unknown name, whatever the number of the first of them
abbrev IsSilent : Scope → List Line → Type 0
IsSilent s ls = (n : ℕ) → unknown_from s n ls ≡ None

-- nor does a line before them
abbrev IsKnown : Scope → Entry → Type 0
IsKnown s e = (n : ℕ) (after : Option ℕ) → unknown_at s n (body_meant e) after ≡ after

line_silent : (s : Scope) (e : Entry) (ls : List Line) → IsKnown s e
    → IsSilent (scope_after s (body_meant e) ls) ls → IsSilent s (meant e ∷ ls)
line_silent s e ls known rest n =
    known n (unknown_from (scope_after s (body_meant e) ls) (n + 1) ls) ∙ rest (n + 1)

-- so many drivers are opened; the rest is of the driver before
abbrev between : ℕ → List (List ℕ) → List (List ℕ) → List Sort → List (List ℕ) → List (List ℕ)
    → Scope
between opened devices routines sorts queues labels = record {
  drivers = names_from 100 0 opened;
  devices = devices;
  routines = routines;
  sorts = sorts;
  queues = queues;
  labels = labels;
}

-- in a driver
abbrev within : ℕ → Driver → List (List ℕ) → Scope
within opened d labels =
    between opened [] (names_from 102 0 (length d.routines)) (sorts_of d.routines)
    (names_from 113 0 (length d.queues)) labels

-- a routine that is named is there
routine_known : (k : ℕ) (d : Driver) (labels : List (List ℕ)) (role : Role) (number : Option ℕ)
    → length d.routines ≤ 32 → Served role (sorts_of d.routines) number
    → is_served (within k d labels) role (option_map routine number) ≡ true
routine_known k d labels role None few h = refl
routine_known k d labels role (Some r) few h =
    ap (λ o. is_some o) (routine_found d role r few h)

queues_silent : (k : ℕ) (d : Driver) (labels : List (List ℕ)) (q : ℕ) (qs : List Queue)
    (rest : List Line) → length d.routines ≤ 32 → All (CancelFits d.routines) qs
    → IsSilent (within k d labels) rest
    → IsSilent (within k d labels) (before (listed queue_lines q qs) rest)
queues_silent k d labels n [] rest few h silent = silent
queues_silent k d labels n (q ∷ qs) rest few h silent =
    let known = routine_known k d labels Cancel q.cancel few
    (served IsCancel Cancel is_cancel d.routines q.cancel (All-head (CancelFits d.routines) q qs h))
    in
    line_silent (within k d labels) (line.Queue n q) (before (listed queue_lines (n + 1) qs) rest)
    (λ m after. rw known refl)
    (queues_silent k d labels (n + 1) qs rest few (All-tail (CancelFits d.routines) q qs h) silent)

-- one entry of the table
handler_silent : (k : ℕ) (d : Driver) (labels : List (List ℕ)) (rest : List Line) (major : Major)
    (number : Option ℕ) → length d.routines ≤ 32
    → IfSome number (λ r. HasSort IsDispatch (slice_get d.routines r))
    → IsSilent (within k d labels) rest
    → IsSilent (within k d labels) (before (naming (line.Handler major) number) rest)
handler_silent k d labels rest major None few h silent = silent
handler_silent k d labels rest major (Some r) few h silent =
    let known = routine_known k d labels Handler (Some r) few
    (served IsDispatch Handler is_handler d.routines (Some r) h) in
    line_silent (within k d labels) (line.Handler major r) rest (λ m after. rw known refl) silent

startio_silent : (k : ℕ) (d : Driver) (labels : List (List ℕ)) (rest : List Line)
    (number cancel : Option ℕ) → length d.routines ≤ 32
    → IfSome number (λ r. HasSort IsStartIo (slice_get d.routines r))
    → WaitingFits d.routines number cancel → IsSilent (within k d labels) rest
    → IsSilent (within k d labels) (before (naming (starting cancel) number) rest)
startio_silent k d labels rest None cancel few h waits silent = silent
startio_silent k d labels rest (Some r) cancel few h waits silent =
    let known = routine_known k d labels StartIo (Some r) few
    (served IsStartIo StartIo is_startio d.routines (Some r) h) in
    let canceled = routine_known k d labels Cancel cancel few
    (served IsCancel Cancel is_cancel d.routines cancel
    (waiting_cancel d.routines (Some r) cancel waits)) in
    line_silent (within k d labels) (line.StartIo r cancel) rest
    (λ m after. rw (known, canceled) refl) silent

dpc_silent : (k : ℕ) (d : Driver) (labels : List (List ℕ)) (rest : List Line) (number : Option ℕ)
    → length d.routines ≤ 32 → IfSome number (λ r. HasSort IsDpc (slice_get d.routines r))
    → IsSilent (within k d labels) rest
    → IsSilent (within k d labels) (before (naming line.Dpc number) rest)
dpc_silent k d labels rest None few h silent = silent
dpc_silent k d labels rest (Some r) few h silent =
    let known = routine_known k d labels Dpc (Some r) few
    (served IsDpc Dpc is_dpc d.routines (Some r) h) in
    line_silent (within k d labels) (line.Dpc r) rest (λ m after. rw known refl) silent

table_silent : (k : ℕ) (d : Driver) (labels : List (List ℕ)) (rest : List Line) → DriverFits d
    → IsSilent (within k d labels) rest
    → IsSilent (within k d labels) (before (table_lines d) rest)
table_silent k d labels rest fits silent =
    let read = naming (line.Handler Read) d.read in
    let write = naming (line.Handler Write) d.write in
    let control = naming (line.Handler Control) d.control in
    let startio = naming (starting d.startio_cancel) d.startio in
    let dpc = naming line.Dpc d.dpc in
    let few = fits.few in
    let five = dpc_silent k d labels rest d.dpc few fits.dpc silent in
    let four = startio_silent k d labels (before dpc rest) d.startio d.startio_cancel few
    fits.startio fits.waiting five in
    let three = handler_silent k d labels (before startio (before dpc rest)) Control d.control few
    fits.control four in
    let two = handler_silent k d labels (before control (before startio (before dpc rest))) Write
    d.write few fits.write three in
    let one = handler_silent k d labels
    (before write (before control (before startio (before dpc rest)))) Read d.read few
    fits.read two in
    let split : before (table_lines d) rest
    ≡ before read (before write (before control (before startio (before dpc rest)))) =
    before_append read (write ++ (control ++ (startio ++ dpc))) rest
    ∙ ap (λ ls. before read ls) (before_append write (control ++ (startio ++ dpc)) rest
    ∙ ap (λ ls. before write ls) (before_append control (startio ++ dpc) rest
    ∙ ap (λ ls. before control ls) (before_append startio dpc rest))) in
    λ n. ap (λ ls. unknown_from (within k d labels) n ls) split ∙ one n

-- the names of an instruction are known
label_known : (k : ℕ) (d : Driver) (labels : List (List ℕ)) (o : Option ℕ)
    → IfSome o (λ to. is_among labels (label to) ≡ true)
    → is_known labels (option_map label o) ≡ true
label_known k d labels None h = refl
label_known k d labels (Some to) h = h

queue_known : (d : Driver) (o : Option ℕ) → length d.queues ≤ 4
    → IfSome o (λ q. q < length d.queues)
    → is_known (names_from 113 0 (length d.queues)) (option_map queue o) ≡ true
queue_known d None few h = refl
queue_known d (Some q) few h = is_known_name 113 (length d.queues) q (omega (arith, few, h)) h

targets_known : (labels : List (List ℕ)) (code : List Instr) (o : Option ℕ)
    → ((to : ℕ) → IsTarget code to → is_among labels (label to) ≡ true)
    → IfSome o (IsTarget code) → IfSome o (λ to. is_among labels (label to) ≡ true)
targets_known labels code None each h = tt
targets_known labels code (Some to) each h = each to h

steps_silent : (k : ℕ) (d : Driver) (labels : List (List ℕ)) (code : List Instr) (p : ℕ)
    (is : List Instr) (rest : List Line) → length d.routines ≤ 32 → length d.queues ≤ 4
    → ((to : ℕ) → IsTarget code to → is_among labels (label to) ≡ true)
    → All (InstrKnown d code) is → IsSilent (within k d labels) rest
    → IsSilent (within k d labels) (before (listed (step_lines code) p is) rest)
steps_silent k d labels code p [] rest routines queues targets h silent = silent
steps_silent k d labels code p (i ∷ is) rest routines queues targets h silent =
    let one = All-head (InstrKnown d code) i is h in
    let a = label_known k d labels (label_of i)
    (targets_known labels code (label_of i) targets one.label) in
    let b = routine_known k d labels Completion (completion_named i) routines one.routine in
    let c = queue_known d (queue_named i) queues one.queue in
    let all : names_known (within k d labels) (names_used i) ≡ true = rw (a, b, c) refl in
    line_silent (within k d labels) (line.Step (label_at code p) i)
    (before (listed (step_lines code) (p + 1) is) rest) (λ m after. rw all refl)
    (steps_silent k d labels code (p + 1) is rest routines queues targets
    (All-tail (InstrKnown d code) i is h) silent)

routines_silent : (k : ℕ) (d : Driver) (labels : List (List ℕ)) (n : ℕ) (rs : List Routine)
    (rest : List Line) → DriverFits d → All RoutineFits rs → All (CallsFit d.routines) rs
    → All (QueuesFit (length d.queues)) rs
    → ((labels : List (List ℕ)) → IsSilent (within k d labels) rest)
    → IsSilent (within k d labels) (before (listed routine_lines n rs) rest)
routines_silent k d labels n [] rest fits each calls uses silent = silent labels
routines_silent k d labels n (r ∷ rs) rest fits each calls uses silent =
    let steps = listed (step_lines r.code) 0 r.code in
    let later = before (listed routine_lines (n + 1) rs) rest in
    let tail = before steps (meant line.EndRoutine ∷ later) in
    let there = labels_ahead tail in
    let one = All-head RoutineFits r rs each in
    let few = one.few in
    let known = all_known d r one (All-head (CallsFit d.routines) r rs calls)
    (All-head (QueuesFit (length d.queues)) r rs uses) in
    let targets : (to : ℕ) → IsTarget r.code to → is_among there (label to) ≡ true =
    λ to h. let inside = h.inside in
    label_there r.code 0 r.code to (meant line.EndRoutine ∷ later) (omega (arith, few))
    (omega arith) (omega (arith, inside)) h.jumped in
    let after : IsSilent (within k d there) later =
    routines_silent k d there (n + 1) rs rest fits (All-tail RoutineFits r rs each)
    (All-tail (CallsFit d.routines) r rs calls) (All-tail (QueuesFit (length d.queues)) r rs uses)
    silent in
    let ended : IsSilent (within k d there) (meant line.EndRoutine ∷ later) =
    line_silent (within k d there) line.EndRoutine later (λ m after. refl) after in
    let body = steps_silent k d there r.code 0 r.code (meant line.EndRoutine ∷ later) fits.few
    fits.few_queues targets known ended in
    let whole : IsSilent (within k d labels) (meant (line.Routine n r.sort) ∷ tail) =
    line_silent (within k d labels) (line.Routine n r.sort) tail (λ m after. refl) body in
    let split : before (listed routine_lines n (r ∷ rs)) rest
    ≡ meant (line.Routine n r.sort) ∷ tail =
    before_append (routine_lines n r) (listed routine_lines (n + 1) rs) rest
    ∙ ap (λ ls. meant (line.Routine n r.sort) ∷ ls)
    (before_append steps (line.EndRoutine ∷ []) later) in
    λ m. ap (λ ls. unknown_from (within k d labels) m ls) split ∙ whole m

-- what is left of a driver before has no meaning
abbrev AnySilent : ℕ → List (List ℕ) → List Line → Type 0
AnySilent opened devices rest =
    (routines : List (List ℕ)) (sorts : List Sort) (queues labels : List (List ℕ))
    → IsSilent (between opened devices routines sorts queues labels) rest

drivers_silent : (k : ℕ) (ds : List Driver) (rest : List Line) (end : ℕ) → All DriverFits ds
    → end ≡ k + length ds → AnySilent end [] rest
    → AnySilent k [] (before (listed driver_lines k ds) rest)
drivers_silent k [] rest end h is silent routines sorts queues labels =
    let same : k ≡ end = omega (arith, is) in
    subst (λ x. IsSilent (between x [] routines sorts queues labels) rest) (sym same)
    (silent routines sorts queues labels)
drivers_silent k (d ∷ ds) rest end h is silent routines sorts queues labels =
    let fits = All-head DriverFits d ds h in
    let next : k + 1 ≡ suc k = omega arith in
    let later = before (listed driver_lines (k + 1) ds) rest in
    let tail = before (driver_rest d) later in
    let after : AnySilent (suc k) [] later =
    rw next (drivers_silent (suc k) ds rest end (All-tail DriverFits d ds h) (omega (arith, is))
    silent) in
    let ended : (labels : List (List ℕ))
    → IsSilent (within (suc k) d labels) (meant line.EndDriver ∷ later) =
    λ labels. line_silent (within (suc k) d labels) line.EndDriver later (λ m after. refl)
    (after (names_from 102 0 (length d.routines)) (sorts_of d.routines)
    (names_from 113 0 (length d.queues)) labels) in
    let three = routines_silent (suc k) d labels 0 d.routines (meant line.EndDriver ∷ later) fits
    fits.routines fits.calls fits.queues ended in
    let two = table_silent (suc k) d labels _ fits three in
    let one = queues_silent (suc k) d labels 0 d.queues _ fits.few fits.cancels two in
    let body : IsSilent (within (suc k) d labels) tail =
    λ m. ap (λ ls. unknown_from (within (suc k) d labels) m ls) (rest_split d later) ∙ one m in
    let names : names_from 100 0 k ++ numbered 100 k ∷ [] ≡ names_from 100 0 (suc k) =
    names_more 100 0 k k (omega arith) in
    let a = routines_there d later in
    let b = sorts_there d later in
    let c = queues_there d later in
    let here : IsSilent (scope_after (between k [] routines sorts queues labels)
    (body_meant (line.Driver k)) tail) tail = rw (names, a, b, c) body in
    let whole : IsSilent (between k [] routines sorts queues labels)
    (meant (line.Driver k) ∷ tail) =
    line_silent (between k [] routines sorts queues labels) (line.Driver k) tail (λ m after. refl)
    here in
    λ m. ap (λ ls. unknown_from (between k [] routines sorts queues labels) m ls)
    (before_append (driver_lines k d) (listed driver_lines (k + 1) ds) rest) ∙ whole m

lower_known : (k : ℕ) (lower : Option ℕ) → k ≤ 16 → IfSome lower (λ l. l < k)
    → is_known (names_from 118 0 k) (option_map device lower) ≡ true
lower_known k None few h = refl
lower_known k (Some l) few h = is_known_name 118 k l (omega (arith, few, h)) h

devices_silent : (count k : ℕ) (ds : List Device) → count ≤ 8 → k + length ds ≤ 16
    → DevicesFit count k ds
    → AnySilent count (names_from 118 0 k) (before (listed device_lines k ds) [])
devices_silent count k [] few room h routines sorts queues labels = λ n. refl
devices_silent count k (d ∷ ds) few room h routines sorts queues labels =
    let fits = h.0 in
    let inside = fits.driver in
    let a = is_known_name 100 count d.driver (omega (arith, few, inside)) inside in
    let b = lower_known k d.lower (omega (arith, room)) fits.lower in
    let next : k + 1 ≡ suc k = omega arith in
    let names : names_from 118 0 k ++ numbered 118 k ∷ [] ≡ names_from 118 0 (suc k) =
    names_more 118 0 k k (omega arith) in
    let rest = devices_silent count (suc k) ds few (omega (arith, room)) h.1 routines sorts queues
    labels in
    line_silent (between count (names_from 118 0 k) routines sorts queues labels) (line.Device k d)
    (before (listed device_lines (k + 1) ds) []) (λ m after. rw (a, b) refl) (rw (names, next) rest)

-- no line of a listing uses an unknown name
pub none_unknown : (set : Set) → IsSound set
    → unknown_from nothing_named 1 (map meant (set_lines set)) ≡ None
none_unknown set h =
    let few = h.few_drivers in
    let room = h.few_devices in
    let devices = listed device_lines 0 set.devices in
    let silent = drivers_silent 0 set.drivers (before devices []) (length set.drivers) h.drivers
    (omega arith)
    (devices_silent (length set.drivers) 0 set.devices few (omega (arith, room)) h.devices) in
    ap (λ ls. unknown_from nothing_named 1 ls) (before_all (set_lines set)
    ∙ before_append (listed driver_lines 0 set.drivers) devices []) ∙ silent [] [] [] [] 1
