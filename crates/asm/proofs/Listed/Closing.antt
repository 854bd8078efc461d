-- The last line of a listed driver, and the line of a device: the numbers that were written come
-- back.
use Rattle.std.proofs.Common.{◌≡◌, ℕ, ◌<◌, ◌≤◌, true, not, List, [], ◌∷◌, ◌++◌, length, map, Option, Some, None, IfSome, refl, ap, ◌∙◌, arith}
use Rattle.std.proofs.lemmas.List.{map-append}
use Rattle.std.proofs.lemmas.Option.{slice_get_within}
use Rattle.std.proofs.lemmas.Bool.Decides.{nat_tests}
use Rattle.std.specs.Prelude.{⊤, nat_le, option_map, option_to_list, slice_get}
use Rattle.model.specs.declared.set.Device.{Device}
use Rattle.model.specs.declared.set.Queue.{Queue}
use Rattle.model.specs.declared.set.Sort.{Sort}
use Rattle.model.specs.Sound.{DeviceFits}
use Rattle.asm.specs.declared.draft.ClosedRoutine.{ClosedRoutine}
use Rattle.asm.specs.declared.draft.Place.TheVariants.{Outside, InDriver}
use Rattle.asm.specs.declared.draft.QueueLine.{QueueLine}
use Rattle.asm.specs.declared.names.Use.{Use}
use Rattle.asm.specs.declared.roles.Role.{Role}
use Rattle.asm.specs.declared.roles.Role.TheVariants.{Handler, StartIo, Dpc, Cancel}
use Rattle.asm.specs.Outline.{Outline, device_of, entry_in, finished, finished_driver, finished_queue, is_stack_size, number_used, serves, startio_named, used_at, waiting_named}
use Rattle.asm_line.specs.declared.entry.Entry.TheVariants as line
use Rattle.asm_line.specs.ListedWords.{device, driver, routine}
use Rattle.asm_line.proofs.Digits.{IsSmall}
use Rattle.asm.proofs.Listed.Names.{names_from, numbered_as}
use Rattle.asm.proofs.Listed.Stage.{no_misfit, no_shape, one_reaches, read_queue, set_queue, shape_of, IsAt, Names, Reaches, Shape, Stage}
use Rattle.asm.proofs.Listed.Turns.{has_place, is_new, more_of}

-- a routine that is named for a role has a sort for it
abbrev pub Served : Role → List Sort → Option ℕ → Type 0
Served role sorts number =
    IfSome number (λ r. (sort : Sort) × (slice_get sorts r ≡ Some sort) × (serves role sort ≡ true))

abbrev pub CancelsServed : List Sort → List Queue → Type 0
CancelsServed sorts [] = ⊤
CancelsServed sorts (q ∷ qs) = Served Cancel sorts q.cancel × CancelsServed sorts qs

pub record ShapeFits (d : Shape) : Type 0 where
  pub few : length d.sorts ≤ 32
  pub read : Served Handler d.sorts d.read
  pub write : Served Handler d.sorts d.write
  pub control : Served Handler d.sorts d.control
  pub startio : Served StartIo d.sorts d.startio
  pub waiting : Served Cancel d.sorts d.startio_cancel
  pub dpc : Served Dpc d.sorts d.dpc
  pub cancels : CancelsServed d.sorts d.queues

-- the entry is the number
entry_found : (names : List (List ℕ)) (sorts given : List Sort) (role : Role) (u : Option Use)
    (number : Option ℕ) → names ≡ names_from 102 0 (length given) → sorts ≡ given
    → length given ≤ 32 → Names u number → Served role given number
    → entry_in names sorts role u ≡ number
entry_found names sorts given role None None named same few h served = refl
entry_found names sorts given role None (Some r) named same few h served = cc
entry_found names sorts given role (Some u) None named same few h served = cc
entry_found names sorts given role (Some u) (Some r) named same few h served =
    let within = slice_get_within given r served.0 served.1 in
    let small : IsSmall r = omega (arith, within, few) in
    let name : u.name ≡ routine r = cc in
    rw (name, named, same, numbered_as 102 (length given) r small within, served.1, served.2)
    refl

same_sorts : (o : Outline) (rs : List ClosedRoutine)
    → map (λ r. r.sort) (map (finished o) rs) ≡ map (λ (r : ClosedRoutine). r.sort) rs
same_sorts o [] = refl
same_sorts o (r ∷ rs) = ap (λ ss. r.sort ∷ ss) (same_sorts o rs)

-- a queue by its parts
abbrev queue_with : ℕ → Option ℕ → Queue
queue_with guard cancel = record { guard = guard; cancel = cancel }

same_queues : (o : Outline) (given : List Sort) (ls : List QueueLine) (qs : List Queue)
    → o.routine_names ≡ names_from 102 0 (length given) → o.sorts ≡ given → length given ≤ 32
    → map read_queue ls ≡ map set_queue qs → CancelsServed given qs
    → map (finished_queue o) ls ≡ qs
same_queues o given [] [] named same few h served = refl
same_queues o given [] (q ∷ qs) named same few h served = cc
same_queues o given (l ∷ ls) [] named same few h served = cc
same_queues o given (l ∷ ls) (q ∷ qs) named same few h served =
    let head : read_queue l ≡ set_queue q = cc in
    let tail : map read_queue ls ≡ map set_queue qs = cc in
    let guard : l.guard ≡ q.guard = ap (λ g. g.guard) head in
    let cancel = entry_found o.routine_names o.sorts given Cancel l.cancel q.cancel named same few
    (ap (λ g. g.cancel) head) served.0 in
    let one : queue_with l.guard (entry_in o.routine_names o.sorts Cancel l.cancel)
    ≡ queue_with q.guard q.cancel = cc in
    let rest = same_queues o given ls qs named same few tail served.1 in
    ap (λ x. x ∷ map (finished_queue o) ls) one ∙ ap (λ xs. q ∷ xs) rest

-- a shape by its parts
abbrev shape : List Sort → List Queue → Option ℕ → Option ℕ → Option ℕ → Option ℕ → Option ℕ
    → Option ℕ → Shape
shape sorts queues read write control startio startio_cancel dpc = record {
  sorts = sorts;
  queues = queues;
  read = read;
  write = write;
  control = control;
  startio = startio;
  startio_cancel = startio_cancel;
  dpc = dpc;
}

same_shape : (d e : Shape) → d.sorts ≡ e.sorts → d.queues ≡ e.queues → d.read ≡ e.read
    → d.write ≡ e.write → d.control ≡ e.control → d.startio ≡ e.startio
    → d.startio_cancel ≡ e.startio_cancel → d.dpc ≡ e.dpc → d ≡ e
same_shape d e a b c f g h i j =
    let same : shape d.sorts d.queues d.read d.write d.control d.startio d.startio_cancel d.dpc
    ≡ shape e.sorts e.queues e.read e.write e.control e.startio e.startio_cancel e.dpc = cc in
    same

-- the driver that is closed has the shape that was read
closed_shape : (o : Outline) (s : Stage) → IsAt s o → s.closed ≡ s.current.sorts
    → ShapeFits s.current → shape_of (finished_driver o) ≡ s.current
closed_shape o s h closed fits =
    let names = h.routines.named in
    let sorts = h.routines.same in
    same_shape (shape_of (finished_driver o)) s.current
    (same_sorts o o.routines ∙ h.routines.sorted ∙ closed)
    (same_queues o s.current.sorts o.queues s.current.queues names sorts fits.few h.queues.same
    fits.cancels)
    (entry_found o.routine_names o.sorts s.current.sorts Handler o.read s.current.read names sorts
    fits.few h.read fits.read)
    (entry_found o.routine_names o.sorts s.current.sorts Handler o.write s.current.write names sorts
    fits.few h.write fits.write)
    (entry_found o.routine_names o.sorts s.current.sorts Handler o.control s.current.control names
    sorts fits.few h.control fits.control)
    (entry_found o.routine_names o.sorts s.current.sorts StartIo (startio_named o.startio)
    s.current.startio names sorts fits.few h.startio fits.startio)
    (entry_found o.routine_names o.sorts s.current.sorts Cancel (waiting_named o.startio)
    s.current.startio_cancel names sorts fits.few h.waiting fits.waiting)
    (entry_found o.routine_names o.sorts s.current.sorts Dpc o.dpc s.current.dpc names sorts
    fits.few h.dpc fits.dpc)

-- `endd`
pub end_driver_turn : (o : Outline) (n : ℕ) (s : Stage) → IsAt s o → s.place ≡ InDriver
    → s.closed ≡ s.current.sorts → ShapeFits s.current → Reaches o n (line.EndDriver ∷ [])
    (record s {
      place = Outside;
      drivers = s.drivers ++ s.current ∷ [];
      current = no_shape;
      closed = [];
    })
end_driver_turn o n s h inside closed fits =
    one_reaches o n line.EndDriver
    (record s {
      place = Outside;
      drivers = s.drivers ++ s.current ∷ [];
      current = no_shape;
      closed = [];
    })
    (no_misfit o line.EndDriver (rw (h.place, inside) refl) refl refl refl)
    (record {
      place = refl;
      drivers = record {
        named = h.drivers.named;
        shaped =
            map-append shape_of o.drivers (finished_driver o ∷ [])
            ∙ ap (λ ds. ds ++ shape_of (finished_driver o) ∷ []) h.drivers.shaped
            ∙ ap (λ d. s.drivers ++ d ∷ []) (closed_shape o s h closed fits);
      };
      devices = h.devices;
      routines = record { named = refl; same = refl; sorted = refl };
      queues = record { named = refl; same = refl };
      read = refl;
      write = refl;
      control = refl;
      startio = refl;
      waiting = refl;
      dpc = refl;
      sort = λ is. cc;
      steps = h.steps;
    })

-- the lower device of a line
lower_found : (names : List (List ℕ)) (count n : ℕ) (lower : Option ℕ)
    → names ≡ names_from 118 0 count → count ≤ 16 → IfSome lower (λ l. l < count)
    → number_used names (used_at n (option_map device lower)) ≡ lower
lower_found names count n None named few below = refl
lower_found names count n (Some l) named few below =
    rw (named, numbered_as 118 count l (omega (arith, below, few)) below) refl

device_found : (o : Outline) (s : Stage) (n : ℕ) (d : Device) → IsAt s o → s.opened ≤ 8
    → length s.devices < 16 → DeviceFits s.opened (length s.devices) d
    → device_of o (driver d.driver) d.stack (used_at n (option_map device d.lower)) ≡ Some d
device_found o s n d h few room fits =
    let lower = lower_found o.device_names (length s.devices) n d.lower h.devices.named
    (omega (arith, room)) fits.lower in
    let number = numbered_as 100 s.opened d.driver (omega (arith, few, fits.driver)) fits.driver in
    rw (h.drivers.named, number, lower) refl

-- `device`
pub device_turn : (o : Outline) (n : ℕ) (s : Stage) (d : Device) → IsAt s o → s.place ≡ Outside
    → s.opened ≤ 8 → length s.devices < 16 → DeviceFits s.opened (length s.devices) d
    → Reaches o n (line.Device (length s.devices) d ∷ [])
    (record s { devices = s.devices ++ d ∷ [] })
device_turn o n s d h out few room fits =
    let e = line.Device (length s.devices) d in
    let low : nat_le 1 d.stack ≡ true = let l = fits.low in grind (arith, nat_tests, l) in
    let high : nat_le d.stack 16 ≡ true = let l = fits.high in grind (arith, nat_tests, l) in
    let size : is_stack_size d.stack ≡ true = rw (low, high) refl in
    one_reaches o n e (record s { devices = s.devices ++ d ∷ [] })
    (no_misfit o e (rw (h.place, out) refl)
    (is_new o.device_names 118 (length s.devices) (omega (arith, room)) h.devices.named)
    (ap (λ b. not b) size)
    (has_place o.device_names 118 (length s.devices) 16 room h.devices.named))
    (record {
      place = h.place;
      drivers = h.drivers;
      devices = record {
        named = more_of o.device_names 118 s.devices d h.devices.named;
        same =
            ap (λ found. o.devices ++ option_to_list found) (device_found o s n d h few room fits)
            ∙ ap (λ ds. ds ++ d ∷ []) h.devices.same;
      };
      routines = h.routines;
      queues = h.queues;
      read = h.read;
      write = h.write;
      control = h.control;
      startio = h.startio;
      waiting = h.waiting;
      dpc = h.dpc;
      sort = h.sort;
      steps = h.steps;
    })
