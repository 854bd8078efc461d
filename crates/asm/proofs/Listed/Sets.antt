-- The listing of a set is read without a fault, up to what the set has beside its instructions.
use Rattle.std.proofs.Common.{◌≡◌, ℕ, suc, ◌+◌, ◌<◌, ◌≤◌, true, List, [], ◌∷◌, ◌++◌, length, map, Option, Some, None, IfSome, refl, ap, sym, ◌∙◌, arith, append_assoc, append-nil, All}
use Rattle.std.specs.Prelude.{slice_get, option_map}
use Rattle.std.proofs.lemmas.List.{length-map}
use Rattle.std.proofs.lemmas.List.Elements.{All-head, All-tail}
use Rattle.std.proofs.lemmas.Option.{slice_get-map}
use Rattle.model.specs.declared.set.Device.{Device}
use Rattle.model.specs.declared.set.Driver.{Driver}
use Rattle.model.specs.declared.set.Queue.{Queue}
use Rattle.model.specs.declared.set.Routine.{Routine}
use Rattle.model.specs.declared.set.Sort.{Sort}
use Rattle.model.specs.declared.set.Sort.TheVariants as sort
use Rattle.model.specs.Set.{Set}
use Rattle.model.specs.Sound.{CancelFits, DevicesFit, DriverFits, HasSort, IsCancel, IsCompletion, IsDispatch, IsDpc, IsSound, IsStartIo, RoutineFits, WaitingFits}
use Rattle.asm.specs.declared.roles.Role.{Role}
use Rattle.asm.specs.declared.roles.Role.TheVariants.{Handler, Completion, StartIo, Dpc, Cancel}
use Rattle.asm.specs.Outline.{nothing_read, serves, Outline}
use Rattle.asm_line.specs.declared.entry.Entry.TheVariants as line
use Rattle.asm_line.specs.Listing.{device_lines, driver_lines, listed, queue_lines, routine_lines, set_lines, table_lines}
use Rattle.asm.proofs.Listed.Closing.{device_turn, end_driver_turn, CancelsServed, Served, ShapeFits}
use Rattle.asm.proofs.Listed.Stage.{inside, no_shape, none_reaches, outside, shape_of, then_reaches, IsAt, Reaches, Shape}
use Rattle.asm.proofs.Listed.Turns.{driver_turn, longer}
use Rattle.asm.proofs.Listed.Walk.{queues_walk, routine_walk, table_walk}

-- a sort that a role asks for serves it
pub is_handler : (s : Sort) → IsDispatch s → serves Handler s ≡ true
is_handler sort.Dispatch h = refl
is_handler _ h = absurd h

pub is_startio : (s : Sort) → IsStartIo s → serves StartIo s ≡ true
is_startio sort.StartIo h = refl
is_startio _ h = absurd h

pub is_dpc : (s : Sort) → IsDpc s → serves Dpc s ≡ true
is_dpc sort.Dpc h = refl
is_dpc _ h = absurd h

pub is_cancel : (s : Sort) → IsCancel s → serves Cancel s ≡ true
is_cancel sort.Cancel h = refl
is_cancel _ h = absurd h

pub is_completion : (s : Sort) → IsCompletion s → serves Completion s ≡ true
is_completion sort.Propagate h = refl
is_completion sort.Hold h = refl
is_completion _ h = absurd h

abbrev pub sorts_of : List Routine → List Sort
sorts_of rs = map (λ r. r.sort) rs

pub served : (P : Sort → Type 0) (role : Role) → ((s : Sort) → P s → serves role s ≡ true)
    → (rs : List Routine) (number : Option ℕ) → IfSome number (λ n. HasSort P (slice_get rs n))
    → Served role (sorts_of rs) number
served P role each rs None h = tt
served P role each rs (Some n) h = by (slice_get rs n) refl h
  where
    by : (r : Option Routine) → slice_get rs n ≡ r → HasSort P r
        → Served role (sorts_of rs) (Some n)
    by None is h = absurd h
    by (Some r) is h = (
      r.sort,
      slice_get-map (λ r. r.sort) rs n ∙ ap (λ o. option_map (λ r. r.sort) o) is,
      each r.sort h,
    )

-- the cancel routine of the packets that wait is one
pub waiting_cancel : (rs : List Routine) (startio cancel : Option ℕ)
    → WaitingFits rs startio cancel → IfSome cancel (λ n. HasSort IsCancel (slice_get rs n))
waiting_cancel rs startio None h = tt
waiting_cancel rs None (Some c) h = absurd h
waiting_cancel rs (Some s) (Some c) h = h

cancels_served : (rs : List Routine) (qs : List Queue) → All (CancelFits rs) qs
    → CancelsServed (sorts_of rs) qs
cancels_served rs [] h = tt
cancels_served rs (q ∷ qs) h = (
  served IsCancel Cancel is_cancel rs q.cancel (All-head (CancelFits rs) q qs h),
  cancels_served rs qs (All-tail (CancelFits rs) q qs h),
)

shape_fits : (d : Driver) → DriverFits d → ShapeFits (shape_of d)
shape_fits d h = record {
  few = let few = h.few in let long = length-map d.routines (λ (r : Routine). r.sort) in
      omega (arith, few, long);
  read = served IsDispatch Handler is_handler d.routines d.read h.read;
  write = served IsDispatch Handler is_handler d.routines d.write h.write;
  control = served IsDispatch Handler is_handler d.routines d.control h.control;
  startio = served IsStartIo StartIo is_startio d.routines d.startio h.startio;
  waiting = served IsCancel Cancel is_cancel d.routines d.startio_cancel
      (waiting_cancel d.routines d.startio d.startio_cancel h.waiting);
  dpc = served IsDpc Dpc is_dpc d.routines d.dpc h.dpc;
  cancels = cancels_served d.routines d.queues h.cancels;
}

-- the routines of a driver
routines_walk : (o : Outline) (n opened : ℕ) (ds : List Shape) (c : Shape) (closed : List Sort)
    (k : ℕ) (rs : List Routine) (all after : List Sort) → IsAt (inside opened ds c closed) o
    → k ≡ length c.sorts → k + length rs ≤ 32 → All RoutineFits rs
    → all ≡ c.sorts ++ sorts_of rs → after ≡ closed ++ sorts_of rs
    → Reaches o n (listed routine_lines k rs) (inside opened ds (record c { sorts = all }) after)
routines_walk o n opened ds c closed k [] all after h is few fits whole then =
    let same : all ≡ c.sorts = whole ∙ append-nil c.sorts in
    let rest : after ≡ closed = then ∙ append-nil closed in
    none_reaches o n (inside opened ds (record c { sorts = all }) after)
    (rw (same, rest) h)
routines_walk o n opened ds c closed k (r ∷ rs) all after h is few fits whole then =
    let next = record c { sorts = c.sorts ++ r.sort ∷ [] } in
    let count : length c.sorts < 32 = omega (arith, is, few) in
    let short = (All-head RoutineFits r rs fits).few in
    then_reaches o n (routine_lines k r) (listed routine_lines (k + 1) rs)
    (inside opened ds next (closed ++ r.sort ∷ []))
    (inside opened ds (record c { sorts = all }) after)
    (routine_walk o n opened ds c closed k r h is count short)
    (λ mid m at. routines_walk mid m opened ds next (closed ++ r.sort ∷ []) (k + 1) rs all after at
    (let long = longer c.sorts r.sort in omega (arith, is, long)) (omega (arith, few))
    (All-tail RoutineFits r rs fits)
    (whole ∙ sym (append_assoc c.sorts (r.sort ∷ []) (sorts_of rs)))
    (then ∙ sym (append_assoc closed (r.sort ∷ []) (sorts_of rs))))

-- a driver
driver_walk : (o : Outline) (n opened : ℕ) (ds : List Shape) (d : Driver)
    → IsAt (outside opened ds []) o → opened < 8 → DriverFits d
    → Reaches o n (driver_lines opened d) (outside (suc opened) (ds ++ shape_of d ∷ []) [])
driver_walk o n opened ds d h few fits =
    let now = suc opened in
    let last = outside now (ds ++ shape_of d ∷ []) [] in
    let queues = listed queue_lines 0 d.queues in
    let routines = listed routine_lines 0 d.routines in
    let tabled = record (shape_of d) { sorts = [] } in
    then_reaches o n (line.Driver opened ∷ [])
    (queues ++ (table_lines d ++ (routines ++ line.EndDriver ∷ [])))
    (inside now ds no_shape []) last
    (driver_turn o n (outside opened ds []) h refl few)
    (λ o1 n1 h1. then_reaches o1 n1 queues (table_lines d ++ (routines ++ line.EndDriver ∷ []))
    (inside now ds (record no_shape { queues = d.queues }) []) last
    (queues_walk o1 n1 now ds no_shape 0 d.queues d.queues h1 refl
    (let f = fits.few_queues in omega (arith, f)) refl)
    (λ o2 n2 h2. then_reaches o2 n2 (table_lines d) (routines ++ line.EndDriver ∷ [])
    (inside now ds tabled []) last (table_walk o2 n2 now ds d.queues d fits.waiting h2)
    (λ o3 n3 h3. then_reaches o3 n3 routines (line.EndDriver ∷ [])
    (inside now ds (shape_of d) (sorts_of d.routines)) last
    (routines_walk o3 n3 now ds tabled [] 0 d.routines (sorts_of d.routines)
    (sorts_of d.routines) h3
    refl (let f = fits.few in omega (arith, f)) fits.routines refl refl)
    (λ o4 n4 h4. end_driver_turn o4 n4 (inside now ds (shape_of d)
    (sorts_of d.routines)) h4 refl refl
    (shape_fits d fits)))))

drivers_walk : (o : Outline) (n opened : ℕ) (ds : List Shape) (drivers : List Driver) (end : ℕ)
    (all : List Shape) → IsAt (outside opened ds []) o → opened + length drivers ≤ 8
    → All DriverFits drivers → end ≡ opened + length drivers → all ≡ ds ++ map shape_of drivers
    → Reaches o n (listed driver_lines opened drivers) (outside end all [])
drivers_walk o n opened ds [] end all h few fits is whole =
    let count : end ≡ opened = omega (arith, is) in
    let same : all ≡ ds = whole ∙ append-nil ds in
    none_reaches o n (outside end all []) (rw (count, same) h)
drivers_walk o n opened ds (d ∷ drivers) end all h few fits is whole =
    let next : opened + 1 ≡ suc opened = omega arith in
    then_reaches o n (driver_lines opened d) (listed driver_lines (opened + 1) drivers)
    (outside (suc opened) (ds ++ shape_of d ∷ []) []) (outside end all [])
    (driver_walk o n opened ds d h (omega (arith, few)) (All-head DriverFits d drivers fits))
    (λ mid m at. rw next (drivers_walk mid m (suc opened) (ds ++ shape_of d ∷ []) drivers end all at
    (omega (arith, few)) (All-tail DriverFits d drivers fits) (omega (arith, is))
    (whole ∙ sym (append_assoc ds (shape_of d ∷ []) (map shape_of drivers)))))

devices_walk : (o : Outline) (n count : ℕ) (ds : List Shape) (before : List Device) (k : ℕ)
    (devices all : List Device) → IsAt (outside count ds before) o → count ≤ 8 → k ≡ length before
    → k + length devices ≤ 16 → DevicesFit count k devices → all ≡ before ++ devices
    → Reaches o n (listed device_lines k devices) (outside count ds all)
devices_walk o n count ds before k [] all h few is room fits whole =
    let same : all ≡ before = whole ∙ append-nil before in
    none_reaches o n (outside count ds all) (rw same h)
devices_walk o n count ds before k (d ∷ devices) all h few is room fits whole =
    let next : k + 1 ≡ suc k = omega arith in
    let first = rw is at fits.0 in
    then_reaches o n (line.Device k d ∷ []) (listed device_lines (k + 1) devices)
    (outside count ds (before ++ d ∷ [])) (outside count ds all)
    (rw is (device_turn o n (outside count ds before) d h refl few (omega (arith, is, room)) first))
    (λ mid m at. rw next (devices_walk mid m count ds (before ++ d ∷ []) (suc k) devices all at few
    (let long = longer before d in omega (arith, is, long)) (omega (arith, room)) fits.1
    (whole ∙ sym (append_assoc before (d ∷ []) devices))))

-- before the first line
at_first : IsAt (outside 0 [] []) nothing_read
at_first = record {
  place = refl;
  drivers = record { named = refl; shaped = refl };
  devices = record { named = refl; same = refl };
  routines = record { named = refl; same = refl; sorted = refl };
  queues = record { named = refl; same = refl };
  read = refl;
  write = refl;
  control = refl;
  startio = refl;
  waiting = refl;
  dpc = refl;
  sort = λ is. cc;
  steps = record { new = λ p small past. refl; many = refl };
}

pub set_walk : (set : Set) → IsSound set
    → Reaches nothing_read 1 (set_lines set)
    (outside (length set.drivers) (map shape_of set.drivers) set.devices)
set_walk set h =
    let count = length set.drivers in
    let shapes = map shape_of set.drivers in
    let few = h.few_drivers in
    let room = h.few_devices in
    then_reaches nothing_read 1 (listed driver_lines 0 set.drivers)
    (listed device_lines 0 set.devices)
    (outside count shapes []) (outside count shapes set.devices)
    (drivers_walk nothing_read 1 0 [] set.drivers count shapes at_first
    (omega (arith, few)) h.drivers
    (omega arith) refl)
    (λ mid m at. devices_walk mid m count shapes [] 0 set.devices set.devices at few refl
    (omega (arith, room)) h.devices refl)
