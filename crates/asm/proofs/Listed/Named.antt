-- The listing of a set names the set.
use Rattle.std.proofs.Common.{◌≡◌, ℕ, ◌+◌, ◌<◌, ◌≤◌, suc, Bool, true, false, List, [], ◌∷◌, ◌++◌, length, map, Option, Some, None, IfSome, refl, ap, sym, ◌∙◌, arith, All}
use Rattle.std.specs.Prelude.{get_or, slice_get, Ok, if◌then◌else◌}
use Rattle.std.specs.List.{list_any}
use Rattle.std.proofs.lemmas.List.Elements.{All-head, All-tail}
use Rattle.std.proofs.lemmas.Option.{slice_get_within}
use Rattle.model.specs.declared.instr.Instr.{Instr}
use Rattle.model.specs.declared.set.Device.{Device}
use Rattle.model.specs.declared.set.Driver.{Driver}
use Rattle.model.specs.declared.set.Queue.{Queue}
use Rattle.model.specs.declared.set.Routine.{Routine}
use Rattle.model.specs.declared.set.Sort.{Sort}
use Rattle.model.specs.Set.{label_of, Set}
use Rattle.model.specs.Sound.{completion_named, queue_named, CallsFit, CancelFits, DevicesFit, DriverFits, GuardFits, HasSort, IsCancel, IsDispatch, IsDpc, IsSound, IsStartIo, QueuesFit, RoutineFits}
use Rattle.asm_line.specs.declared.line.Line.{Line}
use Rattle.asm.specs.declared.draft.Place.TheVariants.{Outside}
use Rattle.asm.specs.Outline.{noted, nothing_read, Outline}
use Rattle.asm.specs.Drafting.{draft_after_line, draft_ended, draft_fitted, draft_named, draft_placed, read_on, draft_reading, draft_resolved}
use Rattle.asm.specs.Reading.{IsNamed}
use Rattle.asm.proofs.Scopes.{Reads}
use Rattle.asm.proofs.Codes.{all_codes, codes_of}
use Rattle.asm_line.specs.declared.entry.Entry.{Entry}
use Rattle.asm_line.specs.declared.entry.Entry.TheVariants as line
use Rattle.asm_line.specs.ListedWords.{joined, words_of}
use Rattle.asm_line.specs.Listing.{device_lines, driver_lines, jumps_to, label_at, listed, listing, naming, queue_lines, routine_lines, set_lines, step_lines, table_lines}
use Rattle.asm_line.proofs.Back.{lines_back, AllFit}
use Rattle.asm_line.proofs.Digits.{IsSmall}
use Rattle.asm_line.proofs.Meaning.{meant, EntryFits, InstrFits}
use Rattle.asm.proofs.Tidy.{nothing_tidy}
use Rattle.asm.proofs.Unknown.Lines.{unknown_is}
use Rattle.asm.proofs.Declared.Answer.{set_same}
use Rattle.asm.proofs.Written.Said.{drivers_said}
use Rattle.asm.proofs.Written.Lines.{drivers_read}
use Rattle.asm.proofs.Listed.Codes.{listed_codes}
use Rattle.asm.proofs.Listed.Known.{none_unknown}
use Rattle.asm.proofs.Listed.Sets.{set_walk, waiting_cancel}
use Rattle.asm.proofs.Listed.Stage.{passes_read, shape_of, Shape}

-- every number of a set has 64 bits
append_fits : (es ds : List Entry) → AllFit es → AllFit ds → AllFit (es ++ ds)
append_fits [] ds h k = k
append_fits (e ∷ es) ds h k = (h.0, append_fits es ds h.1 k)

routine_small : (P : Sort → Type 0) (rs : List Routine) (number : Option ℕ) → length rs ≤ 32
    → IfSome number (λ r. HasSort P (slice_get rs r)) → IfSome number IsSmall
routine_small P rs None few h = tt
routine_small P rs (Some n) few h = by (slice_get rs n) refl h
  where
    by : (o : Option Routine) → slice_get rs n ≡ o → HasSort P o → IsSmall n
    by None is h = absurd h
    by (Some r) is h = let within = slice_get_within rs n r is in omega (arith, within, few)

queues_fit : (rs : List Routine) (k : ℕ) (qs : List Queue) → length rs ≤ 32
    → k + length qs ≤ 4 → All GuardFits qs → All (CancelFits rs) qs
    → AllFit (listed queue_lines k qs)
queues_fit rs k [] few room h g = tt
queues_fit rs k (q ∷ qs) few room h g = (
  (
    omega (arith, room),
    (
      All-head GuardFits q qs h,
      routine_small _ rs q.cancel few (All-head (CancelFits rs) q qs g),
    ),
  ),
  queues_fit rs (k + 1) qs few (omega (arith, room)) (All-tail GuardFits q qs h)
      (All-tail (CancelFits rs) q qs g),
)

naming_fit : (names : ℕ → Entry) (number : Option ℕ) → ((r : ℕ) → IsSmall r → EntryFits (names r))
    → IfSome number IsSmall → AllFit (naming names number)
naming_fit names None each h = tt
naming_fit names (Some r) each h = (each r h, tt)

table_fit : (d : Driver) → DriverFits d → AllFit (table_lines d)
table_fit d h =
    let waiting = routine_small IsCancel d.routines d.startio_cancel h.few
    (waiting_cancel d.routines d.startio d.startio_cancel h.waiting) in
    append_fits (naming _ d.read) _
    (naming_fit _ d.read (λ r s. s) (routine_small IsDispatch d.routines d.read h.few h.read))
    (append_fits (naming _ d.write) _
    (naming_fit _ d.write (λ r s. s) (routine_small IsDispatch d.routines d.write h.few h.write))
    (append_fits (naming _ d.control) _ (naming_fit _ d.control (λ r s. s)
    (routine_small IsDispatch d.routines d.control h.few h.control))
    (append_fits (naming _ d.startio) _ (naming_fit _ d.startio (λ r s. (s, waiting))
    (routine_small IsStartIo d.routines d.startio h.few h.startio))
    (naming_fit _ d.dpc (λ r s. s) (routine_small IsDpc d.routines d.dpc h.few h.dpc)))))

label_small : (code : List Instr) (p : ℕ) → IsSmall p → IfSome (label_at code p) IsSmall
label_small code p small = by (list_any (jumps_to p) code)
  where
    by : (b : Bool) → IfSome (if b then Some p else None) IsSmall
    by true = small
    by false = tt

target_small : (code : List Instr) (o : Option ℕ) → length code ≤ 1024
    → IfSome o (λ to. to < length code) → IfSome o IsSmall
target_small code None few h = tt
target_small code (Some to) few h = omega (arith, few, h)

queue_small : (count : ℕ) (o : Option ℕ) → count ≤ 4 → IfSome o (λ q. q < count) → IfSome o IsSmall
queue_small count None few h = tt
queue_small count (Some q) few h = omega (arith, few, h)

-- the numbers of an instruction of a routine of a driver
instr_fits : (d : Driver) (r : Routine) (k : ℕ) (e : Instr) → k < length r.code → DriverFits d
    → RoutineFits r → CallsFit d.routines r → QueuesFit (length d.queues) r
    → InstrFits (get_or r.code k e)
instr_fits d r k e inside h fits calls uses = record {
  operands = fits.operands k e inside;
  label = target_small r.code (label_of (get_or r.code k e)) fits.few (fits.labels k e inside);
  routine = routine_small _ d.routines (completion_named (get_or r.code k e)) h.few
      (calls k e inside);
  queue = queue_small (length d.queues) (queue_named (get_or r.code k e)) h.few_queues
      (uses k e inside);
}

steps_fit : (code : List Instr) (p : ℕ) (is : List Instr) → p + length is ≤ 1024
    → All InstrFits is → AllFit (listed (step_lines code) p is)
steps_fit code p [] room h = tt
steps_fit code p (i ∷ is) room h = (
  (label_small code p (omega (arith, room)), All-head InstrFits i is h),
  steps_fit code (p + 1) is (omega (arith, room)) (All-tail InstrFits i is h),
)

routines_fit : (d : Driver) (k : ℕ) (rs : List Routine) → DriverFits d → k + length rs ≤ 32
    → All RoutineFits rs → All (CallsFit d.routines) rs → All (QueuesFit (length d.queues)) rs
    → AllFit (listed routine_lines k rs)
routines_fit d k [] h room each calls uses = tt
routines_fit d k (r ∷ rs) h room each calls uses =
    let one = All-head RoutineFits r rs each in
    let few = one.few in (
      omega (arith, room),
      append_fits (listed (step_lines r.code) 0 r.code ++ line.EndRoutine ∷ [])
          (listed routine_lines (k + 1) rs)
          (append_fits (listed (step_lines r.code) 0 r.code) (line.EndRoutine ∷ [])
          (steps_fit r.code 0 r.code (omega (arith, few))
          (λ k e inside. instr_fits d r k e inside h one
          (All-head (CallsFit d.routines) r rs calls)
          (All-head (QueuesFit (length d.queues)) r rs uses))) (tt, tt))
          (routines_fit d (k + 1) rs h (omega (arith, room)) (All-tail RoutineFits r rs each)
          (All-tail (CallsFit d.routines) r rs calls)
          (All-tail (QueuesFit (length d.queues)) r rs uses)),
    )

drivers_fit : (k : ℕ) (ds : List Driver) → k + length ds ≤ 8 → All DriverFits ds
    → AllFit (listed driver_lines k ds)
drivers_fit k [] room h = tt
drivers_fit k (d ∷ ds) room h =
    let fits = All-head DriverFits d ds h in
    let few = fits.few in
    let room_queues = fits.few_queues in
    let queues = listed queue_lines 0 d.queues in
    let routines = listed routine_lines 0 d.routines in
    append_fits (driver_lines k d) (listed driver_lines (k + 1) ds) (
      omega (arith, room),
      append_fits queues (table_lines d ++ (routines ++ line.EndDriver ∷ []))
          (queues_fit d.routines 0 d.queues few (omega (arith, room_queues))
          fits.guards fits.cancels)
          (append_fits (table_lines d) (routines ++ line.EndDriver ∷ []) (table_fit d fits)
          (append_fits routines (line.EndDriver ∷ [])
          (routines_fit d 0 d.routines fits (omega (arith, few)) fits.routines
          fits.calls fits.queues)
          (tt, tt))),
    )
    (drivers_fit (k + 1) ds (omega (arith, room)) (All-tail DriverFits d ds h))

lower_small : (k : ℕ) (o : Option ℕ) → k ≤ 16 → IfSome o (λ l. l < k) → IfSome o IsSmall
lower_small k None few h = tt
lower_small k (Some l) few h = omega (arith, few, h)

devices_fit : (count k : ℕ) (ds : List Device) → count ≤ 8 → k + length ds ≤ 16
    → DevicesFit count k ds → AllFit (listed device_lines k ds)
devices_fit count k [] few room h = tt
devices_fit count k (d ∷ ds) few room h =
    let fits = h.0 in
    let driver = fits.driver in
    let stack = fits.high in
    let next : k + 1 ≡ suc k = omega arith in (
      (
        omega (arith, room),
        (
          omega (arith, few, driver),
          (
            omega (arith, stack),
            lower_small k d.lower (omega (arith, room)) fits.lower,
          ),
        ),
      ),
      rw next (devices_fit count (suc k) ds few (omega (arith, room)) h.1),
    )

set_fits : (set : Set) → IsSound set → AllFit (set_lines set)
set_fits set h =
    let few = h.few_drivers in
    let room = h.few_devices in
    append_fits (listed driver_lines 0 set.drivers) (listed device_lines 0 set.devices)
    (drivers_fit 0 set.drivers (omega (arith, few)) h.drivers)
    (devices_fit (length set.drivers) 0 set.devices few (omega (arith, room)) h.devices)

-- a routine and a driver by their parts
abbrev routine_with : Sort → List Instr → Routine
routine_with sort code = record { sort = sort; code = code }

abbrev driver_of : List Routine → List Queue → Option ℕ → Option ℕ → Option ℕ → Option ℕ
    → Option ℕ → Option ℕ → Driver
driver_of routines queues read write control startio startio_cancel dpc = record {
  routines = routines;
  queues = queues;
  read = read;
  write = write;
  control = control;
  startio = startio;
  startio_cancel = startio_cancel;
  dpc = dpc;
}

abbrev set_with : List Driver → List Device → Set
set_with drivers devices = record { drivers = drivers; devices = devices }

-- routines with the same sorts and instructions are the same
same_routines : (rs ss : List Routine)
    → map (λ (r : Routine). r.sort) rs ≡ map (λ (r : Routine). r.sort) ss
    → codes_of rs ≡ codes_of ss → rs ≡ ss
same_routines [] [] h g = refl
same_routines [] (s ∷ ss) h g = cc
same_routines (r ∷ rs) [] h g = cc
same_routines (r ∷ rs) (s ∷ ss) h g =
    let sort : r.sort ≡ s.sort = cc in
    let code : r.code ≡ s.code = cc in
    let sorts : map (λ (r : Routine). r.sort) rs ≡ map (λ (r : Routine). r.sort) ss = cc in
    let codes : codes_of rs ≡ codes_of ss = cc in
    let one : routine_with r.sort r.code ≡ routine_with s.sort s.code = cc in
    ap (λ x. x ∷ rs) one ∙ ap (λ xs. s ∷ xs) (same_routines rs ss sorts codes)

same_driver : (d e : Driver) → shape_of d ≡ shape_of e → codes_of d.routines ≡ codes_of e.routines
    → d ≡ e
same_driver d e h g =
    let routines = same_routines d.routines e.routines (ap (λ (s : Shape). s.sorts) h) g in
    let queues : d.queues ≡ e.queues = ap (λ (s : Shape). s.queues) h in
    let read : d.read ≡ e.read = ap (λ (s : Shape). s.read) h in
    let write : d.write ≡ e.write = ap (λ (s : Shape). s.write) h in
    let control : d.control ≡ e.control = ap (λ (s : Shape). s.control) h in
    let startio : d.startio ≡ e.startio = ap (λ (s : Shape). s.startio) h in
    let waiting : d.startio_cancel ≡ e.startio_cancel = ap (λ (s : Shape). s.startio_cancel) h in
    let dpc : d.dpc ≡ e.dpc = ap (λ (s : Shape). s.dpc) h in
    let same : driver_of d.routines d.queues d.read d.write d.control d.startio d.startio_cancel
    d.dpc ≡ driver_of e.routines e.queues e.read e.write e.control e.startio e.startio_cancel
    e.dpc = cc in
    same

same_drivers : (ds es : List Driver) → map shape_of ds ≡ map shape_of es
    → all_codes ds ≡ all_codes es → ds ≡ es
same_drivers [] [] h g = refl
same_drivers [] (e ∷ es) h g = cc
same_drivers (d ∷ ds) [] h g = cc
same_drivers (d ∷ ds) (e ∷ es) h g =
    let shape : shape_of d ≡ shape_of e = cc in
    let code : codes_of d.routines ≡ codes_of e.routines = cc in
    let shapes : map shape_of ds ≡ map shape_of es = cc in
    let codes : all_codes ds ≡ all_codes es = cc in
    ap (λ x. x ∷ ds) (same_driver d e shape code)
    ∙ ap (λ xs. e ∷ xs) (same_drivers ds es shapes codes)

-- what is read without a fault is read
read_through : (o : Outline) (n : ℕ) (raws : List (List ℕ)) (ls : List Line) (end : Outline)
    → Reads o n raws ls end → end.place ≡ Outside → draft_reading o n raws ≡ Ok end
read_through o n [] [] end h closed =
    let at : o.place ≡ Outside = ap (λ (x : Outline). x.place) h ∙ closed in
    ap (λ p. draft_ended o n p) at ∙ ap (λ (x : Outline). Ok x) h
read_through o n [] (l ∷ ls) end h closed = absurd h
read_through o n (raw ∷ raws) [] end h closed = absurd h
read_through o n (raw ∷ raws) (l ∷ ls) end h closed =
    let next = noted o n l.label l.body in
    let one : read_on o n raw ≡ Ok next =
    ap (λ r. draft_placed o n r) h.0 ∙ ap (λ m. draft_fitted o n l m) h.1.0 in
    ap (λ r. draft_after_line n r (λ next. draft_reading next (n + 1) raws)) one
    ∙ read_through next (n + 1) raws ls end h.1.1 closed

-- the listing of a set names the set
pub listing_named : (set : Set) → IsSound set → IsNamed (listing set) set
listing_named set h =
    let es = set_lines set in
    let fits = set_fits set h in
    let walked = set_walk set h in
    let end = walked.end in
    let raws = map (λ e. joined (words_of e)) es in
    let ls = map meant es in
    let read : Reads nothing_read 1 raws ls end =
    passes_read nothing_read 1 es end walked.next fits walked.passes in
    let closed : end.place ≡ Outside = walked.at.place in
    let unknown : end.unknown ≡ None =
    unknown_is raws ls end read closed ∙ none_unknown set h in
    let codes : all_codes end.drivers ≡ all_codes set.drivers =
    ap all_codes (drivers_read nothing_read 1 Outside raws ls end read closed refl nothing_tidy)
    ∙ drivers_said ls ∙ listed_codes set h in
    let drivers : end.drivers ≡ set.drivers =
    same_drivers end.drivers set.drivers walked.at.drivers.shaped codes in
    let devices : end.devices ≡ set.devices = walked.at.devices.same in
    let through = read_through nothing_read 1 raws ls end read closed in
    sym (set_same (listing set))
    ∙ ap (λ raws. draft_named (draft_reading nothing_read 1 raws)) (lines_back es fits)
    ∙ ap (λ r. draft_named r) through
    ∙ ap (λ o. draft_resolved end o) unknown
    ∙ ap (λ ds. Ok (set_with ds end.devices)) drivers
    ∙ ap (λ ds. Ok (set_with set.drivers ds)) devices
