-- Routines that begin: those that serve a request of a device, its DPC and StartIo routines, and
-- those that completion calls.
use Rattle.laws_runs.proofs.States.Listed.{named_only}
use Rattle.laws_runs.proofs.Prelude.{ap, arith, refl, subst, sym, zero, ◌-◌, ◌∙◌, eq-eqb, slice_get-get_or, slice_get_within, list_any, Bool, IfSome, List, None, Option, Some, [], false, is_none, is_some, length, nat_eq, option_and_then, replicate, slice_get, slice_index_or, suc, true, ℕ, ◌&&◌, ◌+◌, ◌<◌, ◌∷◌, ◌≡◌, ◌≤◌, certificate, certificate_of, completes_with, dispatched, routine_of_device, sort_of_completion, dpc_activation, serves_request, lacks_lower, entered_with, entry_of_sort, is_completion, is_hold, Set, cancel_routine_named, cancels_for, default_number, default_routine, dpc_of, lower_of, member, routine_of, sort_in, sort_of, startio_of, DeviceFits, DriverFits, HasSort, IsSound, Shared, completion_of, current_location, entered, packet_of, Abs, Fresh, NoDuty, BlankKind, New, Own, Queued, View, Open, SettledMark, Cancelling, MAX_ROUTINES, REGISTERS, SPIN_LOCKS, Device, Driver, Queue, QueueName, Declared, DeviceQueue, RoutineOf, Sort, Cancel, Dispatch, Dpc, Hold, Propagate, StartIo, Major, Read, Activation, Armer, Completion, Packet, Value, Blank, Ref}
use Rattle.model.specs.Sound.{WaitingFits}
use Rattle.std.specs.Prelude.{unwrap_or}
use Rattle.model.specs.declared.status.Major.TheVariants.{Write, Control}
use Rattle.model.specs.Certificate.{certificate_in}
use Rattle.model.specs.Effect.{serving_for}
use Rattle.model.specs.Set.{handler_of, serving}
use Rattle.model.specs.Sound.{HandlerFits, IsDispatch, IsDpc, IsStartIo, DpcFits, StartIoFits, IsCancel, CancelFits}
use Rattle.laws_runs.proofs.Devices.{device_fits}
use Rattle.laws_runs.proofs.Lists.{all_at}
use Rattle.laws_runs.proofs.States.Fits.{CompletionLeads, Fits, completion_leads, packet_leads, ArmerLeads}
use Rattle.laws_runs.proofs.States.Frames.{IsGood, Ready, Serves, state_of, due, due_in, due_is}
use Rattle.laws_runs.proofs.States.Kinds.{HasKinds}
use Rattle.laws_runs.proofs.States.Known.{IsKnown, routine_found}
use Rattle.laws_runs.proofs.States.Remaining.{rest, certified}
use Rattle.laws_runs.specs.ArrivingStates.{States}
use Rattle.laws_runs.proofs.Tests.{or_left, or_right, not_and}

-- a routine of a sort
abbrev pub IsOfSort : Set → Activation → Sort → Type 0
IsOfSort set a sort = sort_of set a.driver a.routine ≡ sort

-- a completion routine
abbrev pub IsCompleting : Set → Activation → Type 0
IsCompleting set a = is_completion (sort_of set a.driver a.routine) ≡ true

-- the routine that serves a request is there, and is a dispatch routine
abbrev pub Serving : Set → ℕ → ℕ → Type 0
Serving set driver number =
    (routine : RoutineOf) × (routine_of set driver number ≡ Some routine)
    × (routine.sort ≡ Dispatch)

dispatch_sort : (sort : Sort) → IsDispatch sort → sort ≡ Dispatch
dispatch_sort Dispatch h = refl
dispatch_sort _ h = absurd h

dpc_sort : (sort : Sort) → IsDpc sort → sort ≡ Dpc
dpc_sort Dispatch h = absurd h
dpc_sort StartIo h = absurd h
dpc_sort Dpc h = refl
dpc_sort _ h = absurd h

startio_sort : (sort : Sort) → IsStartIo sort → sort ≡ StartIo
startio_sort Dispatch h = absurd h
startio_sort StartIo h = refl
startio_sort _ h = absurd h

handler_fits : (driver : Driver) (major : Major) → DriverFits driver
    → HandlerFits driver.routines (handler_of driver major)
handler_fits driver Read fits = fits.read
handler_fits driver Write fits = fits.write
handler_fits driver Control fits = fits.control

module _ (set : Set) (sound : IsSound set) (driver : ℕ) where
  served_in : (number : ℕ) (d : Driver) (o : Option RoutineOf)
      → slice_get set.drivers driver ≡ Some d
      → length d.routines ≤ MAX_ROUTINES → slice_get d.routines number ≡ o → HasSort IsDispatch o
      → Serving set driver number
  served_in number d None there few found h = absurd h
  served_in number d (Some routine) there few found h = (
    routine,
    routine_found set driver d there few number routine found,
    dispatch_sort
        routine.sort h,
  )

  served_by : (d : Driver) (handler : Option ℕ) → slice_get set.drivers driver ≡ Some d
      → length d.routines ≤ MAX_ROUTINES → HandlerFits d.routines handler
      → Serving set driver (unwrap_or handler default_number)
  served_by d None there few fits = (default_routine, refl, refl)
  served_by d (Some number) there few fits =
      served_in number d (slice_get d.routines number) there few refl fits

  serves_in : (o : Option Driver) (major : Major) → slice_get set.drivers driver ≡ o
      → Serving set driver (serving o major)
  serves_in None major there = (default_routine, refl, refl)
  serves_in (Some d) major there =
      let fits : DriverFits d = all_at DriverFits set.drivers driver d sound.drivers there in
      served_by d (handler_of d major) there fits.few (handler_fits d major fits)

  pub serves : (major : Major) → Serving set driver (serving (slice_get set.drivers driver) major)
  serves major = serves_in (slice_get set.drivers driver) major refl

  serves_for : (major : Option Major) → Serving set driver (serving_for set driver major)
  serves_for None = (default_routine, refl, refl)
  serves_for (Some major) = serves major

cancel_sort : (sort : Sort) → IsCancel sort → sort ≡ Cancel
cancel_sort Dispatch h = absurd h
cancel_sort StartIo h = absurd h
cancel_sort Dpc h = absurd h
cancel_sort Propagate h = absurd h
cancel_sort Hold h = absurd h
cancel_sort Cancel h = refl

-- the cancel routine of a queue is there
abbrev pub CancelThere : Set → ℕ → ℕ → Type 0
CancelThere set driver number =
    (routine : RoutineOf) × (routine_of set driver number ≡ Some routine) × (routine.sort ≡ Cancel)

module _ (set : Set) (sound : IsSound set) (driver number : ℕ) where
  cancel_found : (d : Driver) (o : Option RoutineOf) → slice_get set.drivers driver ≡ Some d
      → length d.routines ≤ MAX_ROUTINES → slice_get d.routines number ≡ o → HasSort IsCancel o
      → CancelThere set driver number
  cancel_found d None there few found h = absurd h
  cancel_found d (Some routine) there few found h = (
    routine,
    routine_found set driver d there few number routine found,
    cancel_sort routine.sort
        h,
  )

  cancel_of : (d : Driver) (q : ℕ) (o : Option Queue) → slice_get set.drivers driver ≡ Some d
      → slice_get d.queues q ≡ o → option_and_then (λ queue. queue.cancel) o ≡ Some number
      → CancelThere set driver number
  cancel_of d q None there found h = cc
  cancel_of d q (Some queue) there found h =
      let fits : DriverFits d = all_at DriverFits set.drivers driver d sound.drivers there in
      cancel_found d (slice_get d.routines number) there fits.few refl
      (subst (λ (o : Option ℕ). IfSome o (λ (k : ℕ). HasSort IsCancel (slice_get d.routines k))) h
      (all_at (CancelFits d.routines) d.queues q queue fits.cancels found))

  cancel_in : (q : ℕ) (o : Option Driver) → slice_get set.drivers driver ≡ o
      → option_and_then (λ queue. queue.cancel) (option_and_then (λ d. slice_get d.queues q) o)
      ≡ Some number
      → CancelThere set driver number
  cancel_in q None there h = cc
  cancel_in q (Some d) there h = cancel_of d q (slice_get d.queues q) there refl h

  waiting_by : (d : Driver) (startio o : Option ℕ) → slice_get set.drivers driver ≡ Some d
      → DriverFits d → d.startio_cancel ≡ o → WaitingFits d.routines startio o
      → o ≡ Some number → CancelThere set driver number
  waiting_by d None (Some cancel) there fits is waiting h = absurd waiting
  waiting_by d (Some startio) (Some cancel) there fits is waiting h =
      let same : cancel ≡ number = cc in
      cancel_found d (slice_get d.routines number) there fits.few refl
      (subst (λ (k : ℕ). HasSort IsCancel (slice_get d.routines k)) same waiting)
  waiting_by d startio None there fits is waiting h = cc

  waiting_in : (o : Option Driver) → slice_get set.drivers driver ≡ o
      → option_and_then (λ d. d.startio_cancel) o ≡ Some number → CancelThere set driver number
  waiting_in None there h = cc
  waiting_in (Some d) there h =
      let fits : DriverFits d = all_at DriverFits set.drivers driver d sound.drivers there in
      waiting_by d d.startio d.startio_cancel there fits refl fits.waiting h

  cancel_named : (name : QueueName) → cancel_routine_named set driver name ≡ Some number
      → CancelThere set driver number
  cancel_named (Declared q) h = cancel_in q (slice_get set.drivers driver) refl h
  cancel_named DeviceQueue h = waiting_in (slice_get set.drivers driver) refl h

-- a routine begins in the state of its sort; a cancel routine in that of the queue that names it,
-- and one that no queue names not at all
abbrev pub cancel_state : Option QueueName → Abs
cancel_state None = entered_with BlankKind NoDuty SettledMark false
cancel_state (Some name) =
    record (entered_with (Queued name Cancelling) NoDuty SettledMark false) { cancel = true }

abbrev pub first_state : Sort → Option QueueName → Abs
first_state Dispatch name = entered_with New Fresh SettledMark false
first_state StartIo name = entered_with Own NoDuty SettledMark true
first_state Dpc name = entered_with BlankKind NoDuty SettledMark false
first_state Propagate name = entered_with View NoDuty Open false
first_state Hold name = entered_with New Fresh SettledMark false
first_state Cancel name = cancel_state name

started : (sort : Sort) (name : Option QueueName) (s : Abs)
    → entry_of_sort sort name ≡ Some s → s ≡ first_state sort name
started Dispatch name s h = cc
started StartIo name s h = cc
started Dpc name s h = cc
started Propagate name s h = cc
started Hold name s h = cc
started Cancel None s h = cc
started Cancel (Some list) s h = cc

blank_kinds : (issued count : ℕ) → HasKinds issued (replicate count BlankKind)
    (replicate count Blank)
blank_kinds issued zero = tt
blank_kinds issued (suc count) = (tt, blank_kinds issued count)

first_kinds : (issued n : ℕ) (sort : Sort) (name : Option QueueName) → n < issued
    → HasKinds issued (first_state sort name).kinds (Ref n ∷ replicate (REGISTERS - 1) Blank)
first_kinds issued n Dispatch name l = ((n, refl, l), blank_kinds issued (REGISTERS - 1))
first_kinds issued n StartIo name l = ((n, refl, l), blank_kinds issued (REGISTERS - 1))
first_kinds issued n Dpc name l = (tt, blank_kinds issued (REGISTERS - 1))
first_kinds issued n Propagate name l = ((n, refl, l), blank_kinds issued (REGISTERS - 1))
first_kinds issued n Hold name l = ((n, refl, l), blank_kinds issued (REGISTERS - 1))
first_kinds issued n Cancel None l = (tt, blank_kinds issued (REGISTERS - 1))
first_kinds issued n Cancel (Some list) l = ((n, refl, l), blank_kinds issued (REGISTERS - 1))

first_sixteen : (sort : Sort) (name : Option QueueName)
    → length (first_state sort name).kinds ≡ REGISTERS
first_sixteen Dispatch name = refl
first_sixteen StartIo name = refl
first_sixteen Dpc name = refl
first_sixteen Propagate name = refl
first_sixteen Hold name = refl
first_sixteen Cancel None = refl
first_sixteen Cancel (Some list) = refl

first_eight : (sort : Sort) (name : Option QueueName)
    → length (first_state sort name).locks ≡ SPIN_LOCKS
first_eight Dispatch name = refl
first_eight StartIo name = refl
first_eight Dpc name = refl
first_eight Propagate name = refl
first_eight Hold name = refl
first_eight Cancel None = refl
first_eight Cancel (Some list) = refl

-- a cancel routine that is entered is named by a queue
named_by : (name : Option QueueName) (s : Abs) → entry_of_sort Cancel name ≡ Some s
    → is_some name ≡ true
named_by None s h = cc
named_by (Some list) s h = refl

pub sort_there : (set : Set) (driver number : ℕ) (routine : RoutineOf)
    → routine_of set driver number ≡ Some routine
    → sort_of set driver number ≡ routine.sort
sort_there set driver number routine there = ap sort_in there

-- a routine that begins, handed a value: of a sort, ready, with its certificate left; where it is a
-- cancel routine, with the queue that names it
pub record Enters (set : Set) (states : States) (issued : ℕ) (a : Activation) (sort : Sort)
    (first : Value) : Type 0 where
  pub ready : Ready set states issued a
  pub of_sort : IsOfSort set a sort
  pub due : due set a ≤ certificate_of set a.driver a.routine
  pub start : state_of states a ≡ first_state sort (cancels_for set a.driver a.routine)
  pub named : IsOfSort set a Cancel → is_some (cancels_for set a.driver a.routine) ≡ true
  pub registers : a.registers ≡ first ∷ replicate (REGISTERS - 1) Blank

-- the StartIo routine of a device, for a packet
abbrev pub startio_activation : Set → ℕ → ℕ → ℕ → Activation
startio_activation set device number n =
    entered (routine_of_device (slice_get set.devices device)) number device (Ref n)

-- handed a packet
abbrev pub Begins : Set → States → ℕ → Activation → Sort → ℕ → Type 0
Begins set states issued a sort n = Enters set states issued a sort (Ref n)

module _ (set : Set) (states : States) (good : IsGood set states) (issued : ℕ) where
  enters_with : (driver number device : ℕ) (routine : RoutineOf) (sort : Sort) (first : Value)
      → HasKinds issued (first_state sort (cancels_for set driver number)).kinds
      (first ∷ replicate (REGISTERS - 1) Blank)
      → routine_of set driver number ≡ Some routine → routine.sort ≡ sort → Serves set device driver
      → Enters set states issued (entered driver number device first) sort first
  enters_with driver number device routine sort first kinds there is served =
      let a : Activation = entered driver number device first in
      let known : IsKnown (member set driver number routine) (states driver number) =
      good.led.known driver number routine there in
      let name : Option QueueName = cancels_for set driver number in
      let enters : entry_of_sort sort name ≡ Some (states driver number 0) =
      ap (λ (x : Sort). entry_of_sort x name) (sym is) ∙ known.follows.start in
      let start : states driver number 0 ≡ first_state sort name =
      started sort name (states driver number 0) enters in
      let left : due set a ≡ due_in routine.code a = due_is set routine a there in
      let whole : rest routine.code 0 ≡ certificate routine.code =
      certified routine.code known.follows.formed in
      let all : certificate_of set driver number ≡ certificate routine.code =
      ap (λ (o : Option RoutineOf). certificate_in o) there in
      let zero_more : due_in routine.code a ≡ rest routine.code 0 + 0 = refl in
      record {
        ready = (
          routine,
          record {
            is_of = there;
            serves = served;
            within = known.follows.some;
            nested = refl;
            kinds = rw start kinds;
            eight = rw start (first_eight sort name);
            sixteen = rw start (first_sixteen sort name);
          },
        );
        of_sort = sort_there set driver number routine there ∙ is;
        due = omega arith;
        start = start;
        named = λ cancels. named_by name (states driver number 0)
            (ap (λ (x : Sort). entry_of_sort x name)
            (sym cancels ∙ sort_there set driver number routine there ∙ is) ∙ enters);
        registers = refl;
      }

  -- a routine that the driver of a device names, of a sort, as the lowest frame of a thread
  module _ (sort : Sort) (first : Value) (Is : Sort → Type 0) (named : Driver → Option ℕ)
      (kinds : (name : Option QueueName)
      → HasKinds issued (first_state sort name).kinds (first ∷ replicate (REGISTERS - 1) Blank))
      (is_sort : (other : Sort) → Is other → other ≡ sort)
      (fits : (driver : Driver) (number : ℕ) → DriverFits driver → named driver ≡ Some number
      → HasSort Is (slice_get driver.routines number)) where
    abbrev EntersFor : ℕ → ℕ → Type 0
    EntersFor device number =
        Enters set states issued
        (entered (routine_of_device (slice_get set.devices device)) number device first) sort first

    root_found : (device number : ℕ) (d : Device) (driver : Driver) (o : Option RoutineOf)
        → slice_get set.devices device ≡ Some d → slice_get set.drivers d.driver ≡ Some driver
        → slice_get driver.routines number ≡ o → HasSort Is o → EntersFor device number
    root_found device number d driver None there of_driver found h = absurd h
    root_found device number d driver (Some routine) there of_driver found h =
        let few : length driver.routines ≤ MAX_ROUTINES =
        (all_at DriverFits set.drivers d.driver driver good.sound.drivers of_driver).few in
        subst (λ (x : ℕ). Enters set states issued (entered x number device first) sort first)
        (sym (ap routine_of_device there))
        (enters_with d.driver number device routine sort first
        (kinds (cancels_for set d.driver number))
        (routine_found set d.driver driver of_driver few number routine found)
        (is_sort routine.sort h) (d, there, refl))

    root_driver : (device number : ℕ) (d : Device) (o : Option Driver)
        → slice_get set.devices device ≡ Some d → slice_get set.drivers d.driver ≡ o
        → option_and_then named o ≡ Some number → EntersFor device number
    root_driver device number d None there of_driver is = cc
    root_driver device number d (Some driver) there of_driver is =
        root_found device number d driver (slice_get driver.routines number) there of_driver refl
        (fits driver number
        (all_at DriverFits set.drivers d.driver driver good.sound.drivers of_driver) is)

    root_device : (device number : ℕ) (o : Option Device) → slice_get set.devices device ≡ o
        → option_and_then named (option_and_then (λ d. slice_get set.drivers d.driver) o)
        ≡ Some number
        → EntersFor device number
    root_device device number None there is = cc
    root_device device number (Some d) there is =
        root_driver device number d (slice_get set.drivers d.driver) there refl is

  -- the DPC routine of a device
  pub begins_dpc : (device number : ℕ) → dpc_of set device ≡ Some number
      → Enters set states issued (dpc_activation set device number) Dpc Blank
  begins_dpc device number is =
      root_device Dpc Blank IsDpc (λ driver. driver.dpc)
      (λ name. (tt, blank_kinds issued (REGISTERS - 1)))
      dpc_sort
      (λ driver number fits is. subst (λ (o : Option ℕ). DpcFits driver.routines o) is fits.dpc)
      device number (slice_get set.devices device) refl is

  -- its StartIo routine, for a packet
  pub begins_startio : (device number n : ℕ) → n < issued → startio_of set device ≡ Some number
      → Begins set states issued (startio_activation set device number n) StartIo n
  begins_startio device number n low is =
      root_device StartIo (Ref n) IsStartIo (λ driver. driver.startio)
      (λ name. first_kinds issued n StartIo name low) startio_sort
      (λ driver number fits is. subst (λ (o : Option ℕ). StartIoFits driver.routines o) is
      fits.startio)
      device number (slice_get set.devices device) refl is

module _ (set : Set) (states : States) (good : IsGood set states) (issued n : ℕ) (low : n < issued)
  where
    begins_with : (driver number device : ℕ) (routine : RoutineOf) (sort : Sort)
        → routine_of set driver number ≡ Some routine → routine.sort ≡ sort
        → Serves set device driver
        → Begins set states issued (entered driver number device (Ref n)) sort n
    begins_with driver number device routine sort there is served =
        enters_with set states good issued driver number device routine sort (Ref n)
        (first_kinds issued n sort (cancels_for set driver number) low) there is served

    -- the dispatch routine of a device, for what a packet asks
    pub begins_dispatch : (device : ℕ) (d : Device) (o : Option Device) (major : Option Major)
        → slice_get set.devices device ≡ Some d → slice_get set.devices device ≡ o
        → Begins set states issued (dispatched set device o major n) Dispatch n
    begins_dispatch device d None major there is = let no : None ≡ Some d = sym is ∙ there in cc
    begins_dispatch device d (Some e) major there is =
        let served : Serving set e.driver (serving_for set e.driver major) =
        serves_for set good.sound e.driver major in
        begins_with e.driver (serving_for set e.driver major) device served.0 Dispatch served.1
        served.2 (e, is, refl)

    begins_below : (device lower : ℕ) (o : Option Device) (major : Option Major)
        → slice_get set.devices device ≡ o
        → option_and_then (λ d. d.lower) o ≡ Some lower
        → Begins set states issued (dispatched set lower (slice_get set.devices lower) major n)
        Dispatch n
    begins_below device lower None major there below = cc
    begins_below device lower (Some d) major there below =
        let fits : DeviceFits (length set.drivers) device d = device_fits set device d good.sound
        there in
        let earlier : lower < device =
        subst (λ (x : Option ℕ). IfSome x (λ l. l < device)) below fits.lower in
        let within : device < length set.devices = slice_get_within set.devices device d there in
        begins_dispatch lower (slice_index_or set.devices lower d) (slice_get set.devices lower)
        major
        (slice_get-get_or set.devices lower d (omega arith)) refl

    -- of the device under another
    pub begins_lower : (device lower : ℕ) (major : Option Major) → lower_of set device ≡ Some lower
        → Begins set states issued (dispatched set lower (slice_get set.devices lower) major n)
        Dispatch n
    begins_lower device lower major below =
        begins_below device lower (slice_get set.devices device) major refl below

    -- and for a request that is issued
    pub begins_request : (device : ℕ) (d : Device) (major : Major)
        → slice_get set.devices device ≡ Some d
        → Begins set states issued (serves_request set device d major n) Dispatch n
    begins_request device d major there =
        let served : Serving set d.driver (serving (slice_get set.drivers d.driver) major) =
        serves set good.sound d.driver major in
        begins_with d.driver (serving (slice_get set.drivers d.driver) major) device served.0
        Dispatch
        served.1 served.2
        (d, there, refl)

    -- the completion routine that is set in a location
    pub begins_completion : (c : Completion) (sort : Sort) → CompletionLeads set (Some c)
        → sort_of_completion set c ≡ sort
        → Begins set states issued (completes_with set c n) sort n
    begins_completion c sort h of_sort =
        let d : Device = h.0 in
        let is : routine_of_device (slice_get set.devices c.device)
        ≡ d.driver = ap routine_of_device h.1 in
        let its : h.2.0.sort ≡ sort =
        sym (sort_there set d.driver c.routine h.2.0 h.2.1)
        ∙ sym (ap (λ (driver : ℕ). sort_of set driver c.routine) is) ∙ of_sort in
        subst (λ (driver : ℕ). Begins set states issued (entered driver c.routine c.device (Ref n))
        sort n) (sym is)
        (begins_with d.driver c.routine c.device h.2.0 sort h.2.1 its (d, h.1, refl))

    -- the cancel routine that a cancel word names
    pub begins_cancelled : (armer : Armer) (number : ℕ) → ArmerLeads set (Some armer)
        → cancel_routine_named set (routine_of_device (slice_get set.devices armer.device))
        armer.queue
        ≡ Some number
        → Begins set states issued
        (entered (routine_of_device (slice_get set.devices armer.device)) number armer.device
        (Ref n))
        Cancel n
    begins_cancelled armer number h named =
        let d : Device = h.0 in
        let is : routine_of_device (slice_get set.devices armer.device) ≡ d.driver =
        ap routine_of_device h.1 in
        let its : cancel_routine_named set d.driver armer.queue ≡ Some number =
        ap (λ (driver : ℕ). cancel_routine_named set driver armer.queue) (sym is) ∙ named in
        let routine : CancelThere set d.driver number =
        cancel_named set good.sound d.driver number armer.queue its in
        subst (λ (driver : ℕ). Begins set states issued (entered driver number armer.device (Ref n))
        Cancel n) (sym is)
        (begins_with d.driver number armer.device routine.0 Cancel routine.1 routine.2
        (d, h.1, refl))

-- the one that is set in the location that a packet leaves: one that lets the completion go on, or
-- one that is lent the packet
completion_only : (sort : Sort) → is_completion sort ≡ true → is_hold sort ≡ false
    → sort ≡ Propagate
completion_only Propagate above free = refl
completion_only _ above free = cc

module _ (set : Set) (states : States) (s : Shared) (good : IsGood set states) (fits : Fits set s)
    (n : ℕ) (p : Packet) (c : Completion) (low : n < s.issued) (there : packet_of s n ≡ Some p)
    (is : completion_of (current_location p) ≡ Some c) where
  back_leads : CompletionLeads set (Some c)
  back_leads =
      subst (CompletionLeads set) is
      (completion_leads set p (current_location p) refl (packet_leads set s fits n p there))

  back_sort : is_completion (sort_of_completion set c) ≡ true
  back_sort =
      let d : Device = back_leads.0 in
      let driver : routine_of_device (slice_get set.devices c.device) ≡ d.driver =
      ap routine_of_device back_leads.1 in
      ap (λ (x : ℕ). is_completion (sort_of set x c.routine)) driver
      ∙ ap is_completion (sort_there set d.driver c.routine back_leads.2.0 back_leads.2.1)
      ∙ back_leads.2.2

  pub begins_back : is_hold (sort_of_completion set c) ≡ false
      → Begins set states s.issued (completes_with set c n) Propagate n
  begins_back free =
      begins_completion set states good s.issued n low c Propagate back_leads
      (completion_only (sort_of_completion set c) back_sort free)

  pub begins_lent : sort_of_completion set c ≡ Hold
      → Begins set states s.issued (completes_with set c n) Hold n
  begins_lent lends =
      begins_completion set states good s.issued n low c Hold back_leads lends

-- a cancel routine that begins is entered for the queue that a cancel word names
pub cancelled_name : (set : Set) (driver number : ℕ) (name : QueueName) (o : Option QueueName)
    → cancel_routine_named set driver name ≡ Some number → cancels_for set driver number ≡ o
    → is_some o ≡ true → o ≡ Some name
cancelled_name set driver number list None named is there = cc
cancelled_name set driver number list (Some name) named is there =
    ap Some (named_only set driver number list name named is)

-- a device of a driver whose devices all have lower ones has one
pub any_false : {A : Type 0} (f : A → Bool) (xs : List A) (i : ℕ) (x : A) → list_any f xs ≡ false
    → slice_get xs i ≡ Some x → f x ≡ false
any_false f [] i x none there = cc
any_false {A = A} f (y ∷ xs) zero x none there =
    let same : y ≡ x = cc in
    subst (λ (z : A). f z ≡ false) same (or_left (f y) _ none)
any_false f (y ∷ xs) (suc i) x none there = any_false f xs i x (or_right (f y) _ none) there

-- the device under a device: it is there, and an earlier one
abbrev pub LowerThere : Set → ℕ → Type 0
LowerThere set device =
    (lower : ℕ) × (lower_of set device ≡ Some lower) × (d : Device)
    × (slice_get set.devices lower ≡ Some d)

lower_in : (set : Set) (device : ℕ) (o : Option ℕ) → device < length set.devices
    → lower_of set device ≡ o
    → is_none o ≡ false → IfSome o (λ lower. lower < device) → LowerThere set device
lower_in set device None within is some fits = cc
lower_in set device (Some lower) within is some fits =
    let l : lower < device = fits in
    let d : Device = slice_index_or set.devices lower
    (record { driver = 0; stack = 0; lower = None }) in (
      lower,
      is,
      d,
      slice_get-get_or set.devices lower (record { driver = 0; stack = 0; lower = None })
          (omega arith),
    )

pub lower_there : (set : Set) (device driver : ℕ) → IsSound set → Serves set device driver
    → lacks_lower set driver ≡ false → LowerThere set device
lower_there set device driver sound served none =
    let d : Device = served.0 in
    let fits : DeviceFits (length set.drivers) device d = device_fits set device d sound served.1 in
    let own : (nat_eq d.driver driver && is_none d.lower) ≡ false =
    any_false (λ e. nat_eq e.driver driver && is_none e.lower) set.devices device d none served.1 in
    let some : is_none d.lower ≡ false =
    not_and (nat_eq d.driver driver) (is_none d.lower) (eq-eqb d.driver driver served.2) own in
    let is : lower_of set device ≡ d.lower =
    ap (λ (o : Option Device). option_and_then (λ e. e.lower) o) served.1 in
    lower_in set device d.lower (slice_get_within set.devices device d served.1) is some fits.lower
