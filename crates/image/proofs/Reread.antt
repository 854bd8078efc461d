-- What is spelled is read again, whatever stands behind it.
use Rattle.std.proofs.Common.{◌≡◌, ℕ, suc, ◌+◌, ◌<◌, ◌≤◌, ◌^◌, List, [], ◌∷◌, ◌++◌, length, All, Option, Some, None, Ok, inl, inr, refl, sym, ap, ◌∙◌, append_assoc, arith}
use Rattle.std.specs.Prelude.{⊤, IfSome, is_some, slice_get}
use Rattle.std.specs.Int.{w16, to_le_bytes}
use Rattle.std.specs.List.{flat_map, list_any, AllByRecursion}
use Rattle.std.proofs.lemmas.Bool.{le-ltb}
use Rattle.std.proofs.lemmas.List.{append-nil, drop_at, length-append, take_at}
use Rattle.std.proofs.lemmas.List.Concat.{flat_map-cons}
use Rattle.std.proofs.lemmas.List.Elements.{recursion_from_All}
use Rattle.std.proofs.lemmas.Nat.{from_le_bytes-to_le_bytes_2, from_le_bytes-to_le_bytes_4}
use Rattle.std.proofs.lemmas.Option.{slice_get_within}
use Rattle.image.specs.declared.edition.Edition.{Edition}
use Rattle.image.specs.declared.edition.Edition.TheVariants.{Former, Current}
use Rattle.image.specs.declared.reading.Scope.{Scope}
use Rattle.image.specs.declared.word.Word.{Word}
use Rattle.image.specs.Reading.{all_at, count_at, scoped, device_at, driver_at, field_at, instruction_at, letters_at, queue_at, routine_at, set_at, set_in, waiting_in, word_at, Read}
use Rattle.image.specs.Spelling.{device_bytes, driver_bytes, edition_digit, instruction_bytes, or_none, queue_bytes, routine_bytes, sort_number, spelling, waiting_byte, word_bytes, word_of, HasSpelling, Spells}
use Rattle.image.proofs.Again.{InRange, instruction_again, last_fits}
use Rattle.image.proofs.Editions.{Has, has_both, has_each, has_set}
use Rattle.image.proofs.Numbers.{at_most_again, below_again, edition_again, none_or_below_again, sort_again, stack_again}
use Rattle.model.specs.declared.instr.Instr.{Instr}
use Rattle.model.specs.declared.limits.TheConstants.{MAX_DEVICES, MAX_DRIVERS, MAX_INSTRUCTIONS, MAX_QUEUES, MAX_ROUTINES, SPIN_LOCKS}
use Rattle.model.specs.declared.set.Device.{Device}
use Rattle.model.specs.declared.set.Driver.{Driver}
use Rattle.model.specs.declared.set.Queue.{Queue}
use Rattle.model.specs.declared.set.Routine.{Routine}
use Rattle.model.specs.declared.set.Sort.{Sort}
use Rattle.model.specs.Edition.{dequeues, is_dequeue, is_of_second}
use Rattle.model.specs.Set.{Set}
use Rattle.model.specs.Sound.{CallFits, CallsFit, CancelFits, DeviceFits, DevicesFit, DriverFits, GuardFits, HasSort, IsCancel, IsCompletion, IsDispatch, IsDpc, IsSound, IsStartIo, LabelFits, OperandFits, QueueFits, QueuesFit, RoutineFits, WaitingFits, completion_named}

field_again : (size : ℕ) (front rest : List ℕ) → length front ≡ size
    → field_at size (front ++ rest) ≡ Ok (front, rest)
field_again size front rest long =
    rw (
      le-ltb (length (front ++ rest)) size (omega (arith, length-append front rest)),
      take_at front rest size long,
      drop_at front rest size long,
    ) refl

count_again : (n : ℕ) (rest : List ℕ) → n ≤ MAX_INSTRUCTIONS
    → count_at (to_le_bytes w16 n ++ rest) ≡ Ok (n, rest)
count_again n rest few =
    rw (field_again 2 (to_le_bytes w16 n) rest refl)
    (rw (
      from_le_bytes-to_le_bytes_2 n (omega (arith, few)),
      at_most_again
          MAX_INSTRUCTIONS n few,
    ) refl)

word_again : (w : Word) (rest : List ℕ) → w.last < 2 ^ 32
    → word_at (word_bytes w ++ rest) ≡ Ok (w, rest)
word_again w rest lt =
    rw (field_again 8 (word_bytes w) rest refl) (rw (from_le_bytes-to_le_bytes_4 w.last lt) refl)

-- everything of a list fits, each thing by its number
abbrev From : {A : Type 0} → (ℕ → A → Type 0) → ℕ → List A → Type 0
From P number [] = ⊤
From P number (x ∷ xs) = P number x × From P (suc number) xs

from_recursion : {A : Type 0} (P : A → Type 0) (number : ℕ) (xs : List A) → AllByRecursion P xs
    → From (λ _. P) number xs
from_recursion P number [] h = tt
from_recursion P number (x ∷ xs) h = (h.0, from_recursion P (suc number) xs h.1)

from_all : {A : Type 0} (P : A → Type 0) (number : ℕ) (xs : List A) → All P xs
    → From (λ _. P) number xs
from_all P number xs h = from_recursion P number xs (recursion_from_All P xs h)

abbrev EachAgain : {A : Type 0} → (ℕ → List ℕ → Read A) → (A → List ℕ) → (ℕ → A → Type 0) → Type 0
EachAgain {A} item by P = (number : ℕ) (a : A) (rest : List ℕ) → P number a
    → item number (by a ++ rest) ≡ Ok (a, rest)

all_again : {A : Type 0} (item : ℕ → List ℕ → Read A) (by : A → List ℕ) (P : ℕ → A → Type 0)
    → EachAgain item by P → (number : ℕ) (xs : List A) (rest : List ℕ) → From P number xs
    → all_at item number (length xs) (flat_map by xs ++ rest) ≡ Ok (xs, rest)
unfolding all_at
all_again item by P each number [] rest h = refl
all_again item by P each number (x ∷ xs) rest h =
    let regrouped : flat_map by (x ∷ xs) ++ rest ≡ by x ++ (flat_map by xs ++ rest) =
    ap (λ t. t ++ rest) (flat_map-cons by x xs) ∙ append_assoc (by x) (flat_map by xs) rest in
    ap (all_at item number (suc (length xs))) regrouped
    ∙ rw (
      each number x (flat_map by xs ++ rest) h.0,
      all_again item by P each (suc number) xs rest h.1,
    ) refl

-- ---- what a sound set says of each thing

present : (P : Sort → Type 0) (routines : List Routine) (n : ℕ) (found : Option Routine)
    → slice_get routines n ≡ found → HasSort P found → n < length routines
present P routines n None is h = absurd h
present P routines n (Some routine) is h = slice_get_within routines n routine is

named_below : (P : Sort → Type 0) (routines : List Routine) (named : Option ℕ)
    → IfSome named (λ n. HasSort P (slice_get routines n)) → IfSome named (λ n. n < length routines)
named_below P routines None h = tt
named_below P routines (Some n) h = present P routines n (slice_get routines n) refl h

-- the cancel routine of a device queue
waiting_below : (routines : List Routine) (startio cancel : Option ℕ)
    → WaitingFits routines startio cancel → IfSome cancel (λ n. n < length routines)
waiting_below routines startio None h = tt
waiting_below routines None (Some n) h = absurd h
waiting_below routines (Some first) (Some n) h =
    present IsCancel routines n (slice_get routines n) refl h

waiting_again : (edition : Edition) (routines : ℕ) → routines ≤ 255 → (cancel : Option ℕ)
    → IfSome cancel (λ n. n < routines) → Has edition (is_some cancel)
    → waiting_in edition routines (waiting_byte edition cancel) ≡ Ok cancel
waiting_again Former routines few None h had = refl
waiting_again Former routines few (Some n) h had = absurd cc
waiting_again Current routines few cancel h had = none_or_below_again routines few cancel h

code_fits : (edition : Edition) (routines : List Routine) (queues positions : ℕ)
    (code : List Instr) → AllByRecursion (λ i. Has edition (is_dequeue i)) code
    → AllByRecursion OperandFits code → AllByRecursion (LabelFits positions) code
    → AllByRecursion (QueueFits queues) code → AllByRecursion (CallFits routines) code
    → AllByRecursion (InRange (scoped edition (length routines) queues positions)) code
code_fits edition routines queues positions [] e o l q c = tt
code_fits edition routines queues positions (i ∷ code) e o l q c = (
  record {
    operands = o.0;
    label = l.0;
    queue = q.0;
    called = named_below IsCompletion routines (completion_named i) c.0;
    had = e.0;
  },
  code_fits edition routines queues positions code e.1 o.1 l.1 q.1 c.1,
)

-- a routine that fits, and is one of the edition
record RoutineSpells (edition : Edition) (routines : List Routine) (queues : ℕ)
    (routine : Routine) : Type 0 where
  had : Has edition (dequeues routine)
  fits : RoutineFits routine
  calls : CallsFit routines routine
  entries : QueuesFit queues routine

routines_fit : (edition : Edition) (all : List Routine) (queues : ℕ) (routines : List Routine)
    → AllByRecursion (λ routine. Has edition (dequeues routine)) routines
    → AllByRecursion RoutineFits routines → AllByRecursion (CallsFit all) routines
    → AllByRecursion (QueuesFit queues) routines
    → AllByRecursion (RoutineSpells edition all queues) routines
routines_fit edition all queues [] e f c q = tt
routines_fit edition all queues (routine ∷ routines) e f c q = (
  record { had = e.0; fits = f.0; calls = c.0; entries = q.0 },
  routines_fit edition all queues routines e.1 f.1 c.1 q.1,
)

both_fit : (routines : List Routine) (queues : List Queue) → AllByRecursion GuardFits queues
    → AllByRecursion (CancelFits routines) queues
    → AllByRecursion (λ queue. GuardFits queue × CancelFits routines queue) queues
both_fit routines [] g c = tt
both_fit routines (queue ∷ queues) g c = ((g.0, c.0), both_fit routines queues g.1 c.1)

-- ---- each thing is read again

read_again : (scope : Scope) → scope.routines ≤ MAX_ROUTINES
    → scope.positions ≤ MAX_INSTRUCTIONS
    → EachAgain (λ _. instruction_at scope) instruction_bytes (λ _. InRange scope)
read_again scope few short number i rest h =
    rw (word_again (word_of i) rest (last_fits scope short i h))
    (rw (instruction_again scope (omega (arith, few)) i h) refl)

queue_again : (routines : List Routine) → length routines ≤ MAX_ROUTINES
    → EachAgain (λ _. queue_at (length routines)) queue_bytes
    (λ _ queue. GuardFits queue × CancelFits routines queue)
unfolding queue_at
queue_again routines few number queue rest h =
    rw (
      below_again SPIN_LOCKS queue.guard h.0,
      none_or_below_again (length routines) (omega (arith, few)) queue.cancel
          (named_below IsCancel routines queue.cancel h.1),
    ) refl

routine_again : (edition : Edition) (routines : List Routine) → length routines ≤ MAX_ROUTINES
    → (queues : ℕ)
    → EachAgain (λ _. routine_at edition (length routines) queues) routine_bytes
    (λ _. RoutineSpells edition routines queues)
unfolding routine_at
routine_again edition routines few queues number routine rest h =
    let scope = scoped edition (length routines) queues (length routine.code) in
    let code = code_fits edition routines queues (length routine.code) routine.code
    (has_each edition is_dequeue routine.code h.had)
    (recursion_from_All _ routine.code h.fits.operands)
    (recursion_from_All _ routine.code h.fits.labels)
    (recursion_from_All _ routine.code h.entries)
    (recursion_from_All _ routine.code h.calls) in
    let again = all_again (λ _. instruction_at scope) instruction_bytes (λ _. InRange scope)
    (read_again scope few h.fits.few) 0 routine.code rest
    (from_recursion (InRange scope) 0 routine.code code) in
    let regrouped : routine_bytes routine ++ rest
    ≡ sort_number routine.sort ∷ 0 ∷ (to_le_bytes w16 (length routine.code)
    ++ (flat_map instruction_bytes routine.code ++ rest)) =
    ap (λ t. sort_number routine.sort ∷ 0 ∷ t)
    (append_assoc (to_le_bytes w16 (length routine.code))
    (flat_map instruction_bytes routine.code) rest) in
    ap (routine_at edition (length routines) queues) regrouped
    ∙ rw (sort_again routine.sort)
    (rw (count_again (length routine.code) (flat_map instruction_bytes routine.code ++ rest)
    h.fits.few) (rw again refl))

-- a driver that fits, and is one of the edition
record DriverSpells (edition : Edition) (d : Driver) : Type 0 where
  had : Has edition (is_of_second d)
  fits : DriverFits d

drivers_fit : (edition : Edition) (drivers : List Driver)
    → AllByRecursion (λ d. Has edition (is_of_second d)) drivers
    → AllByRecursion DriverFits drivers → AllByRecursion (DriverSpells edition) drivers
drivers_fit edition [] e f = tt
drivers_fit edition (d ∷ drivers) e f =
    (record { had = e.0; fits = f.0 }, drivers_fit edition drivers e.1 f.1)

driver_again : (edition : Edition)
    → EachAgain (λ _. driver_at edition) (driver_bytes edition) (λ _. DriverSpells edition)
unfolding driver_at
driver_again edition number d rest spells =
    let h = spells.fits in
    let had = has_both edition (is_some d.startio_cancel) (list_any dequeues d.routines)
    spells.had in
    let few : length d.routines ≤ 255 = omega (arith, h.few) in
    let listed = all_again (λ _. queue_at (length d.routines)) queue_bytes
    (λ _ queue. GuardFits queue × CancelFits d.routines queue)
    (queue_again d.routines h.few) 0 d.queues (flat_map routine_bytes d.routines ++ rest)
    (from_recursion (λ queue. GuardFits queue × CancelFits d.routines queue) 0 d.queues
    (both_fit d.routines d.queues (recursion_from_All _ d.queues h.guards)
    (recursion_from_All _ d.queues h.cancels))) in
    let coded = all_again (λ _. routine_at edition (length d.routines) (length d.queues))
    routine_bytes (λ _. RoutineSpells edition d.routines (length d.queues))
    (routine_again edition d.routines h.few (length d.queues)) 0 d.routines rest
    (from_recursion (RoutineSpells edition d.routines (length d.queues)) 0 d.routines
    (routines_fit edition d.routines (length d.queues) d.routines
    (has_each edition dequeues d.routines had.1)
    (recursion_from_All _ d.routines h.routines) (recursion_from_All _ d.routines h.calls)
    (recursion_from_All _ d.routines h.queues))) in
    let regrouped : driver_bytes edition d ++ rest
    ≡ length d.routines ∷ length d.queues ∷ or_none d.read ∷ or_none d.write
    ∷ or_none d.control ∷ or_none d.startio ∷ or_none d.dpc ∷ waiting_byte edition d.startio_cancel
    ∷ (flat_map queue_bytes d.queues ++ (flat_map routine_bytes d.routines ++ rest)) =
    ap (λ t. length d.routines ∷ length d.queues ∷ or_none d.read ∷ or_none d.write
    ∷ or_none d.control ∷ or_none d.startio ∷ or_none d.dpc
    ∷ waiting_byte edition d.startio_cancel ∷ t)
    (append_assoc (flat_map queue_bytes d.queues) (flat_map routine_bytes d.routines) rest) in
    ap (driver_at edition) regrouped
    ∙ rw (
      at_most_again MAX_ROUTINES (length d.routines) h.few,
      at_most_again MAX_QUEUES (length d.queues) h.few_queues,
    )
    (rw (
      none_or_below_again (length d.routines) few d.read
          (named_below IsDispatch d.routines d.read h.read),
      none_or_below_again (length d.routines) few d.write
          (named_below IsDispatch d.routines d.write h.write),
      none_or_below_again (length d.routines) few d.control
          (named_below IsDispatch d.routines d.control h.control),
      none_or_below_again (length d.routines) few d.startio
          (named_below IsStartIo d.routines d.startio h.startio),
      none_or_below_again (length d.routines) few d.dpc
          (named_below IsDpc d.routines d.dpc h.dpc),
    )
    (rw (waiting_again edition (length d.routines) few d.startio_cancel
    (waiting_below d.routines d.startio d.startio_cancel h.waiting) had.0)
    (rw listed (rw coded refl))))

device_again : (drivers : ℕ)
    → EachAgain (device_at drivers) device_bytes
    (λ number device. DeviceFits drivers number device × (number ≤ 255))
unfolding device_at
device_again drivers number device rest h =
    rw (
      below_again drivers device.driver h.0.driver,
      stack_again device.stack h.0.low h.0.high,
      none_or_below_again number h.1 device.lower h.0.lower,
    ) refl

devices_fit : (drivers number : ℕ) (devices : List Device) → number + length devices ≤ 255
    → DevicesFit drivers number devices
    → From (λ number device. DeviceFits drivers number device × (number ≤ 255)) number devices
devices_fit drivers number [] few h = tt
devices_fit drivers number (device ∷ devices) few h =
    ((h.0, omega (arith, few)), devices_fit drivers (suc number) devices (omega (arith, few)) h.1)

-- a set that is sound is read of its spellings, whatever stands behind them
spelling_again : (edition : Edition) (set : Set) (rest : List ℕ) → HasSpelling edition set
    → IsSound set → set_at (spelling edition set ++ rest) ≡ Ok (set, rest)
unfolding set_at letters_at
spelling_again edition set rest spells h =
    let fits = drivers_fit edition set.drivers
    (has_each edition is_of_second set.drivers (has_set edition set spells))
    (recursion_from_All _ set.drivers h.drivers) in
    let first = all_again (λ _. driver_at edition) (driver_bytes edition)
    (λ _. DriverSpells edition) (driver_again edition) 0 set.drivers
    (flat_map device_bytes set.devices ++ rest)
    (from_recursion (DriverSpells edition) 0 set.drivers fits) in
    let second = all_again (device_at (length set.drivers)) device_bytes
    (λ number device. DeviceFits (length set.drivers) number device × (number ≤ 255))
    (device_again (length set.drivers)) 0 set.devices rest
    (devices_fit (length set.drivers) 0 set.devices (omega (arith, h.few_devices)) h.devices) in
    let drivers = flat_map (driver_bytes edition) set.drivers in
    let devices = flat_map device_bytes set.devices in
    let regrouped : spelling edition set ++ rest
    ≡ 0x44 ∷ 0x56 ∷ 0x42 ∷ edition_digit edition
    ∷ length set.drivers ∷ length set.devices ∷ 0 ∷ 0 ∷ (drivers ++ (devices ++ rest)) =
    ap (λ t. 0x44 ∷ 0x56 ∷ 0x42 ∷ edition_digit edition
    ∷ length set.drivers ∷ length set.devices ∷ 0 ∷ 0 ∷ t) (append_assoc drivers devices rest) in
    ap set_at regrouped
    ∙ rw (
      edition_again edition,
      at_most_again MAX_DRIVERS (length set.drivers) h.few_drivers,
      at_most_again MAX_DEVICES (length set.devices) h.few_devices,
    )
    (rw first (rw second refl))

pub set_again : (bytes : List ℕ) (set : Set) (rest : List ℕ) → IsSound set → Spells bytes set
    → set_at (bytes ++ rest) ≡ Ok (set, rest)
set_again bytes set rest h (inl spells) =
    ap (λ text. set_at (text ++ rest)) spells.1 ∙ spelling_again Former set rest spells.0 h
set_again bytes set rest h (inr spells) =
    ap (λ text. set_at (text ++ rest)) spells.1 ∙ spelling_again Current set rest spells.0 h

-- and of a spelling alone
pub read_of_spelling : (bytes : List ℕ) (set : Set) → IsSound set → Spells bytes set
    → set_in bytes ≡ Ok set
read_of_spelling bytes set h spells =
    let again : set_at bytes ≡ Ok (set, []) =
    ap set_at (sym (append-nil bytes)) ∙ set_again bytes set [] h spells in
    rw again refl
