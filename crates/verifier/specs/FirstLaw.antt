-- What the rules of the first edition are worth for its sets: they give the verdict of those of
-- today, rule by rule, with the same first fault and the same certificates.
use Rattle.std.specs.Prelude.{ℕ, ◌≡◌, ◌↔◌, List, Result, Ok, Err, false, true, Some, slice_get}
use Rattle.model.specs.declared.abs.Abs.{Abs}
use Rattle.model.specs.declared.abs.Refusal.{Refusal}
use Rattle.model.specs.declared.abs.Rule.{Rule}
use Rattle.model.specs.declared.instr.Instr.{Instr}
use Rattle.model.specs.declared.instr.Instr.TheVariants.{Dequeue, Next, ReleaseCancel, Start}
use Rattle.model.specs.declared.set.Driver.{Driver}
use Rattle.model.specs.declared.set.QueueName.TheVariants.{DeviceQueue}
use Rattle.model.specs.declared.set.Routine.{Routine}
use Rattle.model.specs.declared.set.Sort.{Sort}
use Rattle.model.specs.Edition.{Edition, First, Second, edition_of}
use Rattle.model.specs.LocalRule.{entry_state, entry_under, has_startio, local_rule, local_rule_under}
use Rattle.model.specs.Paths.{Arrives, ArrivesUnder, is_malformed, is_malformed_under}
use Rattle.model.specs.Set.{Set, Member, member, has_cancel}
use Rattle.model.specs.Typable.{IsFirstFaultOf, IsFirstFaultOfUnder, IsFirstFaultUnder, IsTypableRoutine, IsTypableRoutineUnder, IsTypableUnder}
use Rattle.verifier.specs.Certificates.{AreCertificates}
use Rattle.verifier.specs.FirstEdition.{NoneWaits, IsOfFirst}

-- the rows that it has for itself: whatever drivers name, `relc` and `next` ask the same, `start`
-- does where there is a StartIo routine in both or in neither, and `dequeue` is no part of a
-- routine
abbrev pub FirstHasItsRows : Type 0
FirstHasItsRows =
    (s : Abs) (sort : Sort) (set other : Set) (driver : ℕ) (r : ℕ) (code : List Instr) (p : ℕ)
    → (local_rule_under First s ReleaseCancel sort set driver
    ≡ local_rule_under First s ReleaseCancel sort other driver)
    × ((local_rule_under First s Next sort set driver
    ≡ local_rule_under First s Next sort other driver)
    × ((has_startio set driver ≡ has_startio other driver
    → local_rule_under First s (Start r) sort set driver
    ≡ local_rule_under First s (Start r) sort other driver)
    × (slice_get code p ≡ Some (Dequeue r) → is_malformed_under First code p ≡ true)))

-- they say the same of each instruction where the driver has no cancel routine for its device queue
-- and no register holds a packet of it
abbrev pub RulesAgree : Type 0
RulesAgree =
    (s : Abs) (i : Instr) (sort : Sort) (set : Set) (driver : ℕ) → NoneWaits s
    → has_cancel set driver DeviceQueue ≡ false
    → local_rule s i sort set driver ≡ local_rule_under First s i sort set driver

-- the routines of a set of the first edition are such
abbrev pub RoutinesAreOfFirst : Type 0
RoutinesAreOfFirst =
    (set : Set) (number : ℕ) (driver : Driver) (r : ℕ) (routine : Routine)
    → edition_of set ≡ 1 → slice_get set.drivers number ≡ Some driver
    → slice_get driver.routines r ≡ Some routine → IsOfFirst (member set number r routine)

-- the same is malformed in them by both rules, they are entered in one state, no state arrives in
-- which a register holds a packet of the device queue, and the same states arrive
abbrev pub FormsAgree : Type 0
FormsAgree =
    (m : Member) (p : ℕ) → IsOfFirst m
    → is_malformed m.routine.code p ≡ is_malformed_under First m.routine.code p

abbrev pub EntriesAgree : Type 0
EntriesAgree = (m : Member) → IsOfFirst m → entry_state m ≡ entry_under First m

abbrev pub NoneWaitingArrives : Type 0
NoneWaitingArrives = (m : Member) (p : ℕ) (s : Abs) → IsOfFirst m → Arrives m p s → NoneWaits s

abbrev pub ArrivalsAgree : Type 0
ArrivalsAgree =
    (m : Member) (p : ℕ) (s : Abs) → IsOfFirst m → Arrives m p s ↔ ArrivesUnder First m p s

-- so a routine is typable by both rules or by neither, with one first fault
abbrev pub RoutinesAgree : Type 0
RoutinesAgree =
    (m : Member) → IsOfFirst m → IsTypableRoutine m ↔ IsTypableRoutineUnder First m

abbrev pub RoutineFaultsAgree : Type 0
RoutineFaultsAgree =
    (m : Member) (at : ℕ) (rule : Rule) → IsOfFirst m
    → IsFirstFaultOf m at rule ↔ IsFirstFaultOfUnder First m at rule

-- the verdict on a set by the rules of an edition: it is typable, with these certificates, or this
-- is its first fault. Certificates rest on the code alone
abbrev pub IsVerdictUnder : Edition → Set → Result (List (List ℕ)) Refusal → Type 0
IsVerdictUnder e set (Ok certificates) = IsTypableUnder e set × AreCertificates set certificates
IsVerdictUnder e set (Err refusal) = IsFirstFaultUnder e set refusal

-- a set of the first edition has one verdict by both
abbrev pub VerdictsAgree : Type 0
VerdictsAgree =
    (set : Set) (verdict : Result (List (List ℕ)) Refusal) → edition_of set ≡ 1
    → IsVerdictUnder Second set verdict ↔ IsVerdictUnder First set verdict
