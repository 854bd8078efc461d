-- When a driver set is accepted, over all paths, and where and why it is refused else, by the rules
-- of an edition; where none is named, those of the second are meant, which are today's.
use Rattle.std.specs.Prelude.{ℕ, suc, ⊤, ◌≡◌, ◌≢◌, ◌<◌, ◌≤◌, ◌⊎◌, true, false, length, Option, None, Some, slice_get}
use Rattle.model.specs.declared.abs.Abs.{Abs}
use Rattle.model.specs.declared.abs.Refusal.{Refusal}
use Rattle.model.specs.declared.abs.Rule.{Rule}
use Rattle.model.specs.declared.abs.Rule.TheVariants.{Malformed, Unreachable, StatesDiffer, Sort as SortRule, TooLong}
use Rattle.model.specs.declared.instr.Instr.{Instr}
use Rattle.model.specs.declared.limits.TheConstants.{MAX_CERTIFICATE}
use Rattle.model.specs.declared.set.Driver.{Driver}
use Rattle.model.specs.declared.set.Routine.{Routine}
use Rattle.model.specs.Certificate.{certificate_to}
use Rattle.model.specs.Edition.{Edition, Second}
use Rattle.model.specs.LocalRule.{entry_under, refuses_under}
use Rattle.model.specs.Loops.{open_at}
use Rattle.model.specs.Paths.{ArrivesUnder, is_malformed_under}
use Rattle.model.specs.Set.{Set, Member, Flow, Onward, Branches, Jumps, Opens, Closes, Leaves, member, flow_of}

-- what an instruction of a routine breaks in a state
abbrev pub fault_under : Edition → Member → Abs → Option Instr → Option Rule
fault_under e m s None = None
fault_under e m s (Some i) = refuses_under e s i m.routine.sort m.set m.driver

-- exactly one state arrives at a position
pub record ArrivesAloneUnder (e : Edition) (m : Member) (p : ℕ) (s : Abs) : Type 0 where
  pub arrives : ArrivesUnder e m p s
  pub alone : (other : Abs) → ArrivesUnder e m p other → other ≡ s

-- the loop that an `end` at a position closes is reached in this state alone
abbrev pub ReachesLoopUnder : Edition → Member → Option ℕ → Abs → Type 0
ReachesLoopUnder e m None s = ⊥
ReachesLoopUnder e m (Some q) s = ArrivesAloneUnder e m q s

abbrev pub StartsUnder : Edition → Member → ℕ → Abs → Type 0
StartsUnder e m p s = ReachesLoopUnder e m (slice_get (open_at m.routine.code p) 0) s

-- if there is an `end`, it is reached in the state in which its `loop` is
abbrev pub ClosesAlikeByUnder : Edition → Member → ℕ → Abs → Flow → Type 0
ClosesAlikeByUnder e m p s Onward = ⊤
ClosesAlikeByUnder e m p s (Branches label) = ⊤
ClosesAlikeByUnder e m p s (Jumps label) = ⊤
ClosesAlikeByUnder e m p s (Opens turns) = ⊤
ClosesAlikeByUnder e m p s Closes = StartsUnder e m p s
ClosesAlikeByUnder e m p s Leaves = ⊤

abbrev pub ClosesAlikeUnder : Edition → Member → ℕ → Abs → Option Instr → Type 0
ClosesAlikeUnder e m p s None = ⊤
ClosesAlikeUnder e m p s (Some i) = ClosesAlikeByUnder e m p s (flow_of i)

-- there is an `end`, and its `loop` is reached in another state
abbrev pub ClosesUnlikeByUnder : Edition → Member → ℕ → Abs → Flow → Type 0
ClosesUnlikeByUnder e m p s Onward = ⊥
ClosesUnlikeByUnder e m p s (Branches label) = ⊥
ClosesUnlikeByUnder e m p s (Jumps label) = ⊥
ClosesUnlikeByUnder e m p s (Opens turns) = ⊥
ClosesUnlikeByUnder e m p s Closes = (start : Abs) × StartsUnder e m p start × (start ≢ s)
ClosesUnlikeByUnder e m p s Leaves = ⊥

abbrev pub ClosesUnlikeUnder : Edition → Member → ℕ → Abs → Option Instr → Type 0
ClosesUnlikeUnder e m p s None = ⊥
ClosesUnlikeUnder e m p s (Some i) = ClosesUnlikeByUnder e m p s (flow_of i)

-- there is no fault at a position
pub record IsFineUnder (e : Edition) (m : Member) (p : ℕ) : Type 0 where
  pub formed : is_malformed_under e m.routine.code p ≡ false
  pub state : Abs
  pub arrival : ArrivesAloneUnder e m p state
  pub closes : ClosesAlikeUnder e m p state (slice_get m.routine.code p)
  pub keeps : fault_under e m state (slice_get m.routine.code p) ≡ None
  pub short : certificate_to m.routine.code (suc p) ≤ MAX_CERTIFICATE

-- a routine is typable if it has an instruction and there is no fault at any position
pub record IsTypableRoutineUnder (e : Edition) (m : Member) : Type 0 where
  pub some : length m.routine.code ≢ 0
  pub each : (p : ℕ) → p < length m.routine.code → IsFineUnder e m p

-- the routines of a driver before a number are typable, and all of them
abbrev pub AreTypableRoutinesUnder : Edition → Set → ℕ → Driver → ℕ → Type 0
AreTypableRoutinesUnder e set number driver count =
    (r : ℕ) (routine : Routine) → r < count → slice_get driver.routines r ≡ Some routine
    → IsTypableRoutineUnder e (member set number r routine)

abbrev pub IsTypableDriverUnder : Edition → Set → ℕ → Driver → Type 0
IsTypableDriverUnder e set number driver =
    AreTypableRoutinesUnder e set number driver (length driver.routines)

-- the drivers before a number are typable
abbrev pub AreTypableUnder : Edition → Set → ℕ → Type 0
AreTypableUnder e set count =
    (number : ℕ) (driver : Driver) → number < count → slice_get set.drivers number ≡ Some driver
    → IsTypableDriverUnder e set number driver

-- a set is typable if it has a device and all its routines are typable
pub record IsTypableUnder (e : Edition) (set : Set) : Type 0 where
  pub devices : length set.devices ≢ 0
  pub drivers : AreTypableUnder e set (length set.drivers)

-- a routine can't be entered
pub record HasNoEntryUnder (e : Edition) (m : Member) (p : ℕ) : Type 0 where
  pub start : p ≡ 0
  pub formed : is_malformed_under e m.routine.code p ≡ false
  pub none : entry_under e m ≡ None

-- no path leads to a position of a routine that can be entered
pub record IsUnreachableUnder (e : Edition) (m : Member) (p : ℕ) : Type 0 where
  pub within : p < length m.routine.code
  pub formed : is_malformed_under e m.routine.code p ≡ false
  pub entry : Abs
  pub entered : entry_under e m ≡ Some entry
  pub never : (s : Abs) → ArrivesUnder e m p s → ⊥

-- states that differ arrive at a position
pub record HasSeveralUnder (e : Edition) (m : Member) (p : ℕ) : Type 0 where
  pub within : p < length m.routine.code
  pub formed : is_malformed_under e m.routine.code p ≡ false
  pub one : Abs
  pub other : Abs
  pub one_arrives : ArrivesUnder e m p one
  pub other_arrives : ArrivesUnder e m p other
  pub differ : one ≢ other

-- one state arrives at a loop's end, and another one at its start
pub record EndsUnlikeUnder (e : Edition) (m : Member) (p : ℕ) : Type 0 where
  pub within : p < length m.routine.code
  pub formed : is_malformed_under e m.routine.code p ≡ false
  pub state : Abs
  pub arrival : ArrivesAloneUnder e m p state
  pub closes : ClosesUnlikeUnder e m p state (slice_get m.routine.code p)

-- one state arrives at a position, and the instruction there breaks a rule in it
pub record IsBrokenUnder (e : Edition) (m : Member) (p : ℕ) (rule : Rule) : Type 0 where
  pub within : p < length m.routine.code
  pub formed : is_malformed_under e m.routine.code p ≡ false
  pub state : Abs
  pub arrival : ArrivesAloneUnder e m p state
  pub closes : ClosesAlikeUnder e m p state (slice_get m.routine.code p)
  pub breaks : fault_under e m state (slice_get m.routine.code p) ≡ Some rule

-- one state arrives at a position, no rule is broken there, and the sum of the certificate passes
-- the limit
pub record IsTooLongUnder (e : Edition) (m : Member) (p : ℕ) : Type 0 where
  pub within : p < length m.routine.code
  pub formed : is_malformed_under e m.routine.code p ≡ false
  pub state : Abs
  pub arrival : ArrivesAloneUnder e m p state
  pub closes : ClosesAlikeUnder e m p state (slice_get m.routine.code p)
  pub keeps : fault_under e m state (slice_get m.routine.code p) ≡ None
  pub long : MAX_CERTIFICATE < certificate_to m.routine.code (suc p)

-- the least rule that is broken at a position
abbrev pub IsFaultUnder : Edition → Member → ℕ → Rule → Type 0
IsFaultUnder e m p rule =
    ((is_malformed_under e m.routine.code p ≡ true) × (rule ≡ Malformed))
    ⊎ ((IsUnreachableUnder e m p × (rule ≡ Unreachable))
    ⊎ (((HasSeveralUnder e m p ⊎ EndsUnlikeUnder e m p) × (rule ≡ StatesDiffer))
    ⊎ (IsBrokenUnder e m p rule
    ⊎ ((HasNoEntryUnder e m p × (rule ≡ SortRule)) ⊎ (IsTooLongUnder e m p × (rule ≡ TooLong))))))

-- the first fault of a routine
pub record IsFirstFaultOfUnder (e : Edition) (m : Member) (at : ℕ) (rule : Rule) : Type 0 where
  pub before : (p : ℕ) → p < at → IsFineUnder e m p
  pub fault : IsFaultUnder e m at rule

-- the first fault of a set that has a device: of the least driver, of its least routine
pub record IsFirstFaultWithinUnder (e : Edition) (set : Set) (refusal : Refusal) : Type 0 where
  pub devices : length set.devices ≢ 0
  pub driver : Driver
  pub driver_at : slice_get set.drivers refusal.driver ≡ Some driver
  pub drivers_before : AreTypableUnder e set refusal.driver
  pub routine : Routine
  pub routine_at : slice_get driver.routines refusal.routine ≡ Some routine
  pub routines_before : AreTypableRoutinesUnder e set refusal.driver driver refusal.routine
  pub first : IsFirstFaultOfUnder e (member set refusal.driver refusal.routine routine) refusal.at
      refusal.rule

abbrev pub at_start : Rule → Refusal
at_start rule = record { driver = 0; routine = 0; at = 0; rule = rule }

-- a set without devices is malformed before all else
abbrev pub IsFirstFaultUnder : Edition → Set → Refusal → Type 0
IsFirstFaultUnder e set refusal =
    ((length set.devices ≡ 0) × (refusal ≡ at_start Malformed))
    ⊎ IsFirstFaultWithinUnder e set refusal

-- the same by the rules of the second edition
abbrev pub fault_in : Member → Abs → Option Instr → Option Rule
fault_in m s i = fault_under Second m s i

abbrev pub ArrivesAlone : Member → ℕ → Abs → Type 0
ArrivesAlone m p s = ArrivesAloneUnder Second m p s

abbrev pub ReachesLoop : Member → Option ℕ → Abs → Type 0
ReachesLoop m q s = ReachesLoopUnder Second m q s

abbrev pub StartsIn : Member → ℕ → Abs → Type 0
StartsIn m p s = StartsUnder Second m p s

abbrev pub ClosesAlikeBy : Member → ℕ → Abs → Flow → Type 0
ClosesAlikeBy m p s flow = ClosesAlikeByUnder Second m p s flow

abbrev pub ClosesAlike : Member → ℕ → Abs → Option Instr → Type 0
ClosesAlike m p s i = ClosesAlikeUnder Second m p s i

abbrev pub ClosesUnlikeBy : Member → ℕ → Abs → Flow → Type 0
ClosesUnlikeBy m p s flow = ClosesUnlikeByUnder Second m p s flow

abbrev pub ClosesUnlike : Member → ℕ → Abs → Option Instr → Type 0
ClosesUnlike m p s i = ClosesUnlikeUnder Second m p s i

abbrev pub IsFineAt : Member → ℕ → Type 0
IsFineAt m p = IsFineUnder Second m p

abbrev pub IsTypableRoutine : Member → Type 0
IsTypableRoutine m = IsTypableRoutineUnder Second m

abbrev pub AreTypableRoutines : Set → ℕ → Driver → ℕ → Type 0
AreTypableRoutines set number driver count = AreTypableRoutinesUnder Second set number driver count

abbrev pub IsTypableDriver : Set → ℕ → Driver → Type 0
IsTypableDriver set number driver = IsTypableDriverUnder Second set number driver

abbrev pub AreTypable : Set → ℕ → Type 0
AreTypable set count = AreTypableUnder Second set count

abbrev pub IsTypable : Set → Type 0
IsTypable set = IsTypableUnder Second set

abbrev pub HasNoEntry : Member → ℕ → Type 0
HasNoEntry m p = HasNoEntryUnder Second m p

abbrev pub IsUnreachable : Member → ℕ → Type 0
IsUnreachable m p = IsUnreachableUnder Second m p

abbrev pub HasSeveral : Member → ℕ → Type 0
HasSeveral m p = HasSeveralUnder Second m p

abbrev pub EndsUnlike : Member → ℕ → Type 0
EndsUnlike m p = EndsUnlikeUnder Second m p

abbrev pub IsBroken : Member → ℕ → Rule → Type 0
IsBroken m p rule = IsBrokenUnder Second m p rule

abbrev pub IsTooLong : Member → ℕ → Type 0
IsTooLong m p = IsTooLongUnder Second m p

abbrev pub IsFaultAt : Member → ℕ → Rule → Type 0
IsFaultAt m p rule = IsFaultUnder Second m p rule

abbrev pub IsFirstFaultOf : Member → ℕ → Rule → Type 0
IsFirstFaultOf m at rule = IsFirstFaultOfUnder Second m at rule

abbrev pub IsFirstFaultWithin : Set → Refusal → Type 0
IsFirstFaultWithin set refusal = IsFirstFaultWithinUnder Second set refusal

abbrev pub IsFirstFault : Set → Refusal → Type 0
IsFirstFault set refusal = IsFirstFaultUnder Second set refusal
