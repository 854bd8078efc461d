-- A state for every position of every routine of an accepted set, the default routine included.
use Rattle.laws_runs.proofs.Prelude.{arith, inl, inr, refl, subst, zero, eqb_tells, slice_get_within, All, IfSome, List, None, Option, Some, [], false, length, option_and_then, slice_get, slice_index_or, suc, true, ℕ, ⊤, ◌<◌, ◌∷◌, ◌≡◌, ◌≤◌, entered_with, is_completion, open_at, Member, Set, default_code, default_number, default_routine, member, routine_of, DriverFits, HasSort, IsSound, OperandFits, QueueFits, queue_named, IsTypable, IsTypableRoutine, Abs, NoDuty, Open, Instr, MAX_QUEUES, MAX_ROUTINES, Driver, Sort, Hold, Propagate}
use Rattle.model.specs.declared.abs.Kind.TheVariants.{Blank}
use Rattle.model.specs.declared.set.Routine.{Routine}
use Rattle.model.specs.Sound.{RoutineFits, IsCompletion, CallsFit, completion_named, QueuesFit}
use Rattle.model.specs.Typable.{IsTypableDriver}
use Rattle.laws_runs.proofs.Lists.{all_at}
use Rattle.laws_runs.proofs.States.Follows.{Follows, Typed, LoopsBefore, typed, default_typed}
use Rattle.laws_runs.proofs.States.Remaining.{Chain, chain}
use Rattle.laws_runs.specs.ArrivingStates.{States}

-- the innermost loop at a position is one of the routine's
innermost_within : (code : List Instr) (p q : ℕ) (loops : List ℕ) → Chain code p loops
    → slice_get loops 0 ≡ Some q
    → q < length code
innermost_within code p q [] h there = cc
innermost_within code p q (r ∷ loops) h there =
    let same : r ≡ q = cc in subst (λ (x : ℕ). x < length code) same h.0.within

loops_before : (m : Member) → LoopsBefore m
loops_before m p q le there =
    innermost_within m.routine.code p q (open_at m.routine.code p) (chain m.routine.code p le) there

-- a completion routine of a driver
abbrev pub Continues : Set → ℕ → ℕ → Type 0
Continues set driver number =
    (routine : Routine) × (routine_of set driver number ≡ Some routine)
    × (is_completion routine.sort ≡ true)

-- the routine of a call is one
abbrev pub SetBy : Set → ℕ → Option ℕ → Type 0
SetBy set driver None = ⊤
SetBy set driver (Some f) = Continues set driver f

abbrev pub CallLeads : Set → ℕ → Instr → Type 0
CallLeads set driver i = SetBy set driver (completion_named i)

abbrev pub RoutineOperandsFit : Routine → Type 0
RoutineOperandsFit routine = All OperandFits routine.code

-- what is known of a routine of an accepted set
pub record IsKnown (m : Member) (state : ℕ → Abs) : Type 0 where
  pub follows : Follows m state
  pub operands : RoutineOperandsFit m.routine
  pub calls : All (CallLeads m.set m.driver) m.routine.code
  pub queues : QueuesFit MAX_QUEUES m.routine

abbrev Knows : Member → Type 0
Knows m = (state : ℕ → Abs) × IsKnown m state

completion_sort : (sort : Sort) → IsCompletion sort → is_completion sort ≡ true
completion_sort Propagate h = refl
completion_sort Hold h = refl
completion_sort _ h = absurd h

-- a routine in the list of a driver is the one of its number
module _ (set : Set) (driver : ℕ) (d : Driver) (there : slice_get set.drivers driver ≡ Some d)
    (few : length d.routines ≤ MAX_ROUTINES) where
  pub routine_found : (number : ℕ) (routine : Routine) → slice_get d.routines number ≡ Some routine
      → routine_of set driver number ≡ Some routine
  routine_found number routine found =
      let within : number < length d.routines = slice_get_within d.routines number routine found in
      elim (eqb_tells number default_number) [
        | inl e ↦ let same : number ≡ default_number = e.1 in absurd (omega arith)
        | inr e ↦ rw (e.0, there) found
      ]

  continues : (number : ℕ) (o : Option Routine) → slice_get d.routines number ≡ o
      → HasSort IsCompletion o
      → Continues set driver number
  continues number None found h = absurd h
  continues number (Some routine) found h = (
    routine,
    routine_found number routine found,
    completion_sort routine.sort h,
  )

  set_by : (f : Option ℕ) → IfSome f (λ number. HasSort IsCompletion (slice_get d.routines number))
      → SetBy set driver f
  set_by None h = tt
  set_by (Some f) h = continues f (slice_get d.routines f) refl h

  calls_lead : (routine : Routine) → CallsFit d.routines routine
      → All (CallLeads set driver) routine.code
  calls_lead routine h =
      λ p i within. set_by (completion_named (slice_index_or routine.code p i)) (h p i within)

-- the default routine
default_operands : (p : ℕ) (d : Instr) → p < 2 → OperandFits (slice_index_or default_code p d)
default_operands zero d h = omega arith
default_operands (suc zero) d h = tt
default_operands (suc (suc p)) d h = absurd (omega arith)

default_calls : (set : Set) (driver p : ℕ) (d : Instr) → p < 2
    → CallLeads set driver (slice_index_or default_code p d)
default_calls set driver zero d h = tt
default_calls set driver (suc zero) d h = tt
default_calls set driver (suc (suc p)) d h = absurd (omega arith)

default_queues : (p : ℕ) (d : Instr) → p < 2 → QueueFits MAX_QUEUES
    (slice_index_or default_code p d)
default_queues zero d h = tt
default_queues (suc zero) d h = tt
default_queues (suc (suc p)) d h = absurd (omega arith)

-- a driver has few queues, so those that its instructions name are among the first
few_queues : (queues : ℕ) (named : Option ℕ) → queues ≤ MAX_QUEUES → IfSome named (λ q. q < queues)
    → IfSome named (λ q. q < MAX_QUEUES)
few_queues queues None few h = tt
few_queues queues (Some q) few h = let below : q < queues = h in omega arith

queues_fit : (queues : ℕ) (routine : Routine) → queues ≤ MAX_QUEUES → QueuesFit queues routine
    → QueuesFit MAX_QUEUES routine
queues_fit queues routine few h =
    λ p i within. few_queues queues (queue_named (slice_index_or routine.code p i)) few
    (h p i within)

knows_default : (set : Set) (driver : ℕ) → Knows (member set driver default_number default_routine)
knows_default set driver = (
  (default_typed set driver).0,
  record {
    follows = (default_typed set driver).1;
    operands = default_operands;
    calls = default_calls set driver;
    queues = default_queues;
  },
)

knows : (m : Member) → IsTypableRoutine m → RoutineOperandsFit m.routine
    → All (CallLeads m.set m.driver) m.routine.code → QueuesFit MAX_QUEUES m.routine
    → Knows m
knows m typable operands calls queues =
    let all : Typed m = typed m typable (loops_before m) in
    (all.0, record { follows = all.1; operands = operands; calls = calls; queues = queues })

-- every routine of an accepted set
module _ (set : Set) (typable : IsTypable set) (sound : IsSound set)
    (driver number : ℕ) where
  knows_of : (o : Option Driver) → slice_get set.drivers driver ≡ o → (routine : Routine)
      → option_and_then (λ d. slice_get d.routines number) o ≡ Some routine
      → Knows (member set driver number routine)
  knows_of None there routine h = cc
  knows_of (Some d) there routine h =
      let fits : DriverFits d = all_at DriverFits set.drivers driver d sound.drivers there in
      let within : number < length d.routines = slice_get_within d.routines number routine h in
      let right : IsTypableDriver set driver d =
      typable.drivers driver d (slice_get_within set.drivers driver d there) there in
      knows (member set driver number routine) (right number routine within h)
      (all_at RoutineFits d.routines number routine fits.routines h).operands
      (calls_lead set driver d there fits.few routine
      (all_at (CallsFit d.routines) d.routines number routine fits.calls h))
      (queues_fit (length d.queues) routine fits.few_queues
      (all_at (QueuesFit (length d.queues)) d.routines number routine fits.queues h))

  knows_routine : (routine : Routine) → routine_of set driver number ≡ Some routine
      → Knows (member set driver number routine)
  knows_routine routine there =
      elim (eqb_tells number default_number) [
        | inl e ↦
            let same : Some default_routine ≡ Some routine = rw e.0 at there in
            let one : default_routine ≡ routine = cc in
            rw (e.1, ← one) (knows_default set driver)
        | inr e ↦ knows_of (slice_get set.drivers driver) refl routine (rw e.0 at there)
      ]

pub record IsLed (set : Set) (states : States) : Type 0 where
  pub known : (driver number : ℕ) (routine : Routine) → routine_of set driver number ≡ Some routine
      → IsKnown (member set driver number routine) (states driver number)

abbrev states_in : (set : Set) (driver number : ℕ) (o : Option Routine)
    → ((routine : Routine) → o ≡ Some routine → Knows (member set driver number routine)) → ℕ → Abs
states_in set driver number None h = λ p. entered_with Blank NoDuty Open false
states_in set driver number (Some routine) h = (h routine refl).0

known_in : (set : Set) (driver number : ℕ) (o : Option Routine)
    (h : (routine : Routine) → o ≡ Some routine → Knows (member set driver number routine))
    (routine : Routine)
    → o ≡ Some routine → IsKnown (member set driver number routine)
    (states_in set driver number o h)
known_in set driver number None h routine there = cc
known_in set driver number (Some other) h routine there =
    let same : other ≡ routine = cc in
    subst (λ (r : Routine). IsKnown (member set driver number r) (h other refl).0) same
    (h other refl).1

pub led : (set : Set) → IsTypable set → IsSound set → (states : States) × IsLed set states
led set typable sound = (
  λ driver number. states_in set driver number (routine_of set driver number)
      (knows_routine set typable sound driver number),
  record {
    known = λ driver number routine there. known_in set driver number (routine_of set driver number)
        (knows_routine set typable sound driver number) routine there;
  },
)
