-- Frames of accepted routines: a routine's frame stands as the state at its position says, for a
-- device of its driver, with the loops open that are open there; and what it has left to execute.
use Rattle.laws_runs.proofs.Prelude.{ap, arith, drop, refl, ◌*◌, ◌-◌, ◌∙◌, length-append, List, None, Option, Some, [], length, slice_get, ℕ, ◌++◌, ◌+◌, ◌<◌, ◌∷◌, ◌≡◌, ◌≤◌, refuses, open_at, Set, member, routine_of, sort_of, IsSound, Shared, Abs, Instr, REGISTERS, SPIN_LOCKS, Device, Activation, OpenLoop}
use Rattle.model.specs.declared.set.Routine.{Routine}
use Rattle.laws_runs.proofs.States.Fits.{Fits}
use Rattle.laws_runs.proofs.States.Kinds.{HasKinds}
use Rattle.laws_runs.proofs.States.Known.{IsKnown, IsLed}
use Rattle.laws_runs.proofs.States.Remaining.{rest, summed}
use Rattle.laws_runs.specs.ArrivingStates.{States}

-- an activation's open loops are those of these positions, the innermost of which is the last
abbrev pub Nested : List OpenLoop → List ℕ → Type 0
Nested items [] = items ≡ []
Nested items (q ∷ loops) =
    (outer : List OpenLoop) × (turns : ℕ)
    × (items ≡ outer ++ record { start = q + 1; turns = turns } ∷ [])
    × Nested outer loops

pub nested_length : (items : List OpenLoop) (loops : List ℕ) → Nested items loops
    → length items ≡ length loops
nested_length items [] h = rw h refl
nested_length items (q ∷ loops) h =
    let inner : length h.0 ≡ length loops = nested_length h.0 loops h.3 in
    let long : length (h.0 ++ record { start = q + 1; turns = h.1 } ∷ []) ≡ length h.0 + 1 =
    length-append h.0 (record { start = q + 1; turns = h.1 } ∷ []) in
    ap length h.2 ∙ long ∙ omega arith

-- the turns that are left in open loops, beside the one that runs
abbrev pub extra : List Instr → List OpenLoop → ℕ
extra code [] = 0
extra code (l ∷ items) = (l.turns - 1) * rest (drop l.start code) 0 + extra code items

pub extra_more : (code : List Instr) (items : List OpenLoop) (l : OpenLoop)
    → extra code (items ++ l ∷ []) ≡ extra code items + (l.turns - 1) * rest (drop l.start code) 0
extra_more code [] l = omega arith
extra_more code (m ∷ items) l =
    omega (arith, extra_more code items l)

-- how much an activation has left to execute, at most
abbrev pub due_in : List Instr → Activation → ℕ
due_in code a = summed (open_at code a.position) (rest (drop a.position code))
    + extra code a.loops.items

abbrev pub due_of : Option Routine → Activation → ℕ
due_of None a = 0
due_of (Some routine) a = due_in routine.code a

abbrev pub due : Set → Activation → ℕ
due set a = due_of (routine_of set a.driver a.routine) a

pub due_is : (set : Set) (routine : Routine) (a : Activation)
    → routine_of set a.driver a.routine ≡ Some routine
    → due set a ≡ due_in routine.code a
due_is set routine a there = ap (λ (o : Option Routine). due_of o a) there

-- the state at an activation's position
abbrev pub state_of : States → Activation → Abs
state_of states a = states a.driver a.routine a.position

-- a device is there, and of a driver
abbrev pub Serves : Set → ℕ → ℕ → Type 0
Serves set device driver =
    (d : Device) × (slice_get set.devices device ≡ Some d) × (d.driver ≡ driver)

-- an activation of a routine stands as the state at its position says
pub record Stays (set : Set) (states : States) (issued : ℕ) (routine : Routine) (a : Activation)
    : Type 0 where
  pub is_of : routine_of set a.driver a.routine ≡ Some routine
  pub serves : Serves set a.device a.driver
  pub within : a.position < length routine.code
  pub nested : Nested a.loops.items (open_at routine.code a.position)
  pub kinds : HasKinds issued (state_of states a).kinds a.registers
  pub eight : length (state_of states a).locks ≡ SPIN_LOCKS
  pub sixteen : length (state_of states a).kinds ≡ REGISTERS

abbrev pub Ready : Set → States → ℕ → Activation → Type 0
Ready set states issued a = (routine : Routine) × Stays set states issued routine a

-- it goes on, of the same routine for the same device, with less to execute, to a state
pub record Moved (set : Set) (states : States) (issued : ℕ) (a b : Activation) (to : Abs) : Type 0
  where
    pub ready : Ready set states issued b
    pub driver : b.driver ≡ a.driver
    pub routine : b.routine ≡ a.routine
    pub device : b.device ≡ a.device
    pub arrives : state_of states b ≡ to
    pub less : 1 + due set b ≤ due set a

-- an accepted set, with its states
pub record IsGood (set : Set) (states : States) : Type 0 where
  pub sound : IsSound set
  pub led : IsLed set states

-- a routine's frame of an accepted set is about to execute an instruction
pub record Runs (set : Set) (states : States) (s : Shared) (a : Activation) (i : Instr) : Type 0
  where
    pub routine : Routine
    pub stays : Stays set states s.issued routine a
    pub known : IsKnown (member set a.driver a.routine routine) (states a.driver a.routine)
    pub here : slice_get routine.code a.position ≡ Some i
    pub sort : sort_of set a.driver a.routine ≡ routine.sort
    pub obeys : refuses (state_of states a) i (sort_of set a.driver a.routine) set a.driver ≡ None
    pub fits : Fits set s
    pub good : IsGood set states
