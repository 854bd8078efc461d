-- The refusal of a set, from the fault of one of its routines.
use Rattle.std.specs.Prelude.{ℕ, ◌≡◌, ◌⊎◌, Some, slice_get}
use Rattle.model.specs.declared.abs.Refusal.{Refusal}
use Rattle.model.specs.declared.abs.Rule.TheVariants.{Memory}
use Rattle.model.specs.declared.set.Driver.{Driver}
use Rattle.model.specs.declared.set.Routine.{Routine}
use Rattle.model.specs.Set.{Set, Member, member}
use Rattle.model.specs.Typable.{AreTypableRoutines, IsFirstFaultOf, IsFirstFault, at_start}

-- the first fault of a routine
pub record IsFirstFaultOfRoutine (m : Member) (refusal : Refusal) : Type 0 where
  pub driver : refusal.driver ≡ m.driver
  pub number : refusal.routine ≡ m.number
  pub first : IsFirstFaultOf m refusal.at refusal.rule

-- the first fault of the driver of a number, of a set: of its least routine
pub record IsFirstFaultOfDriver (set : Set) (number : ℕ) (driver : Driver) (refusal : Refusal)
    : Type 0 where
  pub numbered : refusal.driver ≡ number
  pub routine : Routine
  pub routine_at : slice_get driver.routines refusal.routine ≡ Some routine
  pub routines_before : AreTypableRoutines set number driver refusal.routine
  pub first : IsFirstFaultOf (member set number refusal.routine routine) refusal.at refusal.rule

-- a refusal is for want of memory or for the first fault
abbrev pub IsRefusalOfRoutine : Member → Refusal → Type 0
IsRefusalOfRoutine m refusal = (refusal ≡ at_start Memory) ⊎ IsFirstFaultOfRoutine m refusal

abbrev pub IsRefusalOfDriver : Set → ℕ → Driver → Refusal → Type 0
IsRefusalOfDriver set number driver refusal =
    (refusal ≡ at_start Memory) ⊎ IsFirstFaultOfDriver set number driver refusal

abbrev pub IsRefusalOf : Set → Refusal → Type 0
IsRefusalOf set refusal = (refusal ≡ at_start Memory) ⊎ IsFirstFault set refusal
