-- The first faults of the routines of a set, in order, with what is told of each.
use Rattle.std.specs.Prelude.{ℕ, zero, suc, ◌≡◌, ◌++◌, List, [], ◌∷◌, length, map, nat_eq, if◌then◌else◌, Option, None, Some, option_to_list, slice_get}
use Rattle.verifier_evidence.specs.Path.{member_of}
use Rattle.model.specs.declared.abs.Refusal.{Refusal}
use Rattle.model.specs.declared.abs.Rule.TheVariants.{Malformed}
use Rattle.model.specs.declared.set.Driver.{Driver}
use Rattle.model.specs.Set.{Member, Set}
use Rattle.model.specs.Typable.{IsFirstFaultOf, IsTypableRoutine, at_start}
use Rattle.verifier_words.specs.declared.telling.Told.{Told}

-- a refusal is the first fault of this routine, which has these numbers
pub record IsFaultOf (m : Member) (number place : ℕ) (refusal : Refusal) : Type 0 where
  pub driver : refusal.driver ≡ number
  pub routine : refusal.routine ≡ place
  pub first : IsFirstFaultOf m refusal.at refusal.rule

-- the first fault of a routine of these numbers, or that it has none
abbrev pub IsFound : Option Member → ℕ → ℕ → Option Refusal → Type 0
IsFound None number place found = ⊥
IsFound (Some m) number place None = IsTypableRoutine m
IsFound (Some m) number place (Some refusal) = IsFaultOf m number place refusal

-- the first faults of the routines before a number, of the driver of a number
abbrev pub AreOfRoutines : Set → ℕ → ℕ → List Refusal → Type 0
AreOfRoutines set number zero all = all ≡ []
AreOfRoutines set number (suc place) all =
    (before : List Refusal) × (found : Option Refusal) × AreOfRoutines set number place before
    × IsFound (member_of set number place) number place found
    × (all ≡ before ++ option_to_list found)

-- those of all routines of a driver
abbrev pub AreOfDriver : Set → ℕ → Option Driver → List Refusal → Type 0
AreOfDriver set number None all = ⊥
AreOfDriver set number (Some driver) all = AreOfRoutines set number (length driver.routines) all

-- the fault of a set without devices, which is about none of its routines
abbrev pub own_fault : Set → List Refusal
own_fault set = if nat_eq (length set.devices) 0 then at_start Malformed ∷ [] else []

-- that one, and those of the drivers before a number
abbrev pub AreBefore : Set → ℕ → List Refusal → Type 0
AreBefore set zero all = all ≡ own_fault set
AreBefore set (suc number) all =
    (before : List Refusal) × (own : List Refusal) × AreBefore set number before
    × AreOfDriver set number (slice_get set.drivers number) own × (all ≡ before ++ own)

-- all of them
abbrev pub AreFaults : Set → List Refusal → Type 0
AreFaults set all = AreBefore set (length set.drivers) all

-- the refusals that are told
abbrev pub refusals : List Told → List Refusal
refusals all = map (λ told. told.refusal) all

-- behind the refusals that were told, the first faults of a driver are told too
abbrev pub AddsFaults : Set → ℕ → Option Driver → List Told → List Told → Type 0
AddsFaults set number driver before after =
    (own : List Refusal) × AreOfDriver set number driver own
    × (refusals after ≡ refusals before ++ own)
