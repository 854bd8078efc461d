-- The faults of a set that evidence is asked for: its own, and the first of each routine.
use Rattle.std.specs.Prelude.{◌≡◌, ◌⊎◌, Option, None, Some, length}
use Rattle.model.specs.declared.abs.Refusal.{Refusal}
use Rattle.model.specs.declared.abs.Rule.TheVariants.{Malformed}
use Rattle.model.specs.Set.{Member, Set}
use Rattle.model.specs.Typable.{IsFirstFaultOf, at_start}
use Rattle.verifier_evidence.specs.Path.{member_of}

-- a refusal is the first fault of this routine
abbrev pub IsFaultIn : Option Member → Refusal → Type 0
IsFaultIn None refusal = ⊥
IsFaultIn (Some m) refusal = IsFirstFaultOf m refusal.at refusal.rule

-- it is the fault of a set without devices, or the first fault of its routine
abbrev pub IsFaultOf : Set → Refusal → Type 0
IsFaultOf set refusal =
    ((length set.devices ≡ 0) × (refusal ≡ at_start Malformed))
    ⊎ IsFaultIn (member_of set refusal.driver refusal.routine) refusal
