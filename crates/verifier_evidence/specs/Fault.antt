-- The first fault of a routine.
use Rattle.std.specs.Prelude.{Option, None, Some}
use Rattle.model.specs.Set.{Member}
use Rattle.model.specs.Typable.{IsFirstFaultOf, IsTypableRoutine}
use Rattle.verifier_evidence.specs.declared.subject.Fault.{Fault}

-- a routine's first fault was found, or that it has none
abbrev pub Finds : Member → Option Fault → Type 0
Finds m None = IsTypableRoutine m
Finds m (Some fault) = IsFirstFaultOf m fault.at fault.rule
