-- What the exported functions about names answer.
use Rattle.std.specs.Prelude.{ℕ, List, nat_eq, if◌then◌else◌, Option, None, Some}
use Rattle.pafteis.specs.Called.{PutsBytes}
use Rattle.pafteis_values.specs.Constants.{bug_check_named, rule_named, status_named}
use Rattle.pafteis_values.specs.Named.{name_in}
use Rattle.pafteis_values.specs.declared.named.Part.TheVariants.{Routine, Queue}
use Rattle.pafteis_values.specs.declared.named.Sought.{Sought}
use Rattle.pafteis_values.specs.declared.named.Sought.TheVariants.{Driver, Device, Of}

-- what a name is sought of, by its kind and its numbers
abbrev pub sought_named : ℕ → ℕ → ℕ → Option Sought
sought_named kind driver number =
    if nat_eq kind 1 then Some (Driver number)
    else if nat_eq kind 2 then Some (Device number)
    else if nat_eq kind 3 then Some (Of driver Routine number)
    else if nat_eq kind 4 then Some (Of driver Queue number)
    else None

abbrev pub name_by : List ℕ → Option Sought → Option (List ℕ)
name_by text None = None
name_by text (Some sought) = name_in text sought

abbrev pub TellsNameIn : List ℕ → ℕ → ℕ → ℕ → List ℕ → List ℕ → ℕ → ℕ → Type 0
TellsNameIn text kind driver number before after needed status =
    PutsBytes (name_by text (sought_named kind driver number)) before after needed status

-- the name of a constant, by its kind and its number
abbrev pub constant_named : ℕ → ℕ → Option (List ℕ)
constant_named kind number =
    if nat_eq kind 5 then rule_named number
    else if nat_eq kind 6 then status_named number
    else if nat_eq kind 7 then bug_check_named number
    else None

abbrev pub TellsName : ℕ → ℕ → List ℕ → List ℕ → ℕ → ℕ → Type 0
TellsName kind number before after needed status =
    PutsBytes (constant_named kind number) before after needed status
