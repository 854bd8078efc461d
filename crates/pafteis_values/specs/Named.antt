-- The name of something in a driver text, by its number in the order of the text.
use Rattle.std.specs.Prelude.{ℕ, ◌-◌, List, [], ◌∷◌, nat_eq, if◌then◌else◌, Option, None, Some}
use Rattle.asm_line.specs.declared.line.Body.{Body}
use Rattle.asm_line.specs.declared.line.Body.TheVariants.{OpenDriver, CloseDriver, AddQueue, OpenRoutine, AddDevice}
use Rattle.asm_places.specs.Source.{body_on}
use Rattle.pafteis_values.specs.declared.named.Found.{Found}
use Rattle.pafteis_values.specs.declared.named.Found.TheVariants.{Name, Further}
use Rattle.pafteis_values.specs.declared.named.Part.{Part}
use Rattle.pafteis_values.specs.declared.named.Part.TheVariants.{Routine, Queue}
use Rattle.pafteis_values.specs.declared.named.Sought.{Sought}
use Rattle.pafteis_values.specs.declared.named.Sought.TheVariants.{Driver, Device, Of, Here, Nothing}
use Rattle.text.specs.Cut.{lines_of}

-- a line names something before which so many others of its sort are passed over
abbrev pub next : List ℕ → ℕ → Sought → Found
next name before further = if nat_eq before 0 then Name name else Further further

-- what comes of a line where a driver is sought, a device, a part of a driver that begins later,
-- and one of the driver that has begun
abbrev pub met_driver : ℕ → Body → Found
met_driver before (OpenDriver name) = next name before (Driver (before - 1))
met_driver before _ = Further (Driver before)

abbrev pub met_device : ℕ → Body → Found
met_device before (AddDevice name driver stack lower) = next name before (Device (before - 1))
met_device before _ = Further (Device before)

abbrev pub met_of : ℕ → Part → ℕ → Body → Found
met_of before part number (OpenDriver name) =
    if nat_eq before 0 then Further (Here part number) else Further (Of (before - 1) part number)
met_of before part number _ = Further (Of before part number)

abbrev pub met_routine : ℕ → Body → Found
met_routine before (OpenRoutine name sort) = next name before (Here Routine (before - 1))
met_routine before CloseDriver = Further Nothing
met_routine before _ = Further (Here Routine before)

abbrev pub met_queue : ℕ → Body → Found
met_queue before (AddQueue name guard cancel) = next name before (Here Queue (before - 1))
met_queue before CloseDriver = Further Nothing
met_queue before _ = Further (Here Queue before)

abbrev pub met_here : Part → ℕ → Body → Found
met_here Routine before body = met_routine before body
met_here Queue before body = met_queue before body

abbrev pub met : Sought → Body → Found
met (Driver before) body = met_driver before body
met (Device before) body = met_device before body
met (Of before part number) body = met_of before part number body
met (Here part before) body = met_here part before body
met Nothing body = Further Nothing

-- the name on a line, or that in the lines behind it
abbrev pub named_by : Found → (Sought → Option (List ℕ)) → Option (List ℕ)
named_by (Name name) later = Some name
named_by (Further sought) later = later sought

abbrev pub name_from : List (List ℕ) → Sought → Option (List ℕ)
name_from [] sought = None
name_from (raw ∷ raws) sought = named_by (met sought (body_on raw)) (λ more. name_from raws more)

-- the name of what is sought in a text, where it has that
abbrev pub name_in : List ℕ → Sought → Option (List ℕ)
name_in text sought = name_from (lines_of text) sought
