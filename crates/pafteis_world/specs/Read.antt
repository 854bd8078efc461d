-- What is asked with a live packet, as a value.
use Rattle.std.specs.Prelude.{ℕ, Option, None, Some}
use Rattle.machine.specs.Read.{field_at}
use Rattle.model.specs.declared.instr.Field.TheVariants.{Major as MajorField, Argument as ArgumentField, Info as InfoField}
use Rattle.model.specs.World.{World}
use Rattle.pafteis_values.specs.declared.shared.RequestValue.{RequestValue}

-- of fields that there may not be
abbrev pub request_of : Option ℕ → Option ℕ → Option ℕ → Option RequestValue
request_of None info major = None
request_of (Some argument) None major = None
request_of (Some argument) (Some info) None = None
request_of (Some argument) (Some info) (Some major) =
    Some (record { argument = argument; info = info; major = major })

-- of the packet of a number
abbrev pub request_at : World → ℕ → Option RequestValue
request_at w n =
    request_of (field_at w n ArgumentField) (field_at w n InfoField) (field_at w n MajorField)
