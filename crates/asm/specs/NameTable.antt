-- Names: what has a name, by its number, and which routines are for which role.
use Rattle.std.specs.Prelude.{ℕ, Bool, true, false, bytes_eq, List, Option, Some, None, slice_get, position, option_and_then, if◌then◌else◌}
use Rattle.std.specs.List.{list_any}
use Rattle.model.specs.declared.set.Sort.{Sort}
use Rattle.model.specs.declared.set.Sort.TheVariants.{Dispatch, StartIo, Dpc, Propagate, Hold, Cancel}
use Rattle.asm.specs.declared.roles.Role.{Role}
use Rattle.asm.specs.declared.roles.Role.TheVariants.{Handler, Completion, StartIo as StartIoRole, Dpc as DpcRole, Cancel as CancelRole}

-- the name is one of these
abbrev pub is_among : List (List ℕ) → List ℕ → Bool
is_among names name = list_any (bytes_eq name) names

-- there is no name, or it is one of these
abbrev pub is_known : List (List ℕ) → Option (List ℕ) → Bool
is_known names None = true
is_known names (Some name) = is_among names name

-- what a name is the number of: its place among the names
abbrev pub number_of : List (List ℕ) → List ℕ → Option ℕ
number_of names name = position (bytes_eq name) names

-- routines of this sort are for this role
abbrev pub serves : Role → Sort → Bool
serves Handler Dispatch = true
serves Completion Propagate = true
serves Completion Hold = true
serves StartIoRole StartIo = true
serves DpcRole Dpc = true
serves CancelRole Cancel = true
serves _ _ = false

-- the number, if there is a sort and it is for the role
abbrev pub number_for : Role → ℕ → Option Sort → Option ℕ
number_for role number None = None
number_for role number (Some sort) = if serves role sort then Some number else None

-- the number of the routine with this name, if its sort is for the role; given are the names and
-- sorts of the driver's routines, in order
abbrev pub routine_named : List (List ℕ) → List Sort → Role → List ℕ → Option ℕ
routine_named names sorts role name =
    option_and_then (λ number. number_for role number (slice_get sorts number))
    (number_of names name)
