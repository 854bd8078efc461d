-- What a driver has, by the names of its lines.
use Rattle.std.specs.Prelude.{ℕ, Bool, true, List, Option, Some, None, option_and_then, is_some}
use Rattle.model.specs.declared.set.Sort.{Sort}
use Rattle.asm_line.specs.declared.line.Line.{Line}
use Rattle.asm.specs.declared.roles.Role.{Role}
pub use Rattle.asm.specs.NameTable.{is_among, is_known, number_of, serves, number_for, routine_named}
use Rattle.asm.specs.Parts.{queue_on, routine_on, said, sort_on}

-- what a driver has: the names and sorts of its routines, in order, and the names of its queues
pub record Inventory : Type 0 where
  pub routines : List (List ℕ)
  pub sorts : List Sort
  pub queues : List (List ℕ)

-- what the driver of these lines has
abbrev pub inventory : List Line → Inventory
inventory ls = record {
  routines = said routine_on ls;
  sorts = said sort_on ls;
  queues = said queue_on ls;
}

-- the number of its routine with this name, if there is a name and the sort is for the role
abbrev pub number_in : Inventory → Role → Option (List ℕ) → Option ℕ
number_in has role name =
    option_and_then (λ name. routine_named has.routines has.sorts role name) name

-- there is no name, or it is one of a routine of a sort for the role
abbrev pub is_served : Inventory → Role → Option (List ℕ) → Bool
is_served has role None = true
is_served has role (Some name) = is_some (routine_named has.routines has.sorts role name)
