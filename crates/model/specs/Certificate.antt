-- The certificate of a routine: how many instructions an activation of it executes at most. No jump
-- leads back or out of a loop's body or into one, so an instruction is executed at most as often as
-- the loops round it turn.
use Rattle.std.specs.Prelude.{ℕ, zero, suc, ◌+◌, List, length, Option, None, Some}
use Rattle.model.specs.declared.instr.Instr.{Instr}
use Rattle.model.specs.declared.set.Routine.{Routine}
use Rattle.model.specs.Loops.{loops_round, turns_product}
use Rattle.model.specs.Set.{Set, routine_of}

-- how often the instruction at a position is executed at most
abbrev pub turns_at : List Instr → ℕ → ℕ
turns_at code p = turns_product code (loops_round code p)

-- the sum over the positions before one
abbrev pub certificate_to : List Instr → ℕ → ℕ
certificate_to code zero = 0
certificate_to code (suc p) = certificate_to code p + turns_at code p

abbrev pub certificate : List Instr → ℕ
certificate code = certificate_to code (length code)

abbrev pub certificate_in : Option Routine → ℕ
certificate_in None = 0
certificate_in (Some routine) = certificate routine.code

-- the certificate of a routine of a set, the default routine's number included
abbrev pub certificate_of : Set → ℕ → ℕ → ℕ
certificate_of set driver number = certificate_in (routine_of set driver number)
