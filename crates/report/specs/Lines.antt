-- Lines that gather before they are written.
use Rattle.std.specs.Prelude.{ℕ, ◌+◌, ◌≤◌, List, length}
use Rattle.report.specs.declared.lines.TheConstants.{ROOM, LONGEST_LINE}

-- there is room for one line more
abbrev pub HasRoom : List ℕ → Type 0
HasRoom lines = length lines + LONGEST_LINE ≤ ROOM
