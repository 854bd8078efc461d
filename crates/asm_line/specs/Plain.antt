-- A line of an instruction that has no label and uses no name, and one that says nothing.
use Rattle.std.specs.Prelude.{Some, None}
use Rattle.model.specs.declared.instr.Instr.{Instr}
use Rattle.asm_line.specs.declared.line.Body.TheVariants.{Blank, Step}
use Rattle.asm_line.specs.declared.line.Line.{Line}
use Rattle.asm_line.specs.declared.line.UsedNames.{UsedNames}

-- no name is noted
abbrev pub unnamed : UsedNames
unnamed = record { label = None; routine = None; queue = None }

-- the line of this instruction
abbrev pub plain_line : Instr → Line
plain_line instr = record { label = None; body = Step (Some instr) unnamed }

-- the line that says nothing
abbrev pub blank_line : Line
blank_line = record { label = None; body = Blank }
