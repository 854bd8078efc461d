use Rattle.std.proofs.Common.{take, length}
use Rattle.asm_line.specs.Listing.{AreMarks}
use Rattle.asm_line.proofs.listed_routine.marks_of.Given as goal

-- the labels of the instructions so far are marked
abbrev pub invariant-loop-instr : goal.invariant-loop-instr
invariant-loop-instr l = AreMarks (length l.code) (take l.instr-index l.code) l.marks.items
