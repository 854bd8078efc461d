-- What an instruction looks for that changes nothing but its routine.
use Rattle.std.specs.Prelude.{ℕ}
use Rattle.model.specs.declared.instr.Instr.{Instr}
use Rattle.laws_slots.specs.declared.activation.WordActivation.{WordActivation}
use Rattle.model.specs.Set.{Set}
use Rattle.laws_slots.specs.WordsFit.{WordInstructionFits}
use Rattle.laws_slots.specs.Slots.{SlotShared}

-- what it looks for is there, whatever the thread and what is shared
pub record FitsAlone (a : WordActivation) (i : Instr) : Type 0 where
  pub set : Set
  pub shared : SlotShared
  pub thread : ℕ
  pub fits : WordInstructionFits set shared thread a i
