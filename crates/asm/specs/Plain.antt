-- A line of an instruction that has no label and uses no name, in its context: a step of the proof,
-- and no definition to believe.
use Rattle.std.specs.Prelude.{◌≡◌, [], ◌∷◌, ◌++◌, None}
use Rattle.model.specs.declared.instr.Instr.{Instr}
use Rattle.asm_line.specs.Plain.{plain_line}
use Rattle.asm.specs.Outline.{Outline, draft_misfit}

-- the instruction may stand here, and this is read with it
pub record IsPlainOn (o : Outline) (instr : Instr) (next : Outline) : Type 0 where
  pub fits : draft_misfit o (plain_line instr) ≡ None
  pub added : next ≡ record o {
    steps = o.steps ++ (record { instr = instr; label = None; call = None; queue = None }) ∷ [];
  }
