-- Instructions of a routine that name nothing: no label, no queue and no routine. They are the same
-- before labels are known, then, and in the set. Those that name no queue and no routine are the
-- same from where labels are known on. A step of the proof, and no definition to believe.
use Rattle.std.specs.Prelude.{◌≡◌, ⊤, Bool, true, false, not, List, [], ◌∷◌, None}
use Rattle.std.specs.List.{list_any}
use Rattle.model.specs.declared.instr.Instr.{Instr}
use Rattle.model.specs.InstructionForm.{Operand, ALabel, AQueue, ARoutine, by_form}
use Rattle.asm.specs.declared.draft.Linked.{Linked}
use Rattle.asm.specs.declared.draft.Step.{Step}

-- operands that are names
abbrev pub is_called_or_queue : Operand → Bool
is_called_or_queue ARoutine = true
is_called_or_queue AQueue = true
is_called_or_queue _ = false

abbrev pub is_name : Operand → Bool
is_name ALabel = true
is_name operand = is_called_or_queue operand

-- the instruction names nothing
abbrev pub is_bare : Instr → Bool
is_bare i = by_form (λ form values. not (list_any is_name form.operands)) i

-- the instruction names no queue and no routine
abbrev pub is_nameless : Instr → Bool
is_nameless i = by_form (λ form values. not (list_any is_called_or_queue form.operands)) i

abbrev pub AreNameless : List Instr → Type 0
AreNameless [] = ⊤
AreNameless (i ∷ is) = (is_nameless i ≡ true) × AreNameless is

abbrev pub AreBare : List Instr → Type 0
AreBare [] = ⊤
AreBare (i ∷ is) = (is_bare i ≡ true) × AreBare is

-- such an instruction as it is read
abbrev pub bare_step : Instr → Step
bare_step i = record { instr = i; label = None; call = None; queue = None }

-- and in a closed routine
abbrev pub bare_link : Instr → Linked
bare_link i = record { instr = i; call = None; queue = None }
