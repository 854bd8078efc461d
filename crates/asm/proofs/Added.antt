-- What a line adds to an outline: table entries of the open driver, or an instruction.
use Rattle.std.proofs.Common.{ℕ, Option, length}
use Rattle.model.specs.declared.instr.Instr.{Instr}
use Rattle.asm_line.specs.declared.line.UsedNames.{UsedNames}
use Rattle.asm.specs.declared.draft.StartIoLine.{StartIoLine}
use Rattle.asm.specs.declared.draft.Step.{Step}
use Rattle.asm.specs.declared.names.Use.{Use}
use Rattle.asm.specs.Outline.{Outline, use_place, used_at}

-- the outline with these table entries
abbrev pub with_entries : Outline
    → Option Use → Option Use → Option Use → Option StartIoLine → Option Use → Outline
with_entries o read write control startio dpc = record o {
  read = read;
  write = write;
  control = control;
  startio = startio;
  dpc = dpc;
}

-- an instruction on the line of a number, with the places of the names that it uses
abbrev pub added_step : Outline → ℕ → Instr → UsedNames → Step
added_step o n instr used = record {
  instr = instr;
  label = used_at n used.label;
  call = use_place (length o.calls) used.routine;
  queue = use_place (length o.queue_uses) used.queue;
}
