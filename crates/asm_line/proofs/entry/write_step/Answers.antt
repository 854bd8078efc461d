use Rattle.std.proofs.Common.{string_bytes, ap, ◌∙◌}
use Rattle.asm_line.proofs.Written.{labelled_written, unlabelled_written}
use Rattle.asm_line.proofs.entry.write_step.Goals as goal
use Rattle.asm_line.proofs.entry.write_step.Goals.{in-Some+in_ok-write, in_default}

pub returns : goal.returns
returns c = elim c.match-label.branch [
  | in-Some+in_ok-write w ↦
      labelled_written c.write_instruction.result c.args.label w.in-Some.position c.args.instr
      (string_bytes c.args.text.now) (string_bytes c.match-label.text)
      (string_bytes c.write_instruction.new.text) w.in-Some.is
      (ap string_bytes w.text-is ∙ w.in_ok-write.ensures.bytes) c.write_instruction.ensures
  | in_default w ↦
      unlabelled_written c.write_instruction.result c.args.label c.args.instr
      (string_bytes c.args.text.now) (string_bytes c.match-label.text)
      (string_bytes c.write_instruction.new.text) w.in_default.is
      (ap string_bytes w.text-is) c.write_instruction.ensures
]
