use Rattle.std.proofs.Common.{sym, ◌∙◌}
use Rattle.asm_line.proofs.Usual.{read_is_of_form}
use Rattle.asm_line.proofs.form.is_of_form.Goals as goal

pub returns-in-Ok : goal.returns-in-Ok
returns-in-Ok c =
    sym
    (read_is_of_form c.args.raw.now c.in-Ok.field-0 (sym c.requires ∙ c.in-Ok.is)
    c.if-raw-le-MAX_NAME.true)
