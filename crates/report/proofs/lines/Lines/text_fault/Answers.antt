use Rattle.std.proofs.Common.{append_assoc, refl}
use Rattle.report.proofs.lines.Lines.text_fault.Goals as goal

pub returns : goal.returns
returns c =
    rw (
      c.fault.ensures,
      c.text.ensures.added,
      c.text_kind_number.ensures,
      c.text_kind_name.ensures.name,
    )
    (simp append_assoc refl)
