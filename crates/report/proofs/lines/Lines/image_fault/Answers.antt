use Rattle.std.proofs.Common.{append_assoc, refl}
use Rattle.report.proofs.lines.Lines.image_fault.Goals as goal

pub returns : goal.returns
returns c =
    rw (
      c.text-4.ensures.added,
      c.text-3.ensures.added,
      c.as_bytes.ensures.value,
      c.image_fault_name.ensures.name,
      c.text-2.ensures.added,
      c.number.ensures.added,
      c.image_fault_number.ensures,
      c.text.ensures.added,
    )
    (simp append_assoc refl)
