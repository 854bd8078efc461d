use Rattle.std.proofs.Common.{append_assoc, refl}
use Rattle.report.proofs.lines.Lines.topped.Goals as goal

pub returns : goal.returns
returns c =
    rw (
      c.text-5.ensures.added,
      c.number-2.ensures.added,
      c.text-4.ensures.added,
      c.text-3.ensures.added,
      c.text-2.ensures.added,
      c.number.ensures.added,
      c.text.ensures.added,
      c.event_number.ensures.added,
    )
    (simp (append_assoc, c.as_str.ensures, c.as_bytes.ensures.value) refl)
