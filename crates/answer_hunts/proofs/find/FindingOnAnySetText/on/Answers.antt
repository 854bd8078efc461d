use Rattle.std.proofs.Common.{◌∙◌, ap}
use Rattle.drvhost_devices.specs.Answer.{ended}
use Rattle.drvhost_devices.specs.declared.fault.End.{End}
use Rattle.answer_hunts.proofs.find.FindingOnAnySetText.on.Goals as goal

pub returns : goal.returns
returns g c =
    let text = c.in_ok-text.text.items in (
      c.in_ok-hunted.hunted,
      c.in_ok-hunted.ensures,
      (
        text,
        c.in_ok-text.ensures,
        c.ended.ensures ∙ ap (λ (end : End). ended end text) c.end_told-end.ensures,
      ),
    )
