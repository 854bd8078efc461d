use Rattle.std.proofs.Common.{◌∙◌, List, ap, ℕ}
use Rattle.drvhost_devices.specs.Answer.{ended}
use Rattle.drvhost_devices.specs.declared.fault.End.{End}
use Rattle.answer_hunts.specs.Hunt.{end_told}
use Rattle.answer_hunts.proofs.hunt.HuntingOnAnySetText.on.Goals as goal

pub returns : goal.returns
returns g c =
    let told = c.in_ok-hunted.hunted in
    let text = c.extend_from_slice.new.self.items in
    let added = rw c.new-text.ensures.items at c.in_ok-extend_from_slice.ensures.items in (
      told,
      c.in_ok-hunted.ensures,
      c.ended.ensures ∙ ap (λ (end : End). ended end text) c.end_told.ensures
          ∙ ap (λ (t : List ℕ). ended (end_told told) t) (added ∙ c.text_told.ensures),
    )
