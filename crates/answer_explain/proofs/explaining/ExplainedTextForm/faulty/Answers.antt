use Rattle.std.proofs.Common.{◌∙◌, ◌++◌, List, ap, ℕ}
use Rattle.drvhost_devices.specs.Answer.{Answer, faulty}
use Rattle.answer_explain.proofs.explaining.ExplainedTextForm.faulty.Goals as goal

pub returns : goal.returns
returns c =
    let words = c.as_bytes.result.now in
    let line = c.in_ok-told.ensures in (
      line.0,
      words,
      line.1,
      c.faulty-2.ensures
          ∙ ap faulty
          (c.in_ok-line.ensures
          ∙ ap (λ (l : List ℕ). l ++ words)
          (c.told-2.ensures ∙ ap (λ (t : Answer). t.told) line.2)),
    )
