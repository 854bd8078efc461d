use Rattle.std.proofs.Common.{◌∙◌, ◌++◌, List, ap, ℕ}
use Rattle.drvhost_devices.specs.Answer.{ended}
use Rattle.drvhost_devices.specs.declared.fault.End.TheVariants.{Complete}
use Rattle.answer_explain.proofs.rule.explain_rule.Goals as goal

pub returns : goal.returns
returns c =
    let words = c.as_str-2.result.now in
    record {
      words = words;
      is = c.in_ok-page.ensures
          ∙ ap (λ (name : List ℕ). ended Complete (name ++ words)) c.as_str.ensures;
    }
