use Rattle.std.proofs.Common.{◌≡◌, ◌∙◌, ap}
use Rattle.drvhost_devices.specs.Answer.{ended}
use Rattle.drvhost_devices.specs.declared.fault.End.TheVariants.{Stopped}
use Rattle.answer_explain.proofs.in_json.ExplainedJsonForm.refused.Goals as goal

pub returns : goal.returns
returns c =
    let lines = c.in_ok-add_faults.ensures in
    let added : c.add_faults.new.lines ≡ lines.0 = rw c.new-lines.ensures at lines.2 in (
      c.args.refusal.now,
      lines.0,
      c.requires,
      lines.1,
      c.ended.ensures ∙ ap (ended Stopped) (c.into_bytes.ensures ∙ added),
    )
