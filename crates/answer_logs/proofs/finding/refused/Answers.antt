use Rattle.std.proofs.Common.{◌≢◌, refl, rules}
use Rattle.model.specs.declared.abs.Rule.TheVariants.{Memory}
use Rattle.answer_explain.proofs.EachFault.{refused_is_fault}
use Rattle.answer_logs.proofs.finding.refused.Goals as goal

pub told-requires : goal.told-requires
told-requires c =
    let some : c.args.refusal.now.rule ≢ Memory = search rules in
    refused_is_fault c.args.set.now c.args.refusal.now c.requires some

pub returns : goal.returns
returns c =
    let some : c.args.refusal.now.rule ≢ Memory = search rules in (
      refl,
      (
        c.args.refusal.now,
        refused_is_fault c.args.set.now c.args.refusal.now c.requires some,
        c.in_ok-findings.ensures,
      ),
    )
