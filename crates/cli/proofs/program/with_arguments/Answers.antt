use Rattle.std.proofs.Common.{◌∙◌, ap, rules}
use Rattle.clap.specs.Words.{Rule, app_of, with_rule}
use Rattle.cli.specs.Table.{rule_for}
use Rattle.cli.proofs.Building.{one_on}
use Rattle.cli.proofs.program.with_arguments.Goals as goal

pub loop-argument-preserved : goal.loop-argument-preserved
loop-argument-preserved c =
    record {
      made =
          one_on with_rule rule_for c.args.arguments.now _ c.loop-argument.argument-index _ _ _
          c.loop-argument-test.true c.loop-argument.invariant.made
          (c.in_ok-command.ensures.shape c.arg_of.ensures.local
          ∙ ap (λ (r : Rule). with_rule (app_of c.loop-argument.command) r) c.arg_of.ensures.rule);
      local = search rules;
    }
