use Rattle.std.proofs.Common.{◌≡◌, drop, false, map}
use Rattle.clap.specs.Words.{app_of, with_rule}
use Rattle.clap.specs.declared.builder.command.Command.TheViews.{out-Command as fields_of}
use Rattle.cli.specs.Program.{with_all}
use Rattle.cli.specs.Table.{rule_for}
use Rattle.cli.proofs.program.with_arguments.Given as goal

-- what is made and what is left make the whole
abbrev pub invariant-loop-argument : goal.invariant-loop-argument
invariant-loop-argument l =
    record {
      made :
          with_all with_rule (app_of l.command) (map rule_for (drop l.argument-index l.arguments))
          ≡ with_all with_rule (app_of l.fn.command) (map rule_for l.arguments);
      local : (fields_of l.command).has_globals ≡ false;
    }
