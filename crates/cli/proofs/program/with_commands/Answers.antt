use Rattle.std.proofs.Common.{◌∙◌, ap}
use Rattle.clap.specs.Words.{App, app_of, with_subcommand}
use Rattle.cli.specs.Program.{with_command}
use Rattle.cli.specs.Table.{command_for}
use Rattle.cli.proofs.Building.{one_on}
use Rattle.cli.proofs.program.with_commands.Goals as goal

pub loop-entry-preserved : goal.loop-entry-preserved
loop-entry-preserved c =
    let made = c.in_ok-command_of.ensures in
    one_on with_command command_for c.args.entries.now _ c.loop-entry.entry-index _ _ _
    c.loop-entry-test.true c.loop-entry.invariant
    (c.in_ok-program.ensures.shape made.local
    ∙ ap (λ (a : App). with_subcommand (app_of c.loop-entry.program) a.top) made.app)
