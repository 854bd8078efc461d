use Rattle.std.proofs.Common.{◌≡◌, drop, map}
use Rattle.clap.specs.Words.{app_of}
use Rattle.cli.specs.Program.{with_all, with_command}
use Rattle.cli.specs.Table.{command_for}
use Rattle.cli.proofs.program.with_commands.Given as goal

-- what is made and what is left make the whole
abbrev pub invariant-loop-entry : goal.invariant-loop-entry
invariant-loop-entry l =
    with_all with_command (app_of l.program) (map command_for (drop l.entry-index l.entries))
    ≡ with_all with_command (app_of l.fn.program) (map command_for l.entries)
