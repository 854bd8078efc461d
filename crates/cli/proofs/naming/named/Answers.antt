use Rattle.std.proofs.Common.{◌≡◌, ◌∙◌, rules, IfOk, List, Option, Some, subst, sym}
use Rattle.clap.specs.Words.{Row, Text, subcommand_rows_of}
use Rattle.cli.specs.Given.{given_by}
use Rattle.cli.specs.declared.table.Subcommand.{Subcommand}
use Rattle.cli.specs.Program.{command_named}
use Rattle.cli.specs.CommandLine.{IsNamed, Names, NamesBy}
use Rattle.cli.proofs.naming.named.Goals as goal

pub returns-in-Some-command_named : goal.returns-in-Some-command_named
returns-in-Some-command_named c =
    let rows = given_by c.in-Some.inner.now in
    let found : subcommand_rows_of c.args.matches.now ≡ Some (c.in-Some.name.now, rows) =
    search rules in
    let command : command_named c.in-Some.name.now ≡ Some c.in-Some-command_named.command =
    sym c.command_named.ensures ∙ c.in-Some-command_named.is in
    subst
    (λ (found : Option (Text × List Row)). IfOk c.job_named.result (λ named. IsNamed named (Names found)))
    (sym found)
    (subst
    (λ (one : Option Subcommand). IfOk c.job_named.result (λ named. IsNamed named (NamesBy one rows)))
    (sym command) c.job_named.ensures)
