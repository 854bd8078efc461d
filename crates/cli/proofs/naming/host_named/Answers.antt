use Rattle.std.proofs.Common.{List, codes}
use Rattle.clap.specs.Words.{Row}
use Rattle.cli.specs.Given.{given_by}
use Rattle.cli.specs.declared.job.FileNames.{FileNames}
use Rattle.cli.specs.declared.job.Job.{Job}
use Rattle.cli.specs.declared.job.Job.TheVariants.{Host, Keep}
use Rattle.cli.specs.declared.table.Subcommand.TheVariants.{Host as ToHost}
use Rattle.cli.specs.CommandLine.{HasBoth, NamesOf}
use Rattle.cli.proofs.naming.host_named.Goals as goal

-- without the names of both files nothing is served
unserved : (rows : List Row) → ((names : FileNames) → HasBoth (codes "SCRIPT") rows names → ⊥)
    → (job : Job) → NamesOf ToHost rows job → ⊥
unserved rows never (Host serving) named = never serving.names named.0
unserved rows never (Keep keeping) named = never keeping.names named.0
unserved rows never job named = absurd named

pub returns-in_err-names : goal.returns-in_err-names
returns-in_err-names c =
    rw c.from_residual.ensures
    (unserved (given_by c.args.matches.now) c.in_err-names.ensures.none)
