use Rattle.std.proofs.Common.{inl, sym, Option, List, subst}
use Rattle.clap.specs.Words.{Row, Text}
use Rattle.cli.specs.CommandLine.{Names}
use Rattle.cli.proofs.Named.{is_none, is_some}
use Rattle.cli.proofs.job.Job.of.Goals as goal

pub returns-in-Some-clause-task : goal.returns-in-Some-clause-task
returns-in-Some-clause-task g c =
    let matched = c.in-Ok.ensures.matched in
    inl (record {
      taken = matched.taken;
      named = subst (λ (found : Option (Text × List Row)). Names found c.in-Some.job) matched.found_is
          (is_some _ _ c.in-Some.job c.in-Some.is c.in_ok-job-in-Ok.ensures);
    })

pub returns-in-Ok-clause-refused : goal.returns-in-Ok-clause-refused
returns-in-Ok-clause-refused g c =
    λ taken job names.
    absurd (is_none _ _ c.in-None.is c.in_ok-job-in-Ok.ensures job
    (subst (λ (found : Option (Text × List Row)). Names found job) (sym c.in-Ok.ensures.matched.found_is) names))
