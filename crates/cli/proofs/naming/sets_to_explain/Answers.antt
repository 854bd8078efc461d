use Rattle.std.proofs.Common.{◌≡◌, ◌∙◌, List, None, Option, Some, Result, Ok, Err, IfOk, codes, subst, sym}
use Rattle.clap.specs.Words.{Row, first_of}
use Rattle.cli.specs.Given.{given_by}
use Rattle.cli.specs.declared.job.Job.{Job}
use Rattle.cli.specs.declared.job.Job.TheVariants.{Page as OfPage}
use Rattle.cli.specs.declared.table.Subcommand.TheVariants.{Explain as ToExplain}
use Rattle.drvhost_devices.specs.declared.coloring.Coloring.{Coloring}
use Rattle.cli.specs.Choices.{coloring_of}
use Rattle.cli.specs.CommandLine.{IsNamed, NamesExplained, NamesJudged, NamesOf, explaining}
use Rattle.cli.proofs.naming.sets_to_explain.Goals as goal

-- where no rule is named, sets are explained, and no page is written
module _ (rows : List Row) (unruled : first_of (codes "RULE") rows ≡ None) where
  judged : (choice : Option Coloring) → coloring_of rows ≡ choice → (job : Job)
      → NamesOf ToExplain rows job → NamesExplained choice rows job
  judged choice is (OfPage page) names =
      let both : None ≡ Some names.word = sym unruled ∙ names.asked in cc
  judged choice is job names = subst (λ c. NamesExplained c rows job) is names.1

  explained : (coloring : Coloring) → coloring_of rows ≡ Some coloring → (job : Job)
      → NamesJudged (explaining coloring rows) rows job → NamesOf ToExplain rows job
  explained coloring is (OfPage page) names = absurd names
  explained coloring is job names = (unruled, subst (λ c. NamesExplained c rows job) (sym is) names)

  named : (coloring : Coloring) → coloring_of rows ≡ Some coloring → (found : Option Job)
      → IsNamed found (NamesJudged (explaining coloring rows) rows)
      → IsNamed found (NamesOf ToExplain rows)
  named coloring is (Some job) names = explained coloring is job names
  named coloring is None never = λ job names. never job (judged (Some coloring) is job names)

  ends : {E : Type 0} (coloring : Coloring) → coloring_of rows ≡ Some coloring
      → (found : Result (Option Job) E)
      → IfOk found (λ job. IsNamed job (NamesJudged (explaining coloring rows) rows))
      → IfOk found (λ job. IsNamed job (NamesOf ToExplain rows))
  ends coloring is (Ok job) names = named coloring is job names
  ends coloring is (Err fault) names = tt

pub returns-in_default : goal.returns-in_default
returns-in_default c = λ job names.
    judged (given_by c.args.matches.now) c.requires None
    (sym c.coloring.ensures ∙ c.in_default.is) job names

pub returns : goal.returns
returns c =
    ends (given_by c.args.matches.now) c.requires c.in-Some.coloring
    (sym c.coloring.ensures ∙ c.in-Some.is) _
    (rw c.extent-extent.ensures at c.sets_to_judge.ensures)
