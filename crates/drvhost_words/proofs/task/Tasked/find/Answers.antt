use Rattle.std.proofs.Common.{refl}
use Rattle.answer.proofs.AsText.{of_file}
use Rattle.answer.specs.contracts.as_text.TextForm.TheImpl.{ghosts as text_form}
use Rattle.answer.specs.declared.as_text.Text.{Text}
use Rattle.answer_hunts.specs.Find.{IsFindBy, IsFindOf}
use Rattle.cli.specs.declared.job.Form.TheVariants.{Lines}
use Rattle.drvhost_words.proofs.Tasks.{from_form}
use Rattle.drvhost_words.proofs.task.Tasked.find.Goals as goal

pub returns : goal.returns
returns g c =
    let file = c.args.set.now in
    let form : Text = record {} in
    let Is = IsFindBy c.args.way c.args.reach in
    from_form text_form form Lines file.name.now (IsFindOf c.args.way c.args.reach) Is file.content
    c.answer.result (λ bytes answer right. (bytes, refl, of_file Is bytes answer right))
    (λ answer unread. unread) (λ answer unopened. unopened) c.answer.ensures
