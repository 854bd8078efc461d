use Rattle.std.proofs.Common.{ℕ, List, refl}
use Rattle.model.specs.Set.{Set}
use Rattle.drvhost_devices.specs.Answer.{Answer}
use Rattle.drvhost_devices.specs.Device.{Bytes}
use Rattle.answer.proofs.AsJson.{told_of_source}
use Rattle.answer.proofs.AsText.{of_file}
use Rattle.answer.specs.contracts.as_json.JsonForm.TheImpl.{ghosts as json_form}
use Rattle.answer.specs.contracts.as_text.TextForm.TheImpl.{ghosts as text_form}
use Rattle.answer.specs.declared.as_json.Json.{Json as InJson}
use Rattle.answer.specs.declared.as_text.Text.{Text}
use Rattle.answer_hunts.specs.Hunt.{IsHuntBy, IsHuntOfWay}
use Rattle.answer_hunts.specs.Json.{IsHuntJsonBy, IsHuntJsonOf}
use Rattle.cli.specs.declared.job.Form.TheVariants.{Lines, Json}
use Rattle.drvhost_words.proofs.Tasks.{from_form}
use Rattle.drvhost_words.proofs.task.Tasked.hunt.Goals as goal

pub returns-in-Lines : goal.returns-in-Lines
returns-in-Lines g c =
    let file = c.args.set.now in
    let form : Text = record {} in
    let Is : List ℕ → Set → Answer → Type 0 = λ _. IsHuntBy c.args.way c.args.reach in
    rw c.in-Lines.is
    (from_form text_form form Lines file.name.now (IsHuntOfWay c.args.way c.args.reach) Is
    file.content c.answer.result (λ bytes answer right. (bytes, refl, of_file Is bytes answer right))
    (λ answer unread. unread) (λ answer unopened. unopened) c.answer.ensures)

pub returns-in-Json : goal.returns-in-Json
returns-in-Json g c =
    let name = c.args.set.now.name in
    let form : InJson = record {} in
    let Is : List ℕ → List ℕ → Set → Answer → Type 0 =
    λ n _. IsHuntJsonBy c.args.way c.args.reach n in
    rw c.in-Json.is
    (from_form json_form form Json name.now (IsHuntJsonOf c.args.way c.args.reach name.now)
    (Is name.now) c.args.set.now.content c.answer-in-Json.result
    (λ bytes answer right. told_of_source Is name.now (Bytes bytes) answer
    (bytes, refl, (name, record name { now = bytes }, refl, refl, right)))
    (λ answer unread. unread) (λ answer unopened. unopened) c.answer-in-Json.ensures)
