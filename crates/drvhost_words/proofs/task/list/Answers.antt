use Rattle.std.proofs.Common.{ℕ, List, refl}
use Rattle.model.specs.Set.{Set}
use Rattle.drvhost_devices.specs.Answer.{Answer, IsListing}
use Rattle.drvhost_devices.specs.Device.{Bytes}
use Rattle.drvhost_devices.specs.Ends.{IsListOf}
use Rattle.answer.proofs.AsJson.{told_of_source}
use Rattle.answer.proofs.AsText.{of_file}
use Rattle.answer.specs.Listing.{IsListJsonOf, IsListingJson}
use Rattle.answer.specs.contracts.as_json.JsonForm.TheImpl.{ghosts as json_form}
use Rattle.answer.specs.contracts.as_text.TextForm.TheImpl.{ghosts as text_form}
use Rattle.answer.specs.declared.as_json.Json.{Json as InJson}
use Rattle.answer.specs.declared.as_text.Text.{Text}
use Rattle.cli.specs.declared.job.Form.TheVariants.{Lines, Json}
use Rattle.drvhost_words.proofs.Tasks.{from_form}
use Rattle.drvhost_words.proofs.task.list.Goals as goal

pub returns-in-Lines : goal.returns-in-Lines
returns-in-Lines c =
    let file = c.args.set.now in
    let form : Text = record {} in
    rw c.in-Lines.is
    (from_form text_form form Lines file.name.now IsListOf (λ _. IsListing) file.content
    c.answer.result (λ bytes answer right. (bytes, refl, of_file (λ _. IsListing) bytes answer right))
    (λ answer unread. unread) (λ answer unopened. unopened) c.answer.ensures)

pub returns-in-Json : goal.returns-in-Json
returns-in-Json c =
    let name = c.args.set.now.name in
    let form : InJson = record {} in
    let Is : List ℕ → List ℕ → Set → Answer → Type 0 = λ n _. IsListingJson n in
    rw c.in-Json.is
    (from_form json_form form Json name.now (IsListJsonOf name.now) (Is name.now)
    c.args.set.now.content c.answer-in-Json.result
    (λ bytes answer right. told_of_source Is name.now (Bytes bytes) answer
    (bytes, refl, (name, record name { now = bytes }, refl, refl, right)))
    (λ answer unread. unread) (λ answer unopened. unopened) c.answer-in-Json.ensures)
