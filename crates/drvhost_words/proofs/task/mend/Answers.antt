use Rattle.std.proofs.Common.{refl}
use Rattle.drvhost_devices.specs.Device.{Bytes}
use Rattle.answer.proofs.AsJson.{told_of_source}
use Rattle.answer.proofs.AsText.{of_file}
use Rattle.answer_mends.specs.Json.{IsMendJson, IsMendJsonOf}
use Rattle.answer_mends.specs.Mend.{IsMend, IsMendOf}
use Rattle.answer_mends.specs.contracts.as_json.MendsJsonForm.TheImpl.{ghosts as json_form}
use Rattle.answer_mends.specs.contracts.mend.MendsTextForm.TheImpl.{ghosts as text_form}
use Rattle.answer_mends.specs.declared.as_json.MendsJson.{MendsJson}
use Rattle.answer_mends.specs.declared.mend.MendsText.{MendsText}
use Rattle.cli.specs.declared.job.Form.TheVariants.{Lines, Json}
use Rattle.drvhost_words.proofs.Tasks.{from_form}
use Rattle.drvhost_words.proofs.task.mend.Goals as goal

pub returns-in-Lines : goal.returns-in-Lines
returns-in-Lines c =
    let file = c.args.set.now in
    let asked = c.args.asked in
    let form : MendsText = record { asked = asked } in
    rw c.in-Lines.is
    (from_form text_form form Lines file.name.now (IsMendOf asked) (IsMend asked) file.content
    c.answer.result (λ bytes answer right. (bytes, refl, of_file (IsMend asked) bytes answer right))
    (λ answer unread. unread) (λ answer unopened. unopened) c.answer.ensures)

pub returns-in-Json : goal.returns-in-Json
returns-in-Json c =
    let name = c.args.set.now.name in
    let asked = c.args.asked in
    let form : MendsJson = record { asked = asked } in
    rw c.in-Json.is
    (from_form json_form form Json name.now (IsMendJsonOf asked name.now) (IsMendJson asked name.now)
    c.args.set.now.content c.answer-in-Json.result
    (λ bytes answer right. told_of_source (IsMendJson asked) name.now (Bytes bytes) answer
    (bytes, refl, (name, record name { now = bytes }, refl, refl, right)))
    (λ answer unread. unread) (λ answer unopened. unopened) c.answer-in-Json.ensures)
