use Rattle.std.proofs.Common.{IfSome, IsTrue, Option, subst}
use Rattle.std.proofs.lemmas.Result.{IfOk-weaker}
use Rattle.hunt_schedule.specs.declared.reading.Listed.{Listed}
use Rattle.hunt_schedule.specs.Telling.{IsListed, TellsItsEnd}
use Rattle.hunt_schedule.proofs.reading.tells_its_end.Goals as goal

pub returns-in-Some : goal.returns-in-Some
returns-in-Some c =
    let set = c.args.set.now in
    let bounds = c.args.bounds in
    let text = c.args.text.now in
    let its : IsListed text c.in-Some.listed =
    subst (λ (found : Option Listed). IfSome found (IsListed text)) c.in-Some.is
    c.in_ok-listed.ensures in
    IfOk-weaker c.tells_listed.result
    (λ tells. IsTrue tells → IsListed text c.in-Some.listed → TellsItsEnd set bounds text)
    (λ tells. IsTrue tells → TellsItsEnd set bounds text) (λ tells h told. h told its)
    c.tells_listed.ensures
