use Rattle.std.proofs.Common.{Ok, inl}
use Rattle.std.proofs.lemmas.Result.{IfOk-weaker}
use Rattle.drvhost_devices.specs.Answer.{Answer}
use Rattle.answer.specs.declared.as_json.Json.{Json}
use Rattle.answer.specs.Run.{set_chosen}
use Rattle.answer.specs.Told.{IsToldOfFile}
use Rattle.drvhost_told.specs.Served.{IsHostJson, IsServedJsonOf}
use Rattle.drvhost_told.proofs.ServedScripts.{kept_told}
use Rattle.drvhost_told.proofs.host.served_for.Goals as goal

pub returns-in-Runs-clause-told : goal.returns-in-Runs-clause-told
returns-in-Runs-clause-told g c =
    let asked = c.args.asked.now in
    let script = g.P.Source.supply c.args.script.now in
    let set = set_chosen c.in-Runs.chosen in
    let begun = rw c.in-Runs.is at c.in_ok-chosen.ensures in
    let Q : Answer → Type 0 = IsToldOfFile
    (λ bytes. IsHostJson asked.hosting.workers asked.set.now asked.script.now script)
    asked.set.now c.args.bytes.now in
    IfOk-weaker c.serve_chosen.result
    (IsServedJsonOf asked.hosting.workers asked.script.now script set) Q
    (λ told right. (Ok set, begun.0, inl (begun.1, right))) c.serve_chosen.ensures.told

pub returns-in-Kept-clause-told : goal.returns-in-Kept-clause-told
returns-in-Kept-clause-told g c =
    let asked = c.args.asked.now in
    let it : Json = record {} in
    kept_told it asked.hosting.workers asked.set.now asked.script.now
    (g.P.Source.supply c.args.script.now) c.args.bytes.now c.in-Kept.told
    (rw c.in-Kept.is at c.in_ok-chosen.ensures)
