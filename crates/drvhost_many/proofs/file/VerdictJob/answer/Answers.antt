use Rattle.std.proofs.Common.{List, ℕ}
use Rattle.std.proofs.lemmas.Result.{IfOk-weaker}
use Rattle.cli.specs.declared.job.Judging.TheVariants.{Check, CheckJson, Explain, ExplainJson}
use Rattle.drvhost_many.specs.One.{IsJudgedFrom}
use Rattle.drvhost_many.proofs.Verdicts.{check_from, check_json_from, explain_from, explain_json_from}
use Rattle.drvhost_many.proofs.file.VerdictJob.answer.Goals as goal

pub returns-in-Check : goal.returns-in-Check
returns-in-Check c =
    let name = c.args.set.now.name.now in
    let content = c.args.set.now.content in
    rw c.in-Check.is
    (IfOk-weaker c.answer.result _ (IsJudgedFrom Check name content)
    (λ answer is. check_from name content answer is) c.answer.ensures)

pub returns-in-CheckJson : goal.returns-in-CheckJson
returns-in-CheckJson c =
    let name = c.args.set.now.name.now in
    let content = c.args.set.now.content in
    rw c.in-CheckJson.is
    (IfOk-weaker c.answer-in-CheckJson.result _ (IsJudgedFrom CheckJson name content)
    (λ answer is. check_json_from name content answer is) c.answer-in-CheckJson.ensures)

pub returns-in-Explain : goal.returns-in-Explain
returns-in-Explain c =
    let name = c.args.set.now.name.now in
    let content = c.args.set.now.content in
    let extent = c.in-Explain.extent in
    let coloring = c.in-Explain.coloring in
    rw c.in-Explain.is
    (IfOk-weaker c.answer-in-Explain.result _ (IsJudgedFrom (Explain extent coloring) name content)
    (λ answer is. explain_from name extent coloring content answer is) c.answer-in-Explain.ensures)

pub returns-in-ExplainJson : goal.returns-in-ExplainJson
returns-in-ExplainJson c =
    let name = c.args.set.now.name.now in
    let content = c.args.set.now.content in
    let extent = c.in-ExplainJson.extent in
    rw c.in-ExplainJson.is
    (IfOk-weaker c.answer-in-ExplainJson.result _ (IsJudgedFrom (ExplainJson extent) name content)
    (λ answer is. explain_json_from name extent content answer is) c.answer-in-ExplainJson.ensures)
