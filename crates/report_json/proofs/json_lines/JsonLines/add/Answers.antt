use Rattle.std.proofs.Common.{rules, ◌++◌, ◌∙◌, ap}
use Rattle.json.specs.Tree.{json_tokens}
use Rattle.report_json.proofs.ReadBack.{reads_back}
use Rattle.report_json.proofs.Steps.{anyway}
use Rattle.report_json.proofs.json_lines.JsonLines.add.Goals.{in-Ok, in-Err}
use Rattle.report_json.proofs.json_lines.JsonLines.add.Goals as goal

pub returns-else-is_err-clause-reads_back : goal.returns-else-is_err-clause-reads_back
returns-else-is_err-clause-reads_back g c =
    let value = g.T.ToJson.json c.args.value.now in
    elim c.match-written.branch [
      | in-Ok w ↦
          let now = rw w.in-Ok.is at c.write-written.ensures.tokens in
          let wrote = now ∙ ap (λ ts. ts ++ json_tokens value) c.new-out.ensures.tokens in
          let same = rw wrote at c.into_inner.ensures.reads_back in
          anyway _ (reads_back value (g.met.T.ToJson.nests c.args.value.now) same)
      | in-Err w ↦ rw w.added-is (search rules)
    ]
