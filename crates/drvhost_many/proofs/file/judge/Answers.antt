use Rattle.std.proofs.Common.{arith}
use Rattle.drvhost_many.specs.One.{IsJudged}
use Rattle.drvhost_many.proofs.Judged.{answers_rightly}
use Rattle.drvhost_many.proofs.Verdicts.{judged_of}
use Rattle.drvhost_many.proofs.file.judge.Goals as goal

pub returns : goal.returns
returns g c =
    let supply = g.S.Source.supply c.args.set.now in
    let name = c.args.name.now in
    let judging = c.args.judging in
    answers_rightly _ (IsJudged judging name supply) _ _ _ _ _ _ _ _ _ _ c.deliver.ensures
    (λ answer right. judged_of judging name supply answer right) (omega arith)
