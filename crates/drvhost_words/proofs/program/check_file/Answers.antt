use Rattle.std.proofs.Common.{arith}
use Rattle.drvhost_devices.specs.Ends.{IsCheckOf}
use Rattle.drvhost_many.proofs.Judged.{answers_rightly}
use Rattle.drvhost_words.proofs.Answering.{check_known}
use Rattle.drvhost_words.proofs.program.check_file.Goals as goal

pub returns-clause-answers : goal.returns-clause-answers
returns-clause-answers g c =
    let supply = g.F.File.Source.supply c.open-file.result in
    let known = g.F.Files.supply c.args.files.now c.args.set.now in
    answers_rightly (IsCheckOf supply) (IsCheckOf known) _ _ _ _ _ _ _ _ _ _
    c.judge-status.ensures (check_known known supply c.open-file.ensures.supply) (omega arith)
