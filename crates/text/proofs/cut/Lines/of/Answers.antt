use Rattle.text.proofs.Cuts.{lines_few}
use Rattle.text.proofs.cut.Lines.of.Goals as goal

pub returns-clause-few : goal.returns-clause-few
returns-clause-few c = lines_few c.args.text.now
