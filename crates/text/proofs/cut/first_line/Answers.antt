use Rattle.text.proofs.Cuts.{line_found}
use Rattle.text.proofs.cut.first_line.Goals as goal

pub returns-in-Some : goal.returns-in-Some
returns-in-Some c =
    line_found c.args.text.now c.in-Some.i c.in-Some.ensures.0 c.in-Some.ensures.1
