use Rattle.hunt_exact.proofs.search.hunt_from.Goals as goal

pub returns : goal.returns
returns g c = λ counted. c.in_ok-answer.ensures (c.in_ok-ended.ensures counted)
