use Rattle.std.proofs.Common.{Err, Ok, refl}
use Rattle.drvhost_many.specs.All.{width_of}
use Rattle.drvhost_many.proofs.Ending.{ends_with}
use Rattle.drvhost_many.proofs.many.answer_each.Goals as goal

pub returns-in-Ok-clause-answers : goal.returns-in-Ok-clause-answers
returns-in-Ok-clause-answers g c =
    ends_with c.args.sets.judging (width_of c.args.sets.jobs)
    (g.F.Files.supply c.args.files.now) c.args.sets.names.now _ _ _ _ _ _ _ _ _ (Ok c.in-Ok.status) c.in-Ok.status
    c.in-Ok.ensures.answers refl

pub returns-in-Err-clause-answers : goal.returns-in-Err-clause-answers
returns-in-Err-clause-answers g c =
    ends_with c.args.sets.judging (width_of c.args.sets.jobs)
    (g.F.Files.supply c.args.files.now) c.args.sets.names.now _ _ _ _ _ _ _ _ _ (Err c.in-Err.halt) c.status.result
    c.in-Err.ensures.answers c.status.ensures
