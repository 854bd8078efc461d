use Rattle.std.proofs.Common.{[], refl}
use Rattle.drvhost_words.proofs.Answering.{answers_telling}
use Rattle.drvhost_words.proofs.serving.serve.Goals as goal

pub returns-in-Lines-clause-answers : goal.returns-in-Lines-clause-answers
returns-in-Lines-clause-answers g c =
    rw c.in-Lines.is (rw c.count.ensures.count at c.host.ensures.answers)

pub returns-in-Json-clause-answers : goal.returns-in-Json-clause-answers
returns-in-Json-clause-answers g c =
    rw c.in-Json.is
    (answers_telling _ _ _ _ _ _ _ _ _ _
    (rw c.count.ensures.count at c.host_json.ensures.answers)
    (λ told says. ([], refl, says)))
