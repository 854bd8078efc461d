use Rattle.answer_scenarios.specs.Scenarios.{IsPlayedOf, right_of}
use Rattle.answer_scenarios.proofs.Told.{tells_accepted, tells_refused}
use Rattle.answer_scenarios.proofs.telling.tell_verified.Goals as goal

pub returns-in-Ok-clause-tells : goal.returns-in-Ok-clause-tells
returns-in-Ok-clause-tells g c =
    tells_accepted (IsPlayedOf (right_of c.args.asked) c.args.bytes.now
    (g.P.Source.supply c.args.scenario.now)) c.args.set c.in-Ok.accepted c.tell_set.result
    c.in-Ok.ensures.accepted.0 c.in-Ok.ensures.accepted.1
    (rw (← c.set.ensures.same) c.tell_set.ensures.tells)

pub returns-in-Err-clause-tells : goal.returns-in-Err-clause-tells
returns-in-Err-clause-tells g c =
    tells_refused (IsPlayedOf (right_of c.args.asked) c.args.bytes.now
    (g.P.Source.supply c.args.scenario.now)) c.args.set c.in-Err.refusal c.tell_refusal.result
    c.in-Err.ensures.refused.1 c.tell_refusal.ensures.refused c.tell_refusal.ensures.memory
