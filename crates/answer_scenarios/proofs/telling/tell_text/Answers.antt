use Rattle.answer_scenarios.specs.Scenarios.{listed, right_of}
use Rattle.answer_scenarios.proofs.Told.{tells_fault, tells_played}
use Rattle.answer_scenarios.proofs.telling.tell_text.Goals as goal

pub returns-in-Ok-clause-tells : goal.returns-in-Ok-clause-tells
returns-in-Ok-clause-tells c =
    tells_played (right_of c.args.asked) c.args.bytes.now c.args.text.now c.args.set.now
    (listed c.in-Ok.scenario) c.tell_played.result
    (rw (← c.in_ok-names.ensures) c.in-Ok.ensures.listed) c.tell_played.ensures.tells
    c.tell_played.ensures.memory

pub returns-clause-tells : goal.returns-clause-tells
returns-clause-tells c =
    rw c.of_schedule.ensures
    (tells_fault (right_of c.args.asked) c.args.bytes.now c.args.text.now c.args.set.now c.in-Err.fault
    (rw (← c.in_ok-names.ensures) c.in-Err.ensures.listed))
