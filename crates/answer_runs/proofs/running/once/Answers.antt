use Rattle.answer_runs.proofs.Repeating.{settles}
use Rattle.answer_runs.proofs.running.once.Goals as goal

pub returns-clause-repeats : goal.returns-clause-repeats
returns-clause-repeats c =
    rw c.settled.ensures
    (settles c.args.world.now c.apply-reply.new.self c.args.event.now c.apply-reply.result
    c.apply-reply.ensures.applies c.waiting_changes_nothing.ensures c.args.count c.requires)
