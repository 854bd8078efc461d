use Rattle.workers.proofs.turns.idle_turn.Goals as goal

pub returns-in-Some-clause-turned : goal.returns-in-Some-clause-turned
returns-in-Some-clause-turned g c = c.go.ensures.turned c.args.taker.now

pub returns-in-Command-clause-turned : goal.returns-in-Command-clause-turned
returns-in-Command-clause-turned g c =
    rw c.in-Command.ensures.found (c.perform.ensures.turned c.args.taker.now)
