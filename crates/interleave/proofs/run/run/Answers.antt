use Rattle.interleave.proofs.run.run.Goals as goal

pub returns-clause-rules : goal.returns-clause-rules
returns-clause-rules c = c.in-Ok.ensures.rules c.args.events.now

pub returns-clause-rests : goal.returns-clause-rests
returns-clause-rests c = c.in-Ok.ensures.rests c.args.events.now
