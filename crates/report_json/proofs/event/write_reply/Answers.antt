use Rattle.report_json.proofs.event.write_reply.Goals as goal

pub returns-in-Topped-clause-tokens : goal.returns-in-Topped-clause-tokens
returns-in-Topped-clause-tokens c = rw c.in-Topped.is c.write_topped.ensures.tokens
