use Rattle.report.proofs.lines.Lines.reply.Goals as goal

pub returns-in-Topped-clause-line : goal.returns-in-Topped-clause-line
returns-in-Topped-clause-line c = rw c.in-Topped.is c.topped.ensures
