use Rattle.pafteis_parts.proofs.answers.run_as.Goals as goal

pub returns-in_ok-traced-in-Trace : goal.returns-in_ok-traced-in-Trace
returns-in_ok-traced-in-Trace c = rw c.in-Trace.is c.in_ok-traced-in-Trace.ensures

pub returns-in_ok-answer-in-Tell : goal.returns-in_ok-answer-in-Tell
returns-in_ok-answer-in-Tell c = rw c.in-Tell.is c.in_ok-answer-in-Tell.ensures

pub returns-in_ok-answer-in-Draw : goal.returns-in_ok-answer-in-Draw
returns-in_ok-answer-in-Draw c = rw c.in-Draw.is c.in_ok-answer-in-Draw.ensures
