use Rattle.drvhost_words.proofs.running.run.Goals as goal

pub returns-in-Trace : goal.returns-in-Trace
returns-in-Trace g c = rw c.in-Trace.is c.trace.ensures

pub returns-in-TraceJson : goal.returns-in-TraceJson
returns-in-TraceJson g c = rw c.in-TraceJson.is c.trace_json.ensures

pub returns-in-Tell : goal.returns-in-Tell
returns-in-Tell g c = rw c.in-Tell.is c.tell_shown.ensures

pub returns-in-TellJson : goal.returns-in-TellJson
returns-in-TellJson g c = rw c.in-TellJson.is c.deliver_run.ensures

pub returns-in-Draw : goal.returns-in-Draw
returns-in-Draw g c = rw c.in-Draw.is c.deliver_run-in-Draw.ensures

pub returns-in-Schedule : goal.returns-in-Schedule
returns-in-Schedule g c = rw c.in-Schedule.is c.schedule.ensures
