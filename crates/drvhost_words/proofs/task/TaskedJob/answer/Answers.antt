use Rattle.drvhost_words.proofs.task.TaskedJob.answer.Goals as goal

pub returns-in-Mend : goal.returns-in-Mend
returns-in-Mend g c = rw c.in-Mend.is c.mend.ensures

pub returns-in-List : goal.returns-in-List
returns-in-List g c = rw c.in-List.is c.list.ensures

pub returns-in-Hunt : goal.returns-in-Hunt
returns-in-Hunt g c = rw c.in-Hunt.is c.hunt.ensures

pub returns-in-HuntExactly : goal.returns-in-HuntExactly
returns-in-HuntExactly g c = rw c.in-HuntExactly.is c.hunt-in-HuntExactly.ensures

pub returns-in-Find : goal.returns-in-Find
returns-in-Find g c = rw c.in-Find.is c.find.ensures

pub returns-in-FindExactly : goal.returns-in-FindExactly
returns-in-FindExactly g c = rw c.in-FindExactly.is c.find-in-FindExactly.ensures

pub returns-in-Stats : goal.returns-in-Stats
returns-in-Stats g c = rw c.in-Stats.is c.stats.ensures
