use Rattle.drvhost_tests.proofs.set.tell_unplayed.Goals as goal

pub returns : goal.returns
returns c = rw c.in_ok-told.ensures at c.alone.ensures
