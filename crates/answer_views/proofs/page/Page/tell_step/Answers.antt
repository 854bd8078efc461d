use Rattle.checked.specs.GoingOn.{none}
use Rattle.answer_views.proofs.page.Page.tell_step.Goals as goal

pub returns-in_default-clause-goes : goal.returns-in_default-clause-goes
returns-in_default-clause-goes c = none

pub returns-clause-told : goal.returns-clause-told
returns-clause-told c some = rw c.begin_line-head.ensures at c.in_ok-end_line.ensures.told
