use Rattle.answer_views.proofs.ToldAlone.{goes_nowhere, told_quiet}
use Rattle.answer_views.proofs.page.Page.go_ahead.Goals as goal

pub returns-in-Quiet-clause-goes : goal.returns-in-Quiet-clause-goes
returns-in-Quiet-clause-goes c = goes_nowhere _ _

pub returns-in-Quiet-2-clause-told : goal.returns-in-Quiet-2-clause-told
returns-in-Quiet-2-clause-told c some =
    rw c.in-Quiet-2.is
    (told_quiet c.args.self.now.number c.go_on-made.result c.args.self.now.text.items)

pub returns-in-Usual-clause-goes : goal.returns-in-Usual-clause-goes
returns-in-Usual-clause-goes c = goes_nowhere _ _
