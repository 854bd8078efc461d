use Rattle.std.proofs.Common.{◌++◌}
use Rattle.answer_views.proofs.page.Page.end_line.Goals as goal

pub returns-clause-told : goal.returns-clause-told
returns-clause-told c =
    (c.front.result.now ++ c.words.result.now, rw c.bytes.ensures at c.in_ok-add_headed.ensures)
