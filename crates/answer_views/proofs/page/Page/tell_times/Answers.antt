use Rattle.answer_views.specs.Told.{has_occurred}
use Rattle.answer_views.proofs.ToldLines.{times_more}
use Rattle.answer_views.proofs.page.Page.tell_times.Goals as goal

pub returns-clause-told : goal.returns-clause-told
returns-clause-told c =
    times_more c.args.self.now.detail _ c.args.self.now.number _ (has_occurred c.args.happened.now)
    c.args.count c.args.self.now.text.items _ _ c.requires.some c.in_ok-tell_seen.ensures.told
    c.in_ok-tell_seen.ensures.detail c.in_ok-tell_seen.ensures.number
    c.in_ok-tell_again.ensures.told
