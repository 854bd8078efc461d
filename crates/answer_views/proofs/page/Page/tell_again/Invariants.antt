use Rattle.std.proofs.Common.{◌≡◌, ◌+◌, ◌≤◌}
use Rattle.answer_views.specs.Told.{ToldTimes, has_occurred}
use Rattle.answer_views.proofs.page.Page.tell_again.Given as goal

abbrev pub invariant-loop : goal.invariant-loop
invariant-loop l =
    record {
      detail : l.self.detail ≡ l.initial.self.detail;
      numbered : l.self.number ≡ l.initial.self.number + l.counter;
      few : l.counter ≤ l.count;
      told :
          ToldTimes l.initial.self.detail l.initial.self.number (has_occurred l.happened)
          l.counter l.initial.self.text.items l.self.text.items;
    }
