use Rattle.std.proofs.Common.{◌≡◌, ◌+◌, ◌≤◌}
use Rattle.checked.specs.GoingOn.{GoesOn}
use Rattle.drvhost_devices.specs.declared.manner.Detail.TheVariants.{Every}
use Rattle.answer_views.specs.Told.{ToldAlone}
use Rattle.answer_views.proofs.page.Page.tell_alone.Given as goal

abbrev pub invariant-loop-made : goal.invariant-loop-made
invariant-loop-made l =
    record {
      detail : l.self.detail ≡ l.initial.self.detail;
      few : l.made ≤ l.most;
      numbered : l.self.number ≡ l.initial.self.number + l.made;
      goes : GoesOn l.thread l.initial.machine l.made l.machine;
      told :
          ToldAlone Every l.initial.self.number l.made l.initial.self.text.items
          l.self.text.items;
      same :
          l.made ≡ 0
          → (l.machine ≡ l.initial.machine)
          × (l.self.text.items ≡ l.initial.self.text.items);
    }
