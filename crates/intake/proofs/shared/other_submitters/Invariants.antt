use Rattle.std.proofs.Common.{◌≡◌, ◌≤◌, ◌-◌}
use Rattle.std.specs.Vec.{vec_capacity}
use Rattle.crossbeam_queue.specs.Passes.{IsPassOf}
use Rattle.intake.specs.Ends.{AreOtherSubmitters}
use Rattle.intake.specs.Kept.{known}
use Rattle.intake.specs.Rule.{first_after}
use Rattle.intake.proofs.shared.other_submitters.Given as goal

abbrev pub invariant-loop-number : goal.invariant-loop-number
invariant-loop-number l =
    record {
      pass : IsPassOf l.line l.first;
      first : known l.first ≡ first_after (l.number - 1);
      others : AreOtherSubmitters l.line.table.shared.table_id (l.number - 1) l.submitters.items;
      room : l.count ≤ vec_capacity l.submitters;
    }
