use Rattle.std.proofs.Common.{◌-◌}
use Rattle.pafteis_world.specs.Batch.{AppliesFirst}
use Rattle.pafteis_world.proofs.batch.apply_first.Given as goal

abbrev pub invariant-loop-count : goal.invariant-loop-count
invariant-loop-count l =
    record {
      applies : AppliesFirst l.events l.fn.world l.fn.replies l.replies l.count l.world;
    }

abbrev pub decreases-loop-count : goal.decreases-loop-count
decreases-loop-count l = l.room - l.count
