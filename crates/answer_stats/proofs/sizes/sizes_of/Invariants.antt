use Rattle.std.proofs.Common.{◌≡◌, ◌+◌, ◌*◌, ◌≤◌, drop}
use Rattle.answer_stats.specs.Sizes.{all_instructions, all_locks, all_routines}
use Rattle.answer_stats.proofs.sizes.sizes_of.Given as goal

abbrev pub invariant-loop-driver : goal.invariant-loop-driver
invariant-loop-driver l =
    record {
      routines : l.routines + all_routines (drop l.driver-index l.drivers) ≡ all_routines l.drivers;
      instructions :
          l.instructions + all_instructions (drop l.driver-index l.drivers)
          ≡ all_instructions l.drivers;
      locks : l.locks + all_locks (drop l.driver-index l.drivers) ≡ all_locks l.drivers;
      few_routines : l.routines ≤ 32 * l.driver-index;
      few_instructions : l.instructions ≤ 32768 * l.driver-index;
      few_locks : l.locks ≤ 9 * l.driver-index;
    }
