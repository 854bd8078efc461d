use Rattle.std.proofs.Common.{◌≡◌, ◌≤◌, length, map, vec_len}
use Rattle.std.specs.List.{range_with_len}
use Rattle.workers_script.specs.Served.{command_name}
use Rattle.workers_script.proofs.ToldLists.{Told}
use Rattle.workers_script.proofs.collecting.tell_all.Given as goal

abbrev pub invariant-loop-ticket : goal.invariant-loop-ticket
invariant-loop-ticket l =
    record {
      tickets : l.tickets.items ≡ map command_name (range_with_len 0 (length l.tickets.items));
      fewer : length l.tickets.items ≤ length l.fn.tickets.items;
      tells :
          Told l.core.history (length l.fn.tickets.items) (length l.tickets.items)
          l.fn.told.items l.told.items;
    }

abbrev pub decreases-loop-ticket : goal.decreases-loop-ticket
decreases-loop-ticket l = vec_len l.tickets
