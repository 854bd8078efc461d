use Rattle.std.proofs.Common.{◌≡◌, ◌≤◌, length}
use Rattle.std.specs.Vec.{vec_capacity}
use Rattle.workers_script.proofs.TicketLists.{Submitted}
use Rattle.workers_script.proofs.submitting.submit_all.Given as goal

abbrev pub invariant-loop-command : goal.invariant-loop-command
invariant-loop-command g l =
    record {
      queue : l.submitter.queue ≡ l.fn.submitter.queue;
      share : l.submitter.share ≡ l.fn.submitter.share;
      number : l.submitter.number ≡ 0;
      submitted : Submitted l.commands l.command-index l.submitter.put l.tickets.items;
      room : length l.commands ≤ vec_capacity l.tickets;
    }
