use Rattle.std.proofs.Common.{arith}
use Rattle.workers_script.proofs.queueing.queue_all.Goals as goal

pub returns : goal.returns
returns g c =
    let made = c.in_ok-intake.ensures in
    let its = c.fill-closed.ensures in
    record {
      closed = its.closed;
      takers = made.takers;
      some = its.some;
      submitters = its.submitters;
      shares = omega (arith, its.shares, made.shares);
      few = its.few;
      put = its.put;
      tickets = its.tickets;
    }
