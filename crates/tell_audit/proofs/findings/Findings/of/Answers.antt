use Rattle.tell_audit.proofs.Found.{none_left, none_lost}
use Rattle.tell_audit.proofs.Ringing.{none_ringed}
use Rattle.tell_audit.proofs.findings.Findings.of.Goals as goal

pub returns : goal.returns
returns c =
    record {
      lost = c.in_ok-lost.ensures;
      left = c.in_ok-left.ensures;
      ringed = c.in_ok-ringed.ensures;
      missed = c.in_ok-missed.ensures;
      disagreeing = c.in_ok-disagreeing.ensures.told;
      none_lost = none_lost c.accepted_runs_lose_no_packet.ensures c.args.machine.now.set
          c.args.machine.now.world _ c.in_ok-lost.ensures;
      none_left = none_left c.accepted_runs_leave_no_lock.ensures c.args.machine.now.set
          c.args.machine.now.world _ c.in_ok-left.ensures;
      none_ringed = none_ringed c.accepted_runs_have_no_ring.ensures c.args.machine.now.set
          c.args.machine.now.world _ c.in_ok-ringed.ensures;
      none_disagree = c.in_ok-disagreeing.ensures.accepted;
    }
