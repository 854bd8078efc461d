use Rattle.tell_audit.proofs.Holding.{none_lost}
use Rattle.tell_audit.proofs.laws.accepted_runs_lose_no_packet.Goals as goal

pub returns : goal.returns
returns c = none_lost c.packets_have_one_holder.ensures
