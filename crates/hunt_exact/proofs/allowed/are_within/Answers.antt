use Rattle.hunt_exact.proofs.Allowing.{within_from}
use Rattle.hunt_exact.proofs.allowed.are_within.Goals as goal

pub returns : goal.returns
returns c =
    within_from c.args.set.now c.args.threads c.args.trying.now.packets
    c.args.trying.now.requests.items c.args.trying.now.raised c.args.events.now _ _
    c.in_ok-machine.ensures.set c.in_ok-machine.ensures.shows c.goes_within-within.ensures
