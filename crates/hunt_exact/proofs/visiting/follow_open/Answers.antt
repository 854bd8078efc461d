use Rattle.hunt_exact.proofs.Coming.{followed_back, followed_found, followed_kept}
use Rattle.hunt_exact.proofs.visiting.follow_open.Goals as goal

pub returns-in-Stays : goal.returns-in-Stays
returns-in-Stays c =
    followed_back _ _ _ _ _ _ _ c.in_ok-outcome.ensures c.in-Stays.is c.requires

pub returns-in_ok-fresh-in-Goes : goal.returns-in_ok-fresh-in-Goes
returns-in_ok-fresh-in-Goes c =
    followed_kept _ _ _ _ _ _ _ _ _ c.in_ok-outcome.ensures c.in-Goes.is c.requires
    c.in_ok-keep-in-Goes.ensures c.in_ok-fresh-in-Goes.ensures.set
    c.in_ok-fresh-in-Goes.ensures.shows

pub returns-in-Ends : goal.returns-in-Ends
returns-in-Ends c = followed_found _ _ _ _ c.args.machine.now _ c.requires
