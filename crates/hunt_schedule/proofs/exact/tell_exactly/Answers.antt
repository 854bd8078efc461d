use Rattle.std.proofs.Common.{ℕ, Bool, List, subst}
use Rattle.hunt_exact.specs.Exact.{scope_of}
use Rattle.hunt_facts.specs.declared.requests.Request.{Request}
use Rattle.hunt_facts.specs.Requests.{requests_of}
use Rattle.hunt_schedule.specs.Exact.{TellsExactly}
use Rattle.hunt_schedule.proofs.exact.tell_exactly.Goals as goal

pub returns : goal.returns
returns g c =
    let set = c.args.grounds.set.now in
    let bounds = c.args.grounds.bounds in
    let trying = c.in_ok-trying.trying in
    record {
      asking = c.in_ok-trying.ensures.requests.0;
      tells =
          subst (λ (raised : Bool). TellsExactly (scope_of set bounds.threads bounds.packets
          (requests_of set bounds.argument c.in_ok-trying.ensures.requests.0) raised) bounds
          c.in_ok-told.told) c.in_ok-trying.ensures.raised
          (subst (λ (requests : List Request). TellsExactly (scope_of set bounds.threads
          bounds.packets requests trying.raised) bounds c.in_ok-told.told)
          c.in_ok-trying.ensures.requests.1
          (subst (λ (packets : ℕ). TellsExactly (scope_of set bounds.threads packets
          trying.requests.items trying.raised) bounds c.in_ok-told.told)
          c.in_ok-trying.ensures.packets (c.in_ok-told.ensures c.in_ok-found.ensures)));
    }
