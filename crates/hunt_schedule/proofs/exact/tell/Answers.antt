use Rattle.std.proofs.Common.{subst}
use Rattle.hunt_exact.specs.declared.search.Exactly.{Exactly}
use Rattle.hunt_exact.specs.Exact.{IsExact, scope_of}
use Rattle.hunt_schedule.specs.Exact.{limits_of}
use Rattle.hunt_schedule.proofs.Shortest.{tells_more, tells_never, tells_shortest}
use Rattle.hunt_schedule.proofs.exact.tell.Goals as goal

pub returns-in_ok-told-in-Found : goal.returns-in_ok-told-in-Found
returns-in_ok-told-in-Found c =
    λ exact.
    let scope = scope_of c.args.grounds.set.now c.args.grounds.bounds.threads
    c.args.trying.now.packets c.args.trying.now.requests.items c.args.trying.now.raised in
    tells_shortest scope c.args.grounds.bounds c.in-Found.find c.in_ok-told-in-Found.told
    (subst (λ (found : Exactly). IsExact scope (limits_of c.args.grounds.bounds) found)
    c.in-Found.is exact)
    c.in_ok-told-in-Found.ensures

pub returns-in_ok-line-in-Never : goal.returns-in_ok-line-in-Never
returns-in_ok-line-in-Never c =
    λ exact.
    tells_never (scope_of c.args.grounds.set.now c.args.grounds.bounds.threads
    c.args.trying.now.packets c.args.trying.now.requests.items c.args.trying.now.raised)
    c.args.grounds.bounds c.args.found c.in-Never.worlds c.in_ok-refused.refused
    c.in_ok-line-in-Never.line c.in-Never.is c.in_ok-refused.ensures
    c.in_ok-line-in-Never.ensures exact

pub returns-in_ok-line-in-More : goal.returns-in_ok-line-in-More
returns-in_ok-line-in-More c =
    λ exact.
    tells_more (scope_of c.args.grounds.set.now c.args.grounds.bounds.threads
    c.args.trying.now.packets c.args.trying.now.requests.items c.args.trying.now.raised)
    c.args.grounds.bounds c.args.found c.in-More.worlds c.in-More.events
    c.in_ok-refused.refused c.in_ok-line-in-More.line c.in-More.is c.in_ok-refused.ensures
    c.in_ok-line-in-More.ensures exact
