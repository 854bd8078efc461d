use Rattle.std.proofs.Common.{IfSome, List, Option, ℕ, subst}
use Rattle.std.specs.Global.{Vec}
use Rattle.hunt_exact.specs.Exact.{scope_of}
use Rattle.hunt_exact.specs.Within.{AreWithin}
use Rattle.interleave.specs.Listing.{Lists}
use Rattle.interleave.specs.declared.schedule.Schedule.{Schedule}
use Rattle.hunt_schedule.specs.Telling.{TellsItsEnd}
use Rattle.hunt_schedule.proofs.Shortest.{tells_within}
use Rattle.hunt_schedule.proofs.exact.text_within.Goals as goal

pub returns-then-within : goal.returns-then-within
returns-then-within c =
    let set = c.args.grounds.set.now in
    let bounds = c.args.grounds.bounds in
    tells_within (scope_of set bounds.threads c.args.trying.now.packets
    c.args.trying.now.requests.items c.args.trying.now.raised) bounds c.in-Some.text.items
    (subst (λ (found : Option (Vec ℕ)). IfSome found (λ text. TellsItsEnd set bounds text.items))
    c.in-Some.is c.in_ok-text.ensures)
    (subst (λ (bytes : List ℕ). (schedule : Schedule) × Lists bytes schedule
    × AreWithin (scope_of set bounds.threads c.args.trying.now.packets
    c.args.trying.now.requests.items c.args.trying.now.raised) schedule.events)
    c.as_slice.ensures.value (c.in_ok-within.ensures c.if-within.true))
