use Rattle.std.proofs.Common.{List, Option, Some, rules, subst}
use Rattle.tell_audit.specs.declared.ending.Ending.{Ending}
use Rattle.tell_audit.specs.Ends.{EndsSo}
use Rattle.hunt_facts.specs.declared.bounds.Bounds.{Bounds}
use Rattle.hunt_search.specs.declared.search.Find.{Find}
use Rattle.hunt_search.specs.Hunts.{IsFind, IsWanted}
use Rattle.model.specs.declared.event.Event.{Event}
use Rattle.hunt_search.proofs.search.find_of.Goals as goal

pub returns : goal.returns
returns c =
    let bounds : Bounds = c.bounds-bounds.result in
    let find : Find =
    record { before = c.args.before; last = c.args.last; ending = c.in-Some.ending } in
    let ends : EndsSo c.args.set.now bounds.threads c.as_slice.result.now find.last
    (Some find.ending) =
    subst (λ (ending : Option Ending).
    EndsSo c.args.set.now bounds.threads c.as_slice.result.now find.last ending) c.in-Some.is
    c.in_ok-ending.ensures in
    let wanted : IsWanted bounds.goal find.ending = c.is_wanted.ensures (search rules) in
    subst (λ (b : Bounds). IsFind c.args.set.now b find) c.bounds-bounds.ensures.bounds
    (record {
      ends =
          subst (λ (before : List Event).
          EndsSo c.args.set.now bounds.threads before find.last (Some find.ending))
          c.as_slice.ensures.value ends;
      wanted = wanted;
    })
