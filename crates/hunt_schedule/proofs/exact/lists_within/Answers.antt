use Rattle.std.proofs.Common.{◌∙◌, IfSome, List, Option, subst, sym}
use Rattle.hunt_exact.specs.Exact.{scope_of}
use Rattle.hunt_exact.specs.Within.{AreWithin}
use Rattle.hunt_schedule.specs.declared.reading.Listed.{Listed}
use Rattle.hunt_schedule.specs.Telling.{IsListed}
use Rattle.model.specs.declared.event.Event.{Event}
use Rattle.hunt_schedule.proofs.exact.lists_within.Goals as goal

pub returns-in_ok-within-in-Some : goal.returns-in_ok-within-in-Some
returns-in_ok-within-in-Some c =
    λ so.
    let its : IsListed c.args.text.now c.in-Some.listed =
    subst (λ (found : Option Listed). IfSome found (IsListed c.args.text.now)) c.in-Some.is
    c.in_ok-listed.ensures in (
      its.schedule,
      its.lists,
      subst (λ (events : List Event). AreWithin (scope_of c.args.set.now c.args.threads
          c.args.trying.now.packets c.args.trying.now.requests.items c.args.trying.now.raised)
          events) (c.as_slice-run.ensures.value ∙ sym its.events)
          (c.in_ok-within-in-Some.ensures so),
    )
