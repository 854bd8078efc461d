-- A run that has ended, by the machine that stands at its end.
use Rattle.std.proofs.Common.{◌≡◌, ◌∙◌, ℕ, List, [], ◌∷◌, ◌++◌, Option, ap, subst}
use Rattle.tell_audit.specs.declared.amiss.Amiss.{Amiss}
use Rattle.tell_audit.specs.declared.ending.Ending.{Ending}
use Rattle.tell_audit.specs.Ends.{EndsAs, EndsSo, Rehearsed, Rehearses, amiss_after}
use Rattle.model.specs.declared.event.Event.{Event}
use Rattle.model.specs.Run.{run}
use Rattle.model.specs.Set.{Set}
use Rattle.model.specs.World.{World}

-- the world of its machine is that of the run
rehearsed_world : (set : Set) (threads : ℕ) (events : List Event) (r : Rehearsed)
    → Rehearses set threads events r → r.machine.world ≡ (run set threads events).world
rehearsed_world set threads events r h =
    h.shows.world ∙ ap (λ (s : Set). (run s threads events).world) h.over

pub ends_so_there : (set : Set) (threads : ℕ) (before : List Event) (last : Event) (r : Rehearsed)
    (amiss : Option Amiss) (ending : Option Ending)
    → Rehearses set threads (before ++ last ∷ []) r
    → amiss ≡ amiss_after set threads before last → EndsAs amiss r.machine.world ending
    → EndsSo set threads before last ending
ends_so_there set threads before last r amiss ending h is ends =
    subst (λ (w : World). EndsAs (amiss_after set threads before last) w ending)
    (rehearsed_world set threads (before ++ last ∷ []) r h)
    (subst (λ (found : Option Amiss). EndsAs found r.machine.world ending) is ends)
