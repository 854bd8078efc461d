-- How a ledger goes on.
use Rattle.std.proofs.Common.{◌∙◌, ◌++◌, ◌∷◌, [], ap, subst}
use Rattle.model.specs.declared.event.Event.{Event}
use Rattle.model.specs.declared.event.Reply.{Reply}
use Rattle.model.specs.Machine.{AppliesWhole, Machine}
use Rattle.model.specs.Run.{run}
use Rattle.model.specs.Set.{Set}
use Rattle.model.specs.World.{World}
use Rattle.tell_uses.specs.Acts.{use_step}
use Rattle.tell_uses.specs.Ledger.{LedgerState, TellsOn as LedgerTellsOn}
use Rattle.tell_json.specs.Telling.{LedgerGoesOn}

-- an event that is noted
pub noted_by : (m n : Machine) (e : Event) (reply : Reply) (l k : LedgerState)
    → AppliesWhole m e n reply
    → LedgerTellsOn n.set n.world e (use_step m.set m.world e) reply l k → LedgerGoesOn m e l k
noted_by m n e reply l k ran noted threads events shows tells =
    let on : LedgerTellsOn m.set n.world e (use_step m.set m.world e) reply l k =
    subst (λ (s : Set). LedgerTellsOn s n.world e (use_step m.set m.world e) reply l k) ran.set noted in
    on threads events (ap (λ (w : World). use_step m.set w e) shows.world)
    (ran.replies threads events shows)
    ((ran.shows threads events shows).world
    ∙ ap (λ (s : Set). (run s threads (events ++ e ∷ [])).world) ran.set) tells
