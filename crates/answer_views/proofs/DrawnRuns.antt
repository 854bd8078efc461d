-- What is drawn of a run that was observed.
use Rattle.std.proofs.Common.{◌∙◌, ℕ, List, ap, sym}
use Rattle.std.specs.List.{list_any}
use Rattle.model.specs.declared.event.Event.{Event}
use Rattle.model.specs.Set.{Set}
use Rattle.drvhost_devices.specs.declared.fault.End.{End}
use Rattle.drvhost_devices.specs.Answer.{ended, is_last}
use Rattle.answer_views.specs.Told.{IsRunDrawn}
use Rattle.answer_runs.specs.Watching.{RunsTo, end_by}
use Rattle.answer_runs.proofs.Observing.{shown_past}

pub run_drawn : (set : Set) (threads : ℕ) (events past : List Event) (end : End)
    (picture : List ℕ) → RunsTo set threads events past end
    → IsRunDrawn set threads events (ended end picture)
run_drawn set threads events past end picture runs =
    record {
      picture = picture;
      is = ap (λ e. ended e picture) (runs.ends
          ∙ ap (λ rs. end_by (list_any is_last rs))
          (sym (shown_past set threads events past end runs)));
    }
