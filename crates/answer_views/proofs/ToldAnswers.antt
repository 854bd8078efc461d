-- What is answered of a run that was told.
use Rattle.std.proofs.Common.{◌≡◌, ◌∙◌, ℕ, Bool, true, false, ◌||◌, List, ◌++◌, refl, sym, ap, subst, if◌then◌else◌}
use Rattle.std.specs.List.{list_any}
use Rattle.std.specs.Prelude.{codes}
use Rattle.drvhost_devices.specs.declared.fault.End.{End}
use Rattle.drvhost_devices.specs.declared.fault.End.TheVariants.{Complete, Stopped}
use Rattle.drvhost_devices.specs.Answer.{ended, is_last}
use Rattle.drvhost_devices.specs.declared.manner.Detail.{Detail}
use Rattle.drvhost_devices.specs.declared.manner.Manner.{Manner}
use Rattle.drvhost_devices.specs.declared.manner.Strictness.{Strictness}
use Rattle.answer_views.specs.declared.telling.Telling.{Telling}
use Rattle.drvhost_devices.specs.Strict.{fails_strictly}
use Rattle.answer_views.specs.Told.{IsRunTold, IsTelling, IsTold, occurrences, occurrences_by, past_by, replies_by, told_end, world_by}
use Rattle.answer_runs.specs.Watching.{RunsTo, end_by}
use Rattle.answer_runs.proofs.Observing.{shown_past}
use Rattle.model.specs.declared.event.Event.{Event}
use Rattle.model.specs.declared.event.Reply.{Reply}
use Rattle.model.specs.History.{replies}
use Rattle.model.specs.Machine.{Machine, ShowsWhole}
use Rattle.model.specs.Run.{begun, run}
use Rattle.model.specs.Set.{Set}
use Rattle.model.specs.World.{World}
use Rattle.tell_audit.specs.declared.findings.Findings.{Findings}
use Rattle.tell_audit.specs.Findings.{AreFindings, any_of, has_findings}
use Rattle.tell_json.specs.Telling.{is_refused}
use Rattle.tell_uses.specs.Ledger.{LedgerState, Tells as TellsRun}

-- how a run ends of which this is so
end_of_run : (last strictly amiss : Bool) → (if strictly || amiss then Stopped else end_by last)
    ≡ (if (last || strictly) || amiss then Stopped else Complete)
end_of_run false strictly amiss = refl
end_of_run true strictly amiss = stopped (strictly || amiss)
  where
    stopped : (b : Bool) → (if b then Stopped else Stopped) ≡ Stopped
    stopped true = refl
    stopped false = refl

-- what was found of a machine is what there is of the run that it shows
pub found_in : (set : Set) (threads : ℕ) (past : List Event) (m : Machine) (l : LedgerState)
    (found : Findings) → (m.set ≡ set) × ShowsWhole m threads past
    → AreFindings m.set m.world l found → AreFindings set (run set threads past).world l found
found_in set threads past m l found (same, shows) are =
    let world : m.world ≡ (run set threads past).world =
    shows.world ∙ ap (λ (s : Set). (run s threads past).world) same in
    subst (λ (w : World). AreFindings set w l found) world
    (subst (λ (s : Set). AreFindings s m.world l found) same are)

-- a run up to its end, of which is known whether an event was refused, and what was found
module _ (strictness : Strictness) (set : Set) (threads : ℕ) (events past : List Event) (end : End)
    (runs : RunsTo set threads events past end) where
  pub replies_said : replies set threads past ≡ replies_by set threads events
  replies_said = sym (shown_past set threads events past end runs)

  pub end_told : (refused amiss : Bool) (l : LedgerState) (found : Findings)
      → refused ≡ list_any is_refused (replies set threads past)
      → TellsRun (run set threads past) l
      → AreFindings set (run set threads past).world l found
      → amiss ≡ any_of found.lost.items found.left.items found.ringed.items found.disagreeing.items
      → (if fails_strictly strictness refused || amiss then Stopped else end)
      ≡ told_end strictness set threads events
  end_told refused amiss l found refuses tells are any =
      let said = replies_by set threads events in
      let strictly = fails_strictly strictness refused in
      let strict : strictly ≡ fails_strictly strictness (list_any is_refused said) =
      ap (λ (b : Bool). fails_strictly strictness b)
      (refuses ∙ ap (λ (rs : List Reply). list_any is_refused rs) replies_said) in
      let all : any_of found.lost.items found.left.items found.ringed.items found.disagreeing.items
      ≡ has_findings set (run set threads past).world (run set threads past).past =
      rw (are.lost, are.left, are.ringed, are.disagreeing set threads past tells) refl in
      let findings : amiss
      ≡ has_findings set (world_by set threads events) (past_by set threads events) =
      any ∙ all
      ∙ ap (λ (es : List Event).
      has_findings set (run set threads es).world (run set threads es).past) (sym runs.all) in
      ap (λ (e : End). if strictly || amiss then Stopped else e) runs.ends
      ∙ end_of_run (list_any is_last (replies set threads past)) strictly amiss
      ∙ ap (λ (rs : List Reply). if (list_any is_last rs || strictly) || amiss
      then Stopped else Complete) replies_said
      ∙ ap (λ (b : Bool). if (list_any is_last said || b) || amiss then Stopped else Complete)
      strict
      ∙ ap (λ (b : Bool). if (list_any is_last said
      || fails_strictly strictness (list_any is_refused said)) || b then Stopped else Complete)
      findings

-- the events of a run are told, and the audit behind them
pub run_told : (manner : Manner) (set : Set) (threads : ℕ) (events past : List Event) (m : Machine)
    (end : End) (start now : Telling) (amiss : Bool) (words : List ℕ) (found : Findings)
    → RunsTo set threads events past end → (m.set ≡ set) × ShowsWhole m threads past
    → IsTelling start now set threads past → start.page.detail ≡ manner.detail
    → AreFindings m.set m.world now.sight.ledger found
    → amiss ≡ any_of found.lost.items found.left.items found.ringed.items found.disagreeing.items
    → IsRunTold manner set threads events
    (ended (if fails_strictly manner.strictness now.refused || amiss then Stopped else end)
    (now.page.text.items ++ (codes "\naudit\n" ++ words)))
run_told manner set threads events past m end start now amiss words found runs shown told detail are
    any =
    let text = now.page.text.items ++ (codes "\naudit\n" ++ words) in
    record {
      lines = now.page.text.items;
      words = words;
      told =
          subst (λ (d : Detail). IsTold d 0 (occurrences_by set threads events) now.page.text.items)
          (told.detail ∙ detail)
          (subst (λ (es : List Event). IsTold now.page.detail 0
          (occurrences set (begun set threads) es) now.page.text.items) (sym runs.all) told.told);
      is = ap (λ (e : End). ended e text)
          (end_told manner.strictness set threads events past end runs now.refused amiss
          now.sight.ledger found told.refused told.tells
          (found_in set threads past m now.sight.ledger found shown are) any);
    }
