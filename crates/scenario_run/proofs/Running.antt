-- Runs of a machine with the ledger that may be kept of them.
use Rattle.std.proofs.Common.{◌≡◌, ◌∙◌, ◌++◌, ◌∷◌, [], ℕ, Bool, true, IfOk, List, None, Option, Result, Ok, Err, Some, ap, length, nat_eq, refl, replicate, subst, sym}
use Rattle.std.specs.Prelude.{◌&&◌, IfSome, is_none, not}
use Rattle.std.proofs.Math.Dec.{eqb-suc-zero}
use Rattle.checked.specs.GoingOn.{GoesOn}
use Rattle.tell_audit.specs.Ends.{amiss_in, first_of}
use Rattle.tell_audit.proofs.Rehearsing.{finds_first, goes_on}
use Rattle.model.specs.declared.event.Event.{Event}
use Rattle.model.specs.declared.event.Event.TheVariants.{Step}
use Rattle.model.specs.declared.event.Reply.{Reply}
use Rattle.model.specs.Machine.{AppliesWhole, ShowsWhole}
use Rattle.model.specs.Run.{Run, run}
use Rattle.model.specs.Set.{Set}
use Rattle.model.specs.Trace.{Serving}
use Rattle.scenario_run.specs.declared.runner.Keeping.{Keeping}
use Rattle.scenario_run.specs.declared.runner.Keeping.TheVariants.{Nothing, Ledger}
use Rattle.scenario_run.specs.declared.runner.Runner.{Runner}
use Rattle.scenario_run.specs.Running.{IsFine, Runs, RunsOn, TellsIf}
use Rattle.scenario_run.proofs.Going.{Shown, shown_along}
use Rattle.tell_audit.specs.declared.findings.Findings.{Findings}
use Rattle.tell_audit.specs.declared.left.LeftLock.{LeftLock}
use Rattle.tell_audit.specs.Findings.{AreFindings, any_of}
use Rattle.tell_uses.specs.Acts.{use_step}
use Rattle.tell_uses.specs.Ledger.{LedgerState, Tells, TellsOn}
use Rattle.tell_uses.proofs.GoingOn.{tells_along}

-- what tells a run does so whether it is kept or not
tells_if : (k : Keeping) (r : Run) (l : LedgerState) → Tells r l → TellsIf k r l
tells_if Nothing r l h = tt
tells_if Ledger r l h = h

-- an event, where no ledger is kept behind it
pub runs_plain : (r n : Runner) (e : Event) (reply : Reply) → n.keeping ≡ Nothing
    → AppliesWhole r.machine e n.machine reply → RunsOn r e n reply
runs_plain r n e reply none on =
    record {
      set = on.set;
      runs = λ threads events h.
          record {
            shows = on.shows threads events h.shows;
            tells =
                subst (λ (k : Keeping).
                TellsIf k (run n.machine.set threads (events ++ e ∷ [])) n.ledger) (sym none) tt;
          };
      replies = λ threads events h. on.replies threads events h.shows;
    }

-- and where one is kept before it, in which it is noted
pub runs_noted : (r n : Runner) (e : Event) (reply : Reply) → r.keeping ≡ Ledger
    → AppliesWhole r.machine e n.machine reply
    → TellsOn n.machine.set n.machine.world e (use_step r.machine.set r.machine.world e) reply
    r.ledger n.ledger → RunsOn r e n reply
runs_noted r n e reply kept on noted =
    record {
      set = on.set;
      runs = λ threads events h.
          let told : Tells (run r.machine.set threads events) r.ledger =
          subst (λ (k : Keeping). TellsIf k (run r.machine.set threads events) r.ledger) kept
          h.tells in
          let more : Tells (run r.machine.set threads (events ++ e ∷ [])) n.ledger =
          ((goes_on r.machine n.machine e reply r.ledger n.ledger on noted).shows r.machine.set
          threads events (record { over = refl; shows = h.shows; tells = told })).tells in
          record {
            shows = on.shows threads events h.shows;
            tells =
                tells_if n.keeping (run n.machine.set threads (events ++ e ∷ [])) n.ledger
                (subst (λ (s : Set). Tells (run s threads (events ++ e ∷ [])) n.ledger)
                (sym on.set) more);
          };
      replies = λ threads events h. on.replies threads events h.shows;
    }

-- steps that a thread makes by itself
tells_gone : (k : Keeping) (r n : Runner) (t made threads : ℕ) (events : List Event)
    → GoesOn t r.machine made n.machine → ShowsWhole r.machine threads events
    → n.ledger ≡ r.ledger → TellsIf k (run r.machine.set threads events) r.ledger
    → TellsIf k (run r.machine.set threads (events ++ replicate made (Step t))) n.ledger
tells_gone Nothing r n t made threads events goes shows same tells = tt
tells_gone Ledger r n t made threads events goes shows same tells =
    subst (λ (l : LedgerState).
    Tells (run r.machine.set threads (events ++ replicate made (Step t))) l) (sym same)
    (tells_along t r.machine made n.machine r.ledger threads events goes shows tells).tells

pub runs_gone : (r n : Runner) (t made threads : ℕ) (events : List Event)
    → GoesOn t r.machine made n.machine → n.ledger ≡ r.ledger → n.keeping ≡ r.keeping
    → Runs r threads events → Runs n threads (events ++ replicate made (Step t))
runs_gone r n t made threads events goes ledger keeping h =
    let added : List Event = events ++ replicate made (Step t) in
    let shown : Shown r.machine n.machine threads added =
    shown_along t r.machine made n.machine threads events goes h.shows in
    let tells : TellsIf r.keeping (run r.machine.set threads added) n.ledger =
    tells_gone r.keeping r n t made threads events goes h.shows ledger h.tells in
    record {
      shows = shown.shows;
      tells =
          subst (λ (s : Set). TellsIf n.keeping (run s threads added) n.ledger) (sym shown.same)
          (subst (λ (k : Keeping). TellsIf k (run r.machine.set threads added) n.ledger)
          (sym keeping) tells);
    }

-- nothing is amiss where nothing is found
abbrev Nowhere : Bool → Bool → Bool → Bool → Bool
Nowhere lost left ringed uses = not (not (lost && left && ringed && uses))

fine_if : (lost : List ℕ) (left : List LeftLock) (ringed : List ℕ) (uses : List Serving)
    → not (any_of lost left ringed uses) ≡ is_none (first_of lost left ringed uses)
fine_if (n ∷ lost) left ringed uses =
    ap (λ (b : Bool). Nowhere b (nat_eq (length left) 0) (nat_eq (length ringed) 0)
    (nat_eq (length uses) 0)) (eqb-suc-zero (length lost))
fine_if [] (l ∷ left) ringed uses =
    ap (λ (b : Bool). Nowhere true b (nat_eq (length ringed) 0) (nat_eq (length uses) 0))
    (eqb-suc-zero (length left))
fine_if [] [] (t ∷ ringed) uses =
    ap (λ (b : Bool). Nowhere true true b (nat_eq (length uses) 0)) (eqb-suc-zero (length ringed))
fine_if [] [] [] (u ∷ uses) =
    ap (λ (b : Bool). Nowhere true true true b) (eqb-suc-zero (length uses))
fine_if [] [] [] [] = refl

pub finds_fine : (r : Runner) (found : Findings) → r.keeping ≡ Ledger
    → AreFindings r.machine.set r.machine.world r.ledger found
    → IsFine r (Some (not (any_of found.lost.items found.left.items found.ringed.items
    found.disagreeing.items)))
finds_fine r found kept are threads events h =
    let told : Tells (run r.machine.set threads events) r.ledger =
    subst (λ (k : Keeping). TellsIf k (run r.machine.set threads events) r.ledger) kept
    h.tells in
    fine_if found.lost.items found.left.items found.ringed.items found.disagreeing.items
    ∙ ap is_none
    (finds_first (record { machine = r.machine; ledger = r.ledger }) found
    (first_of found.lost.items found.left.items found.ringed.items found.disagreeing.items) are refl
    r.machine.set threads events (record { over = refl; shows = h.shows; tells = told }))

-- what is known of its run holds of the run that it shows
pub fine_in : {E : Type 0} (r : Runner) (threads : ℕ) (events : List Event)
    (result : Result (Option Bool) E) → Runs r threads events → IfOk result (IsFine r)
    → IfOk result (λ fine. IfSome fine
    (λ fine. fine ≡ is_none (amiss_in r.machine.set (run r.machine.set threads events))))
fine_in r threads events (Ok (Some fine)) h is = is threads events h
fine_in r threads events (Ok None) h is = tt
fine_in r threads events (Err e) h is = tt
