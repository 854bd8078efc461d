-- Uses of stack locations that were returned from otherwise than they were marked (Driver Kit,
-- IoMarkIrpPending): STATUS_PENDING of one that was left unmarked, or another status of one that
-- was left marked.
use Rattle.std.specs.Prelude.{ℕ, ◌≡◌, ◌++◌, ◌↔◌, not, Bool, false, List, [], ◌∷◌, Option, None, Some, if◌then◌else◌}
use Rattle.std.specs.List.{list_any}
use Rattle.model.specs.declared.status.Status.{Status}
use Rattle.model.specs.Action.{Action, OnLocation, Issue, Call}
use Rattle.model.specs.LocalRule.{is_pending}
use Rattle.model.specs.PendingAgreement.{PendingAgree, marks_left, statuses_returned}
use Rattle.model.specs.Trace.{Entry, Serving}
use Rattle.model.specs.declared.event.Event.{Event}
use Rattle.model.specs.Run.{run}
use Rattle.model.specs.Set.{Set}
use Rattle.model.specs.Sound.{IsSound}
use Rattle.model.specs.Typable.{IsTypable}

-- the uses that an entry opens: one, of an issue and of a call
abbrev pub use_with : ℕ → Option ℕ → List Serving
use_with n None = []
use_with n (Some u) = record { packet = n; «use» = u } ∷ []

abbrev pub opened_by : Action → Option ℕ → List Serving
opened_by (OnLocation n (Issue stack)) location = use_with n location
opened_by (OnLocation n Call) location = use_with n location
opened_by action location = []

-- all uses that were opened, in order
abbrev pub uses_of : List Entry → List Serving
uses_of [] = []
uses_of (e ∷ past) = uses_of past ++ opened_by e.action e.location

-- a mark with which a use was left is another than the status says that it returned
abbrev pub differs : Bool → Bool → Bool
differs pending marked = if pending then not marked else marked

abbrev pub disagrees_on : List Bool → Status → Bool
disagrees_on marks status = list_any (λ marked. differs (is_pending status) marked) marks

abbrev pub disagrees : List Entry → Serving → Bool
disagrees past u = list_any (disagrees_on (marks_left past u)) (statuses_returned past u)

-- the uses of these that do so
abbrev pub disagreeing : List Entry → List Serving → List Serving
disagreeing past [] = []
disagreeing past (u ∷ uses) =
    if disagrees past u then u ∷ disagreeing past uses else disagreeing past uses

-- pending agreement says that no use does
abbrev pub AgreementTells : Type 0
AgreementTells =
    (past : List Entry) → ((u : Serving) → disagrees past u ≡ false) ↔ PendingAgree past

-- and no use of an accepted set's run does
abbrev pub AcceptedRunsShowNoDisagreement : Type 0
AcceptedRunsShowNoDisagreement =
    (set : Set) → IsTypable set → IsSound set → (threads : ℕ) (events : List Event)
    → disagreeing (run set threads events).past (uses_of (run set threads events).past) ≡ []
