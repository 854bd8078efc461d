-- No use disagrees exactly where pending agreement holds.
use Rattle.std.proofs.Common.{◌≡◌, List, [], ◌∷◌, Bool, true, false, refl, cond}
use Rattle.std.specs.Prelude.{◌||◌, All}
use Rattle.std.specs.List.{list_any}
use Rattle.std.proofs.lemmas.List.Elements.{All-cons, All-head, All-nil, All-tail}
use Rattle.model.specs.declared.status.Status.{Status}
use Rattle.model.specs.LocalRule.{is_pending}
use Rattle.model.specs.PendingAgreement.{Agrees, marks_left, statuses_returned}
use Rattle.model.specs.Trace.{Entry, Serving}
use Rattle.model.specs.Run.{run}
use Rattle.laws_runs.specs.PendingReturns.{AcceptedRunsAgreeOnPending}
use Rattle.tell_uses.specs.Pending.{AcceptedRunsShowNoDisagreement, AgreementTells, differs, disagreeing, disagrees, disagrees_on, uses_of}

neither : (a b : Bool) → (a || b) ≡ false → (a ≡ false) × (b ≡ false)
neither true b h = cc
neither false b h = (refl, h)

both : (a b : Bool) → a ≡ false → b ≡ false → (a || b) ≡ false
both true b p q = cc
both false b p q = q

same : (a b : Bool) → differs a b ≡ false → a ≡ b
same true true h = refl
same true false h = cc
same false true h = cc
same false false h = refl

not_different : (a b : Bool) → a ≡ b → differs a b ≡ false
not_different true true h = refl
not_different true false h = cc
not_different false true h = cc
not_different false false h = refl

agreed_on : (marks : List Bool) (status : Status) → disagrees_on marks status ≡ false
    → Agrees marks status
agreed_on [] status h = All-nil (λ marked. is_pending status ≡ marked)
agreed_on (m ∷ marks) status h =
    let parts : (differs (is_pending status) m ≡ false) × (disagrees_on marks status ≡ false) =
    neither (differs (is_pending status) m) (disagrees_on marks status) h in
    All-cons (λ marked. is_pending status ≡ marked) m marks (same (is_pending status) m parts.0)
    (agreed_on marks status parts.1)

on_agreed : (marks : List Bool) (status : Status) → Agrees marks status
    → disagrees_on marks status ≡ false
on_agreed [] status h = refl
on_agreed (m ∷ marks) status h =
    both (differs (is_pending status) m) (disagrees_on marks status)
    (not_different (is_pending status) m
    (All-head (λ marked. is_pending status ≡ marked) m marks h))
    (on_agreed marks status (All-tail (λ marked. is_pending status ≡ marked) m marks h))

agreed : (marks : List Bool) (statuses : List Status)
    → list_any (disagrees_on marks) statuses ≡ false → All (Agrees marks) statuses
agreed marks [] h = All-nil (Agrees marks)
agreed marks (status ∷ statuses) h =
    let parts : (disagrees_on marks status ≡ false)
    × (list_any (disagrees_on marks) statuses ≡ false) =
    neither (disagrees_on marks status) (list_any (disagrees_on marks) statuses) h in
    All-cons (Agrees marks) status statuses (agreed_on marks status parts.0)
    (agreed marks statuses parts.1)

agreeing : (marks : List Bool) (statuses : List Status) → All (Agrees marks) statuses
    → list_any (disagrees_on marks) statuses ≡ false
agreeing marks [] h = refl
agreeing marks (status ∷ statuses) h =
    both (disagrees_on marks status) (list_any (disagrees_on marks) statuses)
    (on_agreed marks status (All-head (Agrees marks) status statuses h))
    (agreeing marks statuses (All-tail (Agrees marks) status statuses h))

pub agreement : AgreementTells
agreement past = (
  λ none u. agreed (marks_left past u) (statuses_returned past u) (none u),
  λ agree u. agreeing (marks_left past u) (statuses_returned past u) (agree u),
)

-- so no use of an accepted set's run disagrees
skipped : (b : Bool) (xs ys : List Serving) → b ≡ false → ys ≡ []
    → cond {A = List Serving} b xs ys ≡ []
skipped true xs ys p q = cc
skipped false xs ys p q = q

none_disagree : (past : List Entry) (uses : List Serving)
    → ((u : Serving) → disagrees past u ≡ false) → disagreeing past uses ≡ []
none_disagree past [] h = refl
none_disagree past (u ∷ uses) h =
    skipped (disagrees past u) (u ∷ disagreeing past uses) (disagreeing past uses) (h u)
    (none_disagree past uses h)

pub no_disagreement : AcceptedRunsAgreeOnPending → AcceptedRunsShowNoDisagreement
no_disagreement law set typable sound threads events =
    none_disagree (run set threads events).past (uses_of (run set threads events).past)
    ((agreement (run set threads events).past).1 (law set typable sound threads events))
