-- The lines of uses that are missed, where there is one more.
use Rattle.std.proofs.Common.{◌≡◌, ℕ, List, [], ◌∷◌, ◌++◌, Option, Some, None, refl, ap, sym, ◌∙◌, append-nil}
use Rattle.std.specs.Prelude.{option_to_list, if◌then◌else◌}
use Rattle.model.specs.declared.set.Sort.{Sort}
use Rattle.asm.specs.declared.draft.QueueLine.{QueueLine}
use Rattle.asm.specs.declared.draft.Step.{Step}
use Rattle.asm.specs.declared.names.Use.{Use}
use Rattle.asm.specs.declared.roles.Role.{Role}
use Rattle.asm.specs.declared.roles.Role.TheVariants.{Completion, Cancel}
use Rattle.asm.specs.Outline.{Outline, earliest, missed, missed_calls, missed_cancels, missed_entry, missed_from, missed_server, missed_use, missed_uses, used_at}
use Rattle.asm.proofs.Scopes.{Scope, is_known, is_served}
use Rattle.asm.proofs.Unknown.Earliest.{earliest_none, earliest_assoc}

-- the first call of these that sets a routine which isn't among these
abbrev pub calling : List (List ℕ) → List Sort → List Use → Option ℕ
calling names sorts calls = missed_calls names sorts None calls

-- the first instruction of these that touches a queue which isn't among these
abbrev pub queueing : List (List ℕ) → List Use → Option ℕ
queueing queues uses = missed_uses queues None uses

-- the first line of the open driver that uses a queue or routine which isn't among these
abbrev pub pending : List (List ℕ) → List (List ℕ) → List Sort → Outline → Option ℕ
pending queues names sorts o =
    earliest (queueing queues o.queue_uses)
    (earliest (calling names sorts o.calls) (missed_server names sorts o))

-- the first line of the open routine that uses a label which isn't among these
abbrev pub jumping : List (List ℕ) → List Step → Option ℕ
jumping labels steps = missed_from labels None steps

-- what is found in a routine is weighed against what was found before it
pub missed_split : (labels : List (List ℕ)) (found : Option ℕ) (steps : List Step)
    → missed_from labels found steps ≡ earliest found (jumping labels steps)
missed_split labels found [] = sym (earliest_none found)
missed_split labels found (s ∷ ss) =
    let one = missed labels s.label in
    missed_split labels (earliest found one) ss ∙ earliest_assoc found one (jumping labels ss)
    ∙ ap (λ (x : Option ℕ). earliest found x) (sym (missed_split labels one ss))

pub missed_push : (labels : List (List ℕ)) (found : Option ℕ) (steps : List Step) (s : Step)
    → missed_from labels found (steps ++ s ∷ []) ≡ earliest (missed_from labels found steps)
    (missed labels s.label)
missed_push labels found [] s = refl
missed_push labels found (t ∷ ts) s =
    missed_push labels (earliest found (missed labels t.label)) ts s

-- what is found in calls is weighed against what was found before them
calls_push : (names : List (List ℕ)) (sorts : List Sort) (found : Option ℕ) (calls : List Use)
    (u : Use) → missed_calls names sorts found (calls ++ u ∷ [])
    ≡ earliest (missed_calls names sorts found calls) (missed_use names sorts Completion u)
calls_push names sorts found [] u = refl
calls_push names sorts found (v ∷ vs) u =
    calls_push names sorts (earliest found (missed_use names sorts Completion v)) vs u

uses_push : (names : List (List ℕ)) (found : Option ℕ) (uses : List Use) (u : Use)
    → missed_uses names found (uses ++ u ∷ []) ≡ earliest (missed_uses names found uses)
    (missed names (Some u))
uses_push names found [] u = refl
uses_push names found (v ∷ vs) u = uses_push names (earliest found (missed names (Some v))) vs u

pub cancels_push : (names : List (List ℕ)) (sorts : List Sort) (found : Option ℕ)
    (queues : List QueueLine) (q : QueueLine)
    → missed_cancels names sorts found (queues ++ q ∷ [])
    ≡ earliest (missed_cancels names sorts found queues) (missed_entry names sorts Cancel q.cancel)
cancels_push names sorts found [] q = refl
cancels_push names sorts found (p ∷ ps) q =
    cancels_push names sorts (earliest found (missed_entry names sorts Cancel p.cancel)) ps q

pub calls_added : (names : List (List ℕ)) (sorts : List Sort) (calls : List Use) (u : Option Use)
    → calling names sorts (calls ++ option_to_list u) ≡ earliest (calling names sorts calls)
    (missed_entry names sorts Completion u)
calls_added names sorts calls None = ap (calling names sorts) (append-nil calls)
    ∙ sym (earliest_none (calling names sorts calls))
calls_added names sorts calls (Some u) = calls_push names sorts None calls u

pub uses_added : (names : List (List ℕ)) (uses : List Use) (u : Option Use)
    → queueing names (uses ++ option_to_list u) ≡ earliest (queueing names uses) (missed names u)
uses_added names uses None = ap (queueing names) (append-nil uses)
    ∙ sym (earliest_none (queueing names uses))
uses_added names uses (Some u) = uses_push names None uses u

pub name_missed : (names : List (List ℕ)) (name : Option (List ℕ)) (n : ℕ)
    → missed names (used_at n name) ≡ (if is_known names name then None else Some n)
name_missed names None n = refl
name_missed names (Some name) n = refl

pub routine_missed : (s : Scope) (role : Role) (routine : Option (List ℕ)) (n : ℕ)
    → missed_entry s.routines s.sorts role (used_at n routine)
    ≡ (if is_served s role routine then None else Some n)
routine_missed s role None n = refl
routine_missed s role (Some routine) n = refl
