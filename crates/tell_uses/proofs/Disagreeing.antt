-- The notes that disagree are those of the uses that do.
use Rattle.std.proofs.Common.{◌≡◌, ◌∙◌, ℕ, zero, suc, ◌+◌, List, [], ◌∷◌, ◌++◌, Bool, true, false, Option, None, Some, refl, sym, ap, drop, append_assoc, arith}
use Rattle.std.specs.Prelude.{◌&&◌, ◌||◌, not, option_to_list, slice_get, if◌then◌else◌}
use Rattle.std.specs.List.{list_any}
use Rattle.std.proofs.Math.Seq.{drop-nil}
use Rattle.model.specs.declared.status.Status.{Status}
use Rattle.model.specs.LocalRule.{is_pending}
use Rattle.model.specs.PendingAgreement.{marks_left, statuses_returned, was_marked}
use Rattle.model.specs.Run.{run}
use Rattle.model.specs.Trace.{Entry, Serving}
use Rattle.laws_runs.specs.PendingReturns.{AcceptedRunsAgreeOnPending}
use Rattle.tell_uses.specs.declared.uses.Note.{Note}
use Rattle.tell_uses.specs.Knowing.{first_other, note_of, note_with, notes_of}
use Rattle.tell_uses.specs.Ledger.{Disagreeing, LedgerState, NoneIfAccepted}
use Rattle.tell_uses.specs.Pending.{disagreeing, disagrees, disagrees_on, uses_of}
use Rattle.tell_uses.specs.Uses.{disagreeing_at, disagreeing_from, is_there, note_disagrees, use_numbered}
use Rattle.tell_uses.proofs.Agreement.{no_disagreement}
use Rattle.tell_uses.proofs.Noted.{tagged_run}
use Rattle.tell_uses.proofs.Noting.{Numbered}

-- note by note
one_more : (b : Bool) (u : Serving) (rest : List Serving)
    → (if b then u ∷ rest else rest) ≡ option_to_list (if b then Some u else None) ++ rest
one_more true u rest = refl
one_more false u rest = refl

step : (notes : List Note) (p v : ℕ)
    → disagreeing_from v (drop p notes)
    ≡ option_to_list (disagreeing_at v (slice_get notes p)) ++ disagreeing_from (v + 1) (drop (suc p) notes)
step [] p v = rw (drop-nil {A = Note} p) refl
step (note ∷ notes) zero v =
    one_more (note_disagrees note) (use_numbered note v) (disagreeing_from (v + 1) notes)
step (note ∷ notes) (suc p) v = step notes p v

disagreeing_on : (notes : List Note) (found : List Serving) (p : ℕ)
    → found ++ disagreeing_from p (drop p notes)
    ≡ (found ++ option_to_list (disagreeing_at p (slice_get notes p)))
    ++ disagreeing_from (p + 1) (drop (suc p) notes)
disagreeing_on notes found p =
    ap (λ (rest : List Serving). found ++ rest) (step notes p p)
    ∙ sym (append_assoc found (option_to_list (disagreeing_at p (slice_get notes p)))
    (disagreeing_from (p + 1) (drop (suc p) notes)))

pub disagreeing_next : (notes : List Note) (found : List Serving) (p : ℕ)
    → found ++ disagreeing_from p (drop p notes)
    ≡ (found ++ option_to_list (disagreeing_at p (slice_get notes p)))
    ++ disagreeing_from (p + 1) (drop (p + 1) notes)
disagreeing_next notes found p =
    let next : suc p ≡ p + 1 = omega arith in
    disagreeing_on notes found p
    ∙ ap (λ (k : ℕ). (found ++ option_to_list (disagreeing_at p (slice_get notes p)))
    ++ disagreeing_from (p + 1) (drop k notes)) next

-- what a note says of its use
pending_first : (low some other high : Bool)
    → ((true && low) || (other && high)) ≡ (low || ((some && low) || (other && high)))
pending_first true some other high = refl
pending_first false true other high = refl
pending_first false false other high = refl

other_first : (low some other high : Bool)
    → ((some && low) || (true && high)) ≡ (high || ((some && low) || (other && high)))
other_first low some other true = last (some && low)
  where
    last : (b : Bool) → (b || true) ≡ true
    last true = refl
    last false = refl
other_first true true other false = refl
other_first true false true false = refl
other_first true false false false = refl
other_first false true true false = refl
other_first false true false false = refl
other_first false false true false = refl
other_first false false false false = refl

-- what the statuses so far say, and one more
said_more : (pending : Bool) (marks : List Bool) (status : Status) (statuses : List Status)
    → is_pending status ≡ pending
    → note_disagrees (note_with 0 false marks (status ∷ statuses))
    ≡ (disagrees_on marks status || note_disagrees (note_with 0 false marks statuses))
said_more true marks status statuses is =
    rw is
    (pending_first (list_any (λ marked. not marked) marks)
    (list_any (λ s. is_pending s) statuses) (is_there (first_other statuses))
    (list_any (λ marked. marked) marks))
said_more false marks status statuses is =
    rw is
    (other_first (list_any (λ marked. not marked) marks)
    (list_any (λ s. is_pending s) statuses) (is_there (first_other statuses))
    (list_any (λ marked. marked) marks))

said : (marks : List Bool) (statuses : List Status)
    → note_disagrees (note_with 0 false marks statuses) ≡ list_any (disagrees_on marks) statuses
said marks [] = refl
said marks (status ∷ statuses) =
    said_more (is_pending status) marks status statuses refl
    ∙ ap (λ (b : Bool). disagrees_on marks status || b) (said marks statuses)

note_says : (past : List Entry) (u : Serving)
    → note_disagrees (note_of past u) ≡ disagrees past u
note_says past u = said (marks_left past u) (statuses_returned past u)

own_number : (past : List Entry) (u : Serving) (k : ℕ) → u.«use» ≡ k
    → use_numbered (note_of past u) k ≡ u
own_number past u k is = rw (sym is) refl

all_say : (past : List Entry) (uses : List Serving) (k : ℕ) → Numbered k uses
    → disagreeing_from k (notes_of past uses) ≡ disagreeing past uses
all_say past [] k h = refl
all_say past (u ∷ uses) k h =
    ap (λ (b : Bool). if b
    then use_numbered (note_of past u) k ∷ disagreeing_from (k + 1) (notes_of past uses)
    else disagreeing_from (k + 1) (notes_of past uses)) (note_says past u)
    ∙ ap (λ (v : Serving). if disagrees past u
    then v ∷ disagreeing_from (k + 1) (notes_of past uses)
    else disagreeing_from (k + 1) (notes_of past uses)) (own_number past u k h.0)
    ∙ ap (λ (rest : List Serving). if disagrees past u then u ∷ rest else rest)
    (all_say past uses (k + 1) h.1)

pub all_told : (l : LedgerState) (found : List Serving)
    → found ≡ disagreeing_from 0 l.uses.notes → Disagreeing l found
all_told l found is set threads events tells =
    is
    ∙ ap (λ (notes : List Note). disagreeing_from 0 notes) tells.knows.notes
    ∙ all_say (run set threads events).past (uses_of (run set threads events).past) 0
    (tagged_run set threads events).counted.numbered

pub none_told : AcceptedRunsAgreeOnPending → (l : LedgerState) (found : List Serving)
    → found ≡ disagreeing_from 0 l.uses.notes → NoneIfAccepted l found
none_told law l found is set threads events typable sound tells =
    all_told l found is set threads events tells
    ∙ no_disagreement law set typable sound threads events
