-- When a ledger's notes are what a trace says of the uses.
use Rattle.std.specs.Prelude.{ℕ, ◌≡◌, not, Bool, List, [], ◌∷◌, Option, None, Some, if◌then◌else◌}
use Rattle.std.specs.List.{list_any}
use Rattle.model.specs.declared.status.Status.{Status}
use Rattle.model.specs.LocalRule.{is_pending}
use Rattle.model.specs.PendingAgreement.{marks_left, statuses_returned, was_marked}
use Rattle.model.specs.Trace.{Entry, Serving, uses}
use Rattle.tell_uses.specs.declared.uses.Note.{Note}
use Rattle.tell_uses.specs.Pending.{uses_of}
use Rattle.tell_uses.specs.Uses.{UsesState, stack_at}

-- the last status other than STATUS_PENDING, of some with the last one first
abbrev pub first_other : List Status → Option Status
first_other [] = None
first_other (status ∷ statuses) =
    if is_pending status then first_other statuses else Some status

-- the note of a use: whether it was marked, with which marks completion left it, and the statuses
-- that were returned from it
abbrev pub note_with : ℕ → Bool → List Bool → List Status → Note
note_with n was_so marks statuses =
    record {
      packet = n;
      marked = was_so;
      left_marked = list_any (λ marked. marked) marks;
      left_unmarked = list_any (λ marked. not marked) marks;
      returned_pending = list_any (λ status. is_pending status) statuses;
      returned_other = first_other statuses;
    }

abbrev pub note_of : List Entry → Serving → Note
note_of past u =
    note_with u.packet (was_marked past u) (marks_left past u) (statuses_returned past u)

abbrev pub notes_of : List Entry → List Serving → List Note
notes_of past [] = []
notes_of past (u ∷ uses) = note_of past u ∷ notes_of past uses

-- it knows of each use that was opened, and the uses of each packet's locations
pub record Knows (past : List Entry) (l : UsesState) : Type 0 where
  pub notes : l.notes ≡ notes_of past (uses_of past)
  pub stacks : (n : ℕ) → stack_at l n ≡ uses past n
