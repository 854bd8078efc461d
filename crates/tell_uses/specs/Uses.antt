-- What a ledger knows of the uses of stack locations: of each use that was opened, in order, a note;
-- and of each packet the uses of its locations down to the current one, the current one first.
use Rattle.std.specs.Prelude.{ℕ, ◌≡◌, ◌+◌, ◌++◌, ◌&&◌, ◌||◌, not, Bool, true, false, List, [], ◌∷◌, length, drop, Option, None, Some, nat_eq, slice_get, slice_set, if◌then◌else◌}
use Rattle.model.specs.declared.status.Status.{Status}
use Rattle.model.specs.Action.{Action, OnLocation, OfRoutine, Issue, Call, Up, Mark, Leave, Return}
use Rattle.model.specs.LocalRule.{is_pending}
use Rattle.model.specs.Trace.{Serving}
use Rattle.tell_uses.specs.declared.uses.Note.{Note}

pub record UsesState : Type 0 where
  pub notes : List Note
  pub stacks : List (List ℕ)

-- the uses of a packet's locations
abbrev pub of_stack : Option (List ℕ) → List ℕ
of_stack None = []
of_stack (Some stack) = stack

abbrev pub stack_at : UsesState → ℕ → List ℕ
stack_at l n = of_stack (slice_get l.stacks n)

abbrev pub current_at : UsesState → ℕ → Option ℕ
current_at l n = slice_get (stack_at l n) 0

-- those of one packet become these
abbrev pub Puts : ℕ → List ℕ → UsesState → UsesState → Type 0
Puts n stack before after =
    (m : ℕ) → stack_at after m ≡ (if nat_eq n m then stack else stack_at before m)

-- of a use that is new
abbrev pub blank : ℕ → Note
blank n =
    record {
      packet = n;
      marked = false;
      left_marked = false;
      left_unmarked = false;
      returned_pending = false;
      returned_other = None;
    }

-- of one that is marked, that completion leaves, and from which a status is returned
abbrev pub marked : Note → Note
marked note = record note { marked = true }

abbrev pub left : Note → Note
left note =
    record note {
      left_marked = note.marked || note.left_marked;
      left_unmarked = not note.marked || note.left_unmarked;
    }

abbrev pub other_with : Status → Option Status → Option Status
other_with status other = if is_pending status then other else Some status

abbrev pub returned : Status → Note → Note
returned status note =
    record note {
      returned_pending = is_pending status || note.returned_pending;
      returned_other = other_with status note.returned_other;
    }

-- the note of a use of a packet's location, which becomes another, if there is one
abbrev pub note_of_packet : ℕ → Option Note → Option Note
note_of_packet n None = None
note_of_packet n (Some note) = if nat_eq n note.packet then Some note else None

abbrev pub noted_at : (Note → Note) → List Note → ℕ → Option Note → List Note
noted_at change notes v None = notes
noted_at change notes v (Some note) = slice_set notes v (change note)

abbrev pub noted : (Note → Note) → List Note → ℕ → Option ℕ → List Note
noted change notes n None = notes
noted change notes n (Some v) = noted_at change notes v (note_of_packet n (slice_get notes v))

abbrev pub noted_serving : (Note → Note) → List Note → Option Serving → List Note
noted_serving change notes None = notes
noted_serving change notes (Some u) = noted change notes u.packet (Some u.«use»)

-- what an action makes of it, where the frame that acts serves a use or none
abbrev pub Does : Option Serving → Action → UsesState → UsesState → Type 0
Does serving (OnLocation n (Issue stack)) l m =
    (m.notes ≡ l.notes ++ blank n ∷ []) × Puts n (length l.notes ∷ []) l m
Does serving (OnLocation n Call) l m =
    (m.notes ≡ l.notes ++ blank n ∷ []) × Puts n (length l.notes ∷ stack_at l n) l m
Does serving (OnLocation n Up) l m =
    (m.notes ≡ l.notes) × Puts n (drop 1 (stack_at l n)) l m
Does serving (OnLocation n Mark) l m =
    (m.notes ≡ noted marked l.notes n (current_at l n)) × (m.stacks ≡ l.stacks)
Does serving (OnLocation n Leave) l m =
    (m.notes ≡ noted left l.notes n (current_at l n)) × (m.stacks ≡ l.stacks)
Does serving (OfRoutine (Return status)) l m =
    (m.notes ≡ noted_serving (returned status) l.notes serving) × (m.stacks ≡ l.stacks)
Does serving action l m = m ≡ l

-- and several in order
abbrev pub DoesAll : Option Serving → List Action → UsesState → UsesState → Type 0
DoesAll serving [] l m = m ≡ l
DoesAll serving (action ∷ actions) l m =
    (next : UsesState) × Does serving action l next × DoesAll serving actions next m

-- a use's note says that it disagrees
abbrev pub is_there : Option Status → Bool
is_there None = false
is_there (Some status) = true

abbrev pub note_disagrees : Note → Bool
note_disagrees note =
    (note.returned_pending && note.left_unmarked)
    || (is_there note.returned_other && note.left_marked)

-- the uses that do so: of these notes, the first of which has this number
abbrev pub use_numbered : Note → ℕ → Serving
use_numbered note v = record { packet = note.packet; «use» = v }

abbrev pub disagreeing_from : ℕ → List Note → List Serving
disagreeing_from v [] = []
disagreeing_from v (note ∷ notes) =
    if note_disagrees note then use_numbered note v ∷ disagreeing_from (v + 1) notes
    else disagreeing_from (v + 1) notes

-- one of them, if there is one of this number
abbrev pub disagreeing_at : ℕ → Option Note → Option Serving
disagreeing_at v None = None
disagreeing_at v (Some note) =
    if note_disagrees note then Some (use_numbered note v) else None
