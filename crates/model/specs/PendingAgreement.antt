-- Pending agreement (Driver Kit, IoMarkIrpPending; Static Driver Verifier, MarkIrpPending): a
-- dispatch routine returns STATUS_PENDING exactly where its stack location was marked pending. It
-- is read from the trace, use by use: of a use that a status was returned from, and that completion
-- left.
use Rattle.std.specs.Prelude.{ℕ, ◌≡◌, ◌&&◌, ◌||◌, ◌++◌, Bool, false, List, [], ◌∷◌, Option, None, Some, All, nat_eq, option_to_list, if◌then◌else◌}
use Rattle.model.specs.declared.status.Status.{Status}
use Rattle.model.specs.Action.{Action, OnLock, OnPacket, OnLocation, OfRoutine, Issue, Call, Up, Mark, Leave, Execute, TouchPaged, Return, GoWrong}
use Rattle.model.specs.LocalRule.{is_pending}
use Rattle.model.specs.Trace.{Entry, Serving, Tag, Managing, Activated}

-- a packet with a use of one of its locations, if it has one, is this use
abbrev pub is_use : ℕ → Option ℕ → Serving → Bool
is_use n None u = false
is_use n (Some v) u = nat_eq n u.packet && nat_eq v u.use

-- a use was marked pending
abbrev pub marks_use : Action → Option ℕ → Serving → Bool
marks_use (OnLocation n Mark) location u = is_use n location u
marks_use (OnLocation packet (Issue stack)) location u = false
marks_use (OnLocation packet Call) location u = false
marks_use (OnLocation packet Up) location u = false
marks_use (OnLocation packet Leave) location u = false
marks_use (OnLock lock act) location u = false
marks_use (OnPacket packet act) location u = false
marks_use (OfRoutine act) location u = false

abbrev pub was_marked : List Entry → Serving → Bool
was_marked [] u = false
was_marked (e ∷ past) u = marks_use e.action e.location u || was_marked past u

-- whether a use was marked when completion left it: once for each time that it was left
abbrev pub leaves_use : Action → Option ℕ → Serving → Bool
leaves_use (OnLocation n Leave) location u = is_use n location u
leaves_use (OnLocation packet (Issue stack)) location u = false
leaves_use (OnLocation packet Call) location u = false
leaves_use (OnLocation packet Up) location u = false
leaves_use (OnLocation packet Mark) location u = false
leaves_use (OnLock lock act) location u = false
leaves_use (OnPacket packet act) location u = false
leaves_use (OfRoutine act) location u = false

abbrev pub marks_left : List Entry → Serving → List Bool
marks_left [] u = []
marks_left (e ∷ past) u =
    if leaves_use e.action e.location u then was_marked past u ∷ marks_left past u
    else marks_left past u

-- the statuses that the activations of a use returned
abbrev pub status_in : Action → Option Status
status_in (OfRoutine (Return status)) = Some status
status_in (OfRoutine Execute) = None
status_in (OfRoutine (TouchPaged cell)) = None
status_in (OfRoutine GoWrong) = None
status_in (OnLock lock act) = None
status_in (OnPacket packet act) = None
status_in (OnLocation packet act) = None

abbrev pub serves : Tag → Serving → Bool
serves Managing u = false
serves (Activated g driver routine None) u = false
serves (Activated g driver routine (Some v)) u = is_use v.packet (Some v.use) u

abbrev pub statuses_returned : List Entry → Serving → List Status
statuses_returned [] u = []
statuses_returned (e ∷ past) u =
    if serves e.actor.tag u then option_to_list (status_in e.action) ++ statuses_returned past u
    else statuses_returned past u

-- each status that was returned from a use is STATUS_PENDING exactly if the use was marked when it
-- was left
abbrev pub Agrees : List Bool → Status → Type 0
Agrees marks status = All (λ marked. is_pending status ≡ marked) marks

abbrev pub PendingAgree : List Entry → Type 0
PendingAgree past = (u : Serving) → All (Agrees (marks_left past u)) (statuses_returned past u)
