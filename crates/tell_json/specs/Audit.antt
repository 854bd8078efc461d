-- The object of the audit of a run.
use Rattle.std.specs.Prelude.{ℕ, List, [], ◌∷◌, codes, decimal}
use Rattle.json.specs.Json.{Json, number, string, array, object, Items, no_items, item, no_members, member}
use Rattle.model.specs.declared.event.Subject.TheVariants.{Lock as LockSubject}
use Rattle.model.specs.Trace.{Serving}
use Rattle.report_json.specs.Event.{subject_json}
use Rattle.report_json.specs.Served.{numbers_json}
use Rattle.tell_audit.specs.declared.left.LeftLock.{LeftLock}

-- the name of the shape, and its edition
abbrev pub audit_format : List ℕ
audit_format = codes "pafteis.audit/1"

-- a lock that is left behind, and the idle thread that owns it
abbrev pub left_lock_json : LeftLock → Json
left_lock_json left =
    object
    (member (codes "thread") (number (decimal left.thread))
    (member (codes "lock") (subject_json (LockSubject left.lock))
    no_members))

abbrev pub left_json : List LeftLock → Items
left_json [] = no_items
left_json (left ∷ rest) = item (left_lock_json left) (left_json rest)

-- a use of a stack location: its packet, and its number
abbrev pub use_json : Serving → Json
use_json its =
    object
    (member (codes "packet") (number (decimal its.packet))
    (member (codes "use") (number (decimal its.«use»))
    no_members))

abbrev pub uses_json : List Serving → Items
uses_json [] = no_items
uses_json (its ∷ rest) = item (use_json its) (uses_json rest)

-- what an audit found: packets that are lost, locks that are left behind, threads that wait in a
-- ring, packets whose cancellation was missed, and uses that were returned from otherwise than they
-- were marked
abbrev pub audit_json : List ℕ → List LeftLock → List ℕ → List ℕ → List Serving → Json
audit_json lost left ringed missed disagreeing =
    object
    (member (codes "format") (string audit_format)
    (member (codes "lost") (array (numbers_json lost))
    (member (codes "locks_left") (array (left_json left))
    (member (codes "ring") (array (numbers_json ringed))
    (member (codes "to_cancel") (array (numbers_json missed))
    (member (codes "disagreeing") (array (uses_json disagreeing))
    no_members))))))
