-- The objects of the events of a run: the data of the lines of `report.specs.Reply`.
use Rattle.std.specs.Prelude.{ℕ, List, codes, decimal}
use Rattle.json.specs.Json.{Json, number, string, object, Members, no_members, member}
use Rattle.model.specs.declared.event.Lock.TheVariants.{SystemCancel, Spin}
use Rattle.model.specs.declared.event.OfDevice.{OfDevice}
use Rattle.model.specs.declared.event.Place.{Place}
use Rattle.model.specs.declared.event.Reply.{Reply}
use Rattle.model.specs.declared.event.Reply.TheVariants.{Started, Stepped, Finished, Topped, Waited, Idle, Refused, Bug as BugCheckReply, Wrong}
use Rattle.model.specs.declared.event.Subject.{Subject}
use Rattle.model.specs.declared.event.Subject.TheVariants.{Packet, Lock as LockSubject, Cell}
use Rattle.model.specs.Words.{bug_check_text, status_text}

-- the name of the shape, and its edition
abbrev pub event_format : List ℕ
event_format = codes "pafteis.event/1"

-- the word of a reply, as its line has it
abbrev pub reply_name : Reply → List ℕ
reply_name (Started packet) = codes "started"
reply_name Stepped = codes "stepped"
reply_name Finished = codes "finished"
reply_name (Topped packet status information) = codes "topped"
reply_name Waited = codes "waited"
reply_name Idle = codes "idle"
reply_name Refused = codes "refused"
reply_name (BugCheckReply bug) = codes "bug"
reply_name (Wrong place) = codes "wrong"

-- what a bug check is about: a packet, the system cancel spin lock, or a spin lock or a cell of a
-- device
abbrev pub packet_members : ℕ → Members
packet_members packet =
    member (codes "kind") (string (codes "packet"))
    (member (codes "packet") (number (decimal packet))
    no_members)

abbrev pub system_cancel_lock_members : Members
system_cancel_lock_members =
    member (codes "kind") (string (codes "system_cancel_lock")) no_members

abbrev pub of_device_members : List ℕ → List ℕ → OfDevice → Members
of_device_members kind name thing =
    member (codes "kind") (string kind)
    (member (codes "device") (number (decimal thing.device))
    (member name (number (decimal thing.number))
    no_members))

abbrev pub subject_json : Subject → Json
subject_json (Packet packet) = object (packet_members packet)
subject_json (LockSubject SystemCancel) = object system_cancel_lock_members
subject_json (LockSubject (Spin lock)) =
    object (of_device_members (codes "spin_lock") (codes "lock") lock)
subject_json (Cell cell) =
    object (of_device_members (codes "paged_cell") (codes "cell") cell)

-- a place
abbrev pub place_json : Place → Json
place_json place =
    object
    (member (codes "driver") (number (decimal place.driver))
    (member (codes "routine") (number (decimal place.routine))
    (member (codes "position") (number (decimal place.position))
    no_members)))

-- what follows the word of a reply. The information of a packet may be any number below 2^64, more
-- than many readers of JSON keep, so it is a text.
abbrev pub reply_members : Reply → Members
reply_members (Started packet) = member (codes "packet") (number (decimal packet)) no_members
reply_members (Topped packet status information) =
    member (codes "packet") (number (decimal packet))
    (member (codes "status") (string (status_text status))
    (member (codes "information") (string (decimal information))
    no_members))
reply_members (BugCheckReply bug) =
    member (codes "bug_check") (string (bug_check_text bug.check))
    (member (codes "subject") (subject_json bug.subject)
    no_members)
reply_members (Wrong place) = member (codes "place") (place_json place) no_members
reply_members Stepped = no_members
reply_members Finished = no_members
reply_members Waited = no_members
reply_members Idle = no_members
reply_members Refused = no_members

-- the event of a number, and what the run answered to it
abbrev pub event_json : ℕ → Reply → Json
event_json event reply =
    object
    (member (codes "format") (string event_format)
    (member (codes "event") (number (decimal event))
    (member (codes "reply") (string (reply_name reply))
    (reply_members reply))))
