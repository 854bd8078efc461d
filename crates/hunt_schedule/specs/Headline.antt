-- How a run ends, in one line: at a bug check or a wrong operand as a trace tells it, with what an
-- audit finds in its words, or with what isn't at rest.
use Rattle.std.specs.Prelude.{ℕ, ◌++◌, List, [], ◌∷◌, codes, decimal}
use Rattle.tell_audit.specs.declared.amiss.Amiss.{Amiss}
use Rattle.tell_audit.specs.declared.amiss.Amiss.TheVariants.{Stopped, Lost, Left, Ringed, Disagrees}
use Rattle.tell_audit.specs.declared.ending.Ending.{Ending}
use Rattle.tell_audit.specs.declared.ending.Ending.TheVariants.{Fails, Stuck}
use Rattle.tell_audit.specs.declared.standing.Standing.{Standing}
use Rattle.model.specs.declared.event.Bug.{Bug as BugFound}
use Rattle.model.specs.declared.event.Lock.{Lock}
use Rattle.model.specs.declared.event.Lock.TheVariants.{SystemCancel, Spin}
use Rattle.model.specs.declared.event.OfDevice.{OfDevice}
use Rattle.model.specs.declared.event.Place.{Place}
use Rattle.model.specs.declared.event.Reply.{Reply}
use Rattle.model.specs.declared.event.Reply.TheVariants.{Started, Stepped, Finished, Topped, Waited, Idle, Refused, Bug, Wrong}
use Rattle.model.specs.declared.event.Subject.{Subject}
use Rattle.model.specs.declared.event.Subject.TheVariants.{Packet, Lock as LockSubject, Cell}
use Rattle.model.specs.Words.{bug_check_text}

abbrev pub of_device : OfDevice → List ℕ
of_device d = decimal d.device ++ (codes "." ++ decimal d.number)

abbrev pub lock_words : Lock → List ℕ
lock_words SystemCancel = codes "lock cancel"
lock_words (Spin lock) = codes "lock " ++ of_device lock

abbrev pub subject_words : Subject → List ℕ
subject_words (Packet n) = codes "packet " ++ decimal n
subject_words (LockSubject lock) = lock_words lock
subject_words (Cell cell) = codes "cell " ++ of_device cell

abbrev pub bug_words : BugFound → List ℕ
bug_words bug =
    codes "bug " ++ (bug_check_text bug.check ++ (codes " " ++ subject_words bug.subject))

abbrev pub place_words : Place → List ℕ
place_words p =
    codes "wrong " ++ (decimal p.driver ++ (codes "." ++ (decimal p.routine
    ++ (codes "." ++ decimal p.position))))

abbrev pub reply_words : Reply → List ℕ
reply_words (Bug bug) = bug_words bug
reply_words (Wrong place) = place_words place
reply_words (Started packet) = []
reply_words Stepped = []
reply_words Finished = []
reply_words (Topped packet status info) = []
reply_words Waited = []
reply_words Idle = []
reply_words Refused = []

abbrev pub amiss_words : Amiss → List ℕ
amiss_words (Stopped reply) = reply_words reply
amiss_words (Lost n) = codes "packet " ++ (decimal n ++ codes " is lost: no place names it")
amiss_words (Left left) =
    lock_words left.lock ++ (codes " is left behind: thread " ++ (decimal left.thread
    ++ codes " owns it and is idle"))
amiss_words (Ringed t) = codes "thread " ++ (decimal t ++ codes " waits in a ring")
amiss_words (Disagrees location_use) =
    codes "packet " ++ (decimal location_use.packet
    ++ codes ": a status was returned that disagrees with the mark")

-- each of some numbers between two parts of a text
abbrev pub each_between : List ℕ → List ℕ → List ℕ → List ℕ
each_between before [] after = []
each_between before (n ∷ numbers) after =
    (before ++ (decimal n ++ after)) ++ each_between before numbers after

abbrev pub standing_words : Standing → List ℕ
standing_words standing =
    codes "not at rest"
    ++ (each_between (codes "; thread ") standing.threads.items (codes " is busy")
    ++ (each_between (codes "; packet ") standing.packets.items (codes " is live")
    ++ each_between (codes "; device ") standing.devices.items (codes " is busy for StartIo")))

abbrev pub ending_words : Ending → List ℕ
ending_words (Fails amiss) = amiss_words amiss
ending_words (Stuck standing) = standing_words standing

-- the line, which is a comment
abbrev pub headline : Ending → List ℕ
headline ending = codes "; " ++ (ending_words ending ++ codes "\n")
