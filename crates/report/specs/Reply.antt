-- The line of a trace for an event: its number, and what the run answered to it.
use Rattle.std.specs.Prelude.{ℕ, ◌-◌, List, [], ◌∷◌, ◌++◌, codes, length, take}
use Rattle.std.specs.Fmt.{decimal}
use Rattle.model.specs.declared.event.Lock.{Lock}
use Rattle.model.specs.declared.event.Lock.TheVariants.{SystemCancel, Spin}
use Rattle.model.specs.declared.event.OfDevice.{OfDevice}
use Rattle.model.specs.declared.event.Place.{Place}
use Rattle.model.specs.declared.event.Reply.{Reply}
use Rattle.model.specs.declared.event.Reply.TheVariants.{Started, Stepped, Finished, Topped, Waited, Idle, Refused, Bug as BugCheckReply, Wrong}
use Rattle.model.specs.declared.event.Subject.{Subject}
use Rattle.model.specs.declared.event.Subject.TheVariants.{Packet, Lock as LockSubject, Cell}
use Rattle.report.specs.Line.{line_of}
use Rattle.model.specs.Words.{status_text, bug_check_text}

-- a spin lock or a cell of a device: the device and the number
abbrev pub of_device_text : OfDevice → List ℕ
of_device_text thing = decimal thing.device ++ 46 ∷ decimal thing.number

-- a lock
abbrev pub lock_text : Lock → List ℕ
lock_text SystemCancel = codes "cancel"
lock_text (Spin lock) = of_device_text lock

-- what a bug check is about
abbrev pub subject_words : Subject → List (List ℕ)
subject_words (Packet n) = codes "packet" ∷ decimal n ∷ []
subject_words (LockSubject lock) = codes "lock" ∷ lock_text lock ∷ []
subject_words (Cell cell) = codes "cell" ∷ of_device_text cell ∷ []

-- a place: driver, routine and position
abbrev pub place_text : Place → List ℕ
place_text place =
    decimal place.driver ++ 46 ∷ (decimal place.routine ++ 46 ∷ decimal place.position)

-- a reply
abbrev pub reply_words : Reply → List (List ℕ)
reply_words (Started n) = codes "started" ∷ decimal n ∷ []
reply_words Stepped = codes "stepped" ∷ []
reply_words Finished = codes "finished" ∷ []
reply_words (Topped n status info) = codes "topped" ∷ decimal n ∷ status_text status ∷ decimal info
    ∷ []
reply_words Waited = codes "waited" ∷ []
reply_words Idle = codes "idle" ∷ []
reply_words Refused = codes "refused" ∷ []
reply_words (BugCheckReply bug) = codes "bug" ∷ bug_check_text bug.check ∷ subject_words bug.subject
reply_words (Wrong place) = codes "wrong" ∷ place_text place ∷ []

-- the line of the event of a number
abbrev pub reply_line : ℕ → Reply → List ℕ
reply_line number reply = line_of (decimal number ∷ reply_words reply)

-- that line without its end
abbrev pub reply_head : ℕ → Reply → List ℕ
reply_head number reply =
    take (length (reply_line number reply) - 1) (reply_line number reply)

-- that line with words before its end
abbrev pub worded_line : ℕ → Reply → List ℕ → List ℕ
worded_line number reply words = reply_head number reply ++ (words ++ 10 ∷ [])
