-- The same event several times in a row, as machines of any sort run it.
use Rattle.std.specs.Prelude.{ℕ, ⊤, ◌≡◌, ◌++◌, List, [], ◌∷◌, Option, None, Some, if◌then◌else◌, length, replicate}
use Rattle.interleave.specs.declared.read.Repeated.{Repeated}
use Rattle.model.specs.declared.event.Event.{Event}
use Rattle.model.specs.declared.event.Reply.{Reply}
use Rattle.model.specs.declared.event.Reply.TheVariants.{Stepped}
use Rattle.model.specs.Machine.{reply_to}
use Rattle.model.specs.Set.{Set}
use Rattle.laws_runs.specs.Waits.{says_unchanged}
use Rattle.answer_runs.specs.declared.running.Replies.{Replies}

-- the replies of a run to an event that happens once for each of them
abbrev pub AreReplies : Set → ℕ → List Event → Event → List Reply → Type 0
AreReplies set threads past e [] = ⊤
AreReplies set threads past e (reply ∷ replies) =
    (reply ≡ reply_to set threads past e) × AreReplies set threads (past ++ e ∷ []) e replies

-- a machine of any sort, which has a set and shows runs in its way, has run an event once for each
-- of these replies: whatever run it showed, it shows that run with the event added so many times,
-- and it replied as that run does
pub record RepeatsBy {M : Type 0} (set_of : M → Set) (ShowsRun : M → ℕ → List Event → Type 0)
    (before : M) (e : Event) (after : M) (told : List Reply) : Type 0 where
  pub set : set_of after ≡ set_of before
  pub shows : (threads : ℕ) (past : List Event) → ShowsRun before threads past
      → ShowsRun after threads (past ++ replicate (length told) e)
  pub are : (threads : ℕ) (past : List Event) → ShowsRun before threads past
      → AreReplies (set_of before) threads past e told

-- the replies that are told together
abbrev pub told_by : Replies → List Reply
told_by r = replicate r.stepped Stepped ++ replicate r.times r.last

-- how often an event is told of that has this reply and is to happen so often: where nothing has
-- changed, nothing will
abbrev pub settled_times : Reply → ℕ → ℕ
settled_times reply count = if says_unchanged reply then count else 1

abbrev pub settled : Reply → ℕ → Replies
settled reply count = record { stepped = 0; last = reply; times = settled_times reply count }

-- the events that are still to come: what is left of a run, and those after it
abbrev pub awaited : Option Repeated → List Event → List Event
awaited None later = later
awaited (Some run) later = replicate run.count run.event ++ later
