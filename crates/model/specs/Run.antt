-- The run of a list of events, and its trace. A bug check or a wrong operand stops the run: the
-- world stays as it was, and every later event is refused without actions.
use Rattle.std.specs.Prelude.{ℕ, ◌+◌, ◌-◌, Bool, true, false, List, [], ◌∷◌, length, Option, None, Some, slice_get, slice_set, slice_index_or, replicate, if◌then◌else◌}
use Rattle.model.specs.declared.set.Sort.{Sort}
use Rattle.model.specs.declared.set.Sort.TheVariants.{Dispatch, StartIo, Dpc, Propagate, Hold, Cancel}
use Rattle.model.specs.declared.world.Activation.{Activation}
use Rattle.model.specs.declared.world.Irql.{Irql}
use Rattle.model.specs.declared.world.Irql.TheVariants.{Passive}
use Rattle.model.specs.declared.world.Frame.{Frame}
use Rattle.model.specs.declared.world.Frame.TheVariants.{Routine, Walk, Cancel as CancelFrame}
use Rattle.model.specs.declared.world.Thread.{Thread}
use Rattle.model.specs.declared.world.Value.{Value}
use Rattle.model.specs.declared.world.Value.TheVariants.{Blank, Num, Ref, Status as StatusValue}
use Rattle.model.specs.declared.event.Event.{Event}
use Rattle.model.specs.declared.event.Event.TheVariants.{Issue, Cancel as CancelEvent, Interrupt, Dpc as DpcEvent, StartIo as StartIoEvent, Step}
use Rattle.model.specs.declared.event.Bug.{Bug}
use Rattle.model.specs.declared.event.Reply.{Reply}
use Rattle.model.specs.declared.event.Reply.TheVariants.{Started, Stepped, Finished, Topped, Waited, Idle, Refused, Bug as BugCheckReply, Wrong}
use Rattle.model.specs.Events.{Change, effect}
use Rattle.model.specs.Fault.{first_fault}
use Rattle.model.specs.Set.{Set, sort_of}
use Rattle.model.specs.Trace.{Entry, Actor, Tag, Managing, Activated, Serving, current_use, recorded}
use Rattle.model.specs.World.{World, opening, register}

-- a run so far: its world, its trace with the newest action first, the tags of the frames that
-- stand, how many activations there were, and whether it has stopped
pub record Run : Type 0 where
  pub world : World
  pub past : List Entry
  pub tags : List (List Tag)
  pub activations : ℕ
  pub stopped : Bool

-- the run of no events
abbrev pub begun : Set → ℕ → Run
begun set threads =
    record {
      world = opening (length set.devices) threads;
      past = [];
      tags = replicate threads [];
      activations = 0;
      stopped = false;
    }

-- the thread that an event is about, if it is about one
abbrev pub thread_of : Event → Option ℕ
thread_of (Issue t d major argument) = Some t
thread_of (CancelEvent t n level) = Some t
thread_of (Interrupt d) = None
thread_of (DpcEvent t d) = Some t
thread_of (StartIoEvent t d) = Some t
thread_of (Step t) = Some t

abbrev pub frames_of : Option Thread → List Frame
frames_of None = []
frames_of (Some thread) = thread.frames.items

abbrev pub root_of : Option Thread → Irql
root_of None = Passive
root_of (Some thread) = thread.root

-- the frames of a thread, and their tags
abbrev pub frames_on : World → ℕ → List Frame
frames_on w t = frames_of (slice_get w.threads t)

abbrev pub tags_on : Run → ℕ → List Tag
tags_on r t = slice_index_or r.tags t []

-- the tag of a thread's top frame; an event on an idle thread is the I/O manager's
abbrev pub top_tag : List Tag → Tag
top_tag tags = slice_index_or tags (length tags - 1) Managing

-- who acts in an event on a thread
abbrev pub actor_on : Run → ℕ → Actor
actor_on r t =
    record { thread = t; root = root_of (slice_get r.world.threads t); tag = top_tag (tags_on r t) }

-- a dispatch activation serves the current use of the packet that it was handed in its first
-- register; no other one serves a use
abbrev pub serving_with : Option ℕ → ℕ → Option Serving
serving_with None n = None
serving_with (Some u) n = Some (record { packet = n; «use» = u })

abbrev pub serving_in : List Entry → Value → Option Serving
serving_in past (Ref n) = serving_with (current_use past n) n
serving_in past Blank = None
serving_in past (Num n) = None
serving_in past (StatusValue status) = None

abbrev pub serving_by : List Entry → Activation → Sort → Option Serving
serving_by past a Dispatch = serving_in past (register a 0)
serving_by past a StartIo = None
serving_by past a Dpc = None
serving_by past a Propagate = None
serving_by past a Hold = None
serving_by past a Cancel = None

-- the tag of a frame that is new at its place: a routine's is the next activation
abbrev pub new_tag : Set → List Entry → ℕ → Frame → Tag
new_tag set past number (Routine a) =
    Activated number a.driver a.routine (serving_by past a (sort_of set a.driver a.routine))
new_tag set past number (Walk n) = Managing
new_tag set past number (CancelFrame c) = Managing

abbrev pub counted_new : Frame → ℕ → ℕ
counted_new (Routine a) number = number + 1
counted_new (Walk n) number = number
counted_new (CancelFrame c) number = number

-- a frame keeps its tag exactly where the one before it at its place was a routine's too
abbrev pub kept_tag : Set → List Entry → ℕ → Frame → Tag → Frame → Tag
kept_tag set past number (Routine b) tag (Routine a) = tag
kept_tag set past number (Routine b) tag (Walk n) = Managing
kept_tag set past number (Routine b) tag (CancelFrame c) = Managing
kept_tag set past number (Walk m) tag f = new_tag set past number f
kept_tag set past number (CancelFrame c) tag f = new_tag set past number f

abbrev pub counted_kept : Frame → Frame → ℕ → ℕ
counted_kept (Routine b) f number = number
counted_kept (Walk m) f number = counted_new f number
counted_kept (CancelFrame c) f number = counted_new f number

-- the tags of the frames that stand after an event, where others stood with theirs
abbrev pub tags_after : Set → List Entry → ℕ → List Frame → List Tag → List Frame → List Tag
tags_after set past number old tags [] = []
tags_after set past number [] tags (f ∷ frames) =
    new_tag set past number f ∷ tags_after set past (counted_new f number) [] [] frames
tags_after set past number (o ∷ old) [] (f ∷ frames) =
    new_tag set past number f ∷ tags_after set past (counted_new f number) old [] frames
tags_after set past number (o ∷ old) (tag ∷ tags) (f ∷ frames) =
    kept_tag set past number o tag f ∷ tags_after set past (counted_kept o f number) old tags frames

-- how many activations there are then
abbrev pub activations_after : ℕ → List Frame → List Frame → ℕ
activations_after number old [] = number
activations_after number [] (f ∷ frames) = activations_after (counted_new f number) [] frames
activations_after number (o ∷ old) (f ∷ frames) =
    activations_after (counted_kept o f number) old frames

-- a run with the reply to its last event
pub record Answered : Type 0 where
  pub run : Run
  pub reply : Reply

-- the event is refused: nothing changes
abbrev pub refused : Run → Answered
refused r = record { run = r; reply = Refused }

-- the run stops with the event's actions in its trace
abbrev pub stops : Run → List Entry → Reply → Answered
stops r past reply = record { run = record r { past = past; stopped = true }; reply = reply }

-- the run goes on in the event's world
abbrev pub goes : Set → Run → ℕ → List Entry → Change → Answered
goes set r t past c =
    record {
      run =
          record {
            world = c.world;
            past = past;
            tags =
                slice_set r.tags t
                (tags_after set past r.activations (frames_on r.world t) (tags_on r t)
                (frames_on c.world t));
            activations =
                activations_after r.activations (frames_on r.world t) (frames_on c.world t);
            stopped = false;
          };
      reply = c.reply;
    }

-- a step that would pass a bound is refused
abbrev pub unless_over : Set → Run → ℕ → List Entry → Change → Answered
unless_over set r t past c = if c.over then refused r else goes set r t past c

-- a wrong operand stops the run
abbrev pub unless_wrong : Set → Run → ℕ → List Entry → Change → Reply → Answered
unless_wrong set r t past c (Wrong place) = stops r past (Wrong place)
unless_wrong set r t past c (Started packet) = unless_over set r t past c
unless_wrong set r t past c Stepped = unless_over set r t past c
unless_wrong set r t past c Finished = unless_over set r t past c
unless_wrong set r t past c (Topped packet status info) = unless_over set r t past c
unless_wrong set r t past c Waited = unless_over set r t past c
unless_wrong set r t past c Idle = unless_over set r t past c
unless_wrong set r t past c Refused = unless_over set r t past c
unless_wrong set r t past c (BugCheckReply bug) = unless_over set r t past c

-- a bug check stops the run. No event both makes one and goes wrong: a step that goes wrong does
-- nothing else
abbrev pub unless_fault : Set → Run → ℕ → List Entry → Change → Option Bug → Answered
unless_fault set r t past c (Some bug) = stops r past (BugCheckReply bug)
unless_fault set r t past c None = unless_wrong set r t past c c.reply

abbrev pub judged : Set → Run → Actor → Change → Answered
judged set r actor c =
    unless_fault set r actor.thread (recorded r.past actor c.actions) c
    (first_fault r.past actor c.actions)

-- an event that is about no thread makes no action, and leaves all frames with their tags
abbrev pub answered_on : Set → Run → Change → Option ℕ → Answered
answered_on set r c None = record { run = record r { world = c.world }; reply = c.reply }
answered_on set r c (Some t) = judged set r (actor_on r t) c

-- one event
abbrev pub step : Set → Run → Event → Answered
step set r e = if r.stopped then refused r else answered_on set r (effect set r.world e)
    (thread_of e)

-- the run of a list of events, from a run so far
abbrev pub run_from : Set → Run → List Event → Run
run_from set r [] = r
run_from set r (e ∷ events) = run_from set (step set r e).run events

-- the run of a list of events over a set and a number of threads
abbrev pub run : Set → ℕ → List Event → Run
run set threads events = run_from set (begun set threads) events
