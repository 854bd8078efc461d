-- An entry by what is stored of it.
use Rattle.std.specs.Prelude.{ℕ, Option, None, Some}
use Rattle.model.specs.declared.event.Event.{Event}
use Rattle.model.specs.declared.event.Event.TheVariants.{Issue as IssueEvent, Cancel as CancelEvent, Interrupt as InterruptEvent, Dpc as DpcEvent, StartIo as StartIoEvent, Step as StepEvent}
use Rattle.model.specs.declared.event.Reply.{Reply}
use Rattle.model.specs.declared.event.Reply.TheVariants.{Started as StartedReply, Stepped as SteppedReply, Finished as FinishedReply, Topped as ToppedReply, Waited as WaitedReply, Idle as IdleReply, Refused as RefusedReply}
use Rattle.model.specs.declared.history.Name.{Name}
use Rattle.hostcore.specs.declared.stored.Answer.{Answer}
use Rattle.hostcore.specs.declared.stored.Answer.TheVariants.{Started, Stepped, Finished, Topped, Waited, Idle, Refused}
use Rattle.hostcore.specs.declared.stored.Happened.{Happened}
use Rattle.hostcore.specs.declared.stored.Happened.TheVariants.{Issue, Cancel, Interrupt, Dpc, StartIo, Step}

-- the event that happened, on a thread, with the argument of a request or the packet of a cancel
abbrev pub event_as : Happened → ℕ → ℕ → Event
event_as (Issue device major) thread argument = IssueEvent thread device major argument
event_as (Cancel level) thread packet = CancelEvent thread packet level
event_as (Interrupt device) thread number = InterruptEvent device
event_as (Dpc device) thread number = DpcEvent thread device
event_as (StartIo device) thread number = StartIoEvent thread device
event_as Step thread number = StepEvent thread

-- the reply that was given, with a packet and its information
abbrev pub reply_as : Answer → ℕ → ℕ → Reply
reply_as Started packet info = StartedReply packet
reply_as Stepped packet info = SteppedReply
reply_as Finished packet info = FinishedReply
reply_as (Topped status) packet info = ToppedReply packet status info
reply_as Waited packet info = WaitedReply
reply_as Idle packet info = IdleReply
reply_as Refused packet info = RefusedReply

-- the name of a command, if there is one
abbrev pub name_as : Option ℕ → ℕ → Option Name
name_as None count = None
name_as (Some submitter) count = Some (record { submitter = submitter; count = count })
