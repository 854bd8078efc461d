-- What an event does to uses of stack locations, by what stands before it, if it isn't refused.
use Rattle.std.specs.Prelude.{ℕ, Bool, true, false, List, [], ◌∷◌, Option, None, Some, nat_lt, if◌then◌else◌}
use Rattle.model.specs.declared.event.Event.{Event}
use Rattle.model.specs.declared.event.Event.TheVariants.{Issue as IssueEvent, Cancel as CancelEvent, Interrupt, Dpc as DpcEvent, StartIo as StartIoEvent, Step}
use Rattle.model.specs.declared.instr.Instr.{Instr}
use Rattle.model.specs.declared.instr.Instr.TheVariants.{Mark as MarkInstr, Call as CallInstr, Ret}
use Rattle.model.specs.declared.instr.Return.{Return as ReturnForm}
use Rattle.model.specs.declared.instr.Return.TheVariants.{WithStatus, Lower}
use Rattle.model.specs.declared.set.Sort.{Sort}
use Rattle.model.specs.declared.set.Sort.TheVariants.{Dispatch}
use Rattle.model.specs.declared.status.Status.{Status}
use Rattle.model.specs.declared.world.Activation.{Activation}
use Rattle.model.specs.declared.world.Completion.{Completion}
use Rattle.model.specs.declared.world.Frame.{Frame}
use Rattle.model.specs.declared.world.Frame.TheVariants.{Routine, Walk, Cancel as CancelFrame}
use Rattle.model.specs.declared.world.Packet.{Packet}
use Rattle.model.specs.Action.{Action, Issues, Calls, Ups, Marks, Leaves, Returns}
use Rattle.model.specs.Effect.{top_of}
use Rattle.model.specs.Run.{frames_on}
use Rattle.model.specs.Set.{Set, instruction_at, lower_of, sort_of}
use Rattle.model.specs.World.{Shared, World, completion_of, current_location, is_marked, packet_in, packet_of, register, status_in}
use Rattle.tell_uses.specs.declared.acts.Onward.{Onward}
use Rattle.tell_uses.specs.declared.acts.Onward.TheVariants.{Up, UpMarked, Out}
use Rattle.tell_uses.specs.declared.acts.UseStep.{UseStep}
use Rattle.tell_uses.specs.declared.acts.UseStep.TheVariants.{Nothing, Issue, Call, Mark, Leave, Return}

-- the actions that it is
abbrev pub leave_actions : ℕ → Onward → List Action
leave_actions n Up = Leaves n ∷ Ups n ∷ []
leave_actions n UpMarked = Leaves n ∷ Ups n ∷ Marks n ∷ []
leave_actions n Out = Leaves n ∷ []

abbrev pub actions_of : UseStep → List Action
actions_of Nothing = []
actions_of (Issue n) = Issues n 0 ∷ []
actions_of (Call n) = Calls n ∷ []
actions_of (Mark n) = Marks n ∷ []
actions_of (Leave n onward) = leave_actions n onward
actions_of (Return status) = Returns status ∷ []

-- the packet in a register, if it is live
abbrev pub found_live : ℕ → Option Packet → Option ℕ
found_live n None = None
found_live n (Some p) = Some n

abbrev pub live_of : Shared → Option ℕ → Option ℕ
live_of s None = None
live_of s (Some n) = found_live n (packet_of s n)

abbrev pub live_in : Shared → Activation → ℕ → Option ℕ
live_in s a r = live_of s (packet_in s (register a r))

-- instructions
abbrev pub marks_packet : Option ℕ → UseStep
marks_packet None = Nothing
marks_packet (Some n) = Mark n

abbrev pub calls_packet : Option ℕ → Option ℕ → UseStep
calls_packet lower None = Nothing
calls_packet None (Some n) = Nothing
calls_packet (Some lower) (Some n) = Call n

abbrev pub status_by : Sort → Activation → ReturnForm → Option Status
status_by Dispatch a (WithStatus status) = Some status
status_by Dispatch a (Lower r) = status_in (register a r)
status_by Dispatch a form = None
status_by sort a form = None

abbrev pub returns_status : Option Status → UseStep
returns_status None = Nothing
returns_status (Some status) = Return status

abbrev pub instruction_uses : Set → Shared → Activation → Option Instr → UseStep
instruction_uses set s a None = Nothing
instruction_uses set s a (Some (MarkInstr r)) = marks_packet (live_in s a r)
instruction_uses set s a (Some (CallInstr r f)) =
    calls_packet (lower_of set a.device) (live_in s a r)
instruction_uses set s a (Some (Ret form)) =
    returns_status (status_by (sort_of set a.driver a.routine) a form)
instruction_uses set s a (Some i) = Nothing

-- an instruction that may do anything, where a routine stands at one
abbrev pub may_use : Option Instr → Bool
may_use None = true
may_use (Some (MarkInstr r)) = true
may_use (Some (CallInstr r f)) = true
may_use (Some (Ret form)) = true
may_use (Some i) = false

-- completion
abbrev pub onward_of : Packet → Option Completion → Onward
onward_of p (Some c) = Up
onward_of p None =
    if nat_lt 1 p.depth then (if is_marked (current_location p) then UpMarked else Up) else Out

abbrev pub leaves_packet : ℕ → Option Packet → UseStep
leaves_packet n None = Nothing
leaves_packet n (Some p) = Leave n (onward_of p (completion_of (current_location p)))

-- the top frame
abbrev pub frame_uses : Set → Shared → Option Frame → UseStep
frame_uses set s None = Nothing
frame_uses set s (Some (Routine a)) =
    instruction_uses set s a (instruction_at set a.driver a.routine a.position)
frame_uses set s (Some (Walk n)) = leaves_packet n (packet_of s n)
frame_uses set s (Some (CancelFrame c)) = Nothing

-- an event
abbrev pub use_step : Set → World → Event → UseStep
use_step set w (IssueEvent t d major argument) = Issue w.shared.issued
use_step set w (CancelEvent t n level) = Nothing
use_step set w (Interrupt d) = Nothing
use_step set w (DpcEvent t d) = Nothing
use_step set w (StartIoEvent t d) = Nothing
use_step set w (Step t) = frame_uses set w.shared (top_of (frames_on w t))
