-- Plain steps: those of a routine at an instruction that leaves its frame where it stands and does
-- nothing to uses of stack locations, but may change or wait for what threads share.
use Rattle.std.specs.Prelude.{ℕ, ◌≡◌, ◌≢◌, ◌++◌, Bool, true, false, List, [], ◌∷◌, Option, None, Some}
use Rattle.model.specs.declared.event.Event.{Event}
use Rattle.model.specs.declared.event.Event.TheVariants.{Issue, Cancel as CancelEvent, Interrupt, Dpc as DpcEvent, StartIo as StartIoEvent, Step}
use Rattle.model.specs.declared.event.Reply.TheVariants.{Stepped}
use Rattle.model.specs.declared.instr.Instr.{Instr}
use Rattle.model.specs.declared.instr.Instr.TheVariants.{Acquire, AcquireCancel, Add, Arm, Begin, Call, Clear, Complete, Const, Dequeue, Disarm, End, Get, IfCancel, IfPending, Insert, Jump, JumpIfLess, JumpIfZero, Load, LoadPaged, Loop, Mark, Move, Next, Pass, Put, Release, ReleaseCancel, Remove, Ret, Start, Store, StorePaged, Subtract, Take, Unlink}
use Rattle.model.specs.declared.world.Frame.{Frame}
use Rattle.model.specs.declared.world.Frame.TheVariants.{Routine, Walk, Cancel as CancelFrame}
use Rattle.model.specs.Effect.{top_of}
use Rattle.model.specs.Machine.{reply_to}
use Rattle.model.specs.Run.{frames_on, run}
use Rattle.model.specs.Set.{Set, instruction_at}
use Rattle.model.specs.World.{World}
use Rattle.tell_uses.specs.Ledger.{LedgerState, Tells}

-- such an instruction, where a routine stands at one: each is named, so that a new one says whether
-- it is plain
abbrev pub is_plain_at : Option Instr → Bool
is_plain_at None = false
is_plain_at (Some (Const r n)) = true
is_plain_at (Some (Move r s)) = true
is_plain_at (Some (Clear r)) = true
is_plain_at (Some (Add r s)) = true
is_plain_at (Some (Subtract r s)) = true
is_plain_at (Some (JumpIfZero r label)) = true
is_plain_at (Some (JumpIfLess r s label)) = true
is_plain_at (Some (Jump label)) = true
is_plain_at (Some (Loop turns)) = true
is_plain_at (Some End) = true
is_plain_at (Some (Load r c)) = true
is_plain_at (Some (Store c r)) = true
is_plain_at (Some (LoadPaged r c)) = true
is_plain_at (Some (StorePaged c r)) = true
is_plain_at (Some (Get r s field)) = true
is_plain_at (Some (Put s r)) = true
is_plain_at (Some (Mark r)) = false
is_plain_at (Some (Acquire l)) = true
is_plain_at (Some (Release l)) = true
is_plain_at (Some AcquireCancel) = true
is_plain_at (Some ReleaseCancel) = true
is_plain_at (Some (Insert r q)) = true
is_plain_at (Some (Remove r q label)) = true
is_plain_at (Some (Unlink r q)) = true
is_plain_at (Some (Arm r q)) = true
is_plain_at (Some (Disarm r label)) = true
is_plain_at (Some (IfCancel r label)) = true
is_plain_at (Some (Start r)) = true
is_plain_at (Some (Take r label)) = true
is_plain_at (Some (Begin r)) = true
is_plain_at (Some Next) = true
is_plain_at (Some (Dequeue r)) = true
is_plain_at (Some (Pass r)) = false
is_plain_at (Some (Call r routine)) = false
is_plain_at (Some (Complete r status)) = false
is_plain_at (Some (IfPending r label)) = true
is_plain_at (Some (Ret form)) = false

-- the top frame's next step is one
abbrev pub is_plain_on : Set → Option Frame → Bool
is_plain_on set None = false
is_plain_on set (Some (Routine a)) = is_plain_at (instruction_at set a.driver a.routine a.position)
is_plain_on set (Some (Walk n)) = false
is_plain_on set (Some (CancelFrame c)) = false

-- an event is one
abbrev pub is_plain : Set → World → Event → Bool
is_plain set w (Issue t d major argument) = false
is_plain set w (CancelEvent t n level) = false
is_plain set w (Interrupt d) = false
is_plain set w (DpcEvent t d) = false
is_plain set w (StartIoEvent t d) = false
is_plain set w (Step t) = is_plain_on set (top_of (frames_on w t))

-- where it steps, a ledger that tells a run tells it with it added too
abbrev pub PlainStepsKeepLedgers : Type 0
PlainStepsKeepLedgers =
    (set : Set) (threads : ℕ) (events : List Event) (e : Event) (l : LedgerState)
    → is_plain set (run set threads events).world e ≡ true
    → reply_to set threads events e ≡ Stepped
    → Tells (run set threads events) l → Tells (run set threads (events ++ e ∷ [])) l

-- where it doesn't, the world is as it was
abbrev pub PlainStepsStepOrStay : Type 0
PlainStepsStepOrStay =
    (set : Set) (threads : ℕ) (events : List Event) (e : Event)
    → is_plain set (run set threads events).world e ≡ true
    → reply_to set threads events e ≢ Stepped
    → (run set threads (events ++ e ∷ [])).world ≡ (run set threads events).world
