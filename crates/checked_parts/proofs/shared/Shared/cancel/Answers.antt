use Rattle.std.proofs.Common.{◌≡◌, List}
use Rattle.model.specs.declared.world.CancelStep.{CancelStep}
use Rattle.model.specs.declared.world.CancelStep.TheVariants.{Acquire, SetFlag, Exchange}
use Rattle.model.specs.declared.world.Canceller.{Canceller}
use Rattle.model.specs.declared.world.Frame.{Frame}
use Rattle.model.specs.declared.world.Frame.TheVariants.{Cancel}
use Rattle.model.specs.Set.{Set}
use Rattle.model.specs.World.{Shared}
use Rattle.checked_parts.specs.declared.ran.Ran.{Ran}
use Rattle.checked_parts.specs.declared.ran.Runner.{Runner}
use Rattle.checked_parts.specs.Frames.{cancels_next}
use Rattle.checked_parts.specs.Ran.{left_of}
use Rattle.checked_parts.specs.Left.{frame_now}
use Rattle.checked_parts.proofs.shared.Shared.cancel.Goals as goal

-- a step of a frame that does this next
abbrev Steps : Set → Shared → Runner → Shared → Frame → Ran → List Frame → Type 0
Steps set s r after f ran below = left_of after f ran ≡ frame_now set s r below f

steps_as : (set : Set) (s : Shared) (r : Runner) (after : Shared) (c : Canceller)
    (step : CancelStep) (ran : Ran) (below : List Frame) → c.next ≡ step
    → Steps set s r after (cancels_next c.packet step) ran below
    → Steps set s r after (Cancel c) ran below
steps_as set s r after c step ran below is h = rw (← is) at h

pub returns-in-Acquire : goal.returns-in-Acquire
returns-in-Acquire c below =
    steps_as c.args.set.now c.args.self.now c.args.runner c.acquire_cancel.new.self
    c.args.canceller Acquire c.acquire_cancel.result below c.in-Acquire.is
    (c.acquire_cancel.ensures c.args.set.now below)

pub returns-in-SetFlag : goal.returns-in-SetFlag
returns-in-SetFlag c below =
    steps_as c.args.set.now c.args.self.now c.args.runner c.set_cancel.new.self
    c.args.canceller SetFlag c.set_cancel.result below c.in-SetFlag.is
    (c.set_cancel.ensures c.args.set.now below)

pub returns-in-Exchange : goal.returns-in-Exchange
returns-in-Exchange c below =
    steps_as c.args.set.now c.args.self.now c.args.runner c.call_cancel.new.self
    c.args.canceller Exchange c.call_cancel.result below c.in-Exchange.is
    (c.call_cancel.ensures below)
