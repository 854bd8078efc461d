-- A step of a seat's thread.
use Rattle.std.specs.Prelude.{ℕ, ◌≡◌, ◌≢◌, Bool, true, false, None, length}
use Rattle.model.specs.declared.event.Event.TheVariants.{Step}
use Rattle.model.specs.declared.event.Reply.{Reply}
use Rattle.model.specs.declared.event.Reply.TheVariants.{Started, Stepped as SteppedReply, Finished, Topped, Waited, Idle as IdleReply, Refused, Bug, Wrong}
use Rattle.model.specs.History.{is_kept}
use Rattle.model.specs.View.{busy_at}
use Rattle.hostcore.specs.Core.{CoreState, entry_in, reply_in, with_entry, world_of}
use Rattle.hostcore.specs.declared.host_core.Stepped.{Stepped}
use Rattle.hostcore.specs.declared.host_core.Stepped.TheVariants.{Entered, Full, Idle, Waits}

-- the reply to a step of a thread without frames, or of no thread
abbrev pub is_of_none : Reply → Bool
is_of_none (Started packet) = false
is_of_none SteppedReply = false
is_of_none Finished = false
is_of_none (Topped packet status info) = false
is_of_none Waited = false
is_of_none IdleReply = true
is_of_none Refused = true
is_of_none (Bug bug) = false
is_of_none (Wrong place) = false

-- a thread with frames makes a step where the history has room, and it is one entry more unless the
-- thread waits
pub record Makes (before : CoreState) (t : ℕ) (enters : Bool) : Type 0 where
  pub busy : busy_at (world_of before) t ≡ true
  pub room : length before.history ≢ before.log
  pub kept : is_kept (reply_in before (Step t)) ≡ enters

-- what a step of a thread comes to
abbrev pub Steps : CoreState → ℕ → CoreState → Stepped → Type 0
Steps before t after Idle = (busy_at (world_of before) t ≡ false) × (after ≡ before)
Steps before t after Entered =
    Makes before t true × (after ≡ with_entry before (entry_in before t (Step t) None))
Steps before t after Waits = Makes before t false × (after ≡ before)
Steps before t after Full =
    (busy_at (world_of before) t ≡ true) × (length before.history ≡ before.log)
    × (after ≡ before)
