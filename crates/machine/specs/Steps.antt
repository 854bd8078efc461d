-- Several steps of one thread, one after another, as machines show them.
use Rattle.std.specs.Prelude.{ℕ, ◌≡◌, ◌+◌, ◌<◌, ◌++◌, List, replicate}
use Rattle.model.specs.declared.event.Event.{Event}
use Rattle.model.specs.declared.event.Event.TheVariants.{Step}
use Rattle.model.specs.declared.event.Reply.{Reply}
use Rattle.model.specs.declared.event.Reply.TheVariants.{Stepped}
use Rattle.model.specs.Machine.{Shows, reply_to}
use Rattle.model.specs.Shown.{Shown}

-- so many steps of a thread
abbrev pub steps_of : ℕ → ℕ → List Event
steps_of t count = replicate count (Step t)

-- so many steps were made, and each replied that it stepped
pub record Stepping (before : Shown) (t made : ℕ) (m : Shown) : Type 0 where
  pub set : m.set ≡ before.set
  pub shows : (threads : ℕ) (events : List Event) → Shows before threads events
      → Shows m threads (events ++ steps_of t made)
  pub each : (threads : ℕ) (events : List Event) (k : ℕ) → Shows before threads events
      → k < made → reply_to before.set threads (events ++ steps_of t k) (Step t) ≡ Stepped

-- whatever run it showed, it shows that run with so many steps of a thread added; each of them but
-- the last replied that it stepped, and the last as is told
pub record MakesSteps (before : Shown) (t made : ℕ) (after : Shown) (reply : Reply) : Type 0 where
  pub set : after.set ≡ before.set
  pub shows : (threads : ℕ) (events : List Event) → Shows before threads events
      → Shows after threads (events ++ steps_of t made)
  pub earlier : (threads : ℕ) (events : List Event) (k : ℕ) → Shows before threads events
      → k + 1 < made → reply_to before.set threads (events ++ steps_of t k) (Step t) ≡ Stepped
  pub last : (threads : ℕ) (events : List Event) (k : ℕ) → Shows before threads events
      → k + 1 ≡ made → reply ≡ reply_to before.set threads (events ++ steps_of t k) (Step t)
