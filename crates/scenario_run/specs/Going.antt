-- Steps that a thread makes one after another in a scenario.
use Rattle.std.specs.Prelude.{ℕ, suc, ◌≡◌, ◌++◌, false, Option, None, Some, replicate}
use Rattle.checked.specs.GoingOn.{StepsAlone}
use Rattle.model.specs.declared.event.Event.TheVariants as event
use Rattle.model.specs.declared.event.Reply.TheVariants.{Stepped}
use Rattle.model.specs.Machine.{AppliesWhole, Machine}
use Rattle.scenario_world.specs.declared.until.Until.{Until}
use Rattle.scenario_world.specs.Until.{MaySteps, is_before, wakes}
use Rattle.scenario_run.specs.declared.playing.Outcome.{Outcome}
use Rattle.scenario_run.specs.declared.playing.Outcome.TheVariants.{Done}
use Rattle.scenario_run.specs.Playing.{Playing, one, world_of}

-- so many steps of a thread are applied to a machine, one after another: each replies that the thread
-- stepped, changes nothing but the activation on its top, and doesn't end them
pub data Strides (until : Until) (t : ℕ) (m : Machine) : ℕ → Machine → Type 0 where
  halts : Strides until t m 0 m
  strides : (k : ℕ) (n o : Machine) → Strides until t m k n
      → AppliesWhole n (event.Step t) o Stepped → StepsAlone n.set n.world t o.world
      → is_before until n.set n.world t ≡ false → wakes until o.set o.world t ≡ false
      → Strides until t m (suc k) o

-- a thread has made so many steps, and none has ended them: before each it had frames, and each was
-- done
pub data GoesAhead (until : Until) (t : ℕ) (p : Playing) : ℕ → Playing → Type 0 where
  rests : GoesAhead until t p 0 p
  moves : (k : ℕ) (q o : Playing) → GoesAhead until t p k q
      → MaySteps until q.set (world_of q) t
      → record { now = o; outcome = Done } ≡ one q (event.Step t)
      → wakes until o.set (world_of o) t ≡ false → GoesAhead until t p (suc k) o

-- so many, and one behind them, before which it had frames too, and which went so
pub record Ends (until : Until) (t : ℕ) (p : Playing) (made : ℕ) (outcome : Outcome) (q : Playing)
    : Type 0 where
  pub before : Playing
  pub ahead : GoesAhead until t p made before
  pub may : MaySteps until before.set (world_of before) t
  pub ends : record { now = q; outcome = outcome } ≡ one before (event.Step t)

-- so many, and one behind them if this is how it went
abbrev pub Gone : Until → ℕ → Playing → ℕ → Option Outcome → Playing → Type 0
Gone until t p made None q = GoesAhead until t p made q
Gone until t p made (Some outcome) q = Ends until t p made outcome q

-- with so many steps of a thread more
abbrev pub with_steps : Playing → ℕ → ℕ → Playing
with_steps p t k = record p { events = p.events ++ replicate k (event.Step t) }
