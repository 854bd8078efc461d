-- What a ring of threads shows, whether locks have an order or not: all of its threads are in
-- routines for one device, and where they stand is a cycle in the order in which the device's driver
-- takes locks.
use Rattle.std.specs.Prelude.{ℕ, ◌≡◌, ⊤, List, [], ◌∷◌, Some}
use Rattle.model.specs.declared.event.Event.{Event}
use Rattle.model.specs.declared.event.Lock.{Lock}
use Rattle.model.specs.declared.event.Lock.TheVariants.{SystemCancel, Spin}
use Rattle.model.specs.declared.set.Guard.{Guard}
use Rattle.model.specs.declared.set.Guard.TheVariants.{DeviceLock, CancelLock}
use Rattle.model.specs.declared.world.Activation.{Activation}
use Rattle.model.specs.declared.world.Frame.TheVariants.{Routine}
use Rattle.model.specs.Effect.{top_of}
use Rattle.model.specs.Run.{frames_on, run}
use Rattle.model.specs.Set.{Set}
use Rattle.model.specs.Sound.{IsSound}
use Rattle.model.specs.Typable.{IsTypable}
use Rattle.model.specs.World.{World}
use Rattle.laws_runs.specs.Order.{TakesUnder}
use Rattle.laws_runs.specs.Waiting.{WaitInTurn, sought_on, waits_for}

-- a lock by its name
abbrev pub name_of : Lock → Guard
name_of SystemCancel = CancelLock
name_of (Spin l) = DeviceLock l.number

-- a thread that is waited for and waits itself: its routine takes the lock that it waits for under
-- the one that is waited for, where it stands
pub record Links (set : Set) (w : World) (t u : ℕ) : Type 0 where
  pub routine : Activation
  pub top : top_of (frames_on w u) ≡ Some (Routine routine)
  pub held : Lock
  pub taken : Lock
  pub awaited : sought_on set w t ≡ Some held
  pub sought : sought_on set w u ≡ Some taken
  pub under : TakesUnder set routine.driver (name_of held) (name_of taken)
  pub number : under.number ≡ routine.routine
  pub position : under.position ≡ routine.position

-- a thread's top frame is a routine's for a device
pub record IsFor (w : World) (d t : ℕ) : Type 0 where
  pub routine : Activation
  pub top : top_of (frames_on w t) ≡ Some (Routine routine)
  pub device : routine.device ≡ d

abbrev pub AllFor : World → ℕ → List ℕ → Type 0
AllFor w d [] = ⊤
AllFor w d (t ∷ threads) = IsFor w d t × AllFor w d threads

pub record RingsShowCycles (set : Set) (threads : ℕ) (events : List Event) : Type 0 where
  pub links : (t u v : ℕ) → waits_for set (run set threads events).world t ≡ Some u
      → waits_for set (run set threads events).world u ≡ Some v
      → Links set (run set threads events).world t u
  pub device : (t : ℕ) (between : List ℕ)
      → WaitInTurn set (run set threads events).world t between t
      → (d : ℕ) × AllFor (run set threads events).world d (t ∷ between)

abbrev pub AcceptedRingsAreAtOneDevice : Type 0
AcceptedRingsAreAtOneDevice =
    (set : Set) → IsTypable set → IsSound set
    → (threads : ℕ) (events : List Event)
    → RingsShowCycles set threads events
