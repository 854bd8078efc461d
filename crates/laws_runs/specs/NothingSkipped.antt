-- Nothing that counts of instructions and pending agreement go by is missing in a run, so that
-- neither passes something over: each frame has its tag, each use its number, and each action that
-- is about a use names it.
use Rattle.std.specs.Prelude.{ℕ, ⊤, ◌≡◌, ◌≤◌, List, length, Option, None, Some, All, slice_get}
use Rattle.model.specs.declared.event.Event.{Event}
use Rattle.model.specs.declared.set.Sort.TheVariants.{Dispatch}
use Rattle.model.specs.declared.world.Activation.{Activation}
use Rattle.model.specs.declared.world.Canceller.{Canceller}
use Rattle.model.specs.declared.world.Frame.TheVariants.{Routine, Walk, Cancel as CancelFrame}
use Rattle.model.specs.declared.world.Packet.{Packet}
use Rattle.model.specs.Action.{Action, OnLock, OnPacket, OnLocation, OfRoutine, Issue, Call, Up, Mark, Leave, Execute, TouchPaged, Return, GoWrong}
use Rattle.model.specs.Run.{frames_on, run, tags_on}
use Rattle.model.specs.Set.{Set, sort_of}
use Rattle.model.specs.Sound.{IsSound}
use Rattle.model.specs.Trace.{Entry, Serving, Tag, Managing, Activated, uses}
use Rattle.model.specs.Typable.{IsTypable}
use Rattle.model.specs.World.{packet_of}

-- a tag is an activation's, and one that serves a use
abbrev pub IsActivation : Tag → Type 0
IsActivation Managing = ⊥
IsActivation (Activated g driver routine serving) = ⊤

abbrev pub IsUse : Option Serving → Type 0
IsUse None = ⊥
IsUse (Some v) = ⊤

abbrev pub ServesUse : Tag → Type 0
ServesUse Managing = ⊥
ServesUse (Activated g driver routine serving) = IsUse serving

-- a location is numbered
abbrev pub HasLocation : Option ℕ → Type 0
HasLocation None = ⊥
HasLocation (Some u) = ⊤

-- what an entry of the trace says of the use that its action is about, or of who acts
abbrev pub SaysWho : Action → Entry → Type 0
SaysWho (OfRoutine Execute) e = IsActivation e.actor.tag
SaysWho (OfRoutine (Return status)) e = ServesUse e.actor.tag
SaysWho (OnLocation n (Issue stack)) e = HasLocation e.location
SaysWho (OnLocation n Call) e = HasLocation e.location
SaysWho (OnLocation n Mark) e = HasLocation e.location
SaysWho (OnLocation n Leave) e = HasLocation e.location
SaysWho (OnLocation packet Up) e = ⊤
SaysWho (OfRoutine (TouchPaged cell)) e = ⊤
SaysWho (OfRoutine GoWrong) e = ⊤
SaysWho (OnLock lock act) e = ⊤
SaysWho (OnPacket packet act) e = ⊤

-- the tag at a place of a thread whose frame there is a routine's: of that routine, and for a
-- dispatch routine with the use that it serves
pub record RoutineTag (set : Set) (tags : List Tag) (k : ℕ) (a : Activation) : Type 0 where
  pub number : ℕ
  pub serving : Option Serving
  pub there : slice_get tags k ≡ Some (Activated number a.driver a.routine serving)
  pub serves : sort_of set a.driver a.routine ≡ Dispatch → IsUse serving

-- a live packet has as many uses as it is deep, one at least
pub record HasUses (past : List Entry) (n : ℕ) (p : Packet) : Type 0 where
  pub count : length (uses past n) ≡ p.depth
  pub some : 1 ≤ p.depth

pub record SkipsNothing (set : Set) (threads : ℕ) (events : List Event) : Type 0 where
  pub tagged : (t : ℕ) → length (tags_on (run set threads events) t)
      ≡ length (frames_on (run set threads events).world t)
  pub routines : (t k : ℕ) (a : Activation)
      → slice_get (frames_on (run set threads events).world t) k ≡ Some (Routine a)
      → RoutineTag set (tags_on (run set threads events) t) k a
  pub managers : (t k n : ℕ) → slice_get (frames_on (run set threads events).world t) k
      ≡ Some (Walk n)
      → slice_get (tags_on (run set threads events) t) k ≡ Some Managing
  pub cancellers : (t k : ℕ) (c : Canceller)
      → slice_get (frames_on (run set threads events).world t) k ≡ Some (CancelFrame c)
      → slice_get (tags_on (run set threads events) t) k ≡ Some Managing
  pub packets : (n : ℕ) (p : Packet) → packet_of (run set threads events).world.shared n ≡ Some p
      → HasUses (run set threads events).past n p
  pub entries : All (λ (e : Entry). SaysWho e.action e) (run set threads events).past

abbrev pub NothingIsSkipped : Type 0
NothingIsSkipped =
    (set : Set) → IsTypable set → IsSound set
    → (threads : ℕ) (events : List Event)
    → SkipsNothing set threads events
