-- The trace of a run: its actions, newest first, each with the thread and the frame that did it.
-- Activations and uses of stack locations are numbered here, and not in the machines.
use Rattle.std.specs.Prelude.{ℕ, ◌++◌, ◌+◌, List, [], ◌∷◌, Option, None, Some, nat_eq, drop, option_to_list, slice_get, if◌then◌else◌}
use Rattle.model.specs.declared.world.Irql.{Irql}
use Rattle.model.specs.Action.{Action, OnLock, OnPacket, OnLocation, OfRoutine, Issue, Call, Up, Mark, Leave}

-- the use of a packet's location that a dispatch activation serves
pub record Serving : Type 0 where
  pub packet : ℕ
  pub «use» : ℕ

-- what the run knows a frame by: the I/O manager's frames have no number, and each routine frame
-- is an activation with a number of its own, of a routine of a driver
pub data Tag : Type 0 where
  Managing : Tag
  Activated : (activation : ℕ) (driver routine : ℕ) (serving : Option Serving) → Tag

-- who acts: a thread, at the level of its lowest frame, by its top frame
pub record Actor : Type 0 where
  pub thread : ℕ
  pub root : Irql
  pub tag : Tag

-- one action of the trace: a new use for an issue and a call, the location's use for a mark and a
-- leave
pub record Entry : Type 0 where
  pub actor : Actor
  pub location : Option ℕ
  pub action : Action

-- how many uses were opened
abbrev pub opens : Action → ℕ → ℕ
opens (OnLocation n (Issue stack)) count = count + 1
opens (OnLocation n Call) count = count + 1
opens (OnLocation packet Up) count = count
opens (OnLocation packet Mark) count = count
opens (OnLocation packet Leave) count = count
opens (OnLock lock act) count = count
opens (OnPacket packet act) count = count
opens (OfRoutine act) count = count

abbrev pub uses_opened : List Entry → ℕ
uses_opened [] = 0
uses_opened (e ∷ past) = opens e.action (uses_opened past)

-- the uses of a packet's locations down to the current one, the current one first
abbrev pub uses_after : Action → ℕ → Option ℕ → List ℕ → List ℕ
uses_after (OnLocation m (Issue stack)) n opened before =
    if nat_eq m n then option_to_list opened else before
uses_after (OnLocation m Call) n opened before =
    if nat_eq m n then option_to_list opened ++ before else before
uses_after (OnLocation m Up) n opened before = if nat_eq m n then drop 1 before else before
uses_after (OnLocation packet Mark) n opened before = before
uses_after (OnLocation packet Leave) n opened before = before
uses_after (OnLock lock act) n opened before = before
uses_after (OnPacket packet act) n opened before = before
uses_after (OfRoutine act) n opened before = before

abbrev pub uses : List Entry → ℕ → List ℕ
uses [] n = []
uses (e ∷ past) n = uses_after e.action n e.location (uses past n)

abbrev pub current_use : List Entry → ℕ → Option ℕ
current_use past n = slice_get (uses past n) 0

-- the use that an action is about, after a past
abbrev pub use_of : List Entry → Action → Option ℕ
use_of past (OnLocation n (Issue stack)) = Some (uses_opened past)
use_of past (OnLocation n Call) = Some (uses_opened past)
use_of past (OnLocation n Mark) = current_use past n
use_of past (OnLocation n Leave) = current_use past n
use_of past (OnLocation packet Up) = None
use_of past (OnLock lock act) = None
use_of past (OnPacket packet act) = None
use_of past (OfRoutine act) = None

abbrev pub entry : List Entry → Actor → Action → Entry
entry past actor action = record { actor = actor; location = use_of past action; action = action }

-- the past after the actions of an event, in order
abbrev pub recorded : List Entry → Actor → List Action → List Entry
recorded past actor [] = past
recorded past actor (action ∷ actions) = recorded (entry past actor action ∷ past) actor actions
