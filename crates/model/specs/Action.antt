-- What a step does, as far as the rules on runs look at it: to a lock, to a packet, to a packet's
-- locations, or by a routine itself. A rule that looks at one of these has one case for each other.
use Rattle.std.specs.Prelude.{ℕ, Bool}
use Rattle.model.specs.declared.event.Lock.{Lock}
use Rattle.model.specs.declared.event.OfDevice.{OfDevice}
use Rattle.model.specs.declared.status.Status.{Status}

-- the thread becomes the owner of a lock, or gives it back
pub data LockAct : Type 0 where
  Acquire : LockAct
  Release : LockAct

pub data PacketAct : Type 0 where
  -- a packet is looked at or written to
  Touch : PacketAct
  -- IoCompleteRequest is called for it
  Complete : PacketAct
  -- a completion routine that held it lets its completion go on, or is lent it
  Continue : PacketAct
  Lend : PacketAct
  -- its cancel routine is exchanged, for one or for none
  Exchange : (stores : Bool) → PacketAct
  -- it tops out: its completion has left its first location
  TopOut : PacketAct

pub data LocationAct : Type 0 where
  -- a packet with so many locations is issued, which opens a use of its first location
  Issue : (stack : ℕ) → LocationAct
  -- it is sent down in a new location, which opens a use of it
  Call : LocationAct
  -- the location above the current one becomes current
  Up : LocationAct
  -- its current location is marked pending
  Mark : LocationAct
  -- completion leaves its current location
  Leave : LocationAct

pub data RoutineAct : Type 0 where
  -- the activation executes an instruction
  Execute : RoutineAct
  -- a paged cell is read or written
  TouchPaged : (cell : OfDevice) → RoutineAct
  -- a dispatch activation returns a status
  Return : (status : Status) → RoutineAct
  -- an operand is of a wrong kind, or the position is outside the routine
  GoWrong : RoutineAct

pub data Action : Type 0 where
  OnLock : (lock : Lock) (act : LockAct) → Action
  OnPacket : (packet : ℕ) (act : PacketAct) → Action
  OnLocation : (packet : ℕ) (act : LocationAct) → Action
  OfRoutine : (act : RoutineAct) → Action

-- each of them, by the verb that the effects name it by
abbrev pub Acquires : Lock → Action
Acquires lock = OnLock lock Acquire

abbrev pub Releases : Lock → Action
Releases lock = OnLock lock Release

abbrev pub Touches : ℕ → Action
Touches n = OnPacket n Touch

abbrev pub Completes : ℕ → Action
Completes n = OnPacket n Complete

abbrev pub Continues : ℕ → Action
Continues n = OnPacket n Continue

abbrev pub Lends : ℕ → Action
Lends n = OnPacket n Lend

abbrev pub Exchanges : ℕ → Bool → Action
Exchanges n stores = OnPacket n (Exchange stores)

abbrev pub TopsOut : ℕ → Action
TopsOut n = OnPacket n TopOut

abbrev pub Issues : ℕ → ℕ → Action
Issues n stack = OnLocation n (Issue stack)

abbrev pub Calls : ℕ → Action
Calls n = OnLocation n Call

abbrev pub Ups : ℕ → Action
Ups n = OnLocation n Up

abbrev pub Marks : ℕ → Action
Marks n = OnLocation n Mark

abbrev pub Leaves : ℕ → Action
Leaves n = OnLocation n Leave

abbrev pub Executes : Action
Executes = OfRoutine Execute

abbrev pub TouchesPaged : OfDevice → Action
TouchesPaged cell = OfRoutine (TouchPaged cell)

abbrev pub Returns : Status → Action
Returns status = OfRoutine (Return status)

abbrev pub GoesWrong : Action
GoesWrong = OfRoutine GoWrong
