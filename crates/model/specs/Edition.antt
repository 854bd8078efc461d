-- The edition of a driver set: the first, which has no device queue whose packets can be cancelled,
-- or the second.
use Rattle.std.specs.Prelude.{ℕ, ◌||◌, Bool, true, false, is_some, if◌then◌else◌}
use Rattle.std.specs.List.{list_any}
use Rattle.model.specs.declared.instr.Instr.{Instr}
use Rattle.model.specs.declared.instr.Instr.TheVariants.{Acquire, AcquireCancel, Add, Arm, Begin, Call, Clear, Complete, Const, Dequeue, Disarm, End, Get, IfCancel, IfPending, Insert, Jump, JumpIfLess, JumpIfZero, Load, LoadPaged, Loop, Mark, Move, Next, Pass, Put, Release, ReleaseCancel, Remove, Ret, Start, Store, StorePaged, Subtract, Take, Unlink}
use Rattle.model.specs.declared.set.Driver.{Driver}
use Rattle.model.specs.declared.set.Routine.{Routine}
use Rattle.model.specs.Set.{Set}

-- whose rules are meant
pub data Edition : Type 0 where
  First : Edition
  Second : Edition

-- the one instruction of the second edition alone: each is named, so that a new one says of which
-- edition it is
abbrev pub is_dequeue : Instr → Bool
is_dequeue (Dequeue r) = true
is_dequeue (Const r n) = false
is_dequeue (Move r s) = false
is_dequeue (Clear r) = false
is_dequeue (Add r s) = false
is_dequeue (Subtract r s) = false
is_dequeue (JumpIfZero r label) = false
is_dequeue (JumpIfLess r s label) = false
is_dequeue (Jump label) = false
is_dequeue (Loop turns) = false
is_dequeue End = false
is_dequeue (Load r c) = false
is_dequeue (Store c r) = false
is_dequeue (LoadPaged r c) = false
is_dequeue (StorePaged c r) = false
is_dequeue (Get r s field) = false
is_dequeue (Put s r) = false
is_dequeue (Mark r) = false
is_dequeue (Acquire l) = false
is_dequeue (Release l) = false
is_dequeue AcquireCancel = false
is_dequeue ReleaseCancel = false
is_dequeue (Insert r q) = false
is_dequeue (Remove r q label) = false
is_dequeue (Unlink r q) = false
is_dequeue (Arm r q) = false
is_dequeue (Disarm r label) = false
is_dequeue (IfCancel r label) = false
is_dequeue (Start r) = false
is_dequeue (Take r label) = false
is_dequeue (Begin r) = false
is_dequeue Next = false
is_dequeue (Pass r) = false
is_dequeue (Call r routine) = false
is_dequeue (Complete r status) = false
is_dequeue (IfPending r label) = false
is_dequeue (Ret form) = false

abbrev pub dequeues : Routine → Bool
dequeues routine = list_any is_dequeue routine.code

-- a driver that names a cancel routine for its device queue, or takes a packet off it by name
abbrev pub is_of_second : Driver → Bool
is_of_second d = is_some d.startio_cancel || list_any dequeues d.routines

abbrev pub edition_of : Set → ℕ
edition_of set = if list_any is_of_second set.drivers then 2 else 1
