-- At which levels IoCancelIrp is tried: at DISPATCH_LEVEL too where a routine that may run below it
-- touches paged cells.
use Rattle.std.specs.Prelude.{◌&&◌, Bool, true, false}
use Rattle.std.specs.List.{list_any}
use Rattle.model.specs.declared.instr.Instr.{Instr}
use Rattle.model.specs.declared.instr.Instr.TheVariants.{Acquire, AcquireCancel, Add, Arm, Begin, Call, Clear, Complete, Const, Dequeue, Disarm, End, Get, IfCancel, IfPending, Insert, Jump, JumpIfLess, JumpIfZero, Load, LoadPaged, Loop, Mark, Move, Next, Pass, Put, Release, ReleaseCancel, Remove, Ret, Start, Store, StorePaged, Subtract, Take, Unlink}
use Rattle.model.specs.declared.set.Driver.{Driver}
use Rattle.model.specs.declared.set.Routine.{Routine}
use Rattle.model.specs.declared.set.Sort.{Sort}
use Rattle.model.specs.declared.set.Sort.TheVariants.{Dispatch, StartIo, Dpc, Propagate, Hold, Cancel}
use Rattle.model.specs.Set.{Set}

-- each instruction is named, so that a new one says whether it touches a paged cell
abbrev pub touches_paged : Instr → Bool
touches_paged (LoadPaged r c) = true
touches_paged (StorePaged c r) = true
touches_paged (Dequeue r) = false
touches_paged (Const r n) = false
touches_paged (Move r s) = false
touches_paged (Clear r) = false
touches_paged (Add r s) = false
touches_paged (Subtract r s) = false
touches_paged (JumpIfZero r label) = false
touches_paged (JumpIfLess r s label) = false
touches_paged (Jump label) = false
touches_paged (Loop turns) = false
touches_paged End = false
touches_paged (Load r c) = false
touches_paged (Store c r) = false
touches_paged (Get r s field) = false
touches_paged (Put s r) = false
touches_paged (Mark r) = false
touches_paged (Acquire l) = false
touches_paged (Release l) = false
touches_paged AcquireCancel = false
touches_paged ReleaseCancel = false
touches_paged (Insert r q) = false
touches_paged (Remove r q label) = false
touches_paged (Unlink r q) = false
touches_paged (Arm r q) = false
touches_paged (Disarm r label) = false
touches_paged (IfCancel r label) = false
touches_paged (Start r) = false
touches_paged (Take r label) = false
touches_paged (Begin r) = false
touches_paged Next = false
touches_paged (Pass r) = false
touches_paged (Call r routine) = false
touches_paged (Complete r status) = false
touches_paged (IfPending r label) = false
touches_paged (Ret form) = false

-- a routine of each sort but one may run below IoCancelIrp
abbrev pub is_below : Sort → Bool
is_below Dispatch = false
is_below StartIo = true
is_below Dpc = true
is_below Propagate = true
is_below Hold = true
is_below Cancel = true

abbrev pub raises : Routine → Bool
raises routine = is_below routine.sort && list_any touches_paged routine.code

abbrev pub is_raising : Driver → Bool
is_raising driver = list_any raises driver.routines

abbrev pub is_raised : Set → Bool
is_raised set = list_any is_raising set.drivers
