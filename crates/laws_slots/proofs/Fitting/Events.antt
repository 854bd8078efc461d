-- Each event of a run of an accepted set finds what it looks for on slots that mean its world.
use Rattle.std.proofs.Common.{◌≡◌, ◌⊎◌, ℕ, List, Some, true, refl, ap, inl, inr, is_some}
use Rattle.std.specs.Prelude.{slice_get}
use Rattle.model.specs.declared.event.Event.{Event}
use Rattle.model.specs.declared.event.Event.TheVariants.{Issue, Cancel as CancelEvent, Interrupt, Dpc as DpcEvent, StartIo as StartIoEvent, Step}
use Rattle.model.specs.declared.event.Lock.{Lock}
use Rattle.model.specs.declared.event.Lock.TheVariants.{SystemCancel}
use Rattle.model.specs.declared.instr.Instr.{Instr}
use Rattle.model.specs.declared.instr.Instr.TheVariants.{Const, Move, Clear, Add, Subtract, JumpIfZero, JumpIfLess, Jump, Loop, End, Load, Store, LoadPaged, StorePaged, Get, Put, Mark, Acquire, Release, AcquireCancel, ReleaseCancel, Insert, Remove, Unlink, Arm, Disarm, IfCancel, Start, Take, Begin, Next, Pass, Call, Complete, IfPending, Ret, Dequeue}
use Rattle.model.specs.declared.instr.Return.{Return}
use Rattle.model.specs.declared.instr.Return.TheVariants.{WithStatus, Lower, Continue, Stop, Void}
use Rattle.model.specs.declared.world.Activation.{Activation}
use Rattle.model.specs.declared.world.CancelStep.{CancelStep}
use Rattle.model.specs.declared.world.CancelStep.TheVariants.{Acquire as AcquireStep, SetFlag, Exchange}
use Rattle.model.specs.declared.world.Packet.{Packet}
use Rattle.model.specs.Effect.{spin_lock}
use Rattle.model.specs.Run.{run}
use Rattle.model.specs.Set.{Set, instruction_at, lower_of}
use Rattle.model.specs.Sound.{IsSound, queue_named}
use Rattle.model.specs.Typable.{IsTypable}
use Rattle.laws_runs.proofs.Steps.Words.{Forwarding, is_of_cells, lock_freed, lock_taken, number_operand, packet_operand, second_operand, starts_packets, work_of}
use Rattle.laws_slots.proofs.Finding.{walk_finds}
use Rattle.laws_slots.proofs.Fitting.LocalOperands.{can_go_down, has_key, has_loop, has_loop_room, has_number, has_status}
use Rattle.laws_slots.proofs.Fitting.LocalTop.{has_instruction, has_room, is_near}
use Rattle.laws_slots.proofs.Fitting.SharedCells.{has_cells, has_lower}
use Rattle.laws_slots.proofs.Fitting.SharedLocks.{can_acquire, cancel_can_acquire, has_lock}
use Rattle.laws_slots.proofs.Fitting.SharedQueues.{has_queue, queue_has_room}
use Rattle.laws_slots.proofs.Fitting.SharedStarts.{can_start, can_start_next, has_start, can_disarm_next}
use Rattle.laws_slots.proofs.Fitting.Unlisted.{insert_unlisted, start_unlisted}
use Rattle.laws_slots.specs.Fits.{CanAcquire, CancelFits, EventsFit, FrameFits, HasCells, HasKey, HasLock, HasNumber, HasQueue, HasStart, InstructionFits, ReturnFits, RoutineFits, ThreadFits}
use Rattle.laws_slots.specs.Rep.{Means}
use Rattle.laws_slots.specs.SlotStep.{top_frame}
use Rattle.laws_slots.specs.Slots.{SlotCancel, SlotFrame, SlotRoutine, SlotThread, SlotWalk, SlotWorld, packet_at}

module _ (set : Set) (typable : IsTypable set) (sound : IsSound set) (threads : ℕ)
    (events : List Event) (v : SlotWorld) (rep : Means set v (run set threads events).world)
    (t : ℕ) (x : SlotThread) (found : slice_get v.threads t ≡ Some x) where
  module _ (a : Activation) (top : top_frame x.frames ≡ Some (SlotRoutine a)) where
    abbrev At : Instr → Type 0
    At i = instruction_at set a.driver a.routine a.position ≡ Some i

    module _ (i : Instr) (at : At i) where
      number : (q : ℕ) → (number_operand i ≡ Some q) ⊎ (second_operand i ≡ Some q)
          → HasNumber a q
      number = has_number set typable sound threads events v rep t x found a top i at

      key : (q : ℕ) → packet_operand i ≡ Some q → HasKey v.shared a q
      key = has_key set typable sound threads events v rep t x found a top i at

      cells : is_of_cells i ≡ true → HasCells v.shared a.device
      cells = has_cells set typable sound threads events v rep t x found a top i at

      lower : work_of i ≡ Forwarding → is_some (lower_of set a.device) ≡ true
      lower = has_lower set typable sound threads events v rep t x found a top i at

      takes : (lock : Lock) → lock_taken a i ≡ Some lock → CanAcquire v.shared t lock
      takes = can_acquire set typable sound threads events v rep t x found a top i at

      frees : (lock : Lock) → lock_freed a i ≡ Some lock → HasLock v.shared lock
      frees = has_lock set typable sound threads events v rep t x found a top i at

      queue : (q : ℕ) → queue_named i ≡ Some q → HasQueue v.shared a.device q
      queue = has_queue set typable sound threads events v rep t x found a top i at

      start : starts_packets i ≡ true → HasStart v.shared a.device
      start = has_start set typable sound threads events v rep t x found a top i at

    return_fits : (form : Return) → At (Ret form) → ReturnFits a form
    return_fits (WithStatus status) at = tt
    return_fits (Lower r) at =
        has_status set typable sound threads events v rep t x found a top r at
    return_fits Continue at = tt
    return_fits Stop at = tt
    return_fits Void at = tt

    instruction_fits : (i : Instr) → At i → InstructionFits set v.shared t a i
    instruction_fits (Const r n) at = tt
    instruction_fits (Move r q) at = tt
    instruction_fits (Clear r) at = tt
    instruction_fits (Add r q) at =
        (number (Add r q) at r (inl refl), number (Add r q) at q (inr refl))
    instruction_fits (Subtract r q) at =
        (number (Subtract r q) at r (inl refl), number (Subtract r q) at q (inr refl))
    instruction_fits (JumpIfZero r label) at = number (JumpIfZero r label) at r (inl refl)
    instruction_fits (JumpIfLess r q label) at = (
      number (JumpIfLess r q label) at r (inl refl),
      number (JumpIfLess r q label) at q (inr refl),
    )
    instruction_fits (Jump label) at = tt
    instruction_fits (Loop turns) at =
        has_loop_room set typable sound threads events v rep t x found a top turns at
    instruction_fits End at = has_loop set typable sound threads events v rep t x found a top at
    instruction_fits (Load r c) at = cells (Load r c) at refl
    instruction_fits (Store c r) at =
        (cells (Store c r) at refl, number (Store c r) at r (inl refl))
    instruction_fits (LoadPaged r c) at = cells (LoadPaged r c) at refl
    instruction_fits (StorePaged c r) at =
        (cells (StorePaged c r) at refl, number (StorePaged c r) at r (inl refl))
    instruction_fits (Get r q field) at = key (Get r q field) at q refl
    instruction_fits (Put q r) at = (key (Put q r) at q refl, number (Put q r) at r (inl refl))
    instruction_fits (Mark r) at = key (Mark r) at r refl
    instruction_fits (Acquire lock) at = takes (Acquire lock) at (spin_lock a lock) refl
    instruction_fits (Release lock) at = frees (Release lock) at (spin_lock a lock) refl
    instruction_fits AcquireCancel at = takes AcquireCancel at SystemCancel refl
    instruction_fits ReleaseCancel at = tt
    instruction_fits (Insert r q) at = (
      key (Insert r q) at r refl,
      queue (Insert r q) at q refl,
      queue_has_room set typable sound threads events v rep t x found a top r q at,
      insert_unlisted set typable sound threads events v rep t x found a top r q at
          (queue (Insert r q) at q refl),
    )
    instruction_fits (Remove r q label) at = queue (Remove r q label) at q refl
    instruction_fits (Unlink r q) at =
        (key (Unlink r q) at r refl, queue (Unlink r q) at q refl)
    instruction_fits (Arm r q) at = key (Arm r q) at r refl
    instruction_fits (Disarm r label) at = key (Disarm r label) at r refl
    instruction_fits (IfCancel r label) at = key (IfCancel r label) at r refl
    instruction_fits (Start r) at = (
      key (Start r) at r refl,
      start (Start r) at refl,
      can_start set typable sound threads events v rep t x found a top r at,
      start_unlisted set typable sound threads events v rep t x found a top r at
          (start (Start r) at refl) (key (Start r) at r refl),
    )
    instruction_fits (Take r label) at = start (Take r label) at refl
    instruction_fits (Begin r) at = (key (Begin r) at r refl, start (Begin r) at refl)
    instruction_fits Next at = (
      start Next at refl,
      can_start_next set typable sound threads events v rep t x found a top at,
      can_disarm_next set typable sound threads events v rep t x found a top at,
    )
    instruction_fits (Dequeue r) at = (key (Dequeue r) at r refl, start (Dequeue r) at refl)
    instruction_fits (Pass r) at = (key (Pass r) at r refl, lower (Pass r) at refl)
    instruction_fits (Call r f) at = (
      key (Call r f) at r refl,
      lower (Call r f) at refl,
      can_go_down set typable sound threads events v rep t x found a top r f at,
    )
    instruction_fits (Complete r status) at = key (Complete r status) at r refl
    instruction_fits (IfPending r label) at = key (IfPending r label) at r refl
    instruction_fits (Ret form) at = return_fits form at

    routine_fits : RoutineFits set v.shared t a
    routine_fits =
        let there : (i : Instr) × At i =
        has_instruction set typable sound threads events v rep t x found a top in
        record {
          instruction = there.0;
          at = there.1;
          near = is_near set typable sound threads events v rep t x found a top;
          fits = instruction_fits there.0 there.1;
        }

  cancel_fits : (k n : ℕ) (step : CancelStep) → top_frame x.frames ≡ Some (SlotCancel k n step)
      → CancelFits v.shared t step
  cancel_fits k n AcquireStep top =
      cancel_can_acquire set typable sound threads events v rep t x found k n top
  cancel_fits k n SetFlag top = tt
  cancel_fits k n Exchange top = tt

  frame_fits : (f : SlotFrame) → top_frame x.frames ≡ Some f → FrameFits set v.shared t f
  frame_fits (SlotRoutine a) top = routine_fits a top
  frame_fits (SlotWalk k) top =
      let there : (p : Packet) × (packet_at v.shared k ≡ Some p) =
      walk_finds set typable sound threads events v rep t x found k top in
      ap is_some there.1
  frame_fits (SlotCancel k n step) top = cancel_fits k n step top

  thread_fits : ThreadFits set v.shared t x
  thread_fits =
      record {
        room = has_room set typable sound threads events v rep t x found;
        top = frame_fits;
      }

pub all_fit : EventsFit
all_fit set typable sound threads events v (Issue t d major argument) rep = tt
all_fit set typable sound threads events v (CancelEvent t n level) rep = tt
all_fit set typable sound threads events v (Interrupt d) rep = tt
all_fit set typable sound threads events v (DpcEvent t d) rep = tt
all_fit set typable sound threads events v (StartIoEvent t d) rep = tt
all_fit set typable sound threads events v (Step t) rep =
    λ x found. thread_fits set typable sound threads events v rep t x found
