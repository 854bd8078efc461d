-- No step of an accepted set is wrong: the frame on top lacks nothing that its instruction wants.
use Rattle.laws_runs.proofs.States.Listed.{HasCancel, armed_fits}
use Rattle.laws_runs.proofs.Prelude.{arith, refl, subst, sym, ◌∙◌, slice_get-get_or, slice_get_within, Bool, IfSome, None, Option, Some, false, length, nat_lt, not, slice_get, slice_index_or, true, ℕ, ◌<◌, ◌≡◌, spin_lock, broken_if, duty_fault, form_fault, kind_of, Set, cancel_routine_of, sort_of, OperandFits, QueueFits, queue_named, Shared, blank_cells, register, status_in, Rule, Lock, SystemCancel, Instr, Acquire, AcquireCancel, Arm, Call, End, Pass, Release, ReleaseCancel, Ret, Return, Continue, Stop, Void, WithStatus, MAX_LOOPS, MAX_QUEUES, Declared, Sort, Cancel, Dispatch, Dpc, Hold, Propagate, StartIo, Status, Activation, Routine}
use Rattle.model.specs.declared.instr.Return.TheVariants.{Lower}
use Rattle.laws_runs.proofs.Lists.{all_at}
use Rattle.laws_runs.proofs.States.Entering.{LowerThere, lower_there}
use Rattle.laws_runs.proofs.States.Fits.{queue_there, IsThere, owner_there}
use Rattle.laws_runs.proofs.States.Frames.{state_of, Stays, Runs}
use Rattle.laws_runs.proofs.States.Kinds.{status_there}
use Rattle.laws_runs.proofs.States.LoopEnds.{room_for_loop, some_loop}
use Rattle.laws_runs.proofs.States.Obeyed.{SendsDown, sends_down, returns_by}
use Rattle.laws_runs.proofs.States.OnTop.{OnTop, at_routine, runs, value_suits, packet_there, number_found, listed_fits}
use Rattle.laws_runs.specs.ArrivingStates.{States}
use Rattle.laws_runs.proofs.States.Rules.{first_none}
use Rattle.laws_runs.proofs.Steps.Comes.{Lacks, no_instruction, no_number, no_packet, no_room, no_loop, no_cells, none_taken, none_freed, no_queue, no_start, no_cancel, no_lower, no_status, no_form}
use Rattle.laws_runs.proofs.Steps.Words.{Forwarding, work_of, packet_operand, lock_taken, lock_freed, status_returned, is_form_of}
use Rattle.laws_runs.proofs.States.StartsFit.{start_there}

broken_not : (b : Bool) (rule : Rule) → broken_if (not b) rule ≡ None → b ≡ true
broken_not true rule h = refl
broken_not false rule h = cc

has_form : (sort : Sort) (form : Return) → form_fault sort form ≡ None → is_form_of sort form ≡ true
has_form Dispatch (WithStatus status) h = refl
has_form Dispatch (Lower r) h = refl
has_form Dispatch _ h = cc
has_form StartIo Void h = refl
has_form StartIo _ h = cc
has_form Dpc Void h = refl
has_form Dpc _ h = cc
has_form Propagate Continue h = refl
has_form Propagate _ h = cc
has_form Hold Continue h = refl
has_form Hold Stop h = refl
has_form Hold _ h = cc
has_form Cancel Void h = refl
has_form Cancel _ h = cc

-- what sends a packet down works on one
down_operand : (i : Instr) → work_of i ≡ Forwarding → (r : ℕ) × (packet_operand i ≡ Some r)
down_operand (Pass r) is = (r, refl)
down_operand (Call r f) is = (r, refl)
down_operand _ is = cc

module _ (set : Set) (states : States) (s : Shared) (a : Activation) where
  operand_fits : (i : Instr) → Runs set states s a i → OperandFits i
  operand_fits i h = all_at OperandFits h.routine.code a.position i h.known.operands h.here

  device_within : (i : Instr) → Runs set states s a i → a.device < length set.devices
  device_within i h = slice_get_within set.devices a.device h.stays.serves.0 h.stays.serves.1

  -- a lock that an instruction takes or frees is there
  pub taken_there : (i : Instr) (lock : Lock) → Runs set states s a i → lock_taken a i ≡ Some lock
      → IsThere set lock
  taken_there (Acquire l) lock h is =
      let same : spin_lock a l ≡ lock = cc in
      rw (← same) (device_within (Acquire l) h, operand_fits (Acquire l) h)
  taken_there AcquireCancel lock h is = let same : SystemCancel ≡ lock = cc in rw (← same) tt
  taken_there _ lock h is = cc

  pub freed_there : (i : Instr) (lock : Lock) → Runs set states s a i → lock_freed a i ≡ Some lock
      → IsThere set lock
  freed_there (Release l) lock h is =
      let same : spin_lock a l ≡ lock = cc in
      rw (← same) (device_within (Release l) h, operand_fits (Release l) h)
  freed_there ReleaseCancel lock h is = let same : SystemCancel ≡ lock = cc in rw (← same) tt
  freed_there _ lock h is = cc

  -- the rules of what sends a packet down, and the device that it is sent to
  pub down : (i : Instr) (r : ℕ) → Runs set states s a i → work_of i ≡ Forwarding
      → packet_operand i ≡ Some r
      → SendsDown (state_of states a) (sort_of set a.driver a.routine) set a.driver i r
  down i r h is operand =
      sends_down (state_of states a) (sort_of set a.driver a.routine) set a.driver i r h.obeys is
      operand

  pub lower_device : (i : Instr) → Runs set states s a i → work_of i ≡ Forwarding
      → LowerThere set a.device
  lower_device i h is =
      let operand : (r : ℕ) × (packet_operand i ≡ Some r) = down_operand i is in
      lower_there set a.device a.driver h.good.sound h.stays.serves
      (down i operand.0 h is operand.1).lower

  -- a queue that an instruction names is one of four
  queue_within : (i : Instr) (q : ℕ) → Runs set states s a i → queue_named i ≡ Some q
      → q < MAX_QUEUES
  queue_within i q h is =
      subst (λ (o : Option ℕ). IfSome o (λ (k : ℕ). k < MAX_QUEUES)) is
      (all_at (QueueFits MAX_QUEUES) h.routine.code a.position i h.known.queues h.here)

  some_status : (form : Return) → Runs set states s a (Ret form) → is_form_of Dispatch form ≡ true
      → status_returned a form ≡ None → ⊥
  some_status (WithStatus status) h of_form none = cc
  some_status (Lower r) h of_form none =
      let rule : duty_fault (state_of states a) (Lower r) ≡ None =
      (returns_by (state_of states a) (sort_of set a.driver a.routine) set a.driver (Lower r)
      h.obeys).duty in
      let status : (status : Status) × (status_in (register a r) ≡ Some status) =
      status_there s.issued (kind_of (state_of states a) r) (register a r)
      (broken_not _ _ (first_none _ _ rule))
      (value_suits set states s a (Ret (Lower r)) r h) in
      let no : None ≡ Some status.0 = sym none ∙ status.1 in
      cc
  some_status _ h of_form none = cc

  -- what is armed stands in a queue with a cancel routine
  never_bare : (r q : ℕ) → Runs set states s a (Arm r q) → cancel_routine_of set a.driver q ≡ None
      → ⊥
  never_bare r q h none =
      let has : HasCancel set a.driver (Declared q) =
      (armed_fits set a.driver (state_of states a).locks (state_of states a).cancel (Declared q)
      (kind_of (state_of states a) r)
      (first_none _ _ h.obeys) (listed_fits set states s a (Arm r q) h r)).0 in
      let no : None ≡ Some has.0 = sym none ∙ has.1 in
      cc

  pub never_lacks : OnTop set states s (Routine a) → Lacks set s a → ⊥
  never_lacks h (no_instruction none) =
      let stays : Stays set states s.issued h.stands.0 a = h.stands.1 in
      let there : slice_get h.stands.0.code a.position
      ≡ Some (slice_index_or h.stands.0.code a.position End) =
      slice_get-get_or h.stands.0.code a.position End stays.within in
      let no : None ≡ Some (slice_index_or h.stands.0.code a.position End) =
      sym none ∙ at_routine set h.stands.0 a stays.is_of ∙ there in
      cc
  never_lacks h (no_number i r at is none) =
      number_found set states s a i r (runs set states s a i h at) is none
  never_lacks h (no_packet i r at is none) =
      packet_there set states s a i r (runs set states s a i h at) is none
  never_lacks h (no_room turns at full) =
      let room : nat_lt (length a.loops.items) MAX_LOOPS ≡ true =
      room_for_loop set states s a turns (runs set states s a _ h at) in
      cc
  never_lacks h (no_loop at none) = some_loop set states s a (runs set states s a End h at) none
  never_lacks h (no_cells i at is none) =
      let within : a.device < length set.devices = device_within i (runs set states s a i h at) in
      let long : length s.cells ≡ length set.devices = h.fits.cells in
      let there : slice_get s.cells a.device ≡ Some (slice_index_or s.cells a.device blank_cells) =
      slice_get-get_or s.cells a.device blank_cells (omega arith) in
      let no : None ≡ Some (slice_index_or s.cells a.device blank_cells) = sym none ∙ there in
      cc
  never_lacks h (none_taken i lock at is none) =
      owner_there set s h.fits lock (taken_there i lock (runs set states s a i h at) is) none
  never_lacks h (none_freed i lock at is none) =
      owner_there set s h.fits lock (freed_there i lock (runs set states s a i h at) is) none
  never_lacks h (no_queue i q at is none) =
      let run : Runs set states s a i = runs set states s a i h at in
      queue_there set s h.fits a.device q (device_within i run) (queue_within i q run is) none
  never_lacks h (no_start i at is none) =
      start_there set s a.device h.fits.starts (device_within i (runs set states s a i h at)) none
  never_lacks h (no_cancel r q at none) =
      never_bare r q (runs set states s a (Arm r q) h at) none
  never_lacks h (no_lower i at is none) =
      let lower : LowerThere set a.device = lower_device i (runs set states s a i h at) is in
      let no : None ≡ Some lower.0 = sym none ∙ lower.1 in
      cc
  never_lacks h (no_status form at sort of_form none) =
      some_status form (runs set states s a (Ret form) h at) of_form none
  never_lacks h (no_form form at isnt) =
      let is : is_form_of (sort_of set a.driver a.routine) form ≡ true =
      has_form (sort_of set a.driver a.routine) form
      (returns_by (state_of states a) (sort_of set a.driver a.routine) set a.driver form
      (runs set states s a (Ret form) h at).obeys).of_form
      in
      let no : true ≡ false = sym is ∙ isnt in
      cc
