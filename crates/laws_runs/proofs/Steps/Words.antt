-- What kind of work each instruction does, and which operands it has: what the laws ask of an
-- instruction without naming it.
use Rattle.laws_runs.proofs.Prelude.{Bool, None, Option, Some, false, true, ℕ, spin_lock, Branches, Closes, Flow, Jumps, Leaves, Onward, Opens, flow_of, register, status_in, Lock, SystemCancel, Instr, Acquire, AcquireCancel, Add, Arm, Begin, Call, Clear, Complete, Const, Dequeue, Disarm, End, Get, IfCancel, IfPending, Insert, Jump, JumpIfLess, JumpIfZero, Load, LoadPaged, Loop, Mark, Move, Next, Pass, Put, Release, ReleaseCancel, Remove, Ret, Start, Store, StorePaged, Subtract, Take, Unlink, Return, Continue, Stop, Void, WithStatus, Sort, Cancel, Dispatch, Dpc, Hold, Propagate, StartIo, Status, Activation, Packet}
use Rattle.model.specs.declared.instr.Return.TheVariants.{Lower}

-- computing with registers and cells, opening and turning loops, touching paged cells, looking at a
-- packet, writing to it, marking it, exchanging its cancel routine, taking and freeing locks,
-- working on the queues of a device or on what it has for StartIo, sending a packet down,
-- completing it, and returning
pub data Work : Type 0 where
  Computing : Work
  Looping : Work
  Paging : Work
  Looking : Work
  Writing : Work
  Marking : Work
  Exchanging : Work
  Locking : Work
  Queueing : Work
  Forwarding : Work
  Completing : Work
  Returning : Work

abbrev pub work_of : Instr → Work
work_of (Const r n) = Computing
work_of (Move r q) = Computing
work_of (Clear r) = Computing
work_of (Add r q) = Computing
work_of (Subtract r q) = Computing
work_of (JumpIfZero r label) = Computing
work_of (JumpIfLess r q label) = Computing
work_of (Jump label) = Computing
work_of (Loop turns) = Looping
work_of End = Looping
work_of (Load r c) = Computing
work_of (Store c r) = Computing
work_of (LoadPaged r c) = Paging
work_of (StorePaged c r) = Paging
work_of (Get r q field) = Looking
work_of (Put q r) = Writing
work_of (Mark r) = Marking
work_of (Acquire lock) = Locking
work_of (Release lock) = Locking
work_of AcquireCancel = Locking
work_of ReleaseCancel = Locking
work_of (Insert r q) = Queueing
work_of (Remove r q label) = Queueing
work_of (Unlink r q) = Queueing
work_of (Arm r q) = Exchanging
work_of (Disarm r label) = Exchanging
work_of (IfCancel r label) = Looking
work_of (Start r) = Queueing
work_of (Take r label) = Queueing
work_of (Begin r) = Queueing
work_of Next = Queueing
work_of (Dequeue r) = Queueing
work_of (Pass r) = Forwarding
work_of (Call r f) = Forwarding
work_of (Complete r status) = Completing
work_of (IfPending r label) = Looking
work_of (Ret form) = Returning

-- work that touches a packet, which may be gone
abbrev pub is_touching : Work → Bool
is_touching Looking = true
is_touching Writing = true
is_touching Marking = true
is_touching Exchanging = true
is_touching Forwarding = true
is_touching _ = false

abbrev pub is_forwarding : Work → Bool
is_forwarding Forwarding = true
is_forwarding _ = false

-- work that changes the kind of the packet's register alone: a mark, an exchange of its cancel
-- routine, what puts it into a queue or sends it down, and its completion
abbrev pub is_giving : Work → Bool
is_giving Marking = true
is_giving Exchanging = true
is_giving Queueing = true
is_giving Forwarding = true
is_giving Completing = true
is_giving _ = false

-- the routine may go on at the next position
abbrev pub falls_through : Flow → Bool
falls_through Onward = true
falls_through (Branches label) = true
falls_through (Jumps label) = false
falls_through (Opens turns) = false
falls_through Closes = false
falls_through Leaves = false

abbrev pub goes_next : Instr → Bool
goes_next i = falls_through (flow_of i)

-- the register with the packet that an instruction works on
abbrev pub packet_operand : Instr → Option ℕ
packet_operand (Get r q field) = Some q
packet_operand (Put q r) = Some q
packet_operand (Mark r) = Some r
packet_operand (Insert r q) = Some r
packet_operand (Unlink r q) = Some r
packet_operand (Arm r q) = Some r
packet_operand (Disarm r label) = Some r
packet_operand (IfCancel r label) = Some r
packet_operand (Start r) = Some r
packet_operand (Begin r) = Some r
packet_operand (Dequeue r) = Some r
packet_operand (Pass r) = Some r
packet_operand (Call r f) = Some r
packet_operand (Complete r status) = Some r
packet_operand (IfPending r label) = Some r
packet_operand _ = None

-- the registers whose numbers it computes with: one or two
abbrev pub number_operand : Instr → Option ℕ
number_operand (Add r q) = Some r
number_operand (Subtract r q) = Some r
number_operand (JumpIfZero r label) = Some r
number_operand (JumpIfLess r q label) = Some r
number_operand (Store c r) = Some r
number_operand (StorePaged c r) = Some r
number_operand (Put q r) = Some r
number_operand _ = None

abbrev pub second_operand : Instr → Option ℕ
second_operand (Add r q) = Some q
second_operand (Subtract r q) = Some q
second_operand (JumpIfLess r q label) = Some q
second_operand _ = None

-- it leaves the registers alone, or one of them becomes a number
abbrev pub keeps_registers : Instr → Bool
keeps_registers (Const r n) = false
keeps_registers (Move r q) = false
keeps_registers (Clear r) = false
keeps_registers (Add r q) = false
keeps_registers (Subtract r q) = false
keeps_registers (Load r c) = false
keeps_registers (LoadPaged r c) = false
keeps_registers (Get r q field) = false
keeps_registers (Remove r q label) = false
keeps_registers (Take r label) = false
keeps_registers _ = true

abbrev pub numbered_by : Instr → Option ℕ
numbered_by (Const r n) = Some r
numbered_by (Add r q) = Some r
numbered_by (Subtract r q) = Some r
numbered_by (Load r c) = Some r
numbered_by (LoadPaged r c) = Some r
numbered_by (Get r q field) = Some r
numbered_by _ = None

-- it works on a cell of the device
abbrev pub is_of_cells : Instr → Bool
is_of_cells (Load r c) = true
is_of_cells (Store c r) = true
is_of_cells (LoadPaged r c) = true
is_of_cells (StorePaged c r) = true
is_of_cells _ = false

-- an instruction is about what a device has for StartIo
abbrev pub starts_packets : Instr → Bool
starts_packets (Start r) = true
starts_packets (Take r label) = true
starts_packets (Begin r) = true
starts_packets Next = true
starts_packets (Dequeue r) = true
starts_packets _ = false

-- the lock that an activation takes, and the one that it frees
abbrev pub lock_taken : Activation → Instr → Option Lock
lock_taken a (Acquire lock) = Some (spin_lock a lock)
lock_taken a AcquireCancel = Some SystemCancel
lock_taken a _ = None

abbrev pub lock_freed : Activation → Instr → Option Lock
lock_freed a (Release lock) = Some (spin_lock a lock)
lock_freed a ReleaseCancel = Some SystemCancel
lock_freed a _ = None

-- a look at a packet jumps exactly if Irp->PendingReturned is set, where the instruction looks at
-- that, or Irp->Cancel, where it looks at that
abbrev pub jumps_on : Instr → Packet → Bool
jumps_on (IfPending r label) p = p.pending_returned
jumps_on (IfCancel r label) p = p.cancel
jumps_on _ p = false

-- the status that a dispatch routine returns
abbrev pub status_returned : Activation → Return → Option Status
status_returned a (WithStatus status) = Some status
status_returned a (Lower r) = status_in (register a r)
status_returned a Continue = None
status_returned a Stop = None
status_returned a Void = None

-- the forms of return of a sort of routine
abbrev pub is_form_of : Sort → Return → Bool
is_form_of Dispatch (WithStatus status) = true
is_form_of Dispatch (Lower r) = true
is_form_of Dispatch Continue = false
is_form_of Dispatch Stop = false
is_form_of Dispatch Void = false
is_form_of StartIo (WithStatus status) = false
is_form_of StartIo (Lower r) = false
is_form_of StartIo Continue = false
is_form_of StartIo Stop = false
is_form_of StartIo Void = true
is_form_of Dpc (WithStatus status) = false
is_form_of Dpc (Lower r) = false
is_form_of Dpc Continue = false
is_form_of Dpc Stop = false
is_form_of Dpc Void = true
is_form_of Propagate (WithStatus status) = false
is_form_of Propagate (Lower r) = false
is_form_of Propagate Continue = true
is_form_of Propagate Stop = true
is_form_of Propagate Void = false
is_form_of Hold (WithStatus status) = false
is_form_of Hold (Lower r) = false
is_form_of Hold Continue = true
is_form_of Hold Stop = true
is_form_of Hold Void = false
is_form_of Cancel (WithStatus status) = false
is_form_of Cancel (Lower r) = false
is_form_of Cancel Continue = false
is_form_of Cancel Stop = false
is_form_of Cancel Void = true
