-- The actions of an event that are about uses are those of what it does to the uses.
use Rattle.std.proofs.Common.{◌≡◌, ℕ, ◌-◌, List, [], ◌∷◌, length, take, Bool, true, false, Option, None, Some, refl, ap, inl, inr, ◌⊎◌, cond}
use Rattle.std.specs.Prelude.{◌&&◌, nat_eq, nat_lt, slice_get, if◌then◌else◌}
use Rattle.model.specs.declared.event.Event.{Event}
use Rattle.model.specs.declared.event.Event.TheVariants.{Issue as IssueEvent, Cancel as CancelEvent, Interrupt, Dpc as DpcEvent, StartIo as StartIoEvent, Step}
use Rattle.model.specs.declared.event.Lock.{Lock}
use Rattle.model.specs.declared.event.Lock.TheVariants.{SystemCancel}
use Rattle.model.specs.declared.event.Reply.TheVariants.{Refused}
use Rattle.model.specs.declared.instr.Field.{Field}
use Rattle.model.specs.declared.instr.Instr.{Instr}
use Rattle.model.specs.declared.instr.Instr.TheVariants.{Acquire, AcquireCancel, Add, Arm, Begin, Call, Clear, Complete, Const, Dequeue, Disarm, End, Get, IfCancel, IfPending, Insert, Jump, JumpIfLess, JumpIfZero, Load, LoadPaged, Loop, Mark, Move, Next, Pass, Put, Release, ReleaseCancel, Remove, Ret, Start, Store, StorePaged, Subtract, Take, Unlink}
use Rattle.model.specs.declared.instr.Return.{Return}
use Rattle.model.specs.declared.instr.Return.TheVariants.{Continue, Lower, Stop, Void, WithStatus}
use Rattle.model.specs.declared.limits.TheConstants.{MAX_LOOPS}
use Rattle.model.specs.declared.set.Device.{Device}
use Rattle.model.specs.declared.set.Sort.{Sort}
use Rattle.model.specs.declared.set.Sort.TheVariants.{Cancel, Dispatch, Dpc, Hold, Propagate, StartIo}
use Rattle.model.specs.declared.status.Major.{Major}
use Rattle.model.specs.declared.status.Status.{Status}
use Rattle.model.specs.declared.world.Activation.{Activation}
use Rattle.model.specs.declared.world.Armer.{Armer}
use Rattle.model.specs.declared.world.CancelStep.{CancelStep}
use Rattle.model.specs.declared.world.CancelStep.TheVariants.{Acquire as AcquireStep, Exchange, SetFlag}
use Rattle.model.specs.declared.world.Cells.{Cells}
use Rattle.model.specs.declared.world.Completion.{Completion}
use Rattle.model.specs.declared.world.Frame.{Frame}
use Rattle.model.specs.declared.world.Frame.TheVariants.{Routine, Walk, Cancel as CancelFrame}
use Rattle.model.specs.declared.world.Irql.{Irql}
use Rattle.model.specs.declared.world.OpenLoop.{OpenLoop}
use Rattle.model.specs.declared.world.Packet.{Packet}
use Rattle.model.specs.declared.world.Thread.{Thread}
use Rattle.model.specs.Action.{Action, Leaves, Ups}
use Rattle.model.specs.Effect.{Outcome, acquire_effect, arm_effect, arm_packet, ask_effect, ask_packet, begin_effect, call_effect, call_packet, cancel_acquires, cancel_armed, cancel_calls, cancel_exchanges, cancel_flags, cancel_step, complete_effect, complete_packet, continued, dequeue_effect, difference_of, disarm_effect, disarm_packet, end_effect, frame_effect, get_effect, get_packet, insert_effect, instruction_effect, is_less_at, is_zero_at, jump_effect, lending, let_on, load_effect, load_paged_effect, look_effect, look_packet, loop_effect, mark_effect, mark_packet, next_disarmed, next_effect, next_waiting, next_packet, number_effect, pass_effect, pass_packet, put_effect, put_packet, release_effect, remove_effect, return_effect, return_lower, routine_effect, sort_of_completion, spin_lock, start_effect, start_packet, start_waiting, store_effect, store_paged_effect, sum_of, take_effect, take_from, top_of, unlink_effect, walk_from, walk_packet, walk_up}
use Rattle.model.specs.Events.{Change, can_issue, cancel_of, cancel_on, dpc_on, effect, irql_of, is_idle, issue_on, startio_for, startio_from, startio_on, step_thread, top_effect}
use Rattle.model.specs.Queues.{StartState, head_of}
use Rattle.model.specs.Run.{frames_of, thread_of}
use Rattle.model.specs.Set.{Set, cancel_routine_of, dpc_of, instruction_at, lower_of, sort_of, startio_of}
use Rattle.model.specs.World.{Shared, World, completion_of, current_location, innermost, is_marked, is_queued, left_location, number_in, owner_of, packet_in, packet_of, queue_of, register, start_of, status_in}
use Rattle.tell_uses.specs.declared.acts.Onward.TheVariants.{Up, UpMarked}
use Rattle.tell_uses.specs.Acts.{actions_of, calls_packet, found_live, frame_uses, instruction_uses, leave_actions, leaves_packet, live_of, marks_packet, onward_of, returns_status, status_by, use_step}
use Rattle.tell_uses.proofs.Knowing.{uses_in}

-- a step whose actions are about no use
abbrev Quiet : Outcome → Type 0
Quiet o = uses_in o.actions ≡ []

module _ (s : Shared) (a : Activation) where
  quiet_number : (r : ℕ) (m : Option ℕ) → Quiet (number_effect s a r m)
  quiet_number r None = refl
  quiet_number r (Some n) = refl

  quiet_jump : (label : ℕ) (m : Option Bool) → Quiet (jump_effect s a label m)
  quiet_jump label None = refl
  quiet_jump label (Some jumps) = refl

  quiet_if : (b : Bool) (x y : Outcome) → Quiet x → Quiet y
      → Quiet (cond {A = Outcome} b x y)
  quiet_if true x y p q = p
  quiet_if false x y p q = q

  quiet_loop : (turns : ℕ) → Quiet (loop_effect s a turns)
  quiet_loop turns = quiet_if (nat_lt (length a.loops.items) MAX_LOOPS) _ _ refl refl

  quiet_end : (l : Option OpenLoop) → Quiet (end_effect s a l)
  quiet_end None = refl
  quiet_end (Some l) = refl

  quiet_load : (r c : ℕ) (cells : Option Cells) → Quiet (load_effect s a r c cells)
  quiet_load r c None = refl
  quiet_load r c (Some cells) = refl

  quiet_load_paged : (r c : ℕ) (cells : Option Cells) → Quiet (load_paged_effect s a r c cells)
  quiet_load_paged r c None = refl
  quiet_load_paged r c (Some cells) = refl

  quiet_store : (c : ℕ) (n : Option ℕ) (cells : Option Cells) → Quiet (store_effect s a c n cells)
  quiet_store c None cells = refl
  quiet_store c (Some n) None = refl
  quiet_store c (Some n) (Some cells) = refl

  quiet_store_paged : (c : ℕ) (n : Option ℕ) (cells : Option Cells)
      → Quiet (store_paged_effect s a c n cells)
  quiet_store_paged c None cells = refl
  quiet_store_paged c (Some n) None = refl
  quiet_store_paged c (Some n) (Some cells) = refl

  quiet_got : (r : ℕ) (field : Field) (n : ℕ) (o : Option Packet)
      → Quiet (get_packet s a r field n o)
  quiet_got r field n None = refl
  quiet_got r field n (Some p) = refl

  quiet_get : (r : ℕ) (field : Field) (n : Option ℕ) → Quiet (get_effect s a r field n)
  quiet_get r field None = refl
  quiet_get r field (Some n) = quiet_got r field n (packet_of s n)

  quiet_putting : (info n : ℕ) (o : Option Packet) → Quiet (put_packet s a info n o)
  quiet_putting info n None = refl
  quiet_putting info n (Some p) = refl

  quiet_put : (info n : Option ℕ) → Quiet (put_effect s a info n)
  quiet_put None n = refl
  quiet_put (Some info) None = refl
  quiet_put (Some info) (Some n) = quiet_putting info n (packet_of s n)

  quiet_acquire : (t : ℕ) (lock : Lock) (o : Option (Option ℕ))
      → Quiet (acquire_effect s t a lock o)
  quiet_acquire t lock None = refl
  quiet_acquire t lock (Some None) = refl
  quiet_acquire t lock (Some (Some owner)) = quiet_if (nat_eq owner t) _ _ refl refl

  quiet_release : (lock : Lock) (o : Option (Option ℕ)) → Quiet (release_effect s a lock o)
  quiet_release lock None = refl
  quiet_release lock (Some owner) = refl

  quiet_insert : (q : ℕ) (n : Option ℕ) (entries : Option (List ℕ))
      → Quiet (insert_effect s a q n entries)
  quiet_insert q None entries = refl
  quiet_insert q (Some n) None = refl
  quiet_insert q (Some n) (Some entries) = refl

  quiet_remove : (r q label : ℕ) (entries : Option (List ℕ))
      → Quiet (remove_effect s a r q label entries)
  quiet_remove r q label None = refl
  quiet_remove r q label (Some []) = refl
  quiet_remove r q label (Some (n ∷ entries)) = refl

  quiet_unlink : (q : ℕ) (n : Option ℕ) (entries : Option (List ℕ))
      → Quiet (unlink_effect s a q n entries)
  quiet_unlink q None entries = refl
  quiet_unlink q (Some n) None = refl
  quiet_unlink q (Some n) (Some entries) = refl

  quiet_arming : (q n : ℕ) (o : Option Packet) → Quiet (arm_packet s a q n o)
  quiet_arming q n None = refl
  quiet_arming q n (Some p) = refl

  quiet_arm : (q : ℕ) (n cancel : Option ℕ) → Quiet (arm_effect s a q n cancel)
  quiet_arm q None cancel = refl
  quiet_arm q (Some n) None = refl
  quiet_arm q (Some n) (Some cancel) = quiet_arming q n (packet_of s n)

  quiet_disarming : (label n : ℕ) (o : Option Packet) → Quiet (disarm_packet s a label n o)
  quiet_disarming label n None = refl
  quiet_disarming label n (Some p) = refl

  quiet_disarm : (label : ℕ) (n : Option ℕ) → Quiet (disarm_effect s a label n)
  quiet_disarm label None = refl
  quiet_disarm label (Some n) = quiet_disarming label n (packet_of s n)

  quiet_asking : (label n : ℕ) (o : Option Packet) → Quiet (ask_packet s a label n o)
  quiet_asking label n None = refl
  quiet_asking label n (Some p) = refl

  quiet_ask : (label : ℕ) (n : Option ℕ) → Quiet (ask_effect s a label n)
  quiet_ask label None = refl
  quiet_ask label (Some n) = quiet_asking label n (packet_of s n)

  quiet_looking : (label n : ℕ) (o : Option Packet) → Quiet (look_packet s a label n o)
  quiet_looking label n None = refl
  quiet_looking label n (Some p) = refl

  quiet_look : (label : ℕ) (n : Option ℕ) → Quiet (look_effect s a label n)
  quiet_look label None = refl
  quiet_look label (Some n) = quiet_looking label n (packet_of s n)

  quiet_waiting : (n : ℕ) (start : StartState) (o : Option Packet)
      → Quiet (start_waiting s a n start o)
  quiet_waiting n start None = refl
  quiet_waiting n start (Some p) = refl

  quiet_starting : (n : ℕ) (start : StartState) (b : Bool) → Quiet (start_packet s a n start b)
  quiet_starting n start false = refl
  quiet_starting n start true = quiet_waiting n start (packet_of s n)

  quiet_start : (set : Set) (n : Option ℕ) (start : Option StartState)
      → Quiet (start_effect set s a n start)
  quiet_start set None start = refl
  quiet_start set (Some n) None = refl
  quiet_start set (Some n) (Some start) = quiet_starting n start _

  quiet_taken : (r label : ℕ) (start : StartState) (n : Option ℕ)
      → Quiet (take_from s a r label start n)
  quiet_taken r label start None = refl
  quiet_taken r label start (Some n) = refl

  quiet_take : (r label : ℕ) (start : Option StartState) → Quiet (take_effect s a r label start)
  quiet_take r label None = refl
  quiet_take r label (Some start) = quiet_taken r label start start.slot

  quiet_begin : (n : Option ℕ) (start : Option StartState) → Quiet (begin_effect s a n start)
  quiet_begin None start = refl
  quiet_begin (Some n) None = refl
  quiet_begin (Some n) (Some start) = refl

  quiet_disarmed : (start : StartState) (n : ℕ) (o : Option Packet)
      → Quiet (next_packet s a start n o)
  quiet_disarmed start n None = refl
  quiet_disarmed start n (Some p) = refl

  quiet_waits : (start : StartState) (n : Option ℕ) → Quiet (next_waiting s a start n)
  quiet_waits start None = refl
  quiet_waits start (Some n) = quiet_disarmed start n (packet_of s n)

  quiet_next : (set : Set) (start : Option StartState) → Quiet (next_effect set s a start)
  quiet_next set None = refl
  quiet_next set (Some start) = quiet_waits start (next_disarmed set a start)

  quiet_dequeue : (n : Option ℕ) (start : Option StartState) → Quiet (dequeue_effect s a n start)
  quiet_dequeue None start = refl
  quiet_dequeue (Some n) None = refl
  quiet_dequeue (Some n) (Some start) = refl

  quiet_passing : (set : Set) (lower n : ℕ) (o : Option Packet)
      → Quiet (pass_packet set s a lower n o)
  quiet_passing set lower n None = refl
  quiet_passing set lower n (Some p) = refl

  quiet_pass : (set : Set) (n lower : Option ℕ) → Quiet (pass_effect set s a n lower)
  quiet_pass set None lower = refl
  quiet_pass set (Some n) None = refl
  quiet_pass set (Some n) (Some lower) = quiet_passing set lower n (packet_of s n)

  quiet_completing : (status : Status) (n : ℕ) (o : Option Packet)
      → Quiet (complete_packet s a status n o)
  quiet_completing status n None = refl
  quiet_completing status n (Some p) = refl

  quiet_complete : (status : Status) (n : Option ℕ) → Quiet (complete_effect s a status n)
  quiet_complete status None = refl
  quiet_complete status (Some n) = quiet_completing status n (packet_of s n)

  quiet_let : (under : Option Frame) → Quiet (let_on s under)
  quiet_let None = refl
  quiet_let (Some (Routine b)) = refl
  quiet_let (Some (Walk n)) = refl
  quiet_let (Some (CancelFrame c)) = refl

  quiet_continued : (under : Option Frame) → Quiet (continued s under)
  quiet_continued None = refl
  quiet_continued (Some (Routine b)) = refl
  quiet_continued (Some (Walk n)) = refl
  quiet_continued (Some (CancelFrame c)) = refl

  -- instructions that are about uses
  acts_marking : (n : ℕ) (o : Option Packet)
      → uses_in (mark_packet s a n o).actions ≡ actions_of (marks_packet (found_live n o))
  acts_marking n None = refl
  acts_marking n (Some p) = refl

  acts_mark : (n : Option ℕ)
      → uses_in (mark_effect s a n).actions ≡ actions_of (marks_packet (live_of s n))
  acts_mark None = refl
  acts_mark (Some n) = acts_marking n (packet_of s n)

  acts_calling : (set : Set) (f : Option ℕ) (lower n : ℕ) (o : Option Packet)
      → uses_in (call_packet set s a f lower n o).actions
      ≡ actions_of (calls_packet (Some lower) (found_live n o))
  acts_calling set f lower n None = refl
  acts_calling set f lower n (Some p) = refl

  not_calling : (n : ℕ) (o : Option Packet)
      → [] ≡ actions_of (calls_packet None (found_live n o))
  not_calling n None = refl
  not_calling n (Some p) = refl

  acts_call : (set : Set) (f n lower : Option ℕ)
      → uses_in (call_effect set s a f n lower).actions
      ≡ actions_of (calls_packet lower (live_of s n))
  acts_call set f None lower = refl
  acts_call set f (Some n) None = not_calling n (packet_of s n)
  acts_call set f (Some n) (Some lower) = acts_calling set f lower n (packet_of s n)

  acts_lower : (status : Option Status)
      → uses_in (return_lower s a status).actions ≡ actions_of (returns_status status)
  acts_lower None = refl
  acts_lower (Some status) = refl

  acts_return : (under : Option Frame) (sort : Sort) (form : Return)
      → uses_in (return_effect s a under sort form).actions
      ≡ actions_of (returns_status (status_by sort a form))
  acts_return under Dispatch (WithStatus status) = refl
  acts_return under Dispatch (Lower r) = acts_lower (status_in (register a r))
  acts_return under Dispatch Continue = refl
  acts_return under Dispatch Stop = refl
  acts_return under Dispatch Void = refl
  acts_return under Propagate Continue = quiet_continued under
  acts_return under Hold Continue = quiet_let under
  acts_return under StartIo (WithStatus status) = refl
  acts_return under StartIo (Lower r) = refl
  acts_return under StartIo Continue = refl
  acts_return under StartIo Stop = refl
  acts_return under StartIo Void = refl
  acts_return under Dpc (WithStatus status) = refl
  acts_return under Dpc (Lower r) = refl
  acts_return under Dpc Continue = refl
  acts_return under Dpc Stop = refl
  acts_return under Dpc Void = refl
  acts_return under Propagate (WithStatus status) = refl
  acts_return under Propagate (Lower r) = refl
  acts_return under Propagate Stop = refl
  acts_return under Propagate Void = refl
  acts_return under Hold (WithStatus status) = refl
  acts_return under Hold (Lower r) = refl
  acts_return under Hold Stop = refl
  acts_return under Hold Void = refl
  acts_return under Cancel (WithStatus status) = refl
  acts_return under Cancel (Lower r) = refl
  acts_return under Cancel Continue = refl
  acts_return under Cancel Stop = refl
  acts_return under Cancel Void = refl

  module _ (set : Set) (t : ℕ) (under : Option Frame) where
    acts_instruction : (i : Instr)
        → uses_in (instruction_effect set s t under a i).actions
        ≡ actions_of (instruction_uses set s a (Some i))
    acts_instruction (Const r n) = refl
    acts_instruction (Move r q) = refl
    acts_instruction (Clear r) = refl
    acts_instruction (Add r q) = quiet_number r (sum_of a r q)
    acts_instruction (Subtract r q) = quiet_number r (difference_of a r q)
    acts_instruction (JumpIfZero r label) = quiet_jump label (is_zero_at a r)
    acts_instruction (JumpIfLess r q label) = quiet_jump label (is_less_at a r q)
    acts_instruction (Jump label) = refl
    acts_instruction (Loop turns) = quiet_loop turns
    acts_instruction End = quiet_end (innermost a)
    acts_instruction (Load r c) = quiet_load r c (slice_get s.cells a.device)
    acts_instruction (Store c r) =
        quiet_store c (number_in (register a r)) (slice_get s.cells a.device)
    acts_instruction (LoadPaged r c) = quiet_load_paged r c (slice_get s.cells a.device)
    acts_instruction (StorePaged c r) =
        quiet_store_paged c (number_in (register a r)) (slice_get s.cells a.device)
    acts_instruction (Get r q field) = quiet_get r field (packet_in s (register a q))
    acts_instruction (Put q r) =
        quiet_put (number_in (register a r)) (packet_in s (register a q))
    acts_instruction (Mark r) = acts_mark (packet_in s (register a r))
    acts_instruction (Acquire lock) =
        quiet_acquire t (spin_lock a lock) (owner_of s.locks (spin_lock a lock))
    acts_instruction (Release lock) =
        quiet_release (spin_lock a lock) (owner_of s.locks (spin_lock a lock))
    acts_instruction AcquireCancel =
        quiet_acquire t SystemCancel (owner_of s.locks SystemCancel)
    acts_instruction ReleaseCancel =
        quiet_release SystemCancel (owner_of s.locks SystemCancel)
    acts_instruction (Insert r q) =
        quiet_insert q (packet_in s (register a r)) (queue_of s a.device q)
    acts_instruction (Remove r q label) = quiet_remove r q label (queue_of s a.device q)
    acts_instruction (Unlink r q) =
        quiet_unlink q (packet_in s (register a r)) (queue_of s a.device q)
    acts_instruction (Arm r q) =
        quiet_arm q (packet_in s (register a r)) (cancel_routine_of set a.driver q)
    acts_instruction (Disarm r label) = quiet_disarm label (packet_in s (register a r))
    acts_instruction (IfCancel r label) = quiet_ask label (packet_in s (register a r))
    acts_instruction (Start r) =
        quiet_start set (packet_in s (register a r)) (start_of s a.device)
    acts_instruction (Take r label) = quiet_take r label (start_of s a.device)
    acts_instruction (Begin r) = quiet_begin (packet_in s (register a r)) (start_of s a.device)
    acts_instruction Next = quiet_next set (start_of s a.device)
    acts_instruction (Dequeue r) = quiet_dequeue (packet_in s (register a r)) (start_of s a.device)
    acts_instruction (Pass r) = quiet_pass set (packet_in s (register a r)) (lower_of set a.device)
    acts_instruction (Call r f) = acts_call set f (packet_in s (register a r)) (lower_of set a.device)
    acts_instruction (IfPending r label) = quiet_look label (packet_in s (register a r))
    acts_instruction (Complete r status) = quiet_complete status (packet_in s (register a r))
    acts_instruction (Ret form) = acts_return under (sort_of set a.driver a.routine) form

    acts_routine : (o : Option Instr)
        → uses_in (routine_effect set s t under a o).actions
        ≡ actions_of (instruction_uses set s a o)
    acts_routine None = refl
    acts_routine (Some i) = acts_instruction i

module _ (set : Set) (s : Shared) (t : ℕ) where
  -- completion
  quiet_lent : (sort : Sort) (n : ℕ) → uses_in (lending sort n) ≡ []
  quiet_lent Hold n = refl
  quiet_lent Dispatch n = refl
  quiet_lent StartIo n = refl
  quiet_lent Dpc n = refl
  quiet_lent Propagate n = refl
  quiet_lent Cancel n = refl

  acts_up : (n : ℕ) (p : Packet) (marked : Bool) → is_marked (current_location p) ≡ marked
      → uses_in (walk_up s n (left_location p)).actions
      ≡ leave_actions n (if marked then UpMarked else Up)
  acts_up n p true is = rw is refl
  acts_up n p false is = rw is refl

  acts_onward : (n : ℕ) (p : Packet) (o : Option Completion)
      → uses_in (walk_from set s n (left_location p) o).actions
      ≡ leave_actions n (onward_of p o)
  acts_onward n p (Some c) =
      ap (λ (actions : List Action). Leaves n ∷ Ups n ∷ actions)
      (quiet_lent (sort_of_completion set c) n)
  acts_onward n p None = acts_depth (nat_lt 1 p.depth) refl
    where
      acts_depth : (deep : Bool) → nat_lt 1 p.depth ≡ deep
          → uses_in (walk_from set s n (left_location p) None).actions
          ≡ leave_actions n (onward_of p None)
      acts_depth true is = rw is (acts_up n p (is_marked (current_location p)) refl)
      acts_depth false is = rw is refl

  acts_walk : (n : ℕ) (o : Option Packet)
      → uses_in (walk_packet set s n o).actions ≡ actions_of (leaves_packet n o)
  acts_walk n None = refl
  acts_walk n (Some p) = acts_onward n p (completion_of (current_location p))

  -- cancellation
  quiet_calls : (n : ℕ) (armer : Armer) (driver : ℕ) (o : Option ℕ)
      → Quiet (cancel_calls s n armer driver o)
  quiet_calls n armer driver None = refl
  quiet_calls n armer driver (Some routine) = refl

  quiet_armed : (after : Shared) (n : ℕ) (o : Option Armer) → Quiet (cancel_armed set after n o)
  quiet_armed after n None = refl
  quiet_armed after n (Some armer) = quiet_called after n armer _ _
    where
      quiet_called : (after : Shared) (n : ℕ) (armer : Armer) (driver : ℕ) (o : Option ℕ)
          → Quiet (cancel_calls after n armer driver o)
      quiet_called after n armer driver None = refl
      quiet_called after n armer driver (Some routine) = refl

  quiet_exchange : (n : ℕ) (o : Option Packet) → Quiet (cancel_exchanges set s n o)
  quiet_exchange n None = refl
  quiet_exchange n (Some p) = quiet_armed _ n p.armer

  quiet_flag : (n : ℕ) (o : Option Packet) → Quiet (cancel_flags s n o)
  quiet_flag n None = refl
  quiet_flag n (Some p) = refl

  quiet_acquires : (n : ℕ) (o : Option ℕ) → Quiet (cancel_acquires s t n o)
  quiet_acquires n None = refl
  quiet_acquires n (Some owner) = either (nat_eq owner t) refl
    where
      either : (b : Bool) → nat_eq owner t ≡ b → Quiet (cancel_acquires s t n (Some owner))
      either true is = rw is refl
      either false is = rw is refl

  quiet_cancel : (n : ℕ) (step : CancelStep) → Quiet (cancel_step set s t n step)
  quiet_cancel n AcquireStep = quiet_acquires n s.locks.system_cancel
  quiet_cancel n SetFlag = quiet_flag n (packet_of s n)
  quiet_cancel n Exchange = quiet_exchange n (packet_of s n)

  -- the top frame
  acts_frame : (under : Option Frame) (f : Frame)
      → uses_in (frame_effect set s t under f).actions ≡ actions_of (frame_uses set s (Some f))
  acts_frame under (Routine a) =
      acts_routine s a set t under (instruction_at set a.driver a.routine a.position)
  acts_frame under (Walk n) = acts_walk n (packet_of s n)
  acts_frame under (CancelFrame c) = quiet_cancel c.packet c.next

module _ (set : Set) (w : World) (t : ℕ) where
  acts_top : (thread : Thread) (o : Option Frame) (below : List Frame)
      → uses_in (top_effect set w t thread below o).actions
      ≡ actions_of (frame_uses set w.shared o)
  acts_top thread None below = refl
  acts_top thread (Some f) below = acts_frame set w.shared t (top_of below) f

  pub acts_step : (o : Option Thread)
      → uses_in (step_thread set w t o).actions
      ≡ actions_of (frame_uses set w.shared (top_of (frames_of o)))
  acts_step None = refl
  acts_step (Some thread) =
      acts_top thread (slice_get thread.frames.items (length thread.frames.items - 1))
      (take (length thread.frames.items - 1) thread.frames.items)

  -- an event that isn't a step: a packet is issued, or nothing is done to uses
  quiet_cancelling : (n : ℕ) (level : Irql) (thread : Thread) (o : Option Packet)
      → (cancel_of w t n level thread o).actions ≡ []
  quiet_cancelling n level thread None = refl
  quiet_cancelling n level thread (Some p) = refl

  quiet_cancel_event : (n : ℕ) (level : Option Irql) (o : Option Thread)
      → (cancel_on w t n level o).actions ≡ []
  quiet_cancel_event n level None = refl
  quiet_cancel_event n None (Some thread) = refl
  quiet_cancel_event n (Some level) (Some thread) =
      either (is_idle thread && nat_lt n w.shared.issued) refl
    where
      either : (b : Bool) → (is_idle thread && nat_lt n w.shared.issued) ≡ b
          → (cancel_on w t n (Some level) (Some thread)).actions ≡ []
      either true is = rw is (quiet_cancelling n level thread (packet_of w.shared n))
      either false is = rw is refl

  quiet_dpc_event : (d : ℕ) (o : Option Thread) (routine : Option ℕ)
      → (dpc_on set w t d o routine).actions ≡ []
  quiet_dpc_event d None routine = refl
  quiet_dpc_event d (Some thread) None = refl
  quiet_dpc_event d (Some thread) (Some routine) =
      either (is_idle thread) (is_queued w.shared d) refl refl
    where
      either : (idle queued : Bool) → is_idle thread ≡ idle → is_queued w.shared d ≡ queued
          → (dpc_on set w t d (Some thread) (Some routine)).actions ≡ []
      either false queued is has = rw is refl
      either true true is has = rw (is, has) refl
      either true false is has = rw (is, has) refl

  quiet_first : (d routine : ℕ) (thread : Thread) (start : StartState) (n : Option ℕ)
      → (startio_for set w t d thread routine start n).actions ≡ []
  quiet_first d routine thread start None = refl
  quiet_first d routine thread start (Some n) = refl

  quiet_from : (d routine : ℕ) (thread : Thread) (start : Option StartState)
      → (startio_from set w t d thread routine start).actions ≡ []
  quiet_from d routine thread None = refl
  quiet_from d routine thread (Some start) =
      quiet_first d routine thread start (head_of start.start_list)

  quiet_startio_event : (d : ℕ) (o : Option Thread) (routine : Option ℕ)
      → (startio_on set w t d o routine).actions ≡ []
  quiet_startio_event d None routine = refl
  quiet_startio_event d (Some thread) None = refl
  quiet_startio_event d (Some thread) (Some routine) = either (is_idle thread) refl
    where
      either : (idle : Bool) → is_idle thread ≡ idle
          → (startio_on set w t d (Some thread) (Some routine)).actions ≡ []
      either true is = rw is (quiet_from d routine thread (start_of w.shared d))
      either false is = rw is refl

  -- what is done to uses is told, or the event is refused without an action
  abbrev Told : Event → Change → Type 0
  Told e c = (uses_in c.actions ≡ actions_of (use_step set w e))
      ⊎ ((c.actions ≡ []) × (c.reply ≡ Refused))

  told_issue : (d : ℕ) (major : Major) (argument : ℕ) (o : Option Thread) (device : Option Device)
      → Told (IssueEvent t d major argument) (issue_on set w t d major argument o device)
  told_issue d major argument None device = inr (refl, refl)
  told_issue d major argument (Some thread) None = inr (refl, refl)
  told_issue d major argument (Some thread) (Some device) =
      either (is_idle thread && can_issue w.shared) refl
    where
      either : (b : Bool) → (is_idle thread && can_issue w.shared) ≡ b
          → Told (IssueEvent t d major argument)
          (issue_on set w t d major argument (Some thread) (Some device))
      either true is = rw is (inl refl)
      either false is = rw is (inr (refl, refl))

  none_in : (actions : List Action) → actions ≡ [] → uses_in actions ≡ []
  none_in actions is = ap (λ (xs : List Action). uses_in xs) is

  pub told_by : (e : Event) → thread_of e ≡ Some t → Told e (effect set w e)
  told_by (IssueEvent k d major argument) is =
      let same : k ≡ t = cc in
      rw same
      (told_issue d major argument (slice_get w.threads t) (slice_get set.devices d))
  told_by (CancelEvent k n level) is =
      let same : k ≡ t = cc in
      rw same
      (inl (none_in _ (quiet_cancel_event n (irql_of level) (slice_get w.threads t))))
  told_by (Interrupt d) is = cc
  told_by (DpcEvent k d) is =
      let same : k ≡ t = cc in
      rw same
      (inl (none_in _ (quiet_dpc_event d (slice_get w.threads t) (dpc_of set d))))
  told_by (StartIoEvent k d) is =
      let same : k ≡ t = cc in
      rw same
      (inl (none_in _ (quiet_startio_event d (slice_get w.threads t) (startio_of set d))))
  told_by (Step k) is =
      let same : k ≡ t = cc in rw same (inl (acts_step (slice_get w.threads t)))
