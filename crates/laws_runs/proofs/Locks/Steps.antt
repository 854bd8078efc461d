-- A thread holds the locks that the state of its top frame says, and every step of that frame keeps
-- that; so no step has a bug check about locks or paged cells.
use Rattle.model.specs.Action.{LockAct, Acquire, Release}
use Rattle.laws_runs.proofs.Past.Owners.{lock_told}
use Rattle.laws_runs.proofs.Common.{ap, inl, inr, refl, sym, ◌∙◌, eq-eqb, list_any, Bool, List, None, Option, Some, [], false, if◌then◌else◌, is_some, nat_eq, not, slice_get, true, ℕ, ◌&&◌, ◌∷◌, ◌≡◌, Action, OnLock, Outcome, completes_with, dispatched, turned, acquired, bug_if, ends_held, first_or, holds, is_lock, lock_acts, with_lock_act, handed, holds_lock, holds_spin_lock, level_fault, refuses, StartState, Set, cancels_for, flow_of, lower_of, sort_of, OperandFits, Actor, Entry, recorded, Shared, asked_of, current_location, next, register, Abs, BugCheck, IrqlNotLessOrEqual, SpinLockAlreadyOwned, SpinLockNotOwned, Lock, SystemCancel, Subject, LockSubject, Instr, Call, Complete, End, LoadPaged, Loop, Mark, Pass, Put, Ret, StorePaged, Return, Continue, Stop, Void, QueueName, Sort, Cancel, Dispatch, Dpc, Hold, Propagate, StartIo, Activation, CancelStep, Frame, CancelFrame, Routine, Packet, Value, Ref, States, all_at, begins_called, Enters, begins_back, begins_lent, begins_lower, first_state, Moved, Runs, state_of, moved_end, arrives, arrives_next, falls_next, has_next, onto, completes_one, returns_by, sends_down, OnTop, runs, MovedOn, queue_moves, waits_move, Low, first_none, second_none, unbroken, Cancels, Comes, GoesTo, awaits_cancel, calls_cancel, calls_down, cancels, completes_gone, completes_packet, computes, ends_cancel, ends_dpc, ends_startio, exchanges, exchanges_gone, finds_empty, finds_none, flags_gone, frees_lock, jumping, lends_to, lets_go, lets_walk, looks_at, marks_packet, onward, opens_loop, pages, passes_down, resumes_gone, resumes_none, resumes_walk, retakes_cancel, retakes_lock, returns_status, sets_flag, stops_none, stops_walk, takes_cancel, takes_lock, touches_gone, turns_loop, walks_to, works_on_queues, works_on_waiting, writes_info, fault_among, is_of_locks, freed_word, taken_word, queued_touches, queued_work, waits_work, Forwarding, Locking, Work, is_touching, lock_freed, lock_taken, packet_operand, work_of}
use Rattle.model.specs.declared.event.Subject.TheVariants.{Cell}
use Rattle.model.specs.Fault.{is_dispatch_level, at_dispatch}
use Rattle.laws_runs.proofs.Locks.Says.{state_says, frame_says, top_says, free_says, is_locking, handed_says, label_says, Locks, taken, freed, says_none, says_cancel}
use Rattle.laws_runs.proofs.Past.Packets.{named}
use Rattle.laws_runs.proofs.Steps.Comes.{Queued, Reads}
use Rattle.laws_runs.proofs.Steps.Words.{Paging}

-- where an activation goes on after an instruction that is about no lock, the same locks are said
module _ (set : Set) (states : States) (s : Shared) (a : Activation) (i : Instr)
    (h : Runs set states s a i) where
  abbrev Quiet : Activation → Type 0
  Quiet b = (l : Lock) → frame_says states (Routine b) l ≡ frame_says states (Routine a) l

  quiet_goes : (b : Activation) (jumped : Bool) → is_locking (work_of i) ≡ false
      → GoesTo a i b jumped → Quiet b
  quiet_goes b jumped quiet (onward registers on written) l =
      ap (λ state. state_says state a.device l)
      (arrives set states s a i h _ false (onward registers on written))
      ∙ handed_says set a.driver (state_of states a) i a.device l quiet
  quiet_goes b jumped quiet (jumping label labelled) l =
      ap (λ state. state_says state a.device l)
      (arrives set states s a i h _ true (jumping label labelled))
      ∙ label_says (state_of states a) i a.device l

  quiet_next : is_locking (work_of i) ≡ false → has_next (flow_of i) ≡ true → Quiet (next a)
  quiet_next quiet on l =
      ap (λ state. state_says state a.device l) (arrives_next set states s a i h on)
      ∙ handed_says set a.driver (state_of states a) i a.device l quiet

onto_says : (set : Set) (driver : ℕ) (s : Abs) (i : Instr) (jumped : Bool) (d : ℕ) (l : Lock)
    → is_locking (work_of i) ≡ false → state_says (onto set driver s i jumped) d l
    ≡ state_says s d l
onto_says set driver s i false d l quiet = handed_says set driver s i d l quiet
onto_says set driver s i true d l quiet = label_says s i d l

queued_quiet : {set : Set} {s : Shared} {a b : Activation} {i : Instr} {queues : List
    (List (List ℕ))}
    {lists : List StartState} {actions : List Action} {full : Bool}
    → Queued set s a i b queues lists actions full → is_locking (work_of i) ≡ false
queued_quiet queued = ap is_locking (queued_work queued)

-- a routine that begins says no spin lock of a device
first_spin : (sort : Sort) (name : Option QueueName)
    → holds_spin_lock (first_state sort name) ≡ false
first_spin Dispatch name = refl
first_spin StartIo name = refl
first_spin Dpc name = refl
first_spin Propagate name = refl
first_spin Hold name = refl
first_spin Cancel None = refl
first_spin Cancel (Some list) = refl

named_cancel : (name : Option QueueName) → is_some name ≡ true
    → (first_state Cancel name).cancel ≡ true
named_cancel None h = cc
named_cancel (Some list) h = refl

-- so it says no lock, but for a cancel routine, which says the system cancel spin lock
module _ (set : Set) (states : States) where
  pub begun_says : (issued : ℕ) (a : Activation) (sort : Sort) (first : Value) (l : Lock)
      → Enters set states issued a sort first
      → (first_state sort (cancels_for set a.driver a.routine)).cancel ≡ false
      → frame_says states (Routine a) l ≡ false
  begun_says issued a sort first l begins free =
      ap (λ state. state_says state a.device l) begins.start
      ∙ says_none (first_state sort (cancels_for set a.driver a.routine)) a.device l free
      (first_spin sort (cancels_for set a.driver a.routine))

  cancelled_says : (issued : ℕ) (a : Activation) (first : Value) (l : Lock)
      → Enters set states issued a Cancel first
      → frame_says states (Routine a) l ≡ is_lock SystemCancel l
  cancelled_says issued a first l begins =
      let name : Option QueueName = cancels_for set a.driver a.routine in
      ap (λ state. state_says state a.device l) begins.start
      ∙ says_cancel (first_state Cancel name) a.device l
      (named_cancel name (begins.named begins.of_sort)) (first_spin Cancel name)

-- a paged cell is touched by a dispatch routine, and while no lock is held
abbrev LevelFree : Abs → Sort → Type 0
LevelFree s sort = (sort ≡ Dispatch) × (holds_lock s ≡ false)

level_free : (s : Abs) (sort : Sort) → level_fault s sort ≡ None → LevelFree s sort
level_free s Dispatch rule = (refl, unbroken _ _ rule)
level_free s _ rule = cc

paged_free : (s : Abs) (i : Instr) (sort : Sort) (set : Set) (driver : ℕ) → work_of i ≡ Paging
    → refuses s i sort set driver ≡ None → LevelFree s sort
paged_free s (LoadPaged r c) sort set driver is rule = level_free s sort (first_none _ _ rule)
paged_free s (StorePaged c r) sort set driver is rule = level_free s sort (second_none _ _ rule)
paged_free s _ sort set driver is rule = cc

-- what touches a packet is about no lock
touch_quiet : (w : Work) → is_touching w ≡ true → is_locking w ≡ false
touch_quiet Locking is = cc
touch_quiet _ is = refl

-- where a packet is sent down the caller holds no lock, nor does the routine that begins
sends : (set : Set) (states : States) (s : Shared) (a : Activation) (i : Instr)
    → Runs set states s a i
    → (r lower n : ℕ) (p : Packet) → work_of i ≡ Forwarding → packet_operand i ≡ Some r
    → Reads s a r n
    → lower_of set a.device ≡ Some lower → (l : Lock)
    → frame_says states (Routine a) l
    ≡ frame_says states
    (Routine (dispatched set lower (slice_get set.devices lower) (asked_of (current_location p)) n))
    l
sends set states s a i h r lower n p is operand reads below l =
    free_says (state_of states a) a.device l
    (sends_down (state_of states a) (sort_of set a.driver a.routine) set a.driver i r h.obeys is
    operand).free
    ∙ sym (begun_says set states s.issued
    (dispatched set lower (slice_get set.devices lower) (asked_of (current_location p)) n) Dispatch
    (Ref n) l
    (begins_lower set states h.good s.issued n (named s (register a r) n reads) a.device lower
    (asked_of (current_location p)) below) refl)

-- and none is held where a routine returns
returns : (set : Set) (states : States) (s : Shared) (a : Activation) (form : Return)
    → Runs set states s a (Ret form)
    → (l : Lock) → frame_says states (Routine a) l ≡ false
returns set states s a form h l =
    free_says (state_of states a) a.device l
    (returns_by (state_of states a) (sort_of set a.driver a.routine) set a.driver form h.obeys).free

-- the operand of a lock
operand : (set : Set) (states : States) (s : Shared) (a : Activation) (i : Instr)
    → Runs set states s a i → OperandFits i
operand set states s a i h = all_at OperandFits h.routine.code a.position i h.known.operands h.here

-- a lock is held from now on by one of the threads, or not
now_held : (t : ℕ) (same said before b : Bool) → before ≡ said
    → (if nat_eq t t && same then b else before) ≡ (if same then b else said)
now_held t same said before b h = rw (eq-eqb t t refl, h) refl

now_its_own : (same : Bool) → (if same then true else false) ≡ same
now_its_own true = refl
now_its_own false = refl

now_free : (same : Bool) → (if same then false else same) ≡ false
now_free true = refl
now_free false = refl

abbrev is_acquire : LockAct → Bool
is_acquire Acquire = true
is_acquire Release = false

-- what one act more says
lasts : (act : LockAct) (acts : List LockAct) → ends_held (act ∷ acts) ≡ is_acquire act
lasts Acquire acts = refl
lasts Release acts = refl

module _ (set : Set) (states : States) (s : Shared) (past : List Entry) (actor : Actor) where
  own_told : (act : LockAct) (lock l : Lock)
      → ends_held (with_lock_act (OnLock lock act) (nat_eq actor.thread actor.thread) l
      (lock_acts past actor.thread l))
      ≡ (if nat_eq actor.thread actor.thread && is_lock lock l then is_acquire act
      else holds past actor.thread l)
  own_told act lock l =
      let its : Bool = nat_eq actor.thread actor.thread && is_lock lock l in
      let acts : List LockAct = lock_acts past actor.thread l in
      lock_told act its acts
      ∙ ap (λ (b : Bool). if its then b else ends_held acts) (lasts act acts)

  abbrev pub Agrees : Frame → Type 0
  Agrees f = (l : Lock) → holds past actor.thread l ≡ frame_says states f l

  module _ (a : Activation) (i : Instr) (h : Runs set states s a i) (agrees : Agrees (Routine a))
    where
      locks_taken : (lock : Lock) → lock_taken a i ≡ Some lock
          → Locks (state_of states a) (handed set a.driver (state_of states a) i) a.device lock
          false
      locks_taken lock takes =
          taken (state_of states a) a (sort_of set a.driver a.routine) set h.stays.eight i lock
          takes
          (operand set states s a i h) h.obeys

      locks_freed : (lock : Lock) → lock_freed a i ≡ Some lock
          → Locks (state_of states a) (handed set a.driver (state_of states a) i) a.device lock true
      locks_freed lock frees =
          freed (state_of states a) a (sort_of set a.driver a.routine) set h.stays.eight i lock
          frees
          (operand set states s a i h) h.obeys

      own_now : (lock : Lock) (held : Bool) (act : LockAct) → has_next (flow_of i) ≡ true
          → ((l : Lock) → state_says (handed set a.driver (state_of states a) i) a.device l
          ≡ (if is_lock lock l then is_acquire act else state_says (state_of states a) a.device l))
          → (l : Lock)
          → ends_held (with_lock_act (OnLock lock act) (nat_eq actor.thread actor.thread) l
          (lock_acts past actor.thread l))
          ≡ frame_says states (Routine (next a)) l
      own_now lock held act on now l =
          own_told act lock l
          ∙ now_held actor.thread (is_lock lock l) (state_says (state_of states a) a.device l)
          (holds past actor.thread l) (is_acquire act)
          (agrees l)
          ∙ sym (now l)
          ∙ ap (λ state. state_says state a.device l) (sym (arrives_next set states s a i h on))

  -- the system cancel spin lock, alone held, is freed
  cancel_freed : ((l : Lock) → holds past actor.thread l ≡ is_lock SystemCancel l) → (l : Lock)
      → ends_held (with_lock_act (OnLock SystemCancel Release) (nat_eq actor.thread actor.thread) l
      (lock_acts past actor.thread l))
      ≡ false
  cancel_freed agrees l =
      own_told Release SystemCancel l
      ∙ now_held actor.thread (is_lock SystemCancel l) (is_lock SystemCancel l)
      (holds past actor.thread l) false (agrees l)
      ∙ now_free (is_lock SystemCancel l)

  -- the locks after a step of IoCancelIrp: it takes the system cancel spin lock at the first, and
  -- has it until it frees it or the cancel routine begins, which then has it
  cancel_own : (n : ℕ) (step : CancelStep) (o : Outcome)
      → OnTop set states s (CancelFrame (record { packet = n; next = step }))
      → Agrees (CancelFrame (record { packet = n; next = step }))
      → Cancels set s actor.thread n step o → (l : Lock)
      → holds (recorded past actor o.actions) actor.thread l ≡ top_says states o.frames l
  cancel_own n step o top agrees (takes_cancel free) l =
      own_told Acquire SystemCancel l
      ∙ now_held actor.thread (is_lock SystemCancel l) false (holds past actor.thread l) true
      (agrees l)
      ∙ now_its_own (is_lock SystemCancel l)
  cancel_own n step o top agrees (retakes_cancel its) l =
      own_told Acquire SystemCancel l
      ∙ now_held actor.thread (is_lock SystemCancel l) false (holds past actor.thread l) true
      (agrees l)
      ∙ now_its_own (is_lock SystemCancel l)
  cancel_own n step o top agrees (awaits_cancel owner owned apart) l = agrees l
  cancel_own n step o top agrees (flags_gone gone) l = cancel_freed agrees l
  cancel_own n step o top agrees (sets_flag p there) l = agrees l
  cancel_own n step o top agrees (exchanges_gone gone) l = cancel_freed agrees l
  cancel_own n step o top agrees (finds_empty p there empty) l = cancel_freed agrees l
  cancel_own n step o top agrees (finds_none p armer there is none) l = cancel_freed agrees l
  cancel_own n step o top agrees (calls_cancel p armer routine there is named) l =
      agrees l ∙ sym (cancelled_says set states s.issued _ (Ref n) l
      (begins_called set states s top.good top.fits n p armer routine top.stands there is named))

  -- the locks after a step
  pub own : (under : Option Frame) (f : Frame) (o : Outcome) → OnTop set states s f → Agrees f
      → Comes set s actor.thread under f o → (l : Lock)
      → holds (recorded past actor o.actions) actor.thread l ≡ top_says states o.frames l
  own under f o top agrees (computes a i b jumped cells at is goes long) l =
      agrees l ∙ sym
      (quiet_goes set states s a i (runs set states s a i top at) b jumped (rw is refl) goes l)
  own under f o top agrees (opens_loop a turns at room) l =
      agrees l ∙ sym
      (quiet_next set states s a (Loop turns) (runs set states s a (Loop turns) top at) refl
      refl l)
  own under f o top agrees (turns_loop a loop at there) l =
      let moved : Moved set states s.issued a (turned a loop) (state_of states a) =
      moved_end set states s a (runs set states s a End top at) loop there in
      agrees l ∙ ap (λ state. state_says state a.device l) (sym moved.arrives)
      ∙ ap (λ d. state_says (state_of states (turned a loop)) d l) (sym moved.device)
  own under f o top agrees (pages a i b cell cells at is goes long) l =
      agrees l ∙ sym
      (quiet_goes set states s a i (runs set states s a i top at) b false (rw is refl) goes l)
  own under f o top agrees (touches_gone a i r n at is on operand reads gone) l =
      agrees l ∙ sym
      (quiet_next set states s a i (runs set states s a i top at) (touch_quiet (work_of i) is)
      (falls_next (flow_of i) on) l)
  own under f o top agrees (looks_at a i b jumped r n p at is goes operand reads there jumps) l =
      agrees l ∙ sym
      (quiet_goes set states s a i (runs set states s a i top at) b jumped (rw is refl) goes l)
  own under f o top agrees (writes_info a q r n p info at reads there number) l =
      agrees l ∙ sym
      (quiet_next set states s a (Put q r) (runs set states s a (Put q r) top at) refl refl l)
  own under f o top agrees (marks_packet a r n p at reads there) l =
      agrees l ∙ sym
      (quiet_next set states s a (Mark r) (runs set states s a (Mark r) top at) refl refl l)
  own under f o top agrees (exchanges a i b jumped r n p armer at is goes operand reads there how)
      l =
      agrees l ∙ sym
      (quiet_goes set states s a i (runs set states s a i top at) b jumped (rw is refl) goes l)
  own under f o top agrees (takes_lock a i lock at takes free) l =
      let h : Runs set states s a i = runs set states s a i top at in
      own_now a i h agrees lock false Acquire
      (falls_next (flow_of i) (taken_word a i lock takes).on)
      (locks_taken a i h agrees lock takes).now l
  own under f o top agrees (retakes_lock a i lock at takes its) l =
      let h : Runs set states s a i = runs set states s a i top at in
      own_now a i h agrees lock false Acquire
      (falls_next (flow_of i) (taken_word a i lock takes).on)
      (locks_taken a i h agrees lock takes).now l
  own under f o top agrees (frees_lock a i lock owner at frees there) l =
      let h : Runs set states s a i = runs set states s a i top at in
      own_now a i h agrees lock true Release (falls_next (flow_of i) (freed_word a i lock frees).on)
      (locks_freed a i h agrees lock frees).now l
  own under f o top agrees (works_on_queues a i b queues starts actions full at queued) l =
      let on : MovedOn set states s a i b queues starts =
      queue_moves set states s a i (runs set states s a i top at) queued in
      let says : frame_says states (Routine b) l ≡ frame_says states (Routine a) l =
      ap (λ d. state_says (state_of states b) d l) on.moved.device
      ∙ ap (λ state. state_says state a.device l) on.moved.arrives
      ∙ onto_says set a.driver (state_of states a) i on.jumped a.device l (queued_quiet queued) in
      elim (queued_touches queued) [
        | inl none ↦ rw none (agrees l ∙ sym says)
        | inr one ↦ rw one.1 (agrees l ∙ sym says)
      ]
  own under f o top agrees (works_on_waiting a i starts n p armer full at there waits) l =
      let on : MovedOn set states s a i (next a) s.queues starts =
      waits_move set states s a i (runs set states s a i top at) waits in
      agrees l ∙ sym
      (ap (λ d. state_says (state_of states (next a)) d l) on.moved.device
      ∙ ap (λ state. state_says state a.device l) on.moved.arrives
      ∙ onto_says set a.driver (state_of states a) i on.jumped a.device l
      (ap is_locking (waits_work waits)))
  own under f o top agrees (completes_packet a r status n p at reads there) l =
      let h : Runs set states s a (Complete r status) = runs set states s a (Complete r status) top
      at in
      agrees l ∙ free_says (state_of states a) a.device l
      (completes_one (state_of states a) (sort_of set a.driver a.routine) set a.driver r status
      h.obeys).free
  own under f o top agrees (completes_gone a r status n at reads gone) l =
      agrees l ∙ sym
      (quiet_next set states s a (Complete r status)
      (runs set states s a (Complete r status) top at)
      refl refl l)
  own under f o top agrees (passes_down a r n p lower at reads there below) l =
      let h : Runs set states s a (Pass r) = runs set states s a (Pass r) top at in
      agrees l ∙ sends set states s a (Pass r) h r lower n p refl refl reads below l
  own under f o top agrees (calls_down a r g n p lower at reads there below) l =
      let h : Runs set states s a (Call r g) = runs set states s a (Call r g) top at in
      agrees l ∙ sends set states s a (Call r g) h r lower n p refl refl reads below l
  own under f o top agrees (returns_status a form status at is told) l =
      agrees l ∙ returns set states s a form (runs set states s a (Ret form) top at) l
  own under f o top agrees (lets_go a at is walk) l =
      agrees l ∙ returns set states s a Continue (runs set states s a (Ret Continue) top at) l
  own under f o top agrees (lets_walk a n at is) l =
      agrees l ∙ returns set states s a Continue (runs set states s a (Ret Continue) top at) l
  own under f o top agrees (ends_startio a at is) l =
      agrees l ∙ returns set states s a Void (runs set states s a (Ret Void) top at) l
  own under f o top agrees (ends_dpc a at is) l =
      agrees l ∙ returns set states s a Void (runs set states s a (Ret Void) top at) l
  own under f o top agrees (resumes_walk a n p at is there) l =
      agrees l ∙ returns set states s a Continue (runs set states s a (Ret Continue) top at) l
  own under f o top agrees (resumes_gone a n at is gone) l =
      agrees l ∙ returns set states s a Continue (runs set states s a (Ret Continue) top at) l
  own under f o top agrees (resumes_none a at is walk) l =
      agrees l ∙ returns set states s a Continue (runs set states s a (Ret Continue) top at) l
  own under f o top agrees (stops_walk a n at above) l =
      agrees l ∙ returns set states s a Stop (runs set states s a (Ret Stop) top at) l
  own under f o top agrees (stops_none a at above walk) l =
      agrees l ∙ returns set states s a Stop (runs set states s a (Ret Stop) top at) l
  own under f o top agrees (ends_cancel a at is) l =
      agrees l ∙ returns set states s a Void (runs set states s a (Ret Void) top at) l
  own under f o top agrees (cancels n step made moves) l =
      cancel_own n step made top agrees moves l
  own under f o top agrees (walks_to n p c there set_there lends) l =
      agrees l ∙ sym (begun_says set states s.issued (completes_with set c n) Propagate (Ref n) l
      (begins_back set states s top.good top.fits n p c top.stands there set_there lends) refl)
  own under f o top agrees (lends_to n p c there set_there lends) l =
      agrees l ∙ sym (begun_says set states s.issued (completes_with set c n) Hold (Ref n) l
      (begins_lent set states s top.good top.fits n p c top.stands there set_there lends) refl)
  own under f o top agrees _ l = agrees l

  -- so there is no bug check about locks, nor about a paged cell, since dispatch routines are on
  -- threads that began at PASSIVE_LEVEL
  none_held : (locks : List Lock) → ((l : Lock) → holds past actor.thread l ≡ false)
      → list_any (λ l. holds past actor.thread l) locks ≡ false
  none_held [] none = refl
  none_held (l ∷ locks) none = rw (none l) (none_held locks none)

  low_level : is_dispatch_level actor.root ≡ false
      → ((l : Lock) → holds past actor.thread l ≡ false)
      → at_dispatch past actor ≡ false
  low_level low none = rw low (none_held (acquired past) none)

  no_bug : (b : Bool) (check : BugCheck) (subject : Subject) → b ≡ false
      → first_or (bug_if b check subject) None ≡ None
  no_bug true check subject h = cc
  no_bug false check subject h = refl

  cancel_frees : ((l : Lock) → holds past actor.thread l ≡ is_lock SystemCancel l)
      → first_or (bug_if (not (holds past actor.thread SystemCancel)) SpinLockNotOwned
      (LockSubject SystemCancel)) None ≡ None
  cancel_frees agrees =
      no_bug (not (holds past actor.thread SystemCancel)) SpinLockNotOwned
      (LockSubject SystemCancel)
      (ap not (agrees SystemCancel))

  -- IoCancelIrp takes the system cancel spin lock when its thread hasn't it, and frees it when it
  -- has
  cancel_faults : (n : ℕ) (step : CancelStep) (o : Outcome)
      → Agrees (CancelFrame (record { packet = n; next = step }))
      → Cancels set s actor.thread n step o → fault_among is_of_locks past actor o.actions ≡ None
  cancel_faults n step o agrees (takes_cancel free) =
      no_bug (holds past actor.thread SystemCancel) SpinLockAlreadyOwned (LockSubject SystemCancel)
      (agrees SystemCancel)
  cancel_faults n step o agrees (retakes_cancel its) =
      no_bug (holds past actor.thread SystemCancel) SpinLockAlreadyOwned (LockSubject SystemCancel)
      (agrees SystemCancel)
  cancel_faults n step o agrees (awaits_cancel owner owned apart) = refl
  cancel_faults n step o agrees (flags_gone gone) = cancel_frees agrees
  cancel_faults n step o agrees (sets_flag p there) = refl
  cancel_faults n step o agrees (exchanges_gone gone) = cancel_frees agrees
  cancel_faults n step o agrees (finds_empty p there empty) = cancel_frees agrees
  cancel_faults n step o agrees (finds_none p armer there is none) = cancel_frees agrees
  cancel_faults n step o agrees (calls_cancel p armer routine there is named) = refl

  pub lock_faults : (under : Option Frame) (f : Frame) (o : Outcome)
      → Low set actor.root f
      → OnTop set states s f → Agrees f → Comes set s actor.thread under f o
      → fault_among is_of_locks past actor o.actions ≡ None
  lock_faults under f o low top agrees (pages a i b cell cells at is goes long) =
      let h : Runs set states s a i = runs set states s a i top at in
      let free : LevelFree (state_of states a) (sort_of set a.driver a.routine) =
      paged_free (state_of states a) i (sort_of set a.driver a.routine) set a.driver is h.obeys in
      no_bug (at_dispatch past actor) IrqlNotLessOrEqual (Cell cell)
      (low_level (ap is_dispatch_level (low free.0))
      (λ l. agrees l ∙ free_says (state_of states a) a.device l free.1))
  lock_faults under f o low top agrees (takes_lock a i lock at takes free) =
      let h : Runs set states s a i = runs set states s a i top at in
      no_bug (holds past actor.thread lock) SpinLockAlreadyOwned (LockSubject lock)
      (agrees lock ∙ (locks_taken a i h agrees lock takes).before)
  lock_faults under f o low top agrees (retakes_lock a i lock at takes its) =
      let h : Runs set states s a i = runs set states s a i top at in
      no_bug (holds past actor.thread lock) SpinLockAlreadyOwned (LockSubject lock)
      (agrees lock ∙ (locks_taken a i h agrees lock takes).before)
  lock_faults under f o low top agrees (frees_lock a i lock owner at frees there) =
      let h : Runs set states s a i = runs set states s a i top at in
      no_bug (not (holds past actor.thread lock)) SpinLockNotOwned (LockSubject lock)
      (ap not (agrees lock ∙ (locks_freed a i h agrees lock frees).before))
  lock_faults under f o low top agrees
      (works_on_queues a i b queues starts actions full at queued) =
      elim (queued_touches queued) [ inl none ↦ rw none refl | inr one ↦ rw one.1 refl ]
  lock_faults under f o low top agrees (cancels n step made moves) =
      cancel_faults n step made agrees moves
  lock_faults under f o low top agrees _ = refl
