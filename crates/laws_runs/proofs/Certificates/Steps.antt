-- What a step executes is paid for by what its frame had left to execute, and a routine that begins
-- has its certificate left.
use Rattle.laws_runs.proofs.Common.{ap, arith, drop, inl, inr, refl, subst, sym, ◌-◌, List, None, Option, Some, [], false, slice_set, true, ℕ, ◌+◌, ◌<◌, ◌∷◌, ◌≡◌, ◌≤◌, Outcome, answered_in, asks, operand_of, told_to, turned, open_at, Set, flow_of, instruction_at, lower_of, routine_of, Shared, asked_of, current_location, next, register, Abs, Lock, Instr, Acquire, AcquireCancel, Call, Complete, End, Loop, Mark, Pass, Put, Release, ReleaseCancel, Ret, Continue, Stop, Void, RoutineOf, Status, Activation, CancelStep, Frame, CancelFrame, Routine, Walk, Packet, Value, StatusValue, States, begins_called, begins_back, begins_lent, begins_lower, Moved, Runs, state_of, never_lacks, moved_end, moved_loop, onto, OnTop, runs, MovedOn, queue_moves, waits_move, told_frame, told_is, told_last, Cancels, Comes, Executing, awaits_cancel, awaits_lock, calls_cancel, calls_down, cancels, carries_up, completes_gone, completes_packet, computes, ends_cancel, ends_dpc, ends_startio, errs, exchanges, exchanges_gone, finds_empty, finds_none, flags_gone, frees_lock, lends_to, lets_go, lets_walk, looks_at, marks_packet, opens_loop, pages, passes_down, resumes_gone, resumes_none, resumes_walk, retakes_cancel, retakes_lock, returns_status, sets_flag, stops_none, stops_walk, takes_cancel, takes_lock, tops_out, touches_gone, turns_loop, walks_gone, walks_to, walks_up, works_on_queues, works_on_waiting, writes_info, queued_touches, lock_freed, lock_taken}
use Rattle.laws_runs.proofs.Past.Packets.{named}
use Rattle.laws_runs.proofs.Certificates.Owed.{executed_in, Alike, AllAlike, self_alike, Pays}
use Rattle.laws_runs.proofs.States.Frames.{due, due_of, due_is}
use Rattle.laws_runs.proofs.States.Moves.{falls_plain, is_plain, moved, plain_open, plain_left, some_due}
use Rattle.laws_runs.proofs.States.Remaining.{rest, summed}

-- what a frame has left to execute
abbrev pub frame_due : Set → Frame → ℕ
frame_due set (Routine a) = due set a
frame_due set (Walk n) = 0
frame_due set (CancelFrame c) = 0

-- registers don't matter to it
due_with : (o : Option RoutineOf) (a : Activation) (values : List Value)
    → due_of o (record a { registers = values }) ≡ due_of o a
due_with None a values = refl
due_with (Some routine) a values = refl

-- so what is told a status owes as much
module _ (set : Set) where
  answered_alike : (a : Activation) (status : Status) (r : Option ℕ)
      → Alike (frame_due set) (Routine a) (Routine (answered_in a status r))
  answered_alike a status None = (refl, refl, refl)
  answered_alike a status (Some r) = (
    refl,
    refl,
    due_with (routine_of set a.driver a.routine) a
        (slice_set a.registers r (StatusValue status)),
  )

  frame_alike : (told : Option Status) (f : Frame) → Alike (frame_due set) f (told_frame set told f)
  frame_alike None (Routine a) = (refl, refl, refl)
  frame_alike None (Walk n) = tt
  frame_alike (Some status) (Routine a) =
      answered_alike a status (operand_of (instruction_at set a.driver a.routine (a.position - 1)))
  frame_alike _ _ = tt

  last_alike : (told : Option Status) (below : List Frame)
      → AllAlike (frame_due set) below (told_last set told below)
  last_alike told [] = tt
  last_alike told (f ∷ []) = (frame_alike told f, tt)
  last_alike told (f ∷ g ∷ below) = (self_alike (frame_due set) f, last_alike told (g ∷ below))

  pub told_alike : (told : Option Status) (below : List Frame)
      → AllAlike (frame_due set) below (told_to set below told)
  told_alike told below =
      subst (λ (now : List Frame). AllAlike (frame_due set) below now)
      (sym (told_is set below told))
      (last_alike told below)

-- a lock is taken or freed on the way to the next position
takes_plain : (a : Activation) (i : Instr) (lock : Lock) → lock_taken a i ≡ Some lock
    → is_plain (flow_of i) ≡ true
takes_plain a (Acquire l) lock is = refl
takes_plain a AcquireCancel lock is = refl
takes_plain a _ lock is = cc

frees_plain : (a : Activation) (i : Instr) (lock : Lock) → lock_freed a i ≡ Some lock
    → is_plain (flow_of i) ≡ true
frees_plain a (Release l) lock is = refl
frees_plain a ReleaseCancel lock is = refl
frees_plain a _ lock is = cc

module _ (set : Set) (states : States) (s : Shared) where
  next_due : (a : Activation) (i : Instr) → Runs set states s a i → is_plain (flow_of i) ≡ true
      → 1 + due set (next a) ≤ due set a
  next_due a i h plain =
      let code : List Instr = h.routine.code in
      let same : summed (open_at code (a.position + 1)) (rest (drop (a.position + 1) code))
      ≡ summed (open_at code a.position) (rest (drop (a.position + 1) code)) =
      ap (λ (loops : List ℕ). summed loops (rest (drop (a.position + 1) code)))
      (plain_open set states s a i h plain) in
      omega (
        arith,
        due_is set h.routine a h.stays.is_of,
        due_is set h.routine (next a) h.stays.is_of,
        plain_left set states s a i h plain,
      )

  -- it goes on, and what it executed is one instruction
  onwards : (a b : Activation) (n : ℕ) → n ≡ 1 → (1 + due set b ≤ due set a) × (b.driver ≡ a.driver)
      ×
      (b.routine ≡ a.routine)
      → Pays (frame_due set) set (Routine a) n (Routine b ∷ [])
  onwards a b n one h = (let less : 1 + due set b ≤ due set a = h.0 in omega arith, h.1, h.2, tt)

  goes_next_on : (a : Activation) (i : Instr) (n : ℕ) → n ≡ 1 → OnTop set states s (Routine a)
      → Executing set a i
      → is_plain (flow_of i) ≡ true → Pays (frame_due set) set (Routine a) n (Routine (next a) ∷ [])
  goes_next_on a i n one h at plain =
      onwards a (next a) n one (next_due a i (runs set states s a i h at) plain, refl, refl)

  moves_on : (a b : Activation) (to : Abs) (n : ℕ) → n ≡ 1 → Moved set states s.issued a b to
      → Pays (frame_due set) set (Routine a) n (Routine b ∷ [])
  moves_on a b to n one m = onwards a b n one (m.less, m.driver, m.routine)

  ends : (a : Activation) (i : Instr) (n : ℕ) → n ≡ 1 → OnTop set states s (Routine a)
      → Executing set a i
      → is_plain (flow_of i) ≡ true → n ≤ due set a
  ends a i n one h at plain =
      omega (arith, some_due set states s a i (runs set states s a i h at) plain)

  asks_on : (a : Activation) (i : Instr) (lower n : ℕ) (p : Packet) (executed : ℕ) → executed ≡ 1
      → OnTop set states s (Routine a) → Executing set a i → is_plain (flow_of i) ≡ true
      → n < s.issued
      → lower_of set a.device ≡ Some lower
      → Pays (frame_due set) set (Routine a) executed (asks set a lower p n)
  asks_on a i lower n p executed one h at plain low below =
      let here : Pays (frame_due set) set (Routine a) executed (Routine (next a) ∷ []) =
      goes_next_on a i executed one h at plain in (
        here.0,
        refl,
        refl,
        (
          (begins_lower set states h.good s.issued n low a.device lower
              (asked_of (current_location p)) below).due,
          tt,
        ),
      )

  -- IoCancelIrp executes nothing, and the cancel routine that it calls begins
  cancel_pays : (t n : ℕ) (step : CancelStep) (o : Outcome)
      → OnTop set states s (CancelFrame (record { packet = n; next = step }))
      → Cancels set s t n step o
      → Pays (frame_due set) set (CancelFrame (record { packet = n; next = step }))
      (executed_in o.actions) o.frames
  cancel_pays t n step o h (takes_cancel free) = (tt, tt)
  cancel_pays t n step o h (retakes_cancel its) = (tt, tt)
  cancel_pays t n step o h (awaits_cancel owner owned apart) = (tt, tt)
  cancel_pays t n step o h (flags_gone gone) = omega arith
  cancel_pays t n step o h (sets_flag p there) = (tt, tt)
  cancel_pays t n step o h (exchanges_gone gone) = omega arith
  cancel_pays t n step o h (finds_empty p there empty) = omega arith
  cancel_pays t n step o h (finds_none p armer there is none) = omega arith
  cancel_pays t n step o h (calls_cancel p armer routine there is named) =
      ((begins_called set states s h.good h.fits n p armer routine h.stands there is named).due, tt)

  -- every shape
  pub pays : (t : ℕ) (under : Option Frame) (f : Frame) (o : Outcome) → OnTop set states s f
      → Comes set s t under f o → Pays (frame_due set) set f (executed_in o.actions) o.frames
  pays t under f o h (errs a lacks) = absurd (never_lacks set states s a h lacks)
  pays t under f o h (awaits_lock a i lock owner at taken owned apart) =
      (omega arith, refl, refl, tt)
  pays t under f o h (computes a i b jumped cells at work goes long) =
      moves_on a b (onto set a.driver (state_of states a) i jumped) 1 refl
      (moved set states s a i (runs set states s a i h at) b jumped (rw work refl) goes)
  pays t under f o h (opens_loop a turns at few) =
      moves_on a _ (state_of states a) 1 refl
      (moved_loop set states s a turns (runs set states s a (Loop turns) h at))
  pays t under f o h (turns_loop a l at inner) =
      moves_on a (turned a l) (state_of states a) 1 refl
      (moved_end set states s a (runs set states s a End h at) l inner)
  pays t under f o h (pages a i b cell cells at work goes long) =
      moves_on a b (onto set a.driver (state_of states a) i false) 1 refl
      (moved set states s a i (runs set states s a i h at) b false (rw work refl) goes)
  pays t under f o h (touches_gone a i r n at touching on operand reads gone) =
      goes_next_on a i 1 refl h at (falls_plain (flow_of i) on)
  pays t under f o h (looks_at a i b jumped r n p at work goes operand reads there jumps) =
      moves_on a b (onto set a.driver (state_of states a) i jumped) 1 refl
      (moved set states s a i (runs set states s a i h at) b jumped (rw work refl) goes)
  pays t under f o h (writes_info a q r n p info at reads there is) =
      goes_next_on a (Put q r) 1 refl h at refl
  pays t under f o h (marks_packet a r n p at reads there) =
      goes_next_on a (Mark r) 1 refl h at refl
  pays t under f o h (exchanges a i b jumped r n p armer at work goes operand reads there how) =
      moves_on a b (onto set a.driver (state_of states a) i jumped) 1 refl
      (moved set states s a i (runs set states s a i h at) b jumped (rw work refl) goes)
  pays t under f o h (takes_lock a i lock at taken free) =
      goes_next_on a i 1 refl h at (takes_plain a i lock taken)
  pays t under f o h (retakes_lock a i lock at taken owned) =
      goes_next_on a i 1 refl h at (takes_plain a i lock taken)
  pays t under f o h (frees_lock a i lock owner at freed owned) =
      goes_next_on a i 1 refl h at (frees_plain a i lock freed)
  pays t under f o h (works_on_queues a i b queues starts actions full at queued) =
      let on : MovedOn set states s a i b queues starts =
      queue_moves set states s a i (runs set states s a i h at) queued in
      let moves : Pays (frame_due set) set (Routine a) 1 (Routine b ∷ []) =
      moves_on a b (onto set a.driver (state_of states a) i on.jumped) 1 refl on.moved in
      elim (queued_touches queued) [ inl none ↦ rw none moves | inr one ↦ rw one.1 moves ]
  pays t under f o h (works_on_waiting a i starts n p armer full at there waits) =
      let on : MovedOn set states s a i (next a) s.queues starts =
      waits_move set states s a i (runs set states s a i h at) waits in
      moves_on a (next a) (onto set a.driver (state_of states a) i on.jumped) 1 refl on.moved
  pays t under f o h (completes_packet a r status n p at reads there) =
      let here : Pays (frame_due set) set (Routine a) 1 (Routine (next a) ∷ []) =
      goes_next_on a (Complete r status) 1 refl h at refl in
      (here.0, refl, refl, (tt, tt))
  pays t under f o h (completes_gone a r status n at reads gone) =
      goes_next_on a (Complete r status) 1 refl h at refl
  pays t under f o h (passes_down a r n p lower at reads there below) =
      asks_on a (Pass r) lower n p 1 refl h at refl (named s (register a r) n reads) below
  pays t under f o h (calls_down a r completion n p lower at reads there below) =
      asks_on a (Call r completion) lower n p 1 refl h at refl (named s (register a r) n reads)
      below
  pays t under f o h (returns_status a form status at sort is) = ends a (Ret form) 1 refl h at refl
  pays t under f o h (lets_go a at sort free) = ends a (Ret Continue) 1 refl h at refl
  pays t under f o h (lets_walk a n at sort) = ends a (Ret Continue) 1 refl h at refl
  pays t under f o h (ends_startio a at sort) = ends a (Ret Void) 1 refl h at refl
  pays t under f o h (ends_dpc a at sort) = ends a (Ret Void) 1 refl h at refl
  pays t under f o h (resumes_walk a n p at sort there) = ends a (Ret Continue) 1 refl h at refl
  pays t under f o h (resumes_gone a n at sort gone) = ends a (Ret Continue) 1 refl h at refl
  pays t under f o h (resumes_none a at sort free) = ends a (Ret Continue) 1 refl h at refl
  pays t under f o h (stops_walk a n at above) = ends a (Ret Stop) 1 refl h at refl
  pays t under f o h (stops_none a at above free) = ends a (Ret Stop) 1 refl h at refl
  pays t under f o h (ends_cancel a at sort) = ends a (Ret Void) 1 refl h at refl
  pays t under f o h (cancels n step made moves) = cancel_pays t n step made h moves
  pays t under f o h (walks_gone n gone) = omega arith
  pays t under f o h (walks_to n p c there set_there lends) =
      (tt, ((begins_back set states s h.good h.fits n p c h.stands there set_there lends).due, tt))
  pays t under f o h (lends_to n p c there set_there lends) =
      (tt, ((begins_lent set states s h.good h.fits n p c h.stands there set_there lends).due, tt))
  pays t under f o h (walks_up n p there none more unmarked) = (tt, tt)
  pays t under f o h (carries_up n p there none more marked) = (tt, tt)
  pays t under f o h (tops_out n p there none last) = omega arith
