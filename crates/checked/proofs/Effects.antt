-- The actions of a frame's step, against the past and against what the threads share: both show the
-- same bug check.
use Rattle.std.proofs.Common.{◌≡◌, ℕ, List, [], ◌∷◌, Option, None, Some, Bool, true, false, refl, ap, inl, inr}
use Rattle.std.specs.Prelude.{not, nat_lt}
use Rattle.std.proofs.lemmas.Bool.{cases_Bool}
use Rattle.model.specs.declared.world.CancelStep.{CancelStep}
use Rattle.model.specs.declared.world.Frame.{Frame}
use Rattle.model.specs.declared.world.Packet.{Packet}
use Rattle.model.specs.declared.instr.Instr.{Instr}
use Rattle.model.specs.declared.world.Activation.{Activation}
use Rattle.model.specs.declared.world.Value.{Value}
use Rattle.model.specs.declared.world.Value.TheVariants.{Blank, Num, Ref, Status as StatusValue}
use Rattle.model.specs.declared.event.Bug.{Bug}
use Rattle.model.specs.declared.event.BugCheck.{BugCheck}
use Rattle.model.specs.declared.event.BugCheck.TheVariants.{IrqlNotLessOrEqual, SpinLockAlreadyOwned, SpinLockNotOwned, NoMoreIrpStackLocations}
use Rattle.model.specs.declared.event.Lock.{Lock}
use Rattle.model.specs.declared.event.Lock.TheVariants.{SystemCancel}
use Rattle.model.specs.declared.event.OfDevice.{OfDevice}
use Rattle.model.specs.declared.event.Reply.{Reply}
use Rattle.model.specs.declared.event.Reply.TheVariants.{Bug as BugCheckReply}
use Rattle.model.specs.declared.event.Subject.{Subject}
use Rattle.model.specs.declared.event.Subject.TheVariants.{Packet as PacketSubject, Lock as LockSubject, Cell}
use Rattle.model.specs.Action.{Action, Executes, Acquires, Releases, TouchesPaged, Touches, Calls, Completes}
use Rattle.model.specs.Effect.{Outcome, frame_effect}
use Rattle.model.specs.Fault.{bug_if, first_or, first_fault}
use Rattle.model.specs.Queues.{StartState}
use Rattle.model.specs.Set.{Set}
use Rattle.model.specs.Trace.{Actor, Entry}
use Rattle.model.specs.World.{Shared, packet_of, packet_in, register}
use Rattle.laws_runs.proofs.Steps.Comes.{Cancels, Comes, Queued, inserts, unlinks, removes, removes_none, starts_packet, takes_out, takes_none, puts_in, starts_next, starts_gone, dequeues_packet, works_on_queues, works_on_waiting, ends_startio, errs, awaits_lock, computes, opens_loop, turns_loop, pages, touches_gone, looks_at, writes_info, marks_packet, exchanges, takes_lock, retakes_lock, frees_lock, completes_packet, completes_gone, passes_down, calls_down, ends_dpc, returns_status, lets_go, lets_walk, resumes_walk, resumes_gone, resumes_none, stops_walk, stops_none, ends_cancel, walks_gone, walks_to, lends_to, walks_up, carries_up, tops_out, cancels, takes_cancel, retakes_cancel, awaits_cancel, flags_gone, sets_flag, exchanges_gone, finds_empty, finds_none, calls_cancel}
use Rattle.laws_runs.proofs.Steps.Walk.{comes}
use Rattle.checked_parts.specs.Left.{first_now}
use Rattle.checked.proofs.Known.{Known, runs}

-- the packet that a value refers to was issued
named : (s : Shared) (v : Value) (n : ℕ) → packet_in s v ≡ Some n → nat_lt n s.issued ≡ true
named s Blank n h = cc
named s (Num k) n h = cc
named s (StatusValue status) n h = cc
named s (Ref k) n h =
    elim (cases_Bool (nat_lt k s.issued)) [
      | inl l ↦ let same : Some k ≡ Some n = rw l at h in let one : k ≡ n = cc in rw (← one) l
      | inr l ↦ let no : None ≡ Some n = rw l at h in cc
    ]

-- a reply is a bug check
abbrev pub is_bug : Reply → Bool
is_bug (BugCheckReply bug) = true
is_bug _ = false

-- a bug check is told alike where its test is
told_as : {a b : Bool} (check : BugCheck) (subject : Subject) → a ≡ b →
    first_or (bug_if a check subject) None ≡ first_or (bug_if b check subject) None
told_as check subject same = ap (λ (b : Bool). first_or (bug_if b check subject) None) same

told_twice : {a b c d : Bool} (first second : BugCheck) (subject : Subject) → a ≡ b → c ≡ d →
    first_or (bug_if a first subject) (first_or (bug_if c second subject) None)
    ≡ first_or (bug_if b first subject) (first_or (bug_if d second subject) None)
told_twice first second subject one two = rw (one, two) refl

module _ (past : List Entry) (actor : Actor) (s : Shared) (known : Known s past) where
  -- the past and what is shared show the same bug check of these actions
  abbrev pub Agree : List Action → Type 0
  Agree actions = first_fault past actor actions ≡ first_now s (runs actor) actions

  -- and of a step's, which itself answers none
  abbrev pub Fine : Outcome → Type 0
  Fine o = Agree o.actions × (is_bug o.reply ≡ false)

  -- actions that one bug check may come of
  touched : (n : ℕ) → Agree (Touches n ∷ [])
  touched n = told_as IrqlNotLessOrEqual (PacketSubject n) (known.gone n)

  paged : (c : OfDevice) → Agree (TouchesPaged c ∷ [])
  paged c = told_as IrqlNotLessOrEqual (Cell c) (known.level actor)

  acquired : (lock : Lock) → Agree (Acquires lock ∷ [])
  acquired lock = told_as SpinLockAlreadyOwned (LockSubject lock) (known.locks actor.thread lock)

  released : (lock : Lock) → Agree (Releases lock ∷ [])
  released lock =
      told_as SpinLockNotOwned (LockSubject lock) (ap not (known.locks actor.thread lock))

  completed : (n : ℕ) → nat_lt n s.issued ≡ true → Agree (Executes ∷ Completes n ∷ [])
  completed n issued = ap (λ (o : Option Bug). first_or o None) (known.completes n issued)

  called : (n : ℕ) (p : Packet) → packet_of s n ≡ Some p
      → Agree (Executes ∷ Touches n ∷ Calls n ∷ [])
  called n p there =
      told_twice IrqlNotLessOrEqual NoMoreIrpStackLocations (PacketSubject n) (known.gone n)
      (known.full n p there)

  -- an instruction about queues touches one packet or none
  queued_fine : (set : Set) (a : Activation) (i : Instr) (b : Activation)
      (queues : List (List (List ℕ))) (starts : List StartState) (actions : List Action)
      (full : Bool)
      → Queued set s a i b queues starts actions full → Agree (Executes ∷ actions)
  queued_fine set a i b queues starts actions full (inserts r q n entries reads there) = touched n
  queued_fine set a i b queues starts actions full (removes r q label n entries there) = touched n
  queued_fine set a i b queues starts actions full (removes_none r q label there) = refl
  queued_fine set a i b queues starts actions full (unlinks r q n entries reads there) = touched n
  queued_fine set a i b queues starts actions full (starts_packet r n start reads there plain) =
      touched n
  queued_fine set a i b queues starts actions full (takes_out r label n start there slot) = refl
  queued_fine set a i b queues starts actions full (takes_none r label start there slot) = refl
  queued_fine set a i b queues starts actions full (puts_in r n start reads there) = touched n
  queued_fine set a i b queues starts actions full (starts_next start there none) = refl
  queued_fine set a i b queues starts actions full (starts_gone n start there first gone) =
      touched n
  queued_fine set a i b queues starts actions full (dequeues_packet r n start reads there) =
      touched n

  -- a step of IoCancelIrp takes the system cancel spin lock, or frees it at its end
  cancel_fine : (set : Set) (n : ℕ) (step : CancelStep) (o : Outcome)
      → Cancels set s actor.thread n step o → Fine o
  cancel_fine set n step o (takes_cancel there) = (acquired SystemCancel, refl)
  cancel_fine set n step o (retakes_cancel there) = (acquired SystemCancel, refl)
  cancel_fine set n step o (awaits_cancel owner there other) = (refl, refl)
  cancel_fine set n step o (flags_gone there) = (released SystemCancel, refl)
  cancel_fine set n step o (sets_flag p there) = (refl, refl)
  cancel_fine set n step o (exchanges_gone there) = (released SystemCancel, refl)
  cancel_fine set n step o (finds_empty p there none) = (released SystemCancel, refl)
  cancel_fine set n step o (finds_none p armer there set_there none) =
      (released SystemCancel, refl)
  cancel_fine set n step o (calls_cancel p armer routine there set_there found) = (refl, refl)

  -- a step of each shape
  fine : (set : Set) (under : Option Frame) (f : Frame) (o : Outcome)
      → Comes set s actor.thread under f o → Fine o
  fine set under f o (errs a lacks) = (refl, refl)
  fine set under f o (awaits_lock a i lock owner runs takes there other) = (refl, refl)
  fine set under f o (computes a i b jumped cells runs works goes count) = (refl, refl)
  fine set under f o (opens_loop a turns runs few) = (refl, refl)
  fine set under f o (turns_loop a l runs there) = (refl, refl)
  fine set under f o (pages a i b cell cells runs works goes count) = (paged cell, refl)
  fine set under f o (touches_gone a i r n runs works goes operand reads there) = (touched n, refl)
  fine set under f o (looks_at a i b jumped r n p runs works goes operand reads there same) =
      (touched n, refl)
  fine set under f o (writes_info a q r n p info runs reads there is) = (touched n, refl)
  fine set under f o (marks_packet a r n p runs reads there) = (touched n, refl)
  fine set under f o (exchanges a i b jumped r n p armer runs works goes operand reads there now) =
      (touched n, refl)
  fine set under f o (takes_lock a i lock runs takes there) = (acquired lock, refl)
  fine set under f o (retakes_lock a i lock runs takes there) = (acquired lock, refl)
  fine set under f o (frees_lock a i lock owner runs frees there) = (released lock, refl)
  fine set under f o (completes_packet a r status n p runs reads there) =
      (completed n (named s (register a r) n reads), refl)
  fine set under f o (completes_gone a r status n runs reads there) =
      (completed n (named s (register a r) n reads), refl)
  fine set under f o (passes_down a r n p lower runs reads there asks) = (touched n, refl)
  fine set under f o (calls_down a r g n p lower runs reads there asks) = (called n p there, refl)
  fine set under f o (returns_status a form status runs sort returns) = (refl, refl)
  fine set under f o (lets_go a runs sort under_is) = (refl, refl)
  fine set under f o (lets_walk a n runs sort) = (touched n, refl)
  fine set under f o (resumes_walk a n p runs sort there) = (touched n, refl)
  fine set under f o (resumes_gone a n runs sort there) = (touched n, refl)
  fine set under f o (resumes_none a runs sort under_is) = (refl, refl)
  fine set under f o (stops_walk a n runs sort) = (refl, refl)
  fine set under f o (stops_none a runs sort under_is) = (refl, refl)
  fine set under f o (ends_dpc a runs sort) = (refl, refl)
  fine set under f o (ends_startio a runs sort) = (refl, refl)
  fine set under f o (ends_cancel a runs sort) = (refl, refl)
  fine set under f o (works_on_queues a i b queues starts actions full runs queued) =
      (queued_fine set a i b queues starts actions full queued, refl)
  fine set under f o (works_on_waiting a i starts n p armer full runs there waits) =
      (touched n, refl)
  fine set under f o (walks_gone n there) = (touched n, refl)
  fine set under f o (walks_to n p c there set_there sort) = (touched n, refl)
  fine set under f o (lends_to n p c there set_there sort) = (touched n, refl)
  fine set under f o (walks_up n p there none deep unmarked) = (touched n, refl)
  fine set under f o (carries_up n p there none deep marked) = (touched n, refl)
  fine set under f o (tops_out n p there none top) = (touched n, refl)
  fine set under f o (cancels n step _ comes) = cancel_fine set n step o comes

  -- every step of a frame
  pub fine_frame : (set : Set) (under : Option Frame) (f : Frame)
      → Fine (frame_effect set s actor.thread under f)
  fine_frame set under f =
      fine set under f (frame_effect set s actor.thread under f) (comes set s actor.thread under f)
