-- A register has a packet of a queue with a cancel routine, that stands in it or was taken off it,
-- only while its thread holds the guard of the queue. So where a thread holds the guard, no other
-- frame of the device has such a packet.
use Rattle.laws_runs.proofs.Common.{ap, arith, eqb-true, inl, inr, refl, subst, sym, zero, ◌-◌, ◌∙◌, cases_Bool, list_any, Bool, List, None, Option, Some, [], false, length, nat_eq, slice_get, slice_index_or, suc, true, ℕ, ◌++◌, ◌+◌, ◌<◌, ◌∷◌, ◌≡◌, ◌≢◌, answered_in, operand_of, holds, is_at, is_name, is_stage, is_guarded, frames_of, frames_on, Set, guard_named, instruction_at, member, routine_of, Entry, Locks, World, Kind, BlankKind, Queued, Stage, Lock, Spin, SystemCancel, Device, Guard, CancelLock, DeviceLock, QueueName, RoutineOf, Status, Success, Activation, Frame, CancelFrame, Routine, Walk, Thread, States, stack_sum, thread_sum, IsGood, Ready, Serves, state_of, IsKnown, KindFits, named_same, stage_same, Stacked, Stands, Standing, stands_there, and_left, and_right}
use Rattle.std.proofs.Common.{eq-eqb}
use Rattle.laws_runs.proofs.Claims.Names.{names}
use Rattle.laws_runs.proofs.Claims.Sums.{frame_names, names_on}
use Rattle.laws_runs.proofs.Holders.Rights.{named_nowhere}
use Rattle.laws_runs.proofs.Holders.Sums.{stack_append}
use Rattle.laws_runs.proofs.Locks.Runs.{LocksAgree}
use Rattle.laws_runs.proofs.Locks.Says.{frame_says, free_says, top_says}
use Rattle.laws_runs.proofs.Past.Owners.{Owned, held_owned}
use Rattle.laws_runs.proofs.Runs.Events.{StepsFrame}
use Rattle.laws_runs.proofs.Runs.Threads.{frames_there}
use Rattle.laws_runs.proofs.States.Listed.{AllFit, Guarded, arrives_fits, fits_at, guarded_is, guards_in, is_under_guard}

-- kinds that a register has only while the guard of a queue is held
abbrev pub NeedsGuard : Set → ℕ → (Kind → Bool) → QueueName → Type 0
NeedsGuard set driver f name =
    (locks : List Bool) (cancel : Bool) (k : Kind) → f k ≡ true
    → KindFits set driver locks cancel k → Guarded set driver locks cancel name

module _ (set : Set) (driver : ℕ) (name : QueueName) where
  guard_for : (locks : List Bool) (cancel : Bool) (other : QueueName)
      → is_name other name ≡ true → Guarded set driver locks cancel other
      → Guarded set driver locks cancel name
  guard_for locks cancel other is held =
      subst (λ (x : QueueName). Guarded set driver locks cancel x) (named_same other name is) held

  pub at_needs : (stage : Stage) → is_under_guard stage name ≡ true
      → NeedsGuard set driver (is_at stage name) name
  at_needs stage under locks cancel (Queued other at) is h =
      let same : at ≡ stage = stage_same at stage (and_left _ _ is) in
      let its : is_name other name ≡ true = and_right (is_stage at stage) _ is in
      guard_for locks cancel other its (h.1 (rw (same, named_same other name its) under))
  at_needs stage under locks cancel _ is h = cc

-- a guard of a device as a lock
abbrev lock_of : ℕ → Guard → Lock
lock_of d (DeviceLock number) = Spin (record { device = d; number = number })
lock_of d CancelLock = SystemCancel

-- what the state of a routine on the device says of it
says_guard : (states : States) (b : Activation) (guard : Guard)
    → guards_in (state_of states b).locks (state_of states b).cancel (Some guard)
    ≡ frame_says states (Routine b) (lock_of b.device guard)
says_guard states b (DeviceLock number) = rw (eq-eqb b.device b.device refl) refl
says_guard states b CancelLock = refl

-- where a routine's frame stands
record Placed (set : Set) (states : States) (b : Activation) : Type 0 where
  routine : RoutineOf
  is_of : routine_of set b.driver b.routine ≡ Some routine
  within : b.position < length routine.code
  serves : Serves set b.device b.driver

placed_ready : (set : Set) (states : States) (issued : ℕ) (b : Activation)
    → Ready set states issued b → Placed set states b
placed_ready set states issued b h =
    record {
      routine = h.0;
      is_of = h.1.is_of;
      within = h.1.within;
      serves = h.1.serves;
    }

placed_in : (set : Set) (states : States) (issued : ℕ) (b : Activation) (status : Status)
    (o : Option ℕ)
    → Ready set states issued (answered_in b status o) → Placed set states b
placed_in set states issued b status None h = placed_ready set states issued b h
placed_in set states issued b status (Some r) h =
    record {
      routine = h.0;
      is_of = h.1.is_of;
      within = h.1.within;
      serves = h.1.serves;
    }

none_at_all : (f : Kind → Bool) (kinds : List Kind)
    → ((r : ℕ) → f (slice_index_or kinds r BlankKind) ≡ false) → list_any f kinds ≡ false
none_at_all f [] h = refl
none_at_all f (k ∷ kinds) h =
    rw (h zero, none_at_all f kinds (λ r. h (suc r))) refl

module _ (set : Set) (states : States) (good : IsGood set states) (d : ℕ) (name : QueueName)
    (guard : Guard) (f : Kind → Bool)
    (device : Device) (there : slice_get set.devices d ≡ Some device)
    (is_guard : guard_named set device.driver name ≡ Some guard)
    (needs : NeedsGuard set device.driver f name) where
  abbrev lock : Lock
  lock = lock_of d guard

  abbrev count : ℕ → Frame → ℕ
  count n g = frame_names states f (λ e. nat_eq e d) n g

  one_none : (b : Activation) (r : ℕ) → Placed set states b → b.driver ≡ device.driver
      → guards_in (state_of states b).locks (state_of states b).cancel (Some guard) ≡ false
      → f (slice_index_or (state_of states b).kinds r BlankKind) ≡ false
  one_none b r placed driver free =
      elim (cases_Bool (f (slice_index_or (state_of states b).kinds r BlankKind))) [
        | inr none ↦ none
        | inl is ↦
            let known : IsKnown (member set b.driver b.routine placed.routine)
            (states b.driver b.routine) =
            good.led.known b.driver b.routine placed.routine placed.is_of in
            let all : AllFit set b.driver (state_of states b) =
            arrives_fits (member set b.driver b.routine placed.routine) b.position
            (state_of states b)
            (known.follows.arrives b.position placed.within) in
            let fits : KindFits set device.driver (state_of states b).locks
            (state_of states b).cancel (slice_index_or (state_of states b).kinds r BlankKind) =
            subst (λ (x : ℕ). KindFits set x (state_of states b).locks (state_of states b).cancel
            (slice_index_or (state_of states b).kinds r BlankKind)) driver
            (fits_at set b.driver (state_of states b).locks (state_of states b).cancel
            (state_of states b).kinds r all) in
            let held : guards_in (state_of states b).locks (state_of states b).cancel
            (guard_named set device.driver name) ≡ true =
            needs (state_of states b).locks (state_of states b).cancel
            (slice_index_or (state_of states b).kinds r BlankKind) is fits in
            let no : true ≡ false =
            sym held
            ∙ ap (λ (o : Option Guard). guards_in (state_of states b).locks
            (state_of states b).cancel o) is_guard
            ∙ free in
            cc
      ]

  placed_none : (b : Activation) (n : ℕ) → Placed set states b
      → frame_says states (Routine b) lock ≡ false → count n (Routine b) ≡ 0
  placed_none b n placed says =
      elim (cases_Bool (nat_eq b.device d)) [
        | inr other ↦ rw other refl
        | inl its ↦
            let same : b.device ≡ d = eqb-true b.device d its in
            let devices : Some placed.serves.0 ≡ Some device =
            sym placed.serves.1 ∙ ap (slice_get set.devices) same ∙ there in
            let one : placed.serves.0 ≡ device = cc in
            let driver : b.driver ≡ device.driver =
            sym placed.serves.2 ∙ ap (λ (x : Device). x.driver) one in
            let free : guards_in (state_of states b).locks (state_of states b).cancel
            (Some guard) ≡ false =
            says_guard states b guard
            ∙ ap (λ (x : ℕ). frame_says states (Routine b) (lock_of x guard)) same ∙ says in
            rw its (named_nowhere f (state_of states b).kinds b.registers n
            (none_at_all f (state_of states b).kinds (λ r. one_none b r placed driver free)))
      ]

  module _ (issued n : ℕ) where
    top_none : (g : Frame) → Stands set states issued None g → frame_says states g lock ≡ false
        → count n g ≡ 0
    top_none (Routine b) h says = placed_none b n (placed_ready set states issued b h) says
    top_none _ h says = refl

    lower_none : (above g : Frame) → Stands set states issued (Some above) g → count n g ≡ 0
    lower_none (Walk m) (Routine b) h =
        placed_none b n (placed_ready set states issued b h.0)
        (free_says (state_of states b) b.device lock h.1)
    lower_none (Routine c) (Routine b) h =
        placed_none b n
        (placed_in set states issued b Success
        (operand_of (instruction_at set b.driver b.routine (b.position - 1))) (h.2 Success))
        (free_says (state_of states b) b.device lock h.1)
    lower_none (CancelFrame c) (Routine b) h = absurd h
    lower_none above _ h = refl

    stack_none : (frames : List Frame) → Stacked set states issued frames
        → top_says states frames lock ≡ false → stack_sum (count n) frames ≡ 0
    stack_none [] h says = refl
    stack_none (g ∷ []) h says =
        omega (arith, top_none g h says)
    stack_none (g ∷ e ∷ frames) h says =
        omega (arith, lower_none e g h.0, stack_none (e ∷ frames) h.1 says)

    below_none : (below : List Frame) (g : Frame) → Stacked set states issued (below ++ g ∷ [])
        → stack_sum (count n) below ≡ 0
    below_none [] g h = refl
    below_none (e ∷ []) g h = omega (arith, lower_none g e h.0)
    below_none (e ∷ x ∷ below) g h =
        omega (arith, lower_none x e h.0, below_none (x ∷ below) g h.1)

-- a sum over threads of which one counts
none_sum : (count : Frame → ℕ) (threads : List Thread)
    → ((k : ℕ) → stack_sum count (frames_of (slice_get threads k)) ≡ 0)
    → thread_sum count threads ≡ 0
none_sum count [] none = refl
none_sum count (x ∷ threads) none =
    omega (arith, none zero, none_sum count threads (λ k. none (suc k)))

only_one : (count : Frame → ℕ) (threads : List Thread) (t : ℕ) (thread : Thread)
    → slice_get threads t ≡ Some thread
    → ((k : ℕ) → t ≢ k → stack_sum count (frames_of (slice_get threads k)) ≡ 0)
    → thread_sum count threads ≡ stack_sum count thread.frames.items
only_one count [] t thread found none = cc
only_one count (x ∷ threads) zero thread found none =
    let same : x ≡ thread = cc in
    let others : thread_sum count threads ≡ 0 =
    none_sum count threads (λ k. none (suc k) (λ e. let no : zero ≡ suc k = e in cc)) in
    rw same (omega arith)
only_one count (x ∷ threads) (suc t) thread found none =
    let one : stack_sum count x.frames.items ≡ 0 = none zero (λ e. let no : suc t ≡ zero = e in cc)
    in
    let others : thread_sum count threads ≡ stack_sum count thread.frames.items =
    only_one count threads t thread found
    (λ k apart. none (suc k) (λ e. let same : suc t ≡ suc k = e in let its : t
    ≡ k = cc in apart its)) in
    omega arith

top_of_says : (states : States) (below : List Frame) (f : Frame) (l : Lock)
    → top_says states (below ++ f ∷ []) l ≡ frame_says states f l
top_of_says states [] f l = refl
top_of_says states (g ∷ []) f l = refl
top_of_says states (g ∷ e ∷ below) f l = top_of_says states (e ∷ below) f l

-- two threads don't hold a lock
held_alone : (locks : Locks) (past : List Entry) (t k : ℕ) (l : Lock) → Owned locks past
    → holds past t l ≡ true → t ≢ k → holds past k l ≡ false
held_alone locks past t k l owned held apart =
    elim (cases_Bool (holds past k l)) [
      | inr free ↦ free
      | inl its ↦
          let both : Some (Some t) ≡ Some (Some k) =
          sym (held_owned locks past t l owned held) ∙ held_owned locks past k l owned its in
          let same : t ≡ k = cc in
          absurd (apart same)
    ]

guard_some : (locks : List Bool) (cancel : Bool) (o : Option Guard)
    → guards_in locks cancel o ≡ true → (guard : Guard) × (o ≡ Some guard)
guard_some locks cancel None h = cc
guard_some locks cancel (Some guard) h = (guard, refl)

module _ (set : Set) (states : States) (w : World) (past : List Entry) (good : IsGood set states)
    (stands : Standing set states w past) (agree : LocksAgree states w past)
    (owned : Owned w.shared.locks past) where
  -- who holds the guard of a queue has all the registers that need it
  pub excluded : (t : ℕ) (h : StepsFrame set w t) (a : Activation) (name : QueueName)
      (f : Kind → Bool)
      → h.frame ≡ Routine a → Serves set a.device a.driver
      → is_guarded (state_of states a) (guard_named set a.driver name) ≡ true
      → NeedsGuard set a.driver f name → (n : ℕ)
      → names_on states f a.device n w.threads ≡ names states f a n
  excluded t h a name f frame serves guarded needs n =
      let device : Device = serves.0 in
      let driver : device.driver ≡ a.driver = serves.2 in
      let locks : List Bool = (state_of states a).locks in
      let cancel : Bool = (state_of states a).cancel in
      let has : guards_in locks cancel (guard_named set a.driver name) ≡ true =
      sym (guarded_is (state_of states a) (guard_named set a.driver name)) ∙ guarded in
      let guard : (g : Guard) × (guard_named set a.driver name ≡ Some g) =
      guard_some locks cancel (guard_named set a.driver name) has in
      let is_guard : guard_named set device.driver name ≡ Some guard.0 =
      ap (λ (x : ℕ). guard_named set x name) driver ∙ guard.1 in
      let need : NeedsGuard set device.driver f name =
      subst (λ (x : ℕ). NeedsGuard set x f name) (sym driver) needs in
      let l : Lock = lock_of a.device guard.0 in
      let says : frame_says states (Routine a) l ≡ true =
      sym (says_guard states a guard.0)
      ∙ sym (ap (λ (o : Option Guard). guards_in locks cancel o) guard.1) ∙ has in
      let own : holds past t l ≡ true =
      agree t l
      ∙ ap (λ (frames : List Frame). top_says states frames l) (frames_there w t h.thread h.found
      ∙ h.frames)
      ∙ top_of_says states h.below h.frame l
      ∙ ap (λ (g : Frame). frame_says states g l) frame ∙ says in
      let counts : Frame → ℕ = λ g. frame_names states f (λ e. nat_eq e a.device) n g in
      let sum : thread_sum counts w.threads ≡ stack_sum counts h.thread.frames.items =
      only_one counts w.threads t h.thread h.found
      (λ k apart. stack_none set states good a.device name guard.0 f device serves.1 is_guard need
      w.shared.issued n (frames_on w k) (stands.frames k)
      (sym (agree k l) ∙ held_alone w.shared.locks past t k l owned own apart)) in
      let split : stack_sum counts h.thread.frames.items
      ≡ stack_sum counts h.below + stack_sum counts (h.frame ∷ []) =
      ap (stack_sum counts) h.frames ∙ stack_append counts h.below (h.frame ∷ []) in
      let top : counts h.frame ≡ names states f a n =
      ap counts frame ∙ (rw (eq-eqb a.device a.device refl) refl) in
      omega (
        arith,
        below_none set states good a.device name guard.0 f device serves.1 is_guard need
            w.shared.issued n h.below h.frame (stands_there set states w past good stands t h),
      )
