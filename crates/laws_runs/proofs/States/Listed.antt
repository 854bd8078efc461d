-- What the state at a position says of registers with packets of queues with a cancel routine: the
-- queue has one, and the thread holds its guard while it has a packet that stands in the queue, or
-- was taken off it, or while it has one that IoCancelIrp handed to the cancel routine of the device
-- queue.
use Rattle.laws_runs.proofs.Prelude.{ap, arith, eqb-true, inl, inr, refl, subst, sym, zero, ◌-◌, ◌∙◌, cases_Bool, eqb_tells, get_or-set_same, list_any, Bool, List, None, Option, Some, [], false, if◌then◌else◌, length, option_and_then, replicate, slice_get, slice_index_or, slice_set, suc, true, ℕ, ⊤, ◌&&◌, ◌+◌, ◌<◌, ◌||◌, ◌∷◌, ◌≡◌, all_let_go, is_at, is_guard, is_name, is_stage, kind_disarmed, kind_inserted, kind_removed, left_behind, let_go, entered_with, entry_of_cancel, entry_of_sort, given_down, guard_fault, handed, handed_at_label, is_guarded, kind_of, marked, queued_kind, refuses, Arrives, Member, Set, cancel_routine_named, cancel_routine_of, cancels_for, guard_named, Abs, Duty, Fresh, NoDuty, Kind, Lower, New, Own, Queued, View, CancelState, GuardRule, Settled, Open, SettledMark, Stage, Armed, Cancelling, Listed, Taken, Instr, Acquire, AcquireCancel, Arm, Begin, Call, Clear, Complete, Const, Dequeue, Disarm, Get, Insert, Load, LoadPaged, Mark, Move, Pass, Release, ReleaseCancel, Remove, Start, Take, Unlink, REGISTERS, SPIN_LOCKS, Driver, Guard, CancelLock, DeviceLock, Queue, QueueName, Declared, DeviceQueue, Sort, Cancel, Dispatch, Dpc, Hold, Propagate, StartIo}
use Rattle.std.proofs.Common.{get_or-set_other, eq-eqb}
use Rattle.model.specs.declared.abs.Kind.TheVariants.{Blank, Num}
use Rattle.model.specs.Kinds.{needs_guard, stays_under_guard}
use Rattle.model.specs.LocalRule.{release_fault, with_held}
use Rattle.std.proofs.lemmas.Bool.{eqb-true}
use Rattle.model.specs.Set.{cancelled_from, is_named, only_one, cancelled_in}
use Rattle.laws_runs.proofs.States.Along.{arrives_keep}
use Rattle.laws_runs.proofs.Lists.{Each, each_map, each_set}
use Rattle.laws_runs.proofs.States.Rules.{first_none, second_none, unbroken, granted}
use Rattle.laws_runs.proofs.Tests.{or_left, or_right, or_both}

-- a list of a driver has a cancel routine
abbrev pub HasCancel : Set → ℕ → QueueName → Type 0
HasCancel set driver name = (routine : ℕ) × (cancel_routine_named set driver name ≡ Some routine)

-- a guard is held, by the spin locks that are, and whether the system cancel spin lock is
abbrev pub guards_in : List Bool → Bool → Option Guard → Bool
guards_in locks cancel None = false
guards_in locks cancel (Some (DeviceLock guard)) = slice_index_or locks guard false
guards_in locks cancel (Some CancelLock) = cancel

abbrev pub Guarded : Set → ℕ → List Bool → Bool → QueueName → Type 0
Guarded set driver locks cancel name = guards_in locks cancel (guard_named set driver name) ≡ true

-- while a register holds a packet at such a stage, the guard of its list is held
abbrev pub is_under_guard : Stage → QueueName → Bool
is_under_guard stage name = stays_under_guard stage name || is_stage stage Armed

abbrev pub KindFits : Set → ℕ → List Bool → Bool → Kind → Type 0
KindFits set driver locks cancel (Queued name stage) =
    HasCancel set driver name
    × (is_under_guard stage name ≡ true → Guarded set driver locks cancel name)
KindFits set driver locks cancel Blank = ⊤
KindFits set driver locks cancel Num = ⊤
KindFits set driver locks cancel Lower = ⊤
KindFits set driver locks cancel New = ⊤
KindFits set driver locks cancel Own = ⊤
KindFits set driver locks cancel View = ⊤

abbrev pub AllFit : Set → ℕ → Abs → Type 0
AllFit set driver s = Each (KindFits set driver s.locks s.cancel) s.kinds

pub guarded_is : (s : Abs) (guard : Option Guard)
    → is_guarded s guard ≡ guards_in s.locks s.cancel guard
guarded_is s None = refl
guarded_is s (Some (DeviceLock guard)) = refl
guarded_is s (Some CancelLock) = refl

-- locks that are held
held_within : (locks : List Bool) (m : ℕ) → slice_index_or locks m false ≡ true → m < length locks
held_within [] m h = cc
held_within (b ∷ locks) zero h = omega arith
held_within (b ∷ locks) (suc m) h = omega (arith, held_within locks m h)

-- what guards is held still after one lock more
acquired_lock : (locks : List Bool) (m g : ℕ) → slice_index_or locks g false ≡ true
    → slice_index_or (slice_set locks m true) g false ≡ true
acquired_lock locks m g h =
    elim (eqb_tells m g) [
      | inl same ↦
          let at : slice_index_or locks m false ≡ true =
          ap (λ (k : ℕ). slice_index_or locks k false) same.1 ∙ h in
          subst (λ (k : ℕ). slice_index_or (slice_set locks m true) k false ≡ true) same.1
          (get_or-set_same locks m true false (held_within locks m at))
      | inr apart ↦ get_or-set_other locks m g true false (λ e. apart.1 (sym e)) ∙ h
    ]

acquired_guards : (s : Abs) (lock : Guard) (guard : Option Guard)
    → guards_in s.locks s.cancel guard ≡ true
    → guards_in (with_held s lock true).locks (with_held s lock true).cancel guard ≡ true
acquired_guards s lock None h = cc
acquired_guards s (DeviceLock m) (Some (DeviceLock g)) h = acquired_lock s.locks m g h
acquired_guards s (DeviceLock m) (Some CancelLock) h = h
acquired_guards s CancelLock (Some (DeviceLock g)) h = h
acquired_guards s CancelLock (Some CancelLock) h = refl

-- and after another one is released
other_guard : (s : Abs) (lock : Guard) (guard : Option Guard) → is_guard guard lock ≡ false
    → guards_in s.locks s.cancel guard ≡ true
    → guards_in (with_held s lock false).locks (with_held s lock false).cancel guard ≡ true
other_guard s lock None other h = cc
other_guard s (DeviceLock m) (Some (DeviceLock g)) other h =
    elim (eqb_tells g m) [
      | inl same ↦ let no : true ≡ false = sym same.0 ∙ other in cc
      | inr apart ↦ get_or-set_other s.locks m g false false (λ e. apart.1 e) ∙ h
    ]
other_guard s (DeviceLock m) (Some CancelLock) other h = h
other_guard s CancelLock (Some (DeviceLock g)) other h = h
other_guard s CancelLock (Some CancelLock) other h = cc

pub named_same : (one other : QueueName) → is_name one other ≡ true → one ≡ other
named_same (Declared p) (Declared q) h = ap (λ (x : ℕ). Declared x) (eqb-true p q h)
named_same (Declared p) DeviceQueue h = cc
named_same DeviceQueue (Declared q) h = cc
named_same DeviceQueue DeviceQueue h = refl

pub stage_same : (one other : Stage) → is_stage one other ≡ true → one ≡ other
stage_same Listed Listed h = refl
stage_same Armed Armed h = refl
stage_same Taken Taken h = refl
stage_same Cancelling Cancelling h = refl
stage_same _ _ h = cc

module _ (set : Set) (driver : ℕ) where
  -- one register
  pub fits_at : (locks : List Bool) (cancel : Bool) (kinds : List Kind) (r : ℕ)
      → Each (KindFits set driver locks cancel) kinds
      → KindFits set driver locks cancel (slice_index_or kinds r Blank)
  fits_at locks cancel [] r h = tt
  fits_at locks cancel (k ∷ kinds) zero h = h.0
  fits_at locks cancel (k ∷ kinds) (suc r) h = fits_at locks cancel kinds r h.1

  kind_fits_at : (s : Abs) (r : ℕ) → AllFit set driver s
      → KindFits set driver s.locks s.cancel (kind_of s r)
  kind_fits_at s r h = fits_at s.locks s.cancel s.kinds r h

  -- one lock more
  acquired_fits : (s : Abs) (lock : Guard) (k : Kind) → KindFits set driver s.locks s.cancel k
      → KindFits set driver (with_held s lock true).locks (with_held s lock true).cancel k
  acquired_fits s lock (Queued name stage) h =
      (h.0, λ under. acquired_guards s lock (guard_named set driver name) (h.1 under))
  acquired_fits s lock _ h = tt

  pub all_acquired : (s : Abs) (lock : Guard) → (with_held s lock true).kinds ≡ s.kinds
      → AllFit set driver s → AllFit set driver (with_held s lock true)
  all_acquired s lock same h =
      rw same (each_map (KindFits set driver s.locks s.cancel)
      (KindFits set driver (with_held s lock true).locks (with_held s lock true).cancel) s.kinds
      (λ k fits. acquired_fits s lock k fits) h)

  -- a guard is released with no packet left that needs it
  freed_at : (s : Abs) (lock : Guard) (name : QueueName) (stage : Stage) (stays armed b : Bool)
      → stays_under_guard stage name ≡ stays → is_stage stage Armed ≡ armed
      → is_guard (guard_named set driver name) lock ≡ b → (stays && b) ≡ false
      → KindFits set driver s.locks s.cancel (Queued name stage)
      → KindFits set driver (with_held s lock false).locks (with_held s lock false).cancel
      (if armed && b then Blank else Queued name stage)
  freed_at s lock name stage true armed true stay arms is free h = cc
  freed_at s lock name stage false true true stay arms is free h = tt
  freed_at s lock name stage false false true stay arms is free h =
      (h.0, λ under. (let no : false ≡ true = sym (or_both _ _ stay arms) ∙ under in cc))
  freed_at s lock name stage stays true false stay arms is free h =
      (h.0, λ under. other_guard s lock (guard_named set driver name) is (h.1 under))
  freed_at s lock name stage stays false false stay arms is free h =
      (h.0, λ under. other_guard s lock (guard_named set driver name) is (h.1 under))

  freed_fits : (s : Abs) (lock : Guard) (k : Kind) → needs_guard set driver lock k ≡ false
      → KindFits set driver s.locks s.cancel k
      → KindFits set driver (with_held s lock false).locks (with_held s lock false).cancel
      (let_go set driver lock k)
  freed_fits s lock (Queued name stage) free h =
      freed_at s lock name stage (stays_under_guard stage name) (is_stage stage Armed)
      (is_guard (guard_named set driver name) lock) refl refl refl free h
  freed_fits s lock _ free h = tt

  all_freed : (s : Abs) (lock : Guard) (kinds : List Kind)
      → list_any (needs_guard set driver lock) kinds ≡ false
      → Each (KindFits set driver s.locks s.cancel) kinds
      → Each (KindFits set driver (with_held s lock false).locks (with_held s lock false).cancel)
      (all_let_go set driver lock kinds)
  all_freed s lock [] free h = tt
  all_freed s lock (k ∷ kinds) free h = (
    freed_fits s lock k (or_left (needs_guard set driver lock k)
        (list_any (needs_guard set driver lock) kinds) free) h.0,
    all_freed s lock kinds
        (or_right (needs_guard set driver lock k)
        (list_any (needs_guard set driver lock) kinds) free)
        h.1,
  )

  released_fits : (s : Abs) (lock : Guard) → release_fault s set driver lock ≡ None
      → AllFit set driver s
      → Each (KindFits set driver (with_held s lock false).locks (with_held s lock false).cancel)
      (all_let_go set driver lock s.kinds)
  released_fits s lock keeps h =
      all_freed s lock s.kinds (unbroken _ _ (second_none _ _ keeps)) h

  -- an instruction on a list breaks no rule where the guard is held
  guard_held : (s : Abs) (name : QueueName) → guard_fault s set driver name ≡ None
      → Guarded set driver s.locks s.cancel name
  guard_held s name rule =
      sym (guarded_is s (guard_named set driver name))
      ∙ granted (is_guarded s (guard_named set driver name)) GuardRule rule

  -- what an instruction makes
  inserted_fits : (locks : List Bool) (cancel : Bool) (name : QueueName) (o : Option ℕ)
      → cancel_routine_named set driver name ≡ o
      → Guarded set driver locks cancel name
      → KindFits set driver locks cancel (kind_inserted o name)
  inserted_fits locks cancel name None is held = tt
  inserted_fits locks cancel name (Some routine) is held = ((routine, is), λ under. held)

  removed_fits : (locks : List Bool) (cancel : Bool) (name : QueueName) (o : Option ℕ)
      → cancel_routine_named set driver name ≡ o
      → Guarded set driver locks cancel name
      → KindFits set driver locks cancel (kind_removed o name)
  removed_fits locks cancel name None is held = tt
  removed_fits locks cancel name (Some routine) is held = ((routine, is), λ under. held)

  pub armed_fits : (locks : List Bool) (cancel : Bool) (name : QueueName) (k : Kind)
      → queued_kind (is_at Listed name k) k ≡ None → KindFits set driver locks cancel k
      → KindFits set driver locks cancel (Queued name Armed)
  armed_fits locks cancel name (Queued other Listed) rule h =
      let same : other ≡ name = named_same other name (granted (is_name other name) CancelState
      rule) in
      subst (λ (x : QueueName). KindFits set driver locks cancel (Queued x Armed)) same
      (h.0, λ under. h.1 refl)
  armed_fits locks cancel name _ rule h = cc

  disarmed_fits : (locks : List Bool) (cancel : Bool) (k : Kind)
      → KindFits set driver locks cancel k → KindFits set driver locks cancel (kind_disarmed k)
  disarmed_fits locks cancel (Queued name Armed) h = (h.0, λ under. h.1 refl)
  disarmed_fits locks cancel (Queued name Taken) h = tt
  disarmed_fits locks cancel (Queued name Listed) h = h
  disarmed_fits locks cancel (Queued name Cancelling) h = h
  disarmed_fits locks cancel _ h = tt

  left_fits : (locks : List Bool) (cancel : Bool) (k : Kind)
      → KindFits set driver locks cancel (left_behind k)
  left_fits locks cancel Num = tt
  left_fits locks cancel Blank = tt
  left_fits locks cancel Lower = tt
  left_fits locks cancel New = tt
  left_fits locks cancel Own = tt
  left_fits locks cancel (Queued name stage) = tt
  left_fits locks cancel View = tt

  set_fits : (s : Abs) (r : ℕ) (k : Kind) → KindFits set driver s.locks s.cancel k
      → AllFit set driver s
      → Each (KindFits set driver s.locks s.cancel) (slice_set s.kinds r k)
  set_fits s r k new h = each_set (KindFits set driver s.locks s.cancel) s.kinds r k h new

  marked_fits : (s : Abs) (r : ℕ) (k : Kind) → AllFit set driver s
      → AllFit set driver (marked s r k)
  marked_fits s r New h = set_fits s r Own tt h
  marked_fits s r _ h = h

  given_fits : (s : Abs) (r : ℕ) (k : Kind) → AllFit set driver s
      → AllFit set driver (given_down s r k)
  given_fits s r New h = set_fits s r Lower tt h
  given_fits s r Own h = set_fits s r Blank tt h
  given_fits s r _ h = h

  handed_fits : (s : Abs) (i : Instr) (sort : Sort) → refuses s i sort set driver ≡ None
      → AllFit set driver s → AllFit set driver (handed set driver s i)
  handed_fits s (Const r n) sort keeps h = set_fits s r Num tt h
  handed_fits s (Move r q) sort keeps h =
      each_set (KindFits set driver s.locks s.cancel) (slice_set s.kinds r (kind_of s q)) q
      (left_behind (kind_of s q)) (set_fits s r (kind_of s q) (kind_fits_at s q h) h)
      (left_fits s.locks s.cancel (kind_of s q))
  handed_fits s (Clear r) sort keeps h = set_fits s r Blank tt h
  handed_fits s (Load r c) sort keeps h = set_fits s r Num tt h
  handed_fits s (LoadPaged r c) sort keeps h = set_fits s r Num tt h
  handed_fits s (Get r q field) sort keeps h = set_fits s r Num tt h
  handed_fits s (Mark r) sort keeps h = marked_fits s r (kind_of s r) h
  handed_fits s (Acquire lock) sort keeps h = all_acquired s (DeviceLock lock) refl h
  handed_fits s (Release lock) sort keeps h = released_fits s (DeviceLock lock) keeps h
  handed_fits s AcquireCancel sort keeps h = all_acquired s CancelLock refl h
  handed_fits s ReleaseCancel sort keeps h = released_fits s CancelLock keeps h
  handed_fits s (Insert r q) sort keeps h =
      set_fits s r (kind_inserted (cancel_routine_of set driver q) (Declared q))
      (inserted_fits s.locks s.cancel (Declared q) (cancel_routine_of set driver q) refl
      (guard_held s (Declared q) (second_none _ _ keeps))) h
  handed_fits s (Remove r q label) sort keeps h =
      set_fits s r (kind_removed (cancel_routine_of set driver q) (Declared q))
      (removed_fits s.locks s.cancel (Declared q) (cancel_routine_of set driver q) refl
      (guard_held s (Declared q) (first_none _ _ keeps))) h
  handed_fits s (Unlink r q) sort keeps h = set_fits s r Own tt h
  handed_fits s (Dequeue r) sort keeps h = set_fits s r Own tt h
  handed_fits s (Arm r q) sort keeps h =
      set_fits s r (Queued (Declared q) Armed)
      (armed_fits s.locks s.cancel (Declared q) (kind_of s r) (first_none _ _ keeps)
      (kind_fits_at s r h)) h
  handed_fits s (Disarm r label) sort keeps h =
      set_fits s r (kind_disarmed (kind_of s r))
      (disarmed_fits s.locks s.cancel (kind_of s r) (kind_fits_at s r h)) h
  handed_fits s (Start r) sort keeps h = set_fits s r Blank tt h
  handed_fits s (Take r label) sort keeps h = set_fits s r Own tt h
  handed_fits s (Begin r) sort keeps h = set_fits s r Blank tt h
  handed_fits s (Pass r) sort keeps h = given_fits s r (kind_of s r) h
  handed_fits s (Call r f) sort keeps h = given_fits s r (kind_of s r) h
  handed_fits s (Complete r status) sort keeps h = set_fits s r Blank tt h
  handed_fits s _ sort keeps h = h

  label_fits : (s : Abs) (i : Instr) → AllFit set driver s → AllFit set driver (handed_at_label s i)
  label_fits s (Remove r q label) h = set_fits s r Blank tt h
  label_fits s (Disarm r label) h = set_fits s r Blank tt h
  label_fits s (Take r label) h = set_fits s r Blank tt h
  label_fits s _ h = h

-- in the state of entry
blank_fit : (set : Set) (driver : ℕ) (locks : List Bool) (cancel : Bool) (count : ℕ)
    → Each (KindFits set driver locks cancel) (replicate count Blank)
blank_fit set driver locks cancel zero = tt
blank_fit set driver locks cancel (suc count) = (tt, blank_fit set driver locks cancel count)

-- a queue that names a routine has it for its cancel routine
named_some : (o : Option ℕ) (number : ℕ) → is_named o number ≡ true → o ≡ Some number
named_some None number h = cc
named_some (Some routine) number h = ap Some (eqb-true routine number h)

named_in_from : (queues : List Queue) (start number q : ℕ) (names : List QueueName)
    → cancelled_from queues start number ≡ Declared q ∷ names
    → (k : ℕ) × (q ≡ start + k)
    × (option_and_then (λ queue. queue.cancel) (slice_get queues k) ≡ Some number)
named_in_from [] start number q names h = cc
named_in_from (queue ∷ queues) start number q names h =
    elim (cases_Bool (is_named queue.cancel number)) [
      | inl is ↦
          let list : Declared start ∷ cancelled_from queues (start + 1) number
          ≡ Declared q ∷ names =
          rw is at h in
          let same : start ≡ q = cc in
          (0, omega arith, named_some queue.cancel number is)
      | inr isnt ↦
          let list : cancelled_from queues (start + 1) number ≡ Declared q ∷ names = rw isnt at h in
          let later : (k : ℕ) × (q ≡ start + 1 + k)
          × (option_and_then (λ queue. queue.cancel) (slice_get queues k) ≡ Some number) =
          named_in_from queues (start + 1) number q names list in
          let place : q ≡ start + 1 + later.0 = later.1 in
          (suc later.0, omega arith, later.2)
    ]

-- these are queues, and never the device queue
declared_from : (queues : List Queue) (start number : ℕ) (names : List QueueName)
    → cancelled_from queues start number ≡ DeviceQueue ∷ names → ⊥
declared_from [] start number names h = cc
declared_from (queue ∷ queues) start number names h =
    elim (cases_Bool (is_named queue.cancel number)) [
      | inl is ↦
          let no : Declared start ∷ cancelled_from queues (start + 1) number
          ≡ DeviceQueue ∷ names = rw is at h in
          cc
      | inr isnt ↦
          let later : cancelled_from queues (start + 1) number ≡ DeviceQueue ∷ names =
          rw isnt at h in
          declared_from queues (start + 1) number names later
    ]

-- and a queue that has a routine for its cancel routine names it
member_from : (queues : List Queue) (start number k : ℕ)
    → option_and_then (λ queue. queue.cancel) (slice_get queues k) ≡ Some number
    → (i : ℕ) × (slice_get (cancelled_from queues start number) i ≡ Some (Declared (start + k)))
member_from [] start number k there = cc
member_from (queue ∷ queues) start number zero there =
    let place : start ≡ start + zero = omega arith in
    let is : queue.cancel ≡ Some number = there in
    (0, rw (is, eq-eqb number number refl) (ap (λ (x : ℕ). Some (Declared x)) place))
member_from (queue ∷ queues) start number (suc k) there =
    let later : (i : ℕ)
    × (slice_get (cancelled_from queues (start + 1) number) i ≡ Some (Declared (start + 1 + k))) =
    member_from queues (start + 1) number k there in
    let place : start + 1 + k ≡ start + suc k = omega arith in
    let same : Some (Declared (start + 1 + k)) ≡ Some (Declared (start + suc k)) =
    ap (λ (x : ℕ). Some (Declared x)) place in
    elim (cases_Bool (is_named queue.cancel number)) [
      | inl is ↦ (suc later.0, rw is (later.1 ∙ same))
      | inr isnt ↦ (later.0, rw isnt (later.1 ∙ same))
    ]

only_is : (names : List QueueName) (name : QueueName) → only_one names ≡ Some name
    → names ≡ name ∷ []
only_is [] name h = cc
only_is (other ∷ []) name h = let same : other ≡ name = cc in rw same refl
only_is (other ∷ more ∷ names) name h = cc

single : (name x : QueueName) (i : ℕ) → slice_get (name ∷ []) i ≡ Some x → name ≡ x
single name x zero h = cc
single name x (suc i) h = cc

-- the device queue comes before the queues
behind_waiting : (d : Driver) (number : ℕ) (name : QueueName)
    → (i : ℕ) × (slice_get (cancelled_from d.queues 0 number) i ≡ Some name)
    → (i : ℕ) × (slice_get (cancelled_in (Some d) number) i ≡ Some name)
behind_waiting d number name (i, there) =
    elim (cases_Bool (is_named d.startio_cancel number)) [
      | inl is ↦ (suc i, rw is there)
      | inr isnt ↦ (i, rw isnt there)
    ]

-- so the list that a cancel routine is entered for is the one that names it
pub named_only : (set : Set) (driver number : ℕ) (list name : QueueName)
    → cancel_routine_named set driver list ≡ Some number
    → cancels_for set driver number ≡ Some name → name ≡ list
named_only set driver number (Declared q) name named only =
    named_by (slice_get set.drivers driver) refl named only
  where
    named_by : (o : Option Driver) → slice_get set.drivers driver ≡ o
        → option_and_then (λ queue. queue.cancel) (option_and_then (λ d. slice_get d.queues q) o)
        ≡ Some number
        → only_one (cancelled_in o number) ≡ Some name → name ≡ Declared q
    named_by None there named only = cc
    named_by (Some d) there named only =
        let list : cancelled_in (Some d) number ≡ name ∷ [] =
        only_is (cancelled_in (Some d) number) name only in
        let same : Some (Declared (0 + q)) ≡ Some (Declared q) =
        (let place : 0 + q ≡ q = omega arith in ap (λ (x : ℕ). Some (Declared x)) place) in
        let member : (i : ℕ) ×
        (slice_get (cancelled_from d.queues 0 number) i ≡ Some (Declared (0 + q))) =
        member_from d.queues 0 number q named in
        let among : (i : ℕ)
        × (slice_get (cancelled_in (Some d) number) i ≡ Some (Declared (0 + q))) =
        behind_waiting d number (Declared (0 + q)) member in
        single name (Declared q) among.0
        (ap (λ (names : List QueueName). slice_get names among.0) (sym list) ∙ among.1 ∙ same)
named_only set driver number DeviceQueue name named only =
    named_by (slice_get set.drivers driver) refl named only
  where
    named_by : (o : Option Driver) → slice_get set.drivers driver ≡ o
        → option_and_then (λ d. d.startio_cancel) o ≡ Some number
        → only_one (cancelled_in o number) ≡ Some name → name ≡ DeviceQueue
    named_by None there named only = cc
    named_by (Some d) there named only =
        let list : cancelled_in (Some d) number ≡ name ∷ [] =
        only_is (cancelled_in (Some d) number) name only in
        let first : slice_get (cancelled_in (Some d) number) 0 ≡ Some DeviceQueue =
        rw (named, eq-eqb number number refl) refl in
        single name DeviceQueue 0
        (ap (λ (names : List QueueName). slice_get names 0) (sym list) ∙ first)

not_waiting : (d : Driver) (number q : ℕ) → cancelled_in (Some d) number ≡ Declared q ∷ []
    → cancelled_from d.queues 0 number ≡ Declared q ∷ []
not_waiting d number q list =
    elim (cases_Bool (is_named d.startio_cancel number)) [
      | inl is ↦
          let no : DeviceQueue ∷ cancelled_from d.queues 0 number ≡ Declared q ∷ [] =
          rw is at list in
          cc
      | inr isnt ↦ rw isnt at list
    ]

waiting_named : (d : Driver) (number : ℕ) → cancelled_in (Some d) number ≡ DeviceQueue ∷ []
    → (routine : ℕ) × (d.startio_cancel ≡ Some routine)
waiting_named d number list =
    elim (cases_Bool (is_named d.startio_cancel number)) [
      | inl is ↦ (number, named_some d.startio_cancel number is)
      | inr isnt ↦
          let no : cancelled_from d.queues 0 number ≡ DeviceQueue ∷ [] = rw isnt at list in
          absurd (declared_from d.queues 0 number [] no)
    ]

-- in the state of entry
named_fits : (set : Set) (driver number : ℕ) (name : QueueName)
    → cancels_for set driver number ≡ Some name → HasCancel set driver name
named_fits set driver number (Declared q) only = named_by (slice_get set.drivers driver) refl only
  where
    named_by : (o : Option Driver) → slice_get set.drivers driver ≡ o
        → only_one (cancelled_in o number) ≡ Some (Declared q)
        → (routine : ℕ) × (option_and_then (λ queue. queue.cancel)
        (option_and_then (λ d. slice_get d.queues q) o) ≡ Some routine)
    named_by None there only = cc
    named_by (Some d) there only =
        let list : cancelled_in (Some d) number ≡ Declared q ∷ [] =
        only_is (cancelled_in (Some d) number) (Declared q) only in
        let found : (k : ℕ) × (q ≡ 0 + k)
        × (option_and_then (λ queue. queue.cancel) (slice_get d.queues k) ≡ Some number) =
        named_in_from d.queues 0 number q [] (not_waiting d number q list) in
        let start : q ≡ 0 + found.0 = found.1 in
        let place : found.0 ≡ q = omega arith in (
          number,
          subst (λ (k : ℕ). option_and_then (λ queue. queue.cancel) (slice_get d.queues k)
              ≡ Some number) place found.2,
        )
named_fits set driver number DeviceQueue only = named_by (slice_get set.drivers driver) refl only
  where
    named_by : (o : Option Driver) → slice_get set.drivers driver ≡ o
        → only_one (cancelled_in o number) ≡ Some DeviceQueue
        → (routine : ℕ) × (option_and_then (λ d. d.startio_cancel) o ≡ Some routine)
    named_by None there only = cc
    named_by (Some d) there only =
        waiting_named d number (only_is (cancelled_in (Some d) number) DeviceQueue only)

entered_fits : (set : Set) (driver : ℕ) (k : Kind) (duty : Duty) (carried : Settled) (token : Bool)
    → KindFits set driver (replicate SPIN_LOCKS false) false k
    → AllFit set driver (entered_with k duty carried token)
entered_fits set driver k duty carried token fits =
    (fits, blank_fit set driver (replicate SPIN_LOCKS false) false (REGISTERS - 1))

module _ (set : Set) (driver number : ℕ) where
  cancel_fits : (name : Option QueueName) (s : Abs) → cancels_for set driver number ≡ name
      → entry_of_cancel name ≡ Some s → AllFit set driver s
  cancel_fits None s is h = cc
  cancel_fits (Some (Declared q)) s is h =
      let same : record (entered_with (Queued (Declared q) Cancelling) NoDuty SettledMark false)
      { cancel = true } ≡ s = cc in
      subst (AllFit set driver) same (
        (named_fits set driver number (Declared q) is, λ under. cc),
        blank_fit set driver (replicate SPIN_LOCKS false) true (REGISTERS - 1),
      )
  cancel_fits (Some DeviceQueue) s is h =
      let same : record (entered_with (Queued DeviceQueue Cancelling) NoDuty SettledMark false)
      { cancel = true } ≡ s = cc in
      subst (AllFit set driver) same (
        (named_fits set driver number DeviceQueue is, λ under. refl),
        blank_fit set driver (replicate SPIN_LOCKS false) true (REGISTERS - 1),
      )

  sort_fits : (sort : Sort) (s : Abs) → entry_of_sort sort (cancels_for set driver number) ≡ Some s
      → AllFit set driver s
  sort_fits Dispatch s h =
      let same : entered_with New Fresh SettledMark false ≡ s = cc in
      subst (AllFit set driver) same (entered_fits set driver New Fresh SettledMark false tt)
  sort_fits StartIo s h =
      let same : entered_with Own NoDuty SettledMark true ≡ s = cc in
      subst (AllFit set driver) same (entered_fits set driver Own NoDuty SettledMark true tt)
  sort_fits Dpc s h =
      let same : entered_with Blank NoDuty SettledMark false ≡ s = cc in
      subst (AllFit set driver) same (entered_fits set driver Blank NoDuty SettledMark false tt)
  sort_fits Propagate s h =
      let same : entered_with View NoDuty Open false ≡ s = cc in
      subst (AllFit set driver) same (entered_fits set driver View NoDuty Open false tt)
  sort_fits Hold s h =
      let same : entered_with New Fresh SettledMark false ≡ s = cc in
      subst (AllFit set driver) same (entered_fits set driver New Fresh SettledMark false tt)
  sort_fits Cancel s h = cancel_fits (cancels_for set driver number) s refl h

-- and in every state that arrives
pub arrives_fits : (m : Member) (p : ℕ) (s : Abs) → Arrives m p s → AllFit m.set m.driver s
arrives_fits m p s arrives =
    arrives_keep (AllFit m.set m.driver) m
    (λ first enters. sort_fits m.set m.driver m.number m.routine.sort first enters)
    (λ before i q at rule h. handed_fits m.set m.driver before i m.routine.sort rule h)
    (λ before i q at rule h. label_fits m.set m.driver before i h) p s arrives
