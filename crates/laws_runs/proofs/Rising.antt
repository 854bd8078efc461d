-- Where a thread takes a lock while it holds another, the one is of a higher level than the other:
-- the orders of all drivers, put together so that the system cancel spin lock, which is in each of
-- them, has one level.
use Rattle.laws_runs.proofs.Common.{ap, arith, refl, sym, ◌-◌, List, Some, slice_get, ℕ, ◌+◌, ◌<◌, ◌≡◌, routine_of_device, run, Set, IsSound, IsTypable, Event, Lock, Spin, SystemCancel, CancelLock, DeviceLock, Guard, owner_of}
use Rattle.laws_runs.specs.Order.{HasLockOrders, TakesUnder, lock_names}
use Rattle.laws_runs.specs.RingAt.{name_of}
use Rattle.laws_runs.specs.Waiting.{sought_on}
use Rattle.laws_runs.proofs.Between.{Between, IsAt, between}

-- a lock is one of a driver's devices, or the system cancel spin lock
abbrev IsOf : Set → ℕ → Lock → Type 0
IsOf set driver SystemCancel = driver ≡ driver
IsOf set driver (Spin l) = routine_of_device (slice_get set.devices l.device) ≡ driver

at_of : (set : Set) (d driver : ℕ) (l : Lock)
    → routine_of_device (slice_get set.devices d) ≡ driver → IsAt d l → IsOf set driver l
at_of set d driver SystemCancel serves at = refl
at_of set d driver (Spin l) serves at = rw (← at) serves

module _ (set : Set) (orders : HasLockOrders set) where
  abbrev place : ℕ → Guard → ℕ
  place driver = (orders driver).0

  -- its level, which tells of the orders of all drivers
  abbrev over : ℕ → Guard → ℕ
  over driver name = place driver name + lock_names - place driver CancelLock

  abbrev pub level : Lock → ℕ
  level SystemCancel = lock_names
  level (Spin l) = over (routine_of_device (slice_get set.devices l.device)) (DeviceLock l.number)

  over_cancel : (driver : ℕ) → over driver CancelLock ≡ lock_names
  over_cancel driver = omega arith

  level_is : (driver : ℕ) (l : Lock) → IsOf set driver l → level l ≡ over driver (name_of l)
  level_is driver SystemCancel of = sym (over_cancel driver)
  level_is driver (Spin l) of = ap (λ (d : ℕ). over d (DeviceLock l.number)) of

  pub level_low : (l : Lock) → level l < lock_names + lock_names
  level_low SystemCancel = omega arith
  level_low (Spin l) =
      let driver : ℕ = routine_of_device (slice_get set.devices l.device) in
      let few : place driver (DeviceLock l.number) < lock_names =
      (orders driver).1.few (DeviceLock l.number) in
      omega arith

  rise : (driver : ℕ) (held taken : Lock) → IsOf set driver held → IsOf set driver taken
      → TakesUnder set driver (name_of held) (name_of taken) → level held < level taken
  rise driver held taken of to takes =
      let up : place driver (name_of held) < place driver (name_of taken) =
      (orders driver).1.rises (name_of held) (name_of taken) takes in
      let low : place driver CancelLock < lock_names = (orders driver).1.few CancelLock in
      rw (level_is driver held of, level_is driver taken to) (omega arith)

  -- a thread that owns a lock seeks one of a higher level, if it seeks one
  pub owner_rises : (typable : IsTypable set) (sound : IsSound set) (threads : ℕ)
      (events : List Event) (t : ℕ) (held sought : Lock)
      → owner_of (run set threads events).world.shared.locks held ≡ Some (Some t)
      → sought_on set (run set threads events).world t ≡ Some sought → level held < level sought
  owner_rises typable sound threads events t held sought owner seek =
      let here : Between set (run set threads events).world t held sought =
      between set typable sound threads events t held sought owner seek in
      rise here.routine.driver held sought
      (at_of set here.routine.device here.routine.driver held here.serves here.holds_at)
      (at_of set here.routine.device here.routine.driver sought here.serves here.seeks_at)
      here.under
