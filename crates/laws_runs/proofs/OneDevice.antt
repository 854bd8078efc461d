-- All threads of a ring are in routines for one device: a lock of a device is sought and owned in
-- routines for that device alone, and of the one lock that all devices share there is one owner.
use Rattle.laws_runs.proofs.Common.{ap, inl, inr, refl, sym, ◌∙◌, List, None, Option, Some, [], ℕ, ◌∷◌, ◌≡◌, ◌⊎◌, top_of, frames_on, run, Set, IsSound, IsTypable, Event, Lock, Spin, SystemCancel, Frame, CancelFrame, Routine, Walk, World, owner_of}
use Rattle.laws_runs.specs.RingAt.{AcceptedRingsAreAtOneDevice, AllFor, IsFor, Links, RingsShowCycles}
use Rattle.laws_runs.specs.Waiting.{WaitInTurn, sought_on, waits_for}
use Rattle.laws_runs.proofs.Between.{Between, IsAt, between}
use Rattle.laws_runs.proofs.Climbing.{Awaits, awaits, turn_seeks}

abbrev device_in : Option Frame → ℕ
device_in None = 0
device_in (Some (Routine a)) = a.device
device_in (Some (Walk n)) = 0
device_in (Some (CancelFrame c)) = 0

module _ (set : Set) (typable : IsTypable set) (sound : IsSound set) (threads : ℕ)
    (events : List Event) where
  abbrev w : World
  w = (run set threads events).world

  abbrev device_on : ℕ → ℕ
  device_on t = device_in (top_of (frames_on w t))

  -- a thread that others wait for
  record Owns (t : ℕ) : Type 0 where
    lock : Lock
    owner : owner_of w.shared.locks lock ≡ Some (Some t)

  here : (t : ℕ) (own : Owns t) (sought : Lock) → sought_on set w t ≡ Some sought
      → Between set w t own.lock sought
  here t own sought seek = between set typable sound threads events t own.lock sought own.owner seek

  device_is : (t : ℕ) (held sought : Lock) (b : Between set w t held sought)
      → device_on t ≡ b.routine.device
  device_is t held sought b = ap device_in b.top

  linked : (t u v : ℕ) → waits_for set w t ≡ Some u → waits_for set w u ≡ Some v
      → Links set w t u
  linked t u v first second =
      let one : Awaits set w t u = awaits set w t u first in
      let two : Awaits set w u v = awaits set w u v second in
      let b : Between set w u one.lock two.lock =
      between set typable sound threads events u one.lock two.lock one.owner two.seeks in
      record {
        routine = b.routine;
        top = b.top;
        held = one.lock;
        taken = two.lock;
        awaited = one.seeks;
        sought = two.seeks;
        under = b.under;
        number = b.number;
        position = b.position;
      }

  -- who waits for another is at the same device, or the other one owns the shared lock
  abbrev OwnsShared : ℕ → Type 0
  OwnsShared d = (c : ℕ) × (w.shared.locks.system_cancel ≡ Some c) × (d ≡ device_on c)

  next_by : (t u : ℕ) (lock more : Lock) → owner_of w.shared.locks lock ≡ Some (Some u)
      → IsAt (device_on t) lock → IsAt (device_on u) lock
      → (device_on u ≡ device_on t) ⊎ OwnsShared (device_on u)
  next_by t u SystemCancel more owner at by =
      let is : w.shared.locks.system_cancel ≡ Some u = cc in inr (u, is, refl)
  next_by t u (Spin l) more owner at by = inl (by ∙ sym at)

  next : (t u : ℕ) (more : Lock) → Owns t → waits_for set w t ≡ Some u
      → sought_on set w u ≡ Some more
      → (device_on u ≡ device_on t) ⊎ OwnsShared (device_on u)
  next t u more own wait seek =
      let on : Awaits set w t u = awaits set w t u wait in
      let mine : Between set w t own.lock on.lock = here t own on.lock on.seeks in
      let its : Between set w u on.lock more =
      between set typable sound threads events u on.lock more on.owner seek in
      next_by t u on.lock more on.owner
      (rw (device_is t own.lock on.lock mine) mine.seeks_at)
      (rw (device_is u on.lock more its) its.holds_at)

  awaited : (t u : ℕ) → waits_for set w t ≡ Some u → Owns u
  awaited t u wait =
      let on : Awaits set w t u = awaits set w t u wait in
      record { lock = on.lock; owner = on.owner }

  owns_last : (t : ℕ) (between : List ℕ) (u : ℕ) → WaitInTurn set w t between u → Owns u
  owns_last t [] u wait = awaited t u wait
  owns_last t (v ∷ between) u wait = owns_last v between u wait.1

  joined : (d e f : ℕ) → (e ≡ d) ⊎ OwnsShared e → (f ≡ e) ⊎ OwnsShared f
      → (f ≡ d) ⊎ OwnsShared f
  joined d e f (inl same) (inl again) = inl (again ∙ same)
  joined d e f (inr shared) (inl again) = inr (shared.0, shared.1, again ∙ shared.2)
  joined d e f first (inr shared) = inr shared

  along : (t : ℕ) (between : List ℕ) (u : ℕ) (more : Lock) → Owns t
      → WaitInTurn set w t between u → sought_on set w u ≡ Some more
      → (device_on u ≡ device_on t) ⊎ OwnsShared (device_on u)
  along t [] u more own wait seek = next t u more own wait seek
  along t (v ∷ between) u more own wait seek =
      let mid : (l : Lock) × (sought_on set w v ≡ Some l) = turn_seeks set w v between u wait.1 in
      joined (device_on t) (device_on v) (device_on u) (next t v mid.0 own wait.0 mid.1)
      (along v between u more (awaited t v wait.0) wait.1 seek)

  -- so round a ring it is the same device
  same_by : (d e : ℕ) → (e ≡ d) ⊎ OwnsShared e → (d ≡ e) ⊎ OwnsShared d → e ≡ d
  same_by d e (inl same) back = same
  same_by d e (inr shared) (inl back) = sym back
  same_by d e (inr shared) (inr back) =
      let one : Some shared.0 ≡ Some back.0 = sym shared.1 ∙ back.1 in
      let owner : shared.0 ≡ back.0 = cc in
      shared.2 ∙ ap device_on owner ∙ sym back.2

  is_for : (d t : ℕ) (own : Owns t) (l : Lock) → sought_on set w t ≡ Some l → device_on t ≡ d
      → IsFor w d t
  is_for d t own l seek same =
      let b : Between set w t own.lock l = here t own l seek in
      record {
        routine = b.routine;
        top = b.top;
        device = sym (device_is t own.lock l b) ∙ same;
      }

  rest_for : (t x : ℕ) (between : List ℕ) (more : Lock) → Owns x
      → WaitInTurn set w x between t → sought_on set w t ≡ Some more
      → (device_on x ≡ device_on t) ⊎ OwnsShared (device_on x)
      → AllFor w (device_on t) (x ∷ between)
  rest_for t x [] more own wait seek known =
      let mine : (l : Lock) × (sought_on set w x ≡ Some l) = turn_seeks set w x [] t wait in (
        is_for (device_on t) x own mine.0 mine.1
            (same_by (device_on t) (device_on x) known (along x [] t more own wait seek)),
        tt,
      )
  rest_for t x (y ∷ between) more own wait seek known =
      let mine : (l : Lock) × (sought_on set w x ≡ Some l) =
      turn_seeks set w x (y ∷ between) t wait in
      let its : (l : Lock) × (sought_on set w y ≡ Some l) = turn_seeks set w y between t wait.1 in
      let same : device_on x ≡ device_on t =
      same_by (device_on t) (device_on x) known (along x (y ∷ between) t more own wait seek) in (
        is_for (device_on t) x own mine.0 mine.1 same,
        rest_for t y between more (awaited x y wait.0) wait.1 seek
            (joined (device_on t) (device_on x) (device_on y) (inl same)
            (next x y its.0 own wait.0 its.1)),
      )

  one_device : (t : ℕ) (between : List ℕ) → WaitInTurn set w t between t
      → (d : ℕ) × AllFor w d (t ∷ between)
  one_device t between wait =
      let mine : (l : Lock) × (sought_on set w t ≡ Some l) = turn_seeks set w t between t wait in
      (device_on t, rest_for t t between mine.0 (owns_last t between t wait) wait mine.1 (inl refl))

  shows_cycles : RingsShowCycles set threads events
  shows_cycles = record { links = linked; device = one_device }

pub accepted_rings : AcceptedRingsAreAtOneDevice
accepted_rings = shows_cycles
