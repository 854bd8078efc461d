-- What the state of a frame says of locks, and what an instruction changes of it.
use Rattle.laws_runs.proofs.Common.{inl, inr, refl, sym, zero, eq-eqb, eqb_tells, get_or-set_other, get_or-set_same, list_any, Bool, List, None, Some, [], false, if◌then◌else◌, length, nat_eq, slice_index_or, slice_set, suc, true, ℕ, ◌&&◌, ◌<◌, ◌∷◌, ◌≡◌, spin_lock, is_lock, given_down, handed, handed_at_label, holds_lock, holds_spin_lock, kind_of, marked, refuses, Set, OperandFits, Abs, Kind, New, Lock, Spin, SystemCancel, Instr, Acquire, AcquireCancel, Call, IfPending, Mark, Pass, Release, ReleaseCancel, SPIN_LOCKS, CancelLock, DeviceLock, Sort, Activation, Frame, States, first_none, unbroken, Locking, Work, lock_freed, lock_taken, work_of, and_false, not_false, or_left, or_right}
use Rattle.model.specs.LocalRule.{is_held, with_lock, with_cancel, released}
pub use Rattle.laws_runs.specs.OwnLocks.{state_says, cancelling_says, frame_says}

-- of a thread's frames the top one says it
abbrev pub top_says : States → List Frame → Lock → Bool
top_says states [] l = false
top_says states (f ∷ []) l = frame_says states f l
top_says states (f ∷ g ∷ frames) l = top_says states (g ∷ frames) l

-- where no lock is held, none is said
none_index : (held : List Bool) (n : ℕ) → list_any (λ h. h) held ≡ false
    → slice_index_or held n false ≡ false
none_index [] n none = refl
none_index (h ∷ held) zero none = or_left _ _ none
none_index (h ∷ held) (suc n) none = none_index held n (or_right _ _ none)

pub says_none : (s : Abs) (d : ℕ) (l : Lock) → s.cancel ≡ false → holds_spin_lock s ≡ false
    → state_says s d l ≡ false
says_none s d SystemCancel cancel spin = cancel
says_none s d (Spin l) cancel spin =
    rw (none_index s.locks l.number spin) (and_false (nat_eq d l.device))

-- where no spin lock of the device is held, it may be the system cancel spin lock alone
pub says_cancel : (s : Abs) (d : ℕ) (l : Lock) → s.cancel ≡ true → holds_spin_lock s ≡ false
    → state_says s d l ≡ is_lock SystemCancel l
says_cancel s d SystemCancel cancel spin = cancel
says_cancel s d (Spin l) cancel spin =
    rw (none_index s.locks l.number spin) (and_false (nat_eq d l.device))

pub free_says : (s : Abs) (d : ℕ) (l : Lock) → holds_lock s ≡ false → state_says s d l ≡ false
free_says s d l free = says_none s d l (or_left _ _ free) (or_right _ _ free)

-- an instruction that takes and frees no lock
abbrev pub is_locking : Work → Bool
is_locking Locking = true
is_locking _ = false

marked_says : (s : Abs) (r d : ℕ) (l : Lock) (k : Kind)
    → state_says (marked s r k) d l ≡ state_says s d l
marked_says s r d l New = refl
marked_says s r d l _ = refl

given_says : (s : Abs) (r d : ℕ) (l : Lock) (k : Kind)
    → state_says (given_down s r k) d l ≡ state_says s d l
given_says s r d l New = refl
given_says s r d l _ = refl

pub handed_says : (set : Set) (driver : ℕ) (s : Abs) (i : Instr) (d : ℕ) (l : Lock)
    → is_locking (work_of i) ≡ false → state_says (handed set driver s i) d l ≡ state_says s d l
handed_says set driver s (Acquire lock) d l h = cc
handed_says set driver s (Release lock) d l h = cc
handed_says set driver s AcquireCancel d l h = cc
handed_says set driver s ReleaseCancel d l h = cc
handed_says set driver s (Mark r) d l h = marked_says s r d l (kind_of s r)
handed_says set driver s (Pass r) d l h = given_says s r d l (kind_of s r)
handed_says set driver s (Call r f) d l h = given_says s r d l (kind_of s r)
handed_says set driver s _ d l h = refl

pub label_says : (s : Abs) (i : Instr) (d : ℕ) (l : Lock)
    → state_says (handed_at_label s i) d l ≡ state_says s d l
label_says s (IfPending r label) d l = refl
label_says s _ d l = refl

-- a lock is said or not said from now on, and each other as before
abbrev pub SaysNow : Abs → Abs → ℕ → Lock → Bool → Type 0
SaysNow s to d lock b =
    (l : Lock) → state_says to d l ≡ (if is_lock lock l then b else state_says s d l)

held_set : (locks : List Bool) (m n : ℕ) (b : Bool) → m < length locks
    → slice_index_or (slice_set locks m b) n false
    ≡ (if nat_eq m n then b else slice_index_or locks n false)
held_set locks m n b within =
    elim (eqb_tells m n) [
      | inl same ↦ rw (same.0, ← same.1) (get_or-set_same locks m b false within)
      | inr apart ↦ rw apart.0 (get_or-set_other locks m n b false (λ e. apart.1 (sym e)))
    ]

spin_set : (here same b before after : Bool) → after ≡ (if same then b else before)
    → (here && after) ≡ (if here && same then b else here && before)
spin_set true same b before after h = h
spin_set false same b before after h = refl

spin_says : (s : Abs) (d m : ℕ) (b : Bool) → m < length s.locks
    → SaysNow s (with_lock s m b) d (Spin (record { device = d; number = m })) b
spin_says s d m b within SystemCancel = refl
spin_says s d m b within (Spin l) =
    spin_set (nat_eq d l.device) (nat_eq m l.number) b (is_held s l.number)
    (is_held (with_lock s m b) l.number)
    (held_set s.locks m l.number b within)

cancel_says : (s : Abs) (d : ℕ) (b : Bool) → SaysNow s (with_cancel s b) d SystemCancel b
cancel_says s d b SystemCancel = refl
cancel_says s d b (Spin l) = refl

-- the release of a lock that may be a guard
released_says : (s : Abs) (set : Set) (driver d m : ℕ) → m < length s.locks
    → SaysNow s (released s set driver (DeviceLock m)) d
    (Spin (record { device = d; number = m })) false
released_says s set driver d m within SystemCancel = spin_says s d m false within SystemCancel
released_says s set driver d m within (Spin l) = spin_says s d m false within (Spin l)

let_cancel_says : (s : Abs) (set : Set) (driver d : ℕ)
    → SaysNow s (released s set driver CancelLock) d SystemCancel false
let_cancel_says s set driver d SystemCancel = refl
let_cancel_says s set driver d (Spin l) = refl

own_device : (d : ℕ) (b c : Bool) → b ≡ c → (nat_eq d d && b) ≡ c
own_device d b c h = rw (eq-eqb d d refl) h

-- an instruction that takes a lock takes one that isn't said, and one that frees a lock frees one
-- that is
pub record Locks (s to : Abs) (d : ℕ) (lock : Lock) (held : Bool) : Type 0 where
  pub before : state_says s d lock ≡ held
  pub now : SaysNow s to d lock (if held then false else true)

module _ (s : Abs) (a : Activation) (sort : Sort) (set : Set) (eight : length s.locks ≡ SPIN_LOCKS)
  where
    pub taken : (i : Instr) (lock : Lock) → lock_taken a i ≡ Some lock → OperandFits i
        → refuses s i sort set a.driver ≡ None
        → Locks s (handed set a.driver s i) a.device lock false
    taken (Acquire m) lock is small rule =
        let same : spin_lock a m ≡ lock = cc in
        let low : m < SPIN_LOCKS = small in
        rw (← same) (record {
          before = own_device a.device (is_held s m) false (unbroken _ _ rule);
          now = spin_says s a.device m true (rw eight low);
        })
    taken AcquireCancel lock is small rule =
        let same : SystemCancel ≡ lock = cc in
        rw (← same) (record { before = unbroken _ _ rule; now = cancel_says s a.device true })
    taken _ lock is small rule = cc

    pub freed : (i : Instr) (lock : Lock) → lock_freed a i ≡ Some lock → OperandFits i
        → refuses s i sort set a.driver ≡ None
        → Locks s (handed set a.driver s i) a.device lock true
    freed (Release m) lock is small rule =
        let same : spin_lock a m ≡ lock = cc in
        let low : m < SPIN_LOCKS = small in
        rw (← same) (record {
          before = own_device a.device (is_held s m) true
              (not_false _ (unbroken _ _ (first_none _ _ rule)));
          now = released_says s set a.driver a.device m (rw eight low);
        })
    freed ReleaseCancel lock is small rule =
        let same : SystemCancel ≡ lock = cc in
        rw (← same) (record {
          before = not_false _ (unbroken _ _ (first_none _ _ rule));
          now = let_cancel_says s set a.driver a.device;
        })
    freed _ lock is small rule = cc
