-- The owners of the locks tell what the past tells: which thread holds each lock.
use Rattle.model.specs.Action.{LockAct}
use Rattle.laws_runs.proofs.Prelude.{ap, cond, inl, inr, refl, sym, zero, ◌∙◌, eq-eqb, eqb_tells, get_or_from_slice_get, Bool, List, None, Option, Some, [], false, nat_eq, option_and_then, replicate, slice_get, slice_index_or, slice_set, suc, true, ℕ, ◌&&◌, ◌∷◌, ◌≡◌, ◌⊎◌, ends_held, holds, is_lock, Entry, Locks, owner_of, with_owner, Lock, Spin, SystemCancel, OfDevice, SPIN_LOCKS}
use Rattle.model.specs.World.{free_locks}
use Rattle.laws_runs.proofs.Lists.{set_same, set_other}

-- the thread is the owner of a lock
abbrev pub is_owner : ℕ → Option ℕ → Bool
is_owner t None = false
is_owner t (Some owner) = nat_eq owner t

abbrev pub is_owned_by : ℕ → Option (Option ℕ) → Bool
is_owned_by t None = false
is_owned_by t (Some owner) = is_owner t owner

abbrev pub owns : Locks → ℕ → Lock → Bool
owns locks t lock = is_owned_by t (owner_of locks lock)

-- a thread holds a lock, by the past, exactly where it owns it
abbrev pub Owned : Locks → List Entry → Type 0
Owned locks past = (t : ℕ) (l : Lock) → holds past t l ≡ owns locks t l

-- locks that are told the same are the same
abbrev pub LockTells : Lock → Lock → Type 0
LockTells m l = ((is_lock m l ≡ true) × (m ≡ l)) ⊎ (is_lock m l ≡ false)

spin_tells : (m l : OfDevice) → LockTells (Spin m) (Spin l)
spin_tells m l =
    elim (eqb_tells m.device l.device) [
      | inl d ↦ elim (eqb_tells m.number l.number) [
        | inl n ↦ inl (rw (d.0, n.0) refl, rw (d.1, n.1) refl)
        | inr n ↦ inr (rw (d.0, n.0) refl)
      ]
      | inr d ↦ inr (rw d.0 refl)
    ]

pub lock_tells : (m l : Lock) → LockTells m l
lock_tells SystemCancel SystemCancel = inl (refl, refl)
lock_tells SystemCancel (Spin l) = inr refl
lock_tells (Spin m) SystemCancel = inr refl
lock_tells (Spin m) (Spin l) = spin_tells m l

-- the owner after a write: of the lock as written, and of each other as before
abbrev Owner : Type 0
Owner = Option (Option ℕ)

module _ (spin : List (List (Option ℕ))) (m l : OfDevice) (o : Option ℕ) where
  abbrev Places : List (List (Option ℕ)) → Owner
  Places rows = option_and_then (λ owners. slice_get owners l.number) (slice_get rows l.device)

  owner_spin : (owners : List (Option ℕ)) (before : Option ℕ)
      → slice_get spin m.device ≡ Some owners
      → slice_get owners m.number ≡ Some before
      → Places (slice_set spin m.device (slice_set owners m.number o))
      ≡ cond {A = Owner} (is_lock (Spin m) (Spin l)) (Some o) (Places spin)
  owner_spin owners before there at =
      let after : List (Option ℕ) = slice_set owners m.number o in
      elim (eqb_tells m.device l.device) [
        | inl d ↦
            let here : slice_get (slice_set spin m.device after) l.device ≡ Some after =
            rw (← d.1) (set_same spin m.device owners after there) in
            let was : slice_get spin l.device ≡ Some owners = rw (← d.1) there in
            elim (eqb_tells m.number l.number) [
              | inl n ↦
                  let written : slice_get after l.number ≡ Some o =
                  rw (← n.1) (set_same owners m.number before o at) in
                  rw (here, was, d.0, n.0) written
              | inr n ↦ rw (here, was, d.0, n.0) (set_other owners m.number l.number o n.1)
            ]
        | inr d ↦ rw (set_other spin m.device l.device after d.1, d.0) refl
      ]

module _ (locks : Locks) (o before : Option ℕ) where
  owner_at : (m l : OfDevice) (e : Option (List (Option ℕ))) → slice_get locks.spin m.device ≡ e
      → option_and_then (λ os. slice_get os m.number) e ≡ Some before
      → owner_of (with_owner locks (Spin m) o) (Spin l)
      ≡ cond {A = Owner} (is_lock (Spin m) (Spin l)) (Some o) (owner_of locks (Spin l))
  owner_at m l None there at = cc
  owner_at m l (Some owners) there at =
      let same : slice_index_or locks.spin m.device [] ≡ owners =
      get_or_from_slice_get locks.spin m.device owners [] there in
      rw same (owner_spin locks.spin m l o owners before there at)

  owner_set : (m l : Lock) → owner_of locks m ≡ Some before
      → owner_of (with_owner locks m o) l ≡ cond {A = Owner} (is_lock m l) (Some o)
      (owner_of locks l)
  owner_set SystemCancel SystemCancel at = refl
  owner_set SystemCancel (Spin l) at = refl
  owner_set (Spin m) SystemCancel at = refl
  owner_set (Spin m) (Spin l) at = owner_at m l (slice_get locks.spin m.device) refl at

-- before the first event every lock is free
free_place : (n i t : ℕ) → is_owned_by t (slice_get (replicate {A = Option ℕ} n None) i) ≡ false
free_place zero i t = refl
free_place (suc n) zero t = refl
free_place (suc n) (suc i) t = free_place n i t

free_spin : (devices d i t : ℕ)
    → is_owned_by t
    (option_and_then (λ os. slice_get os i)
    (slice_get (replicate devices (replicate SPIN_LOCKS None)) d)) ≡ false
free_spin zero d i t = refl
free_spin (suc devices) zero i t = free_place SPIN_LOCKS i t
free_spin (suc devices) (suc d) i t = free_spin devices d i t

pub owned_free : (devices : ℕ) → Owned (free_locks devices) []
owned_free devices t SystemCancel = refl
owned_free devices t (Spin l) = sym (free_spin devices l.device l.number t)

-- a lock is written, with an owner or none, where the trace says that a thread holds it from now
-- on, or no more
module _ (locks : Locks) (past after : List Entry) (m : Lock) (o before : Option ℕ)
    (owned : Owned locks past) (there : owner_of locks m ≡ Some before) where
  owned_set : (t : ℕ) (b : Bool)
      → ((k : ℕ) (l : Lock) → holds after k l ≡ cond (nat_eq t k && is_lock m l) b (holds past k l))
      → ((k : ℕ) → cond (nat_eq t k) b (is_owner k before) ≡ is_owner k o)
      → Owned (with_owner locks m o) after
  owned_set t b told now k l =
      elim (lock_tells m l) [
        | inl same ↦
            let held : holds past k l ≡ is_owner k before = owned k l
            ∙ (rw (← same.1, there) refl) in
            rw (told k l, owner_set locks o before m l there, same.0, held)
            (one_way (nat_eq t k) b _ _ (now k))
        | inr other ↦
            rw (told k l, owner_set locks o before m l there, other)
            (other_way (nat_eq t k) b _ ∙ owned k l)
      ]
    where
      one_way : (its b held now : Bool) → cond its b held ≡ now → cond (its && true) b held ≡ now
      one_way true b held now h = h
      one_way false b held now h = h

      other_way : (its b held : Bool) → cond (its && false) b held ≡ held
      other_way true b held = refl
      other_way false b held = refl

-- what one more act says of a lock
pub lock_told : (act : LockAct) (b : Bool) (acts : List LockAct)
    → ends_held (cond b (act ∷ acts) acts) ≡ cond b (ends_held (act ∷ acts)) (ends_held acts)
lock_told act true acts = refl
lock_told act false acts = refl

-- a thread that acquires a free lock owns it, and one that releases a lock of its own leaves it
-- free
pub owned_acquire : (locks : Locks) (past after : List Entry) (t : ℕ) (m : Lock) → Owned locks past
    → owner_of locks m ≡ Some None
    → ((k : ℕ) (l : Lock) → holds after k l ≡ cond (nat_eq t k && is_lock m l) true
    (holds past k l))
    → Owned (with_owner locks m (Some t)) after
owned_acquire locks past after t m owned free told =
    owned_set locks past after m (Some t) None owned free t true told (λ k. its (nat_eq t k))
  where
    its : (b : Bool) → cond b true false ≡ b
    its true = refl
    its false = refl

pub owned_release : (locks : Locks) (past after : List Entry) (t : ℕ) (m : Lock) → Owned locks past
    → owner_of locks m ≡ Some (Some t)
    → ((k : ℕ) (l : Lock) → holds after k l ≡ cond (nat_eq t k && is_lock m l) false
    (holds past k l))
    → Owned (with_owner locks m None) after
owned_release locks past after t m owned its told =
    owned_set locks past after m None (Some t) owned its t false told (λ k. none (nat_eq t k))
  where
    none : (b : Bool) → cond b false b ≡ false
    none true = refl
    none false = refl

-- a thread is the owner of a lock that it owns
pub owner_its : (t : ℕ) (owner : Option ℕ) → is_owner t owner ≡ true → owner ≡ Some t
owner_its t None h = cc
owner_its t (Some owner) h =
    elim (eqb_tells owner t) [
      | inl e ↦ ap (λ (n : ℕ). Some n) e.1
      | inr e ↦ let no : false ≡ true =
          sym e.0 ∙ h in cc
    ]

its_owner : (t : ℕ) (owner : Option (Option ℕ)) → is_owned_by t owner ≡ true → owner ≡ Some (Some t)
its_owner t None h = cc
its_owner t (Some owner) h = ap (λ (o : Option ℕ). Some o) (owner_its t owner h)

-- so who holds a lock owns it, and the other way round
pub held_owned : (locks : Locks) (past : List Entry) (t : ℕ) (l : Lock) → Owned locks past
    → holds past t l ≡ true
    → owner_of locks l ≡ Some (Some t)
held_owned locks past t l owned held = its_owner t (owner_of locks l) (sym (owned t l) ∙ held)

pub owned_held : (locks : Locks) (past : List Entry) (t : ℕ) (l : Lock) → Owned locks past
    → owner_of locks l ≡ Some (Some t) → holds past t l ≡ true
owned_held locks past t l owned its = owned t l ∙ (rw (its, eq-eqb t t refl) refl)
