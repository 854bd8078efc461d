-- A thread that holds a lock by the past holds one of those that were acquired.
use Rattle.laws_runs.proofs.Prelude.{cond, inl, inr, refl, sym, ◌∙◌, cases_Bool, list_any, Bool, List, [], false, nat_eq, true, ℕ, ◌&&◌, ◌||◌, ◌∷◌, ◌≡◌, Action, OnLock, acquired, ends_held, holds, holds_any, is_lock, lock_acts, with_lock_act, Entry, Lock}
use Rattle.model.specs.Action.{LockAct, Acquire, Release}
use Rattle.model.specs.Fault.{with_acquired}
use Rattle.laws_runs.proofs.Past.Owners.{lock_tells}
use Rattle.laws_runs.proofs.Tests.{or_first, or_second}

-- a lock that is held was acquired
module _ (test : Lock → Bool) (l : Lock) (p : test l ≡ true) where
  acquired_one : (m : Lock) (locks : List Lock) (b c : Bool) (acts : List LockAct)
      → is_lock m l ≡ c → ends_held (cond (b && c) (Acquire ∷ acts) acts) ≡ true
      → (ends_held acts ≡ true → list_any test locks ≡ true)
      → (test m || list_any test locks) ≡ true
  acquired_one m locks true true acts same h more =
      elim (lock_tells m l) [
        | inl it ↦ or_first (test m) (list_any test locks) (rw it.1 p)
        | inr other ↦ let no : false ≡ true = sym other ∙ same in cc
      ]
  acquired_one m locks _ _ acts same h more = or_second (test m) (list_any test locks) (more h)

  still_held : (b : Bool) (acts : List LockAct) → ends_held (cond b (Release ∷ acts) acts) ≡ true
      → ends_held acts ≡ true
  still_held true acts h = cc
  still_held false acts h = h

  acquired_more : (a : Action) (b : Bool) (acts : List LockAct) (locks : List Lock)
      → ends_held (with_lock_act a b l acts) ≡ true
      → (ends_held acts ≡ true → list_any test locks ≡ true)
      → list_any test (with_acquired a locks) ≡ true
  acquired_more (OnLock m Acquire) b acts locks h more =
      acquired_one m locks b (is_lock m l) acts refl h more
  acquired_more (OnLock m Release) b acts locks h more =
      more (still_held (b && is_lock m l) acts h)
  acquired_more _ b acts locks h more = more h

  acquired_held : (past : List Entry) (t : ℕ) → holds past t l ≡ true
      → list_any test (acquired past) ≡ true
  acquired_held [] t h = cc
  acquired_held (e ∷ past) t h =
      acquired_more e.action (nat_eq e.actor.thread t) (lock_acts past t l) (acquired past) h
      (acquired_held past t)

pub holds_some : (past : List Entry) (t : ℕ) (l : Lock) → holds past t l ≡ true
    → holds_any past t ≡ true
holds_some past t l held = acquired_held (λ m. holds past t m) l held past t held

-- a lock among these that passes a test
held_among : (test : Lock → Bool) (locks : List Lock) → list_any test locks ≡ true → (l : Lock)
    × (test l ≡ true)
held_among test [] h = cc
held_among test (m ∷ locks) h =
    elim (cases_Bool (test m)) [
      | inl p ↦ (m, p)
      | inr n ↦ let later : list_any test locks ≡ true = rw n at h in held_among test locks later
    ]

pub lock_held : (past : List Entry) (t : ℕ) → holds_any past t ≡ true → (l : Lock)
    × (holds past t l ≡ true)
lock_held past t h = held_among (λ m. holds past t m) (acquired past) h
