-- The bug checks of a list of actions, by the kind of action: of locks and paged cells, of packets
-- that are touched, that are sent down, and that are completed. Where no kind has one there is
-- none.
use Rattle.laws_runs.proofs.Prelude.{refl, Bool, List, None, Option, Some, [], false, if◌then◌else◌, true, ℕ, ◌∷◌, ◌≡◌, Action, OfRoutine, OnLocation, OnLock, OnPacket, Touch, TouchPaged, bug_if, fault_of, first_fault, first_or, topped, Actor, Entry, entry, Bug, IrqlNotLessOrEqual, PacketSubject}
use Rattle.model.specs.Action.{Complete, Call}

abbrev pub is_of_locks : Action → Bool
is_of_locks (OnLock lock act) = true
is_of_locks (OfRoutine (TouchPaged cell)) = true
is_of_locks _ = false

abbrev pub is_touch : Action → Bool
is_touch (OnPacket n Touch) = true
is_touch _ = false

abbrev pub is_call : Action → Bool
is_call (OnLocation n Call) = true
is_call _ = false

abbrev pub is_completion : Action → Bool
is_completion (OnPacket n Complete) = true
is_completion _ = false

-- the first bug check of the actions of a kind, among others
abbrev pub fault_among : (Action → Bool) → List Entry → Actor → List Action → Option Bug
fault_among kind past actor [] = None
fault_among kind past actor (action ∷ actions) =
    first_or (if kind action then fault_of past actor action else None)
    (fault_among kind (entry past actor action ∷ past) actor actions)

pub none_first : (bug later : Option Bug) → first_or bug later ≡ None → bug ≡ None
none_first None later h = refl
none_first (Some bug) later h = cc

pub none_later : (bug later : Option Bug) → first_or bug later ≡ None → later ≡ None
none_later None later h = h
none_later (Some bug) later h = cc

pub none_both : (bug later : Option Bug) → bug ≡ None → later ≡ None → first_or bug later ≡ None
none_both bug later one two = rw one two

-- no kind of action has a bug check
pub record NoFaults (past : List Entry) (actor : Actor) (actions : List Action) : Type 0 where
  pub locks : fault_among is_of_locks past actor actions ≡ None
  pub touches : fault_among is_touch past actor actions ≡ None
  pub calls : fault_among is_call past actor actions ≡ None
  pub completions : fault_among is_completion past actor actions ≡ None

module _ (past : List Entry) (actor : Actor) (actions : List Action) where
  here : (action : Action) → NoFaults past actor (action ∷ actions)
      → fault_of past actor action ≡ None
  here (OnLock lock act) h = none_first _ _ h.locks
  here (OfRoutine (TouchPaged cell)) h = none_first _ _ h.locks
  here (OnPacket n Touch) h = none_first _ _ h.touches
  here (OnLocation n Call) h = none_first _ _ h.calls
  here (OnPacket n Complete) h = none_first _ _ h.completions
  here _ h = refl

  later : (action : Action) → NoFaults past actor (action ∷ actions)
      → NoFaults (entry past actor action ∷ past) actor actions
  later action h =
      record {
        locks = none_later _ _ h.locks;
        touches = none_later _ _ h.touches;
        calls = none_later _ _ h.calls;
        completions = none_later _ _ h.completions;
      }

pub no_fault : (past : List Entry) (actor : Actor) (actions : List Action)
    → NoFaults past actor actions
    → first_fault past actor actions ≡ None
no_fault past actor [] h = refl
no_fault past actor (action ∷ actions) h =
    none_both (fault_of past actor action) (first_fault (entry past actor action ∷ past) actor
    actions)
    (here past actor actions action h)
    (no_fault (entry past actor action ∷ past) actor actions (later past actor actions action h))

-- where there is none at all, there is none of a kind
among_fault : (chosen : Bool) (bug : Option Bug) → bug ≡ None
    → (if chosen then bug else None) ≡ None
among_fault true bug h = h
among_fault false bug h = refl

pub quiet_among : (kind : Action → Bool) (past : List Entry) (actor : Actor) (actions : List Action)
    → first_fault past actor actions ≡ None → fault_among kind past actor actions ≡ None
quiet_among kind past actor [] h = refl
quiet_among kind past actor (action ∷ actions) h =
    none_both (if kind action then fault_of past actor action else None)
    (fault_among kind (entry past actor action ∷ past) actor actions)
    (among_fault (kind action) (fault_of past actor action) (none_first _ _ h))
    (quiet_among kind (entry past actor action ∷ past) actor actions (none_later _ _ h))

-- the first bug check of an action alone
pub first_only : (bug : Option Bug) → bug ≡ None → first_or bug None ≡ None
first_only bug h = rw h refl

-- a packet that topped out is touched
pub topped_faults : (past : List Entry) (n : ℕ) → topped past n ≡ true
    → first_or (bug_if (topped past n) IrqlNotLessOrEqual (PacketSubject n)) None ≡ None → ⊥
topped_faults past n gone quiet =
    let bug : Bug = record { check = IrqlNotLessOrEqual; subject = PacketSubject n } in
    let no : Some bug ≡ None = rw gone at quiet in
    cc
