-- What a trace says of uses, action by action: they are opened in order, and what isn't about a
-- packet leaves its uses as they were.
use Rattle.laws_runs.proofs.Common.{ap, arith, drop, inl, inr, refl, ◌-◌, ◌∙◌, eqb_tells, list_any, Bool, List, None, Option, Some, [], false, if◌then◌else◌, length, nat_eq, slice_get, suc, true, ℕ, ◌+◌, ◌<◌, ◌||◌, ◌∷◌, ◌≡◌, ◌≤◌, Action, Leave, OnLocation, Up, depth, stack_size, is_use, marks_left, was_marked, Actor, Entry, Serving, current_use, entry, recorded, uses, uses_opened, and_false, or_left, or_right}
use Rattle.model.specs.Action.{Issue, Call, Mark}
use Rattle.model.specs.Fault.{depth_after, location_acts, with_location_act}
use Rattle.model.specs.PendingAgreement.{leaves_use, marks_use}
use Rattle.model.specs.Trace.{opens, use_of, uses_after}
use Rattle.laws_runs.proofs.Uses.Fates.{Falls, Traced}

pub falls_more : (bound more : ℕ) (used : List ℕ) → bound ≤ more → Falls bound used
    → Falls more used
falls_more bound more [] le h = tt
falls_more bound more (u ∷ upper) le h = (let l : u < bound = h.0 in omega arith, h.1)

pub falls_drop : (bound : ℕ) (used : List ℕ) → Falls bound used → Falls bound (drop 1 used)
falls_drop bound [] h = tt
falls_drop bound (u ∷ upper) h =
    let l : u < bound = h.0 in falls_more u bound upper (omega arith) h.1

pub opens_more : (action : Action) (count : ℕ) → count ≤ opens action count
opens_more (OnLocation n (Issue stack)) count = omega arith
opens_more (OnLocation n Call) count = omega arith
opens_more _ count = omega arith

-- uses fall still after an action
entry_falls : (past : List Entry) (action : Action) (n : ℕ) → Falls (uses_opened past) (uses past n)
    → Falls (opens action (uses_opened past)) (uses_after action n (use_of past action)
    (uses past n))
entry_falls past (OnLocation m (Issue stack)) n h =
    elim (eqb_tells m n) [
      | inl e ↦ rw e.0 (omega arith, tt)
      | inr e ↦ rw e.0
          (falls_more (uses_opened past) (uses_opened past + 1) (uses past n) (omega arith) h)
    ]
entry_falls past (OnLocation m Call) n h =
    elim (eqb_tells m n) [
      | inl e ↦ rw e.0 (omega arith, h)
      | inr e ↦ rw e.0
          (falls_more (uses_opened past) (uses_opened past + 1) (uses past n) (omega arith) h)
    ]
entry_falls past (OnLocation m Up) n h =
    elim (eqb_tells m n) [
      | inl e ↦ rw e.0 (falls_drop (uses_opened past) (uses past n) h)
      | inr e ↦ rw e.0 h
    ]
entry_falls past _ n h = h

length_dropped : (used : List ℕ) → length used - 1 ≡ length (drop 1 used)
length_dropped [] = refl
length_dropped (u ∷ upper) = omega arith

entry_depths : (past : List Entry) (action : Action) (n : ℕ) → depth past n ≡ length (uses past n)
    → depth_after (with_location_act action n (location_acts past n))
    ≡ length (uses_after action n (use_of past action) (uses past n))
entry_depths past (OnLocation m (Issue stack)) n h =
    elim (eqb_tells m n) [ inl e ↦ rw e.0 refl | inr e ↦ rw e.0 h ]
entry_depths past (OnLocation m Call) n h =
    elim (eqb_tells m n) [ inl e ↦ rw e.0 (omega arith) | inr e ↦ rw e.0 h ]
entry_depths past (OnLocation m Up) n h =
    elim (eqb_tells m n) [
      | inl e ↦ rw e.0 (ap (λ (d : ℕ). d - 1) h ∙ length_dropped (uses past n))
      | inr e ↦ rw e.0 h
    ]
entry_depths past (OnLocation m act) n h =
    elim (eqb_tells m n) [ inl e ↦ rw e.0 h | inr e ↦ rw e.0 h ]
entry_depths past _ n h = h

-- a use that wasn't opened yet is current nowhere
not_current : (n bound : ℕ) (used : List ℕ) (v : Serving) → Falls bound used → bound < v.«use» + 1
    → is_use n (slice_get used 0) v ≡ false
not_current n bound [] v h l = refl
not_current n bound (u ∷ upper) v h l =
    elim (eqb_tells u v.«use») [
      | inl e ↦ let below : u < bound = h.0 in let same : u ≡ v.«use» = e.1 in absurd (omega arith)
      | inr e ↦ rw e.0 (and_false (nat_eq n v.packet))
    ]

entry_unleft : (past : List Entry) (action : Action) (v : Serving) → Traced past
    → uses_opened past < v.«use» + 1
    → (if leaves_use action (use_of past action) v then was_marked past v ∷ marks_left past v
    else marks_left past v)
    ≡ []
entry_unleft past (OnLocation n Leave) v h l =
    rw (not_current n (uses_opened past) (uses past n) v (h.falls n) l) (h.never_left v l)
entry_unleft past _ v h l = h.never_left v l

entry_unmarked : (past : List Entry) (action : Action) (v : Serving) → Traced past
    → uses_opened past < v.«use» + 1
    → (marks_use action (use_of past action) v || was_marked past v) ≡ false
entry_unmarked past (OnLocation n Mark) v h l =
    rw (not_current n (uses_opened past) (uses past n) v (h.falls n) l) (h.never_marked v l)
entry_unmarked past _ v h l = h.never_marked v l

-- after an action, and after the actions of an event
pub traced_entry : (past : List Entry) (actor : Actor) (action : Action) → Traced past
    → Traced (entry past actor action ∷ past)
traced_entry past actor action h =
    let more : uses_opened past ≤ opens action (uses_opened past) =
    opens_more action (uses_opened past) in
    record {
      falls = λ n. entry_falls past action n (h.falls n);
      depths = λ n. entry_depths past action n (h.depths n);
      never_left = λ v l.
          let below : opens action (uses_opened past) < v.«use» + 1 = l in
          entry_unleft past action v h (omega arith);
      never_marked = λ v l.
          let below : opens action (uses_opened past) < v.«use» + 1 = l in
          entry_unmarked past action v h (omega arith);
    }

pub traced_recorded : (past : List Entry) (actor : Actor) (actions : List Action) → Traced past
    → Traced (recorded past actor actions)
traced_recorded past actor [] h = h
traced_recorded past actor (action ∷ actions) h =
    traced_recorded (entry past actor action ∷ past) actor actions
    (traced_entry past actor action h)

pub opened_recorded : (past : List Entry) (actor : Actor) (actions : List Action)
    → uses_opened past ≤ uses_opened (recorded past actor actions)
opened_recorded past actor [] = omega arith
opened_recorded past actor (action ∷ actions) =
    omega (
      arith,
      opens_more action (uses_opened past),
      opened_recorded (entry past actor action ∷ past) actor actions,
    )

pub traced_begun : Traced []
traced_begun =
    record {
      falls = λ n. tt;
      depths = λ n. refl;
      never_left = λ v l. refl;
      never_marked = λ v l.
          refl;
    }

-- an action is about the uses of a packet
abbrev pub is_about : ℕ → Action → Bool
is_about n (OnLocation m act) = nat_eq m n
is_about n _ = false

-- nothing happened to the uses of a packet
pub record SameUses (past later : List Entry) (n : ℕ) : Type 0 where
  pub used : uses later n ≡ uses past n
  pub marked : (u : ℕ) → was_marked later (record { packet = n; «use» = u })
      ≡ was_marked past (record { packet = n; «use» = u })
  pub left : (u : ℕ) → marks_left later (record { packet = n; «use» = u })
      ≡ marks_left past (record { packet = n; «use» = u })
  pub sized : stack_size later n ≡ stack_size past n

not_other : (m n u : ℕ) (location : Option ℕ) → nat_eq m n ≡ false
    → is_use m location (record { packet = n; «use» = u }) ≡ false
not_other m n u None h = refl
not_other m n u (Some v) h = rw h refl

same_entry : (past : List Entry) (actor : Actor) (action : Action) (n : ℕ)
    → is_about n action ≡ false
    → SameUses past (entry past actor action ∷ past) n
same_entry past actor (OnLocation m (Issue stack)) n h =
    record { used = rw h refl; marked = λ u. refl; left = λ u. refl; sized = rw h refl }
same_entry past actor (OnLocation m Call) n h =
    record { used = rw h refl; marked = λ u. refl; left = λ u. refl; sized = rw h refl }
same_entry past actor (OnLocation m Up) n h =
    record { used = rw h refl; marked = λ u. refl; left = λ u. refl; sized = rw h refl }
same_entry past actor (OnLocation m Mark) n h =
    record {
      used = refl;
      marked = λ u. rw (not_other m n u (current_use past m) h) refl;
      left = λ u. refl;
      sized = rw h refl;
    }
same_entry past actor (OnLocation m Leave) n h =
    record {
      used = refl;
      marked = λ u. refl;
      left = λ u. rw (not_other m n u (current_use past m) h) refl;
      sized = rw h refl;
    }
same_entry past actor _ n h =
    record { used = refl; marked = λ u. refl; left = λ u. refl; sized = refl }

pub same_uses : (past : List Entry) (n : ℕ) → SameUses past past n
same_uses past n = record { used = refl; marked = λ u. refl; left = λ u. refl; sized = refl }

same_longer : (past later last : List Entry) (n : ℕ) → SameUses past later n → SameUses later last n
    → SameUses past last n
same_longer past later last n one other =
    record {
      used = other.used ∙ one.used;
      marked = λ u. other.marked u ∙ one.marked u;
      left = λ u. other.left u ∙ one.left u;
      sized = other.sized ∙ one.sized;
    }

-- actions that aren't about a packet
pub same_recorded : (past : List Entry) (actor : Actor) (actions : List Action) (n : ℕ)
    → list_any (is_about n) actions ≡ false → SameUses past (recorded past actor actions) n
same_recorded past actor [] n none = same_uses past n
same_recorded past actor (action ∷ actions) n none =
    same_longer past (entry past actor action ∷ past)
    (recorded (entry past actor action ∷ past) actor actions) n
    (same_entry past actor action n (or_left _ _ none))
    (same_recorded (entry past actor action ∷ past) actor actions n (or_right _ _ none))

-- what a use was left with stays noted
noted_entry : (past : List Entry) (v : Serving) (b now : Bool) (k : ℕ) (marked : Bool)
    → slice_get (marks_left past v) k ≡ Some marked
    → (j : ℕ) × (slice_get (if b then now ∷ marks_left past v else marks_left past v) j
    ≡ Some marked)
noted_entry past v true now k marked h = (suc k, h)
noted_entry past v false now k marked h = (k, h)

pub noted_recorded : (past : List Entry) (actor : Actor) (actions : List Action) (v : Serving)
    (k : ℕ)
    (marked : Bool) → slice_get (marks_left past v) k ≡ Some marked
    → (j : ℕ) × (slice_get (marks_left (recorded past actor actions) v) j ≡ Some marked)
noted_recorded past actor [] v k marked h = (k, h)
noted_recorded past actor (action ∷ actions) v k marked h =
    let one : (j : ℕ)
    × (slice_get (marks_left (entry past actor action ∷ past) v) j ≡ Some marked) =
    noted_entry past v (leaves_use action (use_of past action) v) (was_marked past v) k marked h in
    noted_recorded (entry past actor action ∷ past) actor actions v one.0 marked one.1
