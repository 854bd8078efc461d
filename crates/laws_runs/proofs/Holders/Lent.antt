-- A completion routine that was lent a packet and lets its completion go on: its registers have one
-- right, to that packet.
use Rattle.laws_runs.proofs.Common.{ap, arith, inl, inr, refl, subst, sym, ◌∙◌, cases_Bool, eqb_tells, list_any, List, None, Option, Some, [], false, if◌then◌else◌, nat_eq, slice_index_or, suc, true, ℕ, ⊤, ◌∷◌, ◌≡◌, ◌≤◌, is_new, is_right, form_fault, is_completion, is_dropped, is_fresh, is_hold, kind_of, Set, member, sort_of, Entry, Shared, register, Kind, BlankKind, New, Ret, Continue, Stop, Sort, Hold, Activation, Frame, CancelFrame, Routine, Walk, Value, Blank, Num, Ref, StatusValue, States, frame_rights, right, rights, IsOfSort, Runs, state_of, Suits, ReturnsBy, returns_by, value_suits, granted, if_none, or_left, or_right}
use Rattle.model.specs.declared.abs.Rule.TheVariants.{Completion}
use Rattle.laws_runs.proofs.Holders.Counts.{Holding}
use Rattle.laws_runs.proofs.Holders.Rights.{one_right, right_le}
use Rattle.laws_runs.proofs.Holders.Sums.{unheld, unheld_one}
use Rattle.laws_runs.proofs.Past.LivePackets.{find}
use Rattle.laws_runs.proofs.States.Lent.{HasNew, lent_new}

-- a completion routine that may hold its packet stands on the I/O manager's frame of that, and what
-- it has done nothing with in its registers is that packet
abbrev pub IsLent : Set → States → Option Frame → Frame → Type 0
IsLent set states under (Routine a) =
    IsOfSort set a Hold
    → (n : ℕ) × (under ≡ Some (Walk n))
    × ((r k : ℕ) → is_new (kind_of (state_of states a) r) ≡ true → register a r ≡ Ref k → k ≡ n)
IsLent set states under (Walk m) = ⊤
IsLent set states under (CancelFrame c) = ⊤

-- the form of return with which a completion routine stops the completion is that of one that was
-- lent the packet
pub stops_hold : (sort : Sort) → is_completion sort ≡ true → form_fault sort Stop ≡ None
    → is_hold sort ≡ true
stops_hold Hold is form = refl
stops_hold _ is form = cc

pub hold_sort : (sort : Sort) → is_hold sort ≡ true → sort ≡ Hold
hold_sort Hold h = refl
hold_sort _ h = cc

pub walk_same : (k n : ℕ) → Some (Walk n) ≡ Some (Walk k) → k ≡ n
walk_same k n h = cc

-- where it gives back what it was lent, it has a right to nothing else
new_is : (k : Kind) → is_new k ≡ true → k ≡ New
new_is New h = refl
new_is _ h = cc

new_right : (k : Kind) → is_new k ≡ true → is_right k ≡ true
new_right New h = refl
new_right _ h = cc

only_new : (k : Kind) → is_dropped true k ≡ false → is_right k ≡ true → is_new k ≡ true
only_new New h is = refl
only_new _ h is = cc

right_other : (k : Kind) (v : Value) (n m : ℕ) → is_dropped true k ≡ false
    → ((j : ℕ) → is_new k ≡ true → v ≡ Ref j → j ≡ n) → nat_eq n m ≡ false → right k v m ≡ 0
right_other k Blank n m left to apart = if_none (is_right k)
right_other k (Num number) n m left to apart = if_none (is_right k)
right_other k (StatusValue status) n m left to apart = if_none (is_right k)
right_other k (Ref j) n m left to apart =
    elim (cases_Bool (is_right k)) [
      | inl own ↦
          let same : j ≡ n = to j (only_new k left own) refl in
          let other : nat_eq j m ≡ false = rw same apart in
          rw (own, other) refl
      | inr none ↦ rw none refl
    ]

rights_other : (kinds : List Kind) (values : List Value) (n m : ℕ)
    → list_any (is_dropped true) kinds ≡ false
    → ((r j : ℕ) → is_new (slice_index_or kinds r BlankKind) ≡ true
    → slice_index_or values r Blank ≡ Ref j → j ≡ n)
    → nat_eq n m ≡ false → rights kinds values m ≡ 0
rights_other [] values n m left to apart = refl
rights_other (k ∷ kinds) [] n m left to apart = refl
rights_other (k ∷ kinds) (v ∷ values) n m left to apart =
    omega (
      arith,
      right_other k v n m (or_left (is_dropped true k) (list_any (is_dropped true) kinds) left) (λ j new refers. to 0 j new refers) apart,
      rights_other kinds values n m (or_right (is_dropped true k) (list_any (is_dropped true) kinds) left) (λ r j new refers. to (suc r) j new refers) apart,
    )

-- a completion routine that lets the completion go on
module _ (set : Set) (states : States) (s : Shared) (past : List Entry) (a : Activation)
    (holding : Holding set states s past (Routine a)) (h : Runs set states s a (Ret Continue))
    (is : IsOfSort set a Hold) (n : ℕ)
    (to : (r k : ℕ) → is_new (kind_of (state_of states a) r) ≡ true → register a r ≡ Ref k → k ≡ n)
  where
    returning : ReturnsBy (state_of states a) Hold set a.driver Continue
    returning =
        subst (λ (sort : Sort). ReturnsBy (state_of states a) sort set a.driver Continue) is
        (returns_by (state_of states a) (sort_of set a.driver a.routine) set a.driver Continue
        h.obeys)

    has_new : HasNew (state_of states a).kinds
    has_new =
        lent_new (member set a.driver a.routine h.routine) a.position (state_of states a)
        (sym h.sort ∙ is) h.known.operands (h.known.follows.arrives a.position h.stays.within)
        (granted (is_fresh (state_of states a).duty) Completion returning.settled)

    pub back_holds : 1 ≤ frame_rights states (Routine a) n
    back_holds =
        let r : ℕ = has_new.0 in
        let new : is_new (kind_of (state_of states a) r) ≡ true = has_new.1 in
        let suits : Suits s.issued New (register a r) =
        subst (λ (k : Kind). Suits s.issued k (register a r)) (new_is _ new)
        (value_suits set states s a (Ret Continue) r h) in
        let same : suits.0 ≡ n = to r suits.0 new suits.1 in
        let refers : register a r ≡ Ref n = suits.1 ∙ ap (λ (k : ℕ). Ref k) same in
        let one : right (kind_of (state_of states a) r) (register a r) n ≡ 1 =
        one_right (kind_of (state_of states a) r) (register a r) n (new_right _ new) refers in
        omega (arith, right_le s.issued (state_of states a).kinds a.registers r n h.stays.kinds)

    pub back_unheld : 1 ≤ unheld (find s.packets n)
    back_unheld =
        let some : 1 ≤ frame_rights states (Routine a) n = back_holds in
        omega (arith, holding.rights n)

    pub back_rights : (m : ℕ)
        → frame_rights states (Routine a) m ≡ (if nat_eq n m then 1 else 0)
    back_rights m =
        elim (eqb_tells n m) [
          | inl here ↦
              let some : 1 ≤ frame_rights states (Routine a) n = back_holds in
              let all : frame_rights states (Routine a) n ≤ unheld (find s.packets n) =
              holding.rights n in
              let single : unheld (find s.packets n) ≤ 1 = unheld_one (find s.packets n) in
              let one : frame_rights states (Routine a) n ≡ 1 = omega arith in
              rw (here.0, ← here.1) one
          | inr other ↦
              rw other.0
              (rights_other (state_of states a).kinds a.registers n m returning.nothing_left to
              other.0)
        ]
