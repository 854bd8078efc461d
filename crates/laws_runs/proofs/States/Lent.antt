-- A completion routine that was lent a packet, and owes nothing for it yet, has it in a register:
-- it was handed it there, and until it marks it no instruction that it may execute takes it away.
use Rattle.laws_runs.proofs.Common.{ap, arith, inl, inr, refl, subst, sym, zero, ◌∙◌, cases_eq, get_or-set_other, get_or-set_same, Bool, List, None, Some, [], false, length, slice_index_or, slice_set, suc, true, ℕ, ◌<◌, ◌||◌, ◌∷◌, ◌≡◌, ◌≢◌, all_let_go, is_at, is_exchanged, is_new, kind_disarmed, kind_inserted, kind_removed, left_behind, let_go, an_owned_one, demanded, entered_with, entry_of_sort, free_kind, handed, handed_at_label, is_fresh, kind_of, level_fault, marked, queued_kind, refuses, take_fault, Arrives, Member, Set, cancel_routine_of, cancels_for, OperandFits, Abs, Fresh, Kind, New, Own, Queued, SettledMark, Armed, Cancelling, Listed, Instr, Arm, Begin, Call, Clear, Complete, Const, Dequeue, Disarm, Get, Insert, Load, LoadPaged, Mark, Move, Pass, Release, ReleaseCancel, Remove, Start, Take, Unlink, REGISTERS, Guard, CancelLock, DeviceLock, Declared, DeviceQueue, Sort, Dispatch, Hold, all_at, arrives_keep, handed_long, completes_one, sends_down, first_none, second_none}
use Rattle.model.specs.declared.abs.Kind.TheVariants.{Blank, Num}
use Rattle.laws_runs.proofs.States.Kinds.{label_long}
use Rattle.laws_runs.proofs.States.Known.{RoutineOperandsFit}

-- a register has a packet that the routine has done nothing with
abbrev pub HasNew : List Kind → Type 0
HasNew kinds = (j : ℕ) × (is_new (slice_index_or kinds j Blank) ≡ true)

-- it has one while it owes nothing for it
abbrev KeepsNew : Abs → Type 0
KeepsNew s = (length s.kinds ≡ REGISTERS) × (is_fresh s.duty ≡ true → HasNew s.kinds)

-- a register that has none gets another kind
new_set : (kinds : List Kind) (r : ℕ) (k : Kind) → is_new (slice_index_or kinds r Blank) ≡ false
    → HasNew kinds → HasNew (slice_set kinds r k)
new_set kinds r k none h =
    let apart : r ≢ h.0 = λ e.
    (let no : true ≡ false = sym h.1 ∙ (rw (← e) none) in cc) in
    (h.0, ap is_new (get_or-set_other kinds r h.0 k Blank (λ e. apart (sym e))) ∙ h.1)

-- it moves to one that has none
new_move : (kinds : List Kind) (r q : ℕ) → r < length kinds
    → is_new (slice_index_or kinds r Blank) ≡ false → HasNew kinds
    → HasNew (slice_set (slice_set kinds r (slice_index_or kinds q Blank)) q
    (left_behind (slice_index_or kinds q Blank)))
new_move kinds r q within none h =
    let k : Kind = slice_index_or kinds q Blank in
    let apart : r ≢ h.0 = λ e.
    (let no : true ≡ false = sym h.1 ∙ (rw (← e) none) in cc) in
    elim (cases_eq q h.0) [
      | inl its ↦
          let other : q ≢ r = λ e. apart (sym e ∙ its) in
          let there : slice_index_or (slice_set (slice_set kinds r k) q (left_behind k)) r Blank
          ≡ k =
          get_or-set_other (slice_set kinds r k) q r (left_behind k) Blank (λ e. other (sym e))
          ∙ get_or-set_same kinds r k Blank within in
          let new : is_new k ≡ true = rw its h.1 in
          (r, ap is_new there ∙ new)
      | inr away ↦
          let there : slice_index_or (slice_set (slice_set kinds r k) q (left_behind k)) h.0 Blank
          ≡ slice_index_or kinds h.0 Blank =
          get_or-set_other (slice_set kinds r k) q h.0 (left_behind k) Blank (λ e. away (sym e))
          ∙ get_or-set_other kinds r h.0 k Blank (λ e. apart (sym e)) in
          (h.0, ap is_new there ∙ h.1)
    ]

-- the kinds that instructions write over or change aren't
free_not_new : (k : Kind) → free_kind k ≡ None → is_new k ≡ false
free_not_new New h = cc
free_not_new _ h = refl

owned_not_new : (k : Kind) → demanded an_owned_one k ≡ None → is_new k ≡ false
owned_not_new New h = cc
owned_not_new _ h = refl

pub queued_not_new : (fits : Bool) (k : Kind) → queued_kind fits k ≡ None → is_new k ≡ false
queued_not_new fits New h = cc
queued_not_new fits _ h = refl

let_go_new : (set : Set) (driver : ℕ) (lock : Guard) (k : Kind) → is_new k ≡ true
    → is_new (let_go set driver lock k) ≡ true
let_go_new set driver lock New h = refl
let_go_new set driver lock _ h = cc

all_go_new : (set : Set) (driver : ℕ) (lock : Guard) (kinds : List Kind) (j : ℕ)
    → is_new (slice_index_or kinds j Blank) ≡ true
    → is_new (slice_index_or (all_let_go set driver lock kinds) j Blank) ≡ true
all_go_new set driver lock [] j h = h
all_go_new set driver lock (k ∷ kinds) zero h = let_go_new set driver lock k h
all_go_new set driver lock (k ∷ kinds) (suc j) h = all_go_new set driver lock kinds j h

marked_new : (s : Abs) (r : ℕ) (k : Kind) → (is_fresh s.duty ≡ true → HasNew s.kinds)
    → is_fresh (marked s r k).duty ≡ true → HasNew (marked s r k).kinds
marked_new s r New h fresh = cc
marked_new s r _ h fresh = h fresh

module _ (set : Set) (driver : ℕ) where
  handed_new : (s : Abs) (i : Instr) → OperandFits i → length s.kinds ≡ REGISTERS
      → refuses s i Hold set driver ≡ None → (is_fresh s.duty ≡ true → HasNew s.kinds)
      → is_fresh (handed set driver s i).duty ≡ true → HasNew (handed set driver s i).kinds
  handed_new s (Const r n) fits long keeps h fresh =
      new_set s.kinds r Num (free_not_new (kind_of s r) keeps) (h fresh)
  handed_new s (Move r q) fits long keeps h fresh =
      let small : r < REGISTERS = fits.0 in
      new_move s.kinds r q (omega arith) (free_not_new (kind_of s r) keeps) (h fresh)
  handed_new s (Clear r) fits long keeps h fresh =
      new_set s.kinds r Blank (free_not_new (kind_of s r) keeps) (h fresh)
  handed_new s (Load r c) fits long keeps h fresh =
      new_set s.kinds r Num (free_not_new (kind_of s r) keeps) (h fresh)
  handed_new s (LoadPaged r c) fits long keeps h fresh =
      new_set s.kinds r Num
      (free_not_new (kind_of s r) (second_none (level_fault s Hold) (free_kind (kind_of s r))
      keeps))
      (h fresh)
  handed_new s (Get r q field) fits long keeps h fresh =
      new_set s.kinds r Num (free_not_new (kind_of s r) (second_none _ _ keeps)) (h fresh)
  handed_new s (Mark r) fits long keeps h fresh = marked_new s r (kind_of s r) h fresh
  handed_new s (Release lock) fits long keeps h fresh =
      ((h fresh).0, all_go_new set driver (DeviceLock lock) s.kinds (h fresh).0 (h fresh).1)
  handed_new s ReleaseCancel fits long keeps h fresh =
      ((h fresh).0, all_go_new set driver CancelLock s.kinds (h fresh).0 (h fresh).1)
  handed_new s (Insert r q) fits long keeps h fresh =
      new_set s.kinds r (kind_inserted (cancel_routine_of set driver q) (Declared q))
      (owned_not_new (kind_of s r) (first_none _ _ keeps)) (h fresh)
  handed_new s (Remove r q label) fits long keeps h fresh =
      new_set s.kinds r (kind_removed (cancel_routine_of set driver q) (Declared q))
      (free_not_new (kind_of s r) (first_none _ _ (second_none _ _ keeps))) (h fresh)
  handed_new s (Unlink r q) fits long keeps h fresh =
      new_set s.kinds r Own
      (queued_not_new (is_at Listed (Declared q) (kind_of s r) || is_at Cancelling (Declared q)
      (kind_of s r))
      (kind_of s r) (first_none _ _ keeps)) (h fresh)
  handed_new s (Dequeue r) fits long keeps h fresh =
      new_set s.kinds r Own
      (queued_not_new (is_at Cancelling DeviceQueue (kind_of s r))
      (kind_of s r) (first_none _ _ keeps)) (h fresh)
  handed_new s (Arm r q) fits long keeps h fresh =
      new_set s.kinds r (Queued (Declared q) Armed)
      (queued_not_new (is_at Listed (Declared q) (kind_of s r)) (kind_of s r)
      (first_none _ _ keeps))
      (h fresh)
  handed_new s (Disarm r label) fits long keeps h fresh =
      new_set s.kinds r (kind_disarmed (kind_of s r))
      (queued_not_new (is_exchanged (kind_of s r)) (kind_of s r) keeps) (h fresh)
  handed_new s (Start r) fits long keeps h fresh =
      new_set s.kinds r Blank (owned_not_new (kind_of s r) (first_none _ _ keeps)) (h fresh)
  handed_new s (Take r label) fits long keeps h fresh =
      new_set s.kinds r Own (free_not_new (kind_of s r) (second_none (take_fault s Hold) _ keeps))
      (h fresh)
  handed_new s (Begin r) fits long keeps h fresh =
      new_set s.kinds r Blank (owned_not_new (kind_of s r) (first_none _ _ keeps)) (h fresh)
  handed_new s (Pass r) fits long keeps h fresh =
      let no : Hold ≡ Dispatch = (sends_down s Hold set driver (Pass r) r keeps refl refl).dispatch
      in
      cc
  handed_new s (Call r f) fits long keeps h fresh =
      let no : Hold ≡ Dispatch = (sends_down s Hold set driver (Call r f) r keeps refl
      refl).dispatch in
      cc
  handed_new s (Complete r status) fits long keeps h fresh =
      let no : true ≡ false = (completes_one s Hold set driver r status keeps).above in cc
  handed_new s _ fits long keeps h fresh = h fresh

  label_new : (s : Abs) (i : Instr) → refuses s i Hold set driver ≡ None
      → (is_fresh s.duty ≡ true → HasNew s.kinds)
      → is_fresh (handed_at_label s i).duty ≡ true → HasNew (handed_at_label s i).kinds
  label_new s (Remove r q label) keeps h fresh =
      new_set s.kinds r Blank (free_not_new (kind_of s r) (first_none _ _ (second_none _ _ keeps)))
      (h fresh)
  label_new s (Disarm r label) keeps h fresh =
      new_set s.kinds r Blank (queued_not_new (is_exchanged (kind_of s r)) (kind_of s r) keeps)
      (h fresh)
  label_new s (Take r label) keeps h fresh =
      new_set s.kinds r Blank (free_not_new (kind_of s r) (second_none _ _ keeps)) (h fresh)
  label_new s _ keeps h fresh = h fresh

-- so it is in every state that arrives at a position
pub lent_new : (m : Member) (p : ℕ) (s : Abs) → m.routine.sort ≡ Hold → RoutineOperandsFit m.routine
    → Arrives m p s → is_fresh s.duty ≡ true → HasNew s.kinds
lent_new m p s is operands arrives =
    (arrives_keep KeepsNew m
    (λ first enters.
    let start : Some (entered_with New Fresh SettledMark false) ≡ Some first =
    sym (ap (λ (x : Sort). entry_of_sort x (cancels_for m.set m.driver m.number)) is) ∙ enters in
    let same : entered_with New Fresh SettledMark false ≡ first = cc in
    subst KeepsNew same (refl, λ fresh. (0, refl)))
    (λ before i q at rule h. (
      handed_long m.set m.driver before i ∙ h.0,
      handed_new m.set m.driver before i (all_at OperandFits m.routine.code q i operands at) h.0
          (obeys before i rule) h.1,
    ))
    (λ before i q at rule h.
    (label_long before i ∙ h.0, label_new m.set m.driver before i (obeys before i rule) h.1))
    p s arrives).1
  where
    obeys : (before : Abs) (i : Instr) → refuses before i m.routine.sort m.set m.driver ≡ None
        → refuses before i Hold m.set m.driver ≡ None
    obeys before i rule =
        subst (λ (x : Sort). refuses before i x m.set m.driver ≡ None) is rule
