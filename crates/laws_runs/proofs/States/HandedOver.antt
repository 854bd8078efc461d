-- What holds of the values in registers of kinds that no instruction makes: packets that a routine
-- was handed, and packets on their way up.
use Rattle.laws_runs.proofs.Prelude.{refl, subst, sym, zero, ◌∙◌, cond_both, list_any, Bool, List, Option, [], false, slice_index_or, slice_set, suc, true, ℕ, ⊤, ◌&&◌, ◌∷◌, ◌≡◌, Action, all_let_go, is_guard, is_stage, kind_disarmed, kind_inserted, kind_removed, left_behind, let_go, given_down, handed, handed_at_label, kind_of, marked, StartState, Set, cancel_routine_of, flow_of, guard_named, sort_of, Shared, next, Abs, Kind, BlankKind, Lower, New, NumKind, Own, QueuedKind, Armed, Listed, Taken, Instr, Arm, Begin, Call, Clear, Complete, Const, Dequeue, Disarm, Get, Insert, Load, LoadPaged, Mark, Move, Next, Pass, Release, ReleaseCancel, Remove, Start, Take, Unlink, Guard, CancelLock, DeviceLock, Declared, Activation, Armer, Value, Blank, Num, Ref}
use Rattle.laws_runs.proofs.States.Frames.{Runs, state_of}
use Rattle.laws_runs.proofs.States.Kinds.{number_kinds}
use Rattle.laws_runs.proofs.States.Moves.{arrives, arrives_next, has_next}
use Rattle.laws_runs.proofs.States.NoViews.{IsHanded, handed_inserted, handed_removed, left_none}
use Rattle.laws_runs.specs.ArrivingStates.{States}
use Rattle.laws_runs.proofs.Steps.Comes.{GoesTo, Queued, Written, inserts, jumping, keeps_all, makes_blank, makes_number, moves_over, onward, puts_in, removes, removes_none, starts_next, starts_packet, takes_none, takes_out, unlinks}
use Rattle.laws_runs.proofs.Steps.Words.{is_touching, keeps_registers, work_of}
use Rattle.laws_runs.proofs.Tests.{or_left, or_right}
use Rattle.laws_runs.proofs.Steps.Comes.{Waits, arms_waiting, disarms_next, starts_gone, dequeues_packet}

abbrev pub HoldOf : (Kind → Bool) → (Value → Type 0) → List Kind → List Value → Type 0
HoldOf f P [] values = ⊤
HoldOf f P (k ∷ kinds) [] = ⊤
HoldOf f P (k ∷ kinds) (v ∷ values) = (f k ≡ true → P v) × HoldOf f P kinds values

-- what copies a value from one register to another
abbrev pub copies : Instr → Bool
copies (Move r q) = true
copies _ = false

pub keeps_copies : (i : Instr) → keeps_registers i ≡ true → copies i ≡ false
keeps_copies (Move r q) h = cc
keeps_copies _ h = refl

pub touching_copies : (i : Instr) → is_touching (work_of i) ≡ true → copies i ≡ false
touching_copies (Move r q) h = cc
touching_copies _ h = refl

module _ (f : Kind → Bool) (given : IsHanded f) (P : Value → Type 0) where
  is_not : (k : Kind) → f k ≡ false → f k ≡ true → ⊥
  is_not k none is = let no : true ≡ false = sym is ∙ none in cc

  pub hold_get : (kinds : List Kind) (values : List Value) (r : ℕ) → P Blank
      → HoldOf f P kinds values
      → f (slice_index_or kinds r BlankKind) ≡ true → P (slice_index_or values r Blank)
  hold_get [] values r empty h is = absurd (is_not BlankKind given.blank is)
  hold_get (k ∷ kinds) [] r empty h is = empty
  hold_get (k ∷ kinds) (v ∷ values) zero empty h is = h.0 is
  hold_get (k ∷ kinds) (v ∷ values) (suc r) empty h is = hold_get kinds values r empty h.1 is

  pub hold_set : (kinds : List Kind) (values : List Value) (r : ℕ) (k : Kind) (v : Value)
      → HoldOf f P kinds values → (f k ≡ true → P v)
      → HoldOf f P (slice_set kinds r k) (slice_set values r v)
  hold_set [] values r k v h new = tt
  hold_set (j ∷ kinds) [] zero k v h new = tt
  hold_set (j ∷ kinds) [] (suc r) k v h new = tt
  hold_set (j ∷ kinds) (w ∷ values) zero k v h new = (new, h.1)
  hold_set (j ∷ kinds) (w ∷ values) (suc r) k v h new = (h.0, hold_set kinds values r k v h.1 new)

  pub hold_turn : (kinds : List Kind) (values : List Value) (r : ℕ) (k : Kind) → f k ≡ false
      → HoldOf f P kinds values → HoldOf f P (slice_set kinds r k) values
  hold_turn [] values r k none h = tt
  hold_turn (j ∷ kinds) [] zero k none h = tt
  hold_turn (j ∷ kinds) [] (suc r) k none h = tt
  hold_turn (j ∷ kinds) (w ∷ values) zero k none h = ((λ is. absurd (is_not k none is)), h.1)
  hold_turn (j ∷ kinds) (w ∷ values) (suc r) k none h = (h.0, hold_turn kinds values r k none h.1)

  -- a register that is told something else
  pub hold_told : (kinds : List Kind) (values : List Value) (r : ℕ) (v : Value) → P v
      → HoldOf f P kinds values → HoldOf f P kinds (slice_set values r v)
  hold_told [] values r v new h = tt
  hold_told (j ∷ kinds) [] r v new h = tt
  hold_told (j ∷ kinds) (w ∷ values) zero v new h = ((λ is. new), h.1)
  hold_told (j ∷ kinds) (w ∷ values) (suc r) v new h = (h.0, hold_told kinds values r v new h.1)

  pub hold_none : (kinds : List Kind) (values : List Value) → list_any f kinds ≡ false
      → HoldOf f P kinds values
  hold_none [] values none = tt
  hold_none (j ∷ kinds) [] none = tt
  hold_none (j ∷ kinds) (w ∷ values) none = (
    (λ is. absurd (is_not j (or_left (f j) (list_any f kinds) none) is)),
    hold_none kinds values (or_right (f j) (list_any f kinds) none),
  )

  hold_move : (kinds : List Kind) (values : List Value) (r q : ℕ) → P Blank
      → HoldOf f P kinds values
      → HoldOf f P
      (slice_set (slice_set kinds r (slice_index_or kinds q BlankKind)) q
      (left_behind (slice_index_or kinds q BlankKind)))
      (slice_set values r (slice_index_or values q Blank))
  hold_move kinds values r q empty h =
      let k : Kind = slice_index_or kinds q BlankKind in
      let v : Value = slice_index_or values q Blank in
      hold_turn (slice_set kinds r k) (slice_set values r v) q (left_behind k)
      (left_none f given.blank given.number k)
      (hold_set kinds values r k v h (λ is. hold_get kinds values q empty h is))

  -- a register whose packet becomes of another kind, and the release of a guard
  hold_becomes : (kinds : List Kind) (values : List Value) (r : ℕ) (k : Kind)
      → (f k ≡ true → f (slice_index_or kinds r BlankKind) ≡ true) → HoldOf f P kinds values
      → HoldOf f P (slice_set kinds r k) values
  hold_becomes [] values r k was h = tt
  hold_becomes (j ∷ kinds) [] zero k was h = tt
  hold_becomes (j ∷ kinds) [] (suc r) k was h = tt
  hold_becomes (j ∷ kinds) (w ∷ values) zero k was h = ((λ is. h.0 (was is)), h.1)
  hold_becomes (j ∷ kinds) (w ∷ values) (suc r) k was h =
      (h.0, hold_becomes kinds values r k was h.1)

  disarmed_was : (k : Kind) → f (kind_disarmed k) ≡ true → f k ≡ true
  disarmed_was (QueuedKind name Armed) is =
      absurd (is_not (QueuedKind name Listed) (given.queued name Listed) is)
  disarmed_was (QueuedKind name Taken) is = absurd (is_not Own given.own is)
  disarmed_was _ is = is

  go_was : (set : Set) (driver : ℕ) (lock : Guard) (k : Kind) → f (let_go set driver lock k) ≡ true
      → f k ≡ true
  go_was set driver lock (QueuedKind name stage) =
      cond_both (is_stage stage Armed && is_guard (guard_named set driver name) lock) BlankKind
      (QueuedKind name stage) (λ k. f k ≡ true → f (QueuedKind name stage) ≡ true)
      (λ guards is. absurd (is_not BlankKind given.blank is)) (λ other is. is)
  go_was set driver lock _ = λ is. is

  go_hold : (set : Set) (driver : ℕ) (lock : Guard) (kinds : List Kind) (values : List Value)
      → HoldOf f P kinds values → HoldOf f P (all_let_go set driver lock kinds) values
  go_hold set driver lock [] values h = tt
  go_hold set driver lock (k ∷ kinds) [] h = tt
  go_hold set driver lock (k ∷ kinds) (v ∷ values) h =
      ((λ is. h.0 (go_was set driver lock k is)), go_hold set driver lock kinds values h.1)

  marked_hold : (s : Abs) (values : List Value) (r : ℕ) (k : Kind) → HoldOf f P s.kinds values
      → HoldOf f P (marked s r k).kinds values
  marked_hold s values r New h = hold_turn s.kinds values r Own given.own h
  marked_hold s values r _ h = h

  given_hold : (s : Abs) (values : List Value) (r : ℕ) (k : Kind) → HoldOf f P s.kinds values
      → HoldOf f P (given_down s r k).kinds values
  given_hold s values r New h = hold_turn s.kinds values r Lower given.lower h
  given_hold s values r Own h = hold_turn s.kinds values r BlankKind given.blank h
  given_hold s values r _ h = h

  -- an instruction after which the values are as they were
  pub handed_hold : (set : Set) (driver : ℕ) (s : Abs) (i : Instr) (values : List Value)
      → copies i ≡ false
      → HoldOf f P s.kinds values → HoldOf f P (handed set driver s i).kinds values
  handed_hold set driver s (Const r n) values plain h =
      hold_turn s.kinds values r NumKind given.number h
  handed_hold set driver s (Move r q) values plain h = cc
  handed_hold set driver s (Clear r) values plain h =
      hold_turn s.kinds values r BlankKind given.blank h
  handed_hold set driver s (Load r c) values plain h =
      hold_turn s.kinds values r NumKind given.number h
  handed_hold set driver s (LoadPaged r c) values plain h =
      hold_turn s.kinds values r NumKind given.number h
  handed_hold set driver s (Get r q field) values plain h =
      hold_turn s.kinds values r NumKind given.number h
  handed_hold set driver s (Mark r) values plain h = marked_hold s values r (kind_of s r) h
  handed_hold set driver s (Insert r q) values plain h =
      hold_turn s.kinds values r (kind_inserted (cancel_routine_of set driver q) (Declared q))
      (handed_inserted f given (cancel_routine_of set driver q) (Declared q)) h
  handed_hold set driver s (Remove r q label) values plain h =
      hold_turn s.kinds values r (kind_removed (cancel_routine_of set driver q) (Declared q))
      (handed_removed f given (cancel_routine_of set driver q) (Declared q)) h
  handed_hold set driver s (Unlink r q) values plain h =
      hold_turn s.kinds values r Own given.own h
  handed_hold set driver s (Dequeue r) values plain h =
      hold_turn s.kinds values r Own given.own h
  handed_hold set driver s (Arm r q) values plain h =
      hold_turn s.kinds values r (QueuedKind (Declared q) Armed) (given.queued (Declared q) Armed) h
  handed_hold set driver s (Disarm r label) values plain h =
      hold_becomes s.kinds values r (kind_disarmed (kind_of s r)) (disarmed_was (kind_of s r)) h
  handed_hold set driver s (Release lock) values plain h =
      go_hold set driver (DeviceLock lock) s.kinds values h
  handed_hold set driver s ReleaseCancel values plain h =
      go_hold set driver CancelLock s.kinds values h
  handed_hold set driver s (Start r) values plain h =
      hold_turn s.kinds values r BlankKind given.blank h
  handed_hold set driver s (Take r label) values plain h =
      hold_turn s.kinds values r Own given.own h
  handed_hold set driver s (Begin r) values plain h =
      hold_turn s.kinds values r BlankKind given.blank h
  handed_hold set driver s (Pass r) values plain h = given_hold s values r (kind_of s r) h
  handed_hold set driver s (Call r g) values plain h = given_hold s values r (kind_of s r) h
  handed_hold set driver s (Complete r status) values plain h =
      hold_turn s.kinds values r BlankKind given.blank h
  handed_hold set driver s _ values plain h = h

  pub label_hold : (s : Abs) (i : Instr) (values : List Value) → HoldOf f P s.kinds values
      → HoldOf f P (handed_at_label s i).kinds values
  label_hold s (Remove r q label) values h = hold_turn s.kinds values r BlankKind given.blank h
  label_hold s (Disarm r label) values h = hold_turn s.kinds values r BlankKind given.blank h
  label_hold s (Take r label) values h = hold_turn s.kinds values r BlankKind given.blank h
  label_hold s _ values h = h

  -- how a routine goes on
  module _ (set : Set) (states : States) (s : Shared) (a : Activation) (empty : P Blank) where
    abbrev Held : Activation → Type 0
    Held b = HoldOf f P (state_of states b).kinds b.registers

    written_hold : (i : Instr) (registers : List Value) → Runs set states s a i
        → Written a i registers
        → Held a
        → HoldOf f P (handed set a.driver (state_of states a) i).kinds registers
    written_hold i registers h (keeps_all _ same) held =
        handed_hold set a.driver (state_of states a) i a.registers (keeps_copies i same) held
    written_hold i registers h (makes_number _ r n is) held =
        subst (λ (kinds : List Kind). HoldOf f P kinds (slice_set a.registers r (Num n)))
        (sym (number_kinds (state_of states a) (sort_of set a.driver a.routine) set a.driver i r
        h.obeys is))
        (hold_set (state_of states a).kinds a.registers r NumKind (Num n) held
        (λ is_one. absurd (is_not NumKind given.number is_one)))
    written_hold i registers h (moves_over r q) held =
        hold_move (state_of states a).kinds a.registers r q empty held
    written_hold i registers h (makes_blank r) held =
        hold_set (state_of states a).kinds a.registers r BlankKind Blank held (λ is. empty)

    pub goes_hold : (i : Instr) (b : Activation) (jumped : Bool) → Runs set states s a i
        → GoesTo a i b jumped → Held a → Held b
    goes_hold i b jumped h (onward registers on written) held =
        subst (λ (state : Abs). HoldOf f P state.kinds registers)
        (sym (arrives set states s a i h _ false (onward registers on written)))
        (written_hold i registers h written held)
    goes_hold i b jumped h (jumping label labelled) held =
        subst (λ (state : Abs). HoldOf f P state.kinds a.registers)
        (sym (arrives set states s a i h _ true (jumping label labelled)))
        (label_hold (state_of states a) i a.registers held)

    pub next_hold : (i : Instr) → Runs set states s a i → has_next (flow_of i) ≡ true
        → copies i ≡ false → Held a → Held (next a)
    next_hold i h leads plain held =
        subst (λ (state : Abs). HoldOf f P state.kinds a.registers)
        (sym (arrives_next set states s a i h leads))
        (handed_hold set a.driver (state_of states a) i a.registers plain held)

  -- by an instruction about queues
  pub queued_hold : (set : Set) (states : States) (s : Shared) (a : Activation) (i : Instr)
      → P Blank
      → Runs set states s a i
      → {b : Activation} {queues : List (List (List ℕ))} {lists : List StartState}
      {actions : List Action} {full : Bool} → Queued set s a i b queues lists actions full
      → HoldOf f P (state_of states a).kinds a.registers
      → HoldOf f P (state_of states b).kinds b.registers
  queued_hold set states s a i empty h (inserts r q n entries reads there) held =
      next_hold set states s a empty (Insert r q) h refl refl held
  queued_hold set states s a i empty h (removes r q label n entries there) held =
      subst (λ (state : Abs). HoldOf f P state.kinds (slice_set a.registers r (Ref n)))
      (sym (arrives_next set states s a (Remove r q label) h refl))
      (hold_set (state_of states a).kinds a.registers r
      (kind_removed (cancel_routine_of set a.driver q) (Declared q)) (Ref n) held
      (λ is. absurd (is_not (kind_removed (cancel_routine_of set a.driver q) (Declared q))
      (handed_removed f given (cancel_routine_of set a.driver q) (Declared q)) is)))
  queued_hold set states s a i empty h (removes_none r q label there) held =
      goes_hold set states s a empty (Remove r q label) _ true h (jumping label refl) held
  queued_hold set states s a i empty h (unlinks r q n entries reads there) held =
      next_hold set states s a empty (Unlink r q) h refl refl held
  queued_hold set states s a i empty h (starts_packet r n start reads there plain) held =
      next_hold set states s a empty (Start r) h refl refl held
  queued_hold set states s a i empty h (takes_out r label n start there slot) held =
      subst (λ (state : Abs). HoldOf f P state.kinds (slice_set a.registers r (Ref n)))
      (sym (arrives_next set states s a (Take r label) h refl))
      (hold_set (state_of states a).kinds a.registers r Own (Ref n) held
      (λ is. absurd (is_not Own given.own is)))
  queued_hold set states s a i empty h (takes_none r label start there slot) held =
      goes_hold set states s a empty (Take r label) _ true h (jumping label refl) held
  queued_hold set states s a i empty h (puts_in r n start reads there) held =
      next_hold set states s a empty (Begin r) h refl refl held
  queued_hold set states s a i empty h (starts_next start there none) held =
      next_hold set states s a empty Next h refl refl held
  queued_hold set states s a i empty h (starts_gone n start there first gone) held =
      next_hold set states s a empty Next h refl refl held
  queued_hold set states s a i empty h (dequeues_packet r n start reads there) held =
      next_hold set states s a empty (Dequeue r) h refl refl held

  pub waits_hold : (set : Set) (states : States) (s : Shared) (a : Activation) (i : Instr)
      → P Blank → Runs set states s a i
      → {starts : List StartState} {n : ℕ} {armer : Option Armer} {full : Bool}
      → Waits set s a i starts n armer full
      → HoldOf f P (state_of states a).kinds a.registers
      → HoldOf f P (state_of states (next a)).kinds a.registers
  waits_hold set states s a i empty h (arms_waiting r n start reads there armed) held =
      next_hold set states s a empty (Start r) h refl refl held
  waits_hold set states s a i empty h (disarms_next n start there first) held =
      next_hold set states s a empty Next h refl refl held
