-- The rights of a routine's frame after an instruction that leaves the packets with who has them,
-- and after a mark; and those that a packet which is sent down takes along.
use Rattle.laws_runs.proofs.Common.{ap, arith, refl, sym, ◌∙◌, Bool, List, None, Some, false, length, slice_index_or, slice_set, true, ℕ, ◌+◌, ◌<◌, ◌≡◌, is_right, given_down, handed, kind_of, marked, number_kind, refuses, Set, flow_of, sort_of, OperandFits, Shared, next, register, Abs, Kind, BlankKind, LowerKind, New, NumKind, Own, Instr, Add, Const, Get, Load, LoadPaged, Move, Subtract, REGISTERS, Sort, Activation, Routine, Value, Blank, Num, States, frame_rights, right, rights, all_at, Runs, state_of, HasKinds, kinds_get, kinds_set, label_kinds, number_kinds, arrives, arrives_next, falls_next, has_next, first_none, second_none, unbroken, GoesTo, Written, jumping, keeps_all, makes_blank, makes_number, moves_over, onward, LockWord, is_giving, keeps_registers, numbered_by, work_of}
use Rattle.laws_runs.proofs.Holders.Exchanges.{rights_still}
use Rattle.laws_runs.proofs.Holders.Rights.{rights_write, rights_turn, rights_move, not_right}
use Rattle.laws_runs.proofs.States.NoViews.{is_queued}

number_free : (k : Kind) → number_kind k ≡ None → is_right k ≡ false
number_free NumKind h = refl
number_free _ h = cc

-- a register that becomes a number had no right
numbered_free : (s : Abs) (i : Instr) (r : ℕ) (sort : Sort) (set : Set) (driver : ℕ)
    → numbered_by i ≡ Some r
    → refuses s i sort set driver ≡ None → is_right (kind_of s r) ≡ false
numbered_free s (Const q n) r sort set driver is h =
    let one : q ≡ r = cc in rw (← one) (not_right _ (unbroken _ _ h))
numbered_free s (Load q c) r sort set driver is h =
    let one : q ≡ r = cc in rw (← one) (not_right _ (unbroken _ _ h))
numbered_free s (LoadPaged q c) r sort set driver is h =
    let one : q ≡ r = cc in rw (← one) (not_right _ (unbroken _ _ (second_none _ _ h)))
numbered_free s (Get q p field) r sort set driver is h =
    let one : q ≡ r = cc in rw (← one) (not_right _ (unbroken _ _ (second_none _ _ h)))
numbered_free s (Add q p) r sort set driver is h =
    let one : q ≡ r = cc in rw (← one) (number_free _ (first_none _ _ h))
numbered_free s (Subtract q p) r sort set driver is h =
    let one : q ≡ r = cc in rw (← one) (number_free _ (first_none _ _ h))
numbered_free s _ r sort set driver is h = cc

-- a mark leaves the right where it is, and what is given down leaves its register
pub mark_rights : (issued : ℕ) (s : Abs) (values : List Value) (r : ℕ) (k : Kind) (m : ℕ)
    → HasKinds issued s.kinds values
    → k ≡ kind_of s r → rights (marked s r k).kinds values m ≡ rights s.kinds values m
mark_rights issued s values r New m h is =
    let same : right (kind_of s r) (slice_index_or values r Blank) m
    ≡ right Own (slice_index_or values r Blank) m =
    ap (λ (k : Kind). right k (slice_index_or values r Blank) m) (sym is) in
    omega (arith, rights_turn issued s.kinds values r Own m h)
mark_rights issued s values r _ m h is = refl

pub given_rights : (issued : ℕ) (s : Abs) (values : List Value) (r : ℕ) (k : Kind) (m : ℕ)
    → HasKinds issued s.kinds values
    → is_right k ≡ true → is_queued k ≡ false
    → rights (given_down s r k).kinds values m + right (kind_of s r) (slice_index_or values r Blank)
    m
    ≡ rights s.kinds values m
given_rights issued s values r New m h is unlisted =
    omega (arith, rights_turn issued s.kinds values r LowerKind m h)
given_rights issued s values r Own m h is unlisted =
    omega (arith, rights_turn issued s.kinds values r BlankKind m h)
given_rights issued s values r _ m h is unlisted = cc

-- the rights after an instruction that leaves the packets with who has them
written_rights : (set : Set) (states : States) (s : Shared) (a : Activation) (i : Instr)
    (registers : List Value)
    → Runs set states s a i → is_giving (work_of i) ≡ false → Written a i registers → (n : ℕ)
    → rights (handed set a.driver (state_of states a) i).kinds registers n
    ≡ frame_rights states (Routine a) n
written_rights set states s a i registers h quiet (keeps_all _ same) n =
    rights_still set a.driver (state_of states a) i a.registers n same quiet
written_rights set states s a i registers h quiet (makes_number _ r m is) n =
    ap (λ (kinds : List Kind). rights kinds (slice_set a.registers r (Num m)) n)
    (number_kinds (state_of states a) (sort_of set a.driver a.routine) set a.driver i r h.obeys is)
    ∙ rights_write s.issued (state_of states a).kinds a.registers r NumKind (Num m) n h.stays.kinds
    (numbered_free (state_of states a) i r (sort_of set a.driver a.routine) set a.driver is h.obeys)
    refl
written_rights set states s a i registers h quiet (moves_over r q) n =
    let small : r < REGISTERS =
    (all_at OperandFits h.routine.code a.position (Move r q) h.known.operands h.here).0 in
    let long : length (state_of states a).kinds ≡ REGISTERS = h.stays.sixteen in
    rights_move s.issued (state_of states a).kinds a.registers r q n h.stays.kinds (omega arith)
    (not_right _ (unbroken _ _ h.obeys))
    (kinds_set s.issued (state_of states a).kinds a.registers r (kind_of (state_of states a) q)
    (register a q)
    h.stays.kinds (kinds_get s.issued (state_of states a).kinds a.registers q h.stays.kinds))
written_rights set states s a i registers h quiet (makes_blank r) n =
    rights_write s.issued (state_of states a).kinds a.registers r BlankKind Blank n h.stays.kinds
    (not_right _ (unbroken _ _ h.obeys)) refl

-- the rights of a routine's frame where it goes on
module _ (set : Set) (states : States) (s : Shared) (a : Activation) (i : Instr)
    (h : Runs set states s a i) where
  abbrev KeepsRights : Activation → Type 0
  KeepsRights b = (n : ℕ) → frame_rights states (Routine b) n ≡ frame_rights states (Routine a) n

  pub goes_rights : (b : Activation) (jumped : Bool) → is_giving (work_of i) ≡ false
      → GoesTo a i b jumped → KeepsRights b
  goes_rights b jumped quiet (onward registers on written) n =
      ap (λ (state : Abs). rights state.kinds registers n)
      (arrives set states s a i h _ false (onward registers on written))
      ∙ written_rights set states s a i registers h quiet written n
  goes_rights b jumped quiet (jumping label labelled) n =
      ap (λ (state : Abs). rights state.kinds a.registers n)
      (arrives set states s a i h _ true (jumping label labelled))
      ∙ ap (λ (kinds : List Kind). rights kinds a.registers n)
      (label_kinds (state_of states a) i quiet)

  pub next_state_rights : has_next (flow_of i) ≡ true → (n : ℕ)
      → frame_rights states (Routine (next a)) n
      ≡ rights (handed set a.driver (state_of states a) i).kinds a.registers n
  next_state_rights on n =
      ap (λ (state : Abs). rights state.kinds a.registers n) (arrives_next set states s a i h on)

  pub still_rights : keeps_registers i ≡ true → is_giving (work_of i) ≡ false
      → has_next (flow_of i) ≡ true
      → KeepsRights (next a)
  still_rights same quiet on n =
      next_state_rights on n
      ∙ rights_still set a.driver (state_of states a) i a.registers n same quiet

  pub lock_rights : LockWord i → KeepsRights (next a)
  lock_rights word = still_rights word.keeps (rw word.work refl) (falls_next (flow_of i) word.on)
