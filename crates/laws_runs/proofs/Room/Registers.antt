-- What holds of the packets in registers of kinds that are a right to them: where an instruction
-- gives a register such a kind, or writes a value into it, it has to hold of the packet there; else
-- it stays.
use Rattle.laws_runs.proofs.Common.{ap, arith, refl, subst, sym, zero, ◌∙◌, cond_both, Bool, List, None, Option, Some, [], false, not, replicate, slice_index_or, slice_set, suc, true, ℕ, ◌&&◌, ◌∷◌, ◌≡◌, ◌≤◌, all_let_go, is_at, is_claim, is_guard, is_right, is_stage, kind_disarmed, kind_inserted, left_behind, let_go, given_down, handed, handed_at_label, kind_of, mark_fault, marked, queued_kind, refuses, unlink_kind, Set, cancel_routine_of, flow_of, guard_named, sort_of, Shared, next, Abs, Kind, BlankKind, Lower, New, NumKind, Own, Queued, View, Settled, Stage, Armed, Cancelling, Listed, Taken, Instr, Arm, Begin, Call, Clear, Complete, Const, Dequeue, Disarm, Get, Insert, Load, LoadPaged, Mark, Move, Pass, Release, ReleaseCancel, Remove, Start, Take, Unlink, Guard, CancelLock, DeviceLock, QueueName, Declared, DeviceQueue, Sort, Status, Activation, Value, Blank, Num, Ref, StatusValue, States, right, rights, Runs, state_of, HoldOf, number_kinds, arrives, arrives_next, has_next, inserts_right, first_none, GoesTo, Written, jumping, keeps_all, makes_blank, makes_number, moves_over, onward, is_giving, is_touching, keeps_registers, packet_operand, work_of}
use Rattle.laws_runs.proofs.Holders.Rights.{one_right}

-- a packet in a register whose current location is marked: the routine marked it, or was given it
-- by who had
abbrev pub is_owned : Kind → Bool
is_owned BlankKind = false
is_owned NumKind = false
is_owned Lower = false
is_owned New = false
is_owned Own = true
is_owned (Queued name stage) = not (is_claim stage)
is_owned View = false

-- kinds that are a right: all of them, or those that own
pub record IsClaim (f : Kind → Bool) : Type 0 where
  pub blank : f BlankKind ≡ false
  pub number : f NumKind ≡ false
  pub lower : f Lower ≡ false
  pub view : f View ≡ false
  pub own : f Own ≡ true
  pub queued : (name : QueueName) (stage : Stage) → f (Queued name stage) ≡ not (is_claim stage)
  pub right : (k : Kind) → f k ≡ true → is_right k ≡ true

pub claims_right : IsClaim is_right
claims_right =
    record {
      blank = refl;
      number = refl;
      lower = refl;
      view = refl;
      own = refl;
      queued = λ name stage. refl;
      right = λ k is. is;
    }

owned_right : (k : Kind) → is_owned k ≡ true → is_right k ≡ true
owned_right Own is = refl
owned_right (Queued name stage) is = is
owned_right _ is = cc

pub claims_owned : IsClaim is_owned
claims_owned =
    record {
      blank = refl;
      number = refl;
      lower = refl;
      view = refl;
      own = refl;
      queued = λ name stage. refl;
      right = owned_right;
    }

-- the packet that a register refers to
abbrev pub Refers : (ℕ → Type 0) → Value → Type 0
Refers M v = (n : ℕ) → v ≡ Ref n → M n

-- the register that an instruction gives a right, or a packet that is owned, and the kinds that it
-- may have had before
abbrev pub gained_by : Instr → Option ℕ
gained_by (Mark r) = Some r
gained_by (Disarm r label) = Some r
gained_by _ = None

abbrev pub is_gained : Kind → Bool
is_gained New = true
is_gained (Queued name stage) = is_claim stage
is_gained _ = false

pub gained_operand : (i : Instr) (r : ℕ) → gained_by i ≡ Some r → packet_operand i ≡ Some r
gained_operand (Mark q) r h = h
gained_operand (Disarm q label) r h = h
gained_operand _ r h = cc

pub nothing_gained : (i : Instr) → is_giving (work_of i) ≡ false → gained_by i ≡ None
nothing_gained (Mark q) h = cc
nothing_gained (Disarm q label) h = cc
nothing_gained _ h = refl

pub mark_gains : (carried : Settled) (k : Kind) → mark_fault carried k ≡ None → is_gained k ≡ true
    → k ≡ New
mark_gains carried New rule is = refl
mark_gains carried _ rule is = cc

-- what brings a packet into a register
abbrev pub brings : Instr → Bool
brings (Move r q) = true
brings (Remove r q label) = true
brings (Take r label) = true
brings _ = false

pub keeps_brings : (i : Instr) → keeps_registers i ≡ true → brings i ≡ false
keeps_brings (Move r q) h = cc
keeps_brings (Remove r q label) h = cc
keeps_brings (Take r label) h = cc
keeps_brings _ h = refl

pub touching_brings : (i : Instr) → is_touching (work_of i) ≡ true → brings i ≡ false
touching_brings (Move r q) h = cc
touching_brings (Remove r q label) h = cc
touching_brings (Take r label) h = cc
touching_brings _ h = refl

module _ (f : Kind → Bool) (claim : IsClaim f) (M : ℕ → Type 0) where
  abbrev pub Claimed : List Kind → List Value → Type 0
  Claimed kinds values = HoldOf f (Refers M) kinds values

  never : {A : Type 0} (k : Kind) → f k ≡ false → f k ≡ true → A
  never k none is = let no : true ≡ false = sym is ∙ none in cc

  empty : Refers M Blank
  empty n is = cc

  pub claim_get : (kinds : List Kind) (values : List Value) (r : ℕ) → Claimed kinds values
      → f (slice_index_or kinds r BlankKind) ≡ true → Refers M (slice_index_or values r Blank)
  claim_get [] values r h is = never BlankKind claim.blank is
  claim_get (k ∷ kinds) [] r h is = empty
  claim_get (k ∷ kinds) (v ∷ values) zero h is = h.0 is
  claim_get (k ∷ kinds) (v ∷ values) (suc r) h is = claim_get kinds values r h.1 is

  pub claim_set : (kinds : List Kind) (values : List Value) (r : ℕ) (k : Kind) (v : Value)
      → (f k ≡ true → Refers M v) → Claimed kinds values
      → Claimed (slice_set kinds r k) (slice_set values r v)
  claim_set [] values r k v new h = tt
  claim_set (j ∷ kinds) [] zero k v new h = tt
  claim_set (j ∷ kinds) [] (suc r) k v new h = tt
  claim_set (j ∷ kinds) (w ∷ values) zero k v new h = (new, h.1)
  claim_set (j ∷ kinds) (w ∷ values) (suc r) k v new h = (h.0, claim_set kinds values r k v new h.1)

  -- a register gets another kind
  claim_turn : (kinds : List Kind) (values : List Value) (r : ℕ) (k : Kind)
      → (f k ≡ true → Refers M (slice_index_or values r Blank)) → Claimed kinds values
      → Claimed (slice_set kinds r k) values
  claim_turn [] values r k new h = tt
  claim_turn (j ∷ kinds) [] zero k new h = tt
  claim_turn (j ∷ kinds) [] (suc r) k new h = tt
  claim_turn (j ∷ kinds) (w ∷ values) zero k new h = (new, h.1)
  claim_turn (j ∷ kinds) (w ∷ values) (suc r) k new h = (h.0, claim_turn kinds values r k new h.1)

  -- it is told a status
  pub claim_told : (kinds : List Kind) (values : List Value) (r : ℕ) (status : Status)
      → Claimed kinds values → Claimed kinds (slice_set values r (StatusValue status))
  claim_told [] values r status h = tt
  claim_told (j ∷ kinds) [] r status h = tt
  claim_told (j ∷ kinds) (w ∷ values) zero status h = ((λ is n refers. cc), h.1)
  claim_told (j ∷ kinds) (w ∷ values) (suc r) status h = (h.0, claim_told kinds values r status h.1)

  -- it is moved to another one
  left_free : (k : Kind) → f (left_behind k) ≡ false
  left_free NumKind = claim.number
  left_free _ = claim.blank

  claim_move : (kinds : List Kind) (values : List Value) (r q : ℕ) → Claimed kinds values
      → Claimed
      (slice_set (slice_set kinds r (slice_index_or kinds q BlankKind)) q
      (left_behind (slice_index_or kinds q BlankKind)))
      (slice_set values r (slice_index_or values q Blank))
  claim_move kinds values r q h =
      let k : Kind = slice_index_or kinds q BlankKind in
      let v : Value = slice_index_or values q Blank in
      claim_turn (slice_set kinds r k) (slice_set values r v) q (left_behind k)
      (never (left_behind k) (left_free k))
      (claim_set kinds values r k v (claim_get kinds values q h) h)

  -- a routine begins with a packet in its first register, or with none
  pub claim_first : (k : Kind) (v : Value) (count : ℕ) → (f k ≡ true → Refers M v)
      → Claimed (k ∷ replicate count BlankKind) (v ∷ replicate count Blank)
  claim_first k v count new = (new, others count)
    where
      others : (count : ℕ) → Claimed (replicate count BlankKind) (replicate count Blank)
      others zero = tt
      others (suc count) = ((λ is. empty), others count)

  -- once a guard is released
  go_claim : (set : Set) (driver : ℕ) (lock : Guard) (k : Kind)
      → f (let_go set driver lock k) ≡ true
      → f k ≡ true
  go_claim set driver lock (Queued name stage) =
      cond_both (is_stage stage Armed && is_guard (guard_named set driver name) lock) BlankKind
      (Queued name stage) (λ k. f k ≡ true → f (Queued name stage) ≡ true)
      (λ guards is. never BlankKind claim.blank is) (λ other is. is)
  go_claim set driver lock _ = λ is. is

  go_claims : (set : Set) (driver : ℕ) (lock : Guard) (kinds : List Kind) (values : List Value)
      → Claimed kinds values → Claimed (all_let_go set driver lock kinds) values
  go_claims set driver lock [] values h = tt
  go_claims set driver lock (k ∷ kinds) [] h = tt
  go_claims set driver lock (k ∷ kinds) (v ∷ values) h =
      ((λ is. h.0 (go_claim set driver lock k is)), go_claims set driver lock kinds values h.1)

  disarmed_claim : {A : Type 0} (k : Kind) → (is_gained k ≡ true → A) → (f k ≡ true → A)
      → f (kind_disarmed k) ≡ true → A
  disarmed_claim (Queued name Armed) gained had is = gained refl
  disarmed_claim (Queued name Taken) gained had is = gained refl
  disarmed_claim _ gained had is = had is

  unlinked_claim : (name : QueueName) (k : Kind) → unlink_kind name k ≡ None → f k ≡ true
  unlinked_claim name (Queued other Listed) rule = claim.queued other Listed
  unlinked_claim name (Queued other Cancelling) rule = claim.queued other Cancelling
  unlinked_claim name _ rule = cc

  dequeued_claim : (k : Kind) → queued_kind (is_at Cancelling DeviceQueue k) k ≡ None → f k ≡ true
  dequeued_claim (Queued other Cancelling) rule = claim.queued other Cancelling
  dequeued_claim _ rule = cc

  -- what has to hold of the packet to which an instruction gives a right, or a mark
  abbrev pub Gains : Abs → List Value → Instr → Type 0
  Gains s values i =
      (r : ℕ) → gained_by i ≡ Some r → is_gained (kind_of s r) ≡ true
      → Refers M (slice_index_or values r Blank)

  module _ (s : Abs) (sort : Sort) (set : Set) (driver : ℕ) (values : List Value) where
    blank_claims : (r : ℕ) → Claimed s.kinds values → Claimed (slice_set s.kinds r BlankKind) values
    blank_claims r h = claim_turn s.kinds values r BlankKind (never BlankKind claim.blank) h

    number_claims : (r : ℕ) → Claimed s.kinds values → Claimed (slice_set s.kinds r NumKind) values
    number_claims r h = claim_turn s.kinds values r NumKind (never NumKind claim.number) h

    marked_claims : (r : ℕ) (k : Kind)
        → (is_gained k ≡ true → Refers M (slice_index_or values r Blank)) → Claimed s.kinds values
        → Claimed (marked s r k).kinds values
    marked_claims r New gains h = claim_turn s.kinds values r Own (λ is. gains refl) h
    marked_claims r _ gains h = h

    given_claims : (r : ℕ) (k : Kind) → Claimed s.kinds values
        → Claimed (given_down s r k).kinds values
    given_claims r New h = claim_turn s.kinds values r Lower (never Lower claim.lower) h
    given_claims r Own h = blank_claims r h
    given_claims r _ h = h

    -- an instruction after which the values are as they were
    handed_claims : (i : Instr) → refuses s i sort set driver ≡ None → brings i ≡ false
        → Gains s values i → Claimed s.kinds values → Claimed (handed set driver s i).kinds values
    handed_claims (Const r n) rule brought gains h = number_claims r h
    handed_claims (Move r q) rule brought gains h = cc
    handed_claims (Clear r) rule brought gains h = blank_claims r h
    handed_claims (Load r c) rule brought gains h = number_claims r h
    handed_claims (LoadPaged r c) rule brought gains h = number_claims r h
    handed_claims (Get r q field) rule brought gains h = number_claims r h
    handed_claims (Remove r q label) rule brought gains h = cc
    handed_claims (Take r label) rule brought gains h = cc
    handed_claims (Mark r) rule brought gains h = marked_claims r (kind_of s r) (gains r refl) h
    handed_claims (Insert r q) rule brought gains h =
        claim_turn s.kinds values r (kind_inserted (cancel_routine_of set driver q) (Declared q))
        (λ is. claim_get s.kinds values r h
        (ap f (inserts_right (kind_of s r) (first_none _ _ rule)) ∙ claim.own)) h
    handed_claims (Unlink r q) rule brought gains h =
        claim_turn s.kinds values r Own
        (λ is. claim_get s.kinds values r h
        (unlinked_claim (Declared q) (kind_of s r) (first_none _ _ rule))) h
    handed_claims (Dequeue r) rule brought gains h =
        claim_turn s.kinds values r Own
        (λ is. claim_get s.kinds values r h
        (dequeued_claim (kind_of s r) (first_none _ _ rule))) h
    handed_claims (Arm r q) rule brought gains h =
        claim_turn s.kinds values r (Queued (Declared q) Armed)
        (never (Queued (Declared q) Armed) (claim.queued (Declared q) Armed)) h
    handed_claims (Disarm r label) rule brought gains h =
        claim_turn s.kinds values r (kind_disarmed (kind_of s r))
        (disarmed_claim (kind_of s r) (gains r refl) (claim_get s.kinds values r h)) h
    handed_claims (Release lock) rule brought gains h =
        go_claims set driver (DeviceLock lock) s.kinds values h
    handed_claims ReleaseCancel rule brought gains h =
        go_claims set driver CancelLock s.kinds values h
    handed_claims (Start r) rule brought gains h = blank_claims r h
    handed_claims (Begin r) rule brought gains h = blank_claims r h
    handed_claims (Complete r status) rule brought gains h = blank_claims r h
    handed_claims (Pass r) rule brought gains h = given_claims r (kind_of s r) h
    handed_claims (Call r g) rule brought gains h = given_claims r (kind_of s r) h
    handed_claims _ rule brought gains h = h

    label_claims : (i : Instr) → Claimed s.kinds values → Claimed (handed_at_label s i).kinds values
    label_claims (Remove r q label) h = blank_claims r h
    label_claims (Disarm r label) h = blank_claims r h
    label_claims (Take r label) h = blank_claims r h
    label_claims _ h = h

  -- how a routine goes on
  module _ (set : Set) (states : States) (s : Shared) (a : Activation) where
    abbrev pub Claims : Activation → Type 0
    Claims b = Claimed (state_of states b).kinds b.registers

    abbrev pub GainsAt : Instr → Type 0
    GainsAt i = Gains (state_of states a) a.registers i

    written_claims : (i : Instr) (h : Runs set states s a i) (registers : List Value) → GainsAt i
        → Written a i registers → Claims a
        → Claimed (handed set a.driver (state_of states a) i).kinds registers
    written_claims i h registers gains (keeps_all _ keeps) held =
        handed_claims (state_of states a) (sort_of set a.driver a.routine) set a.driver a.registers
        i
        h.obeys (keeps_brings i keeps) gains held
    written_claims i h registers gains (makes_number _ r n is) held =
        subst (λ (kinds : List Kind). Claimed kinds (slice_set a.registers r (Num n)))
        (sym (number_kinds (state_of states a) (sort_of set a.driver a.routine) set a.driver i r
        h.obeys is))
        (claim_set (state_of states a).kinds a.registers r NumKind (Num n)
        (never NumKind claim.number) held)
    written_claims i h registers gains (moves_over r q) held =
        claim_move (state_of states a).kinds a.registers r q held
    written_claims i h registers gains (makes_blank r) held =
        claim_set (state_of states a).kinds a.registers r BlankKind Blank
        (never BlankKind claim.blank) held

    pub goes_claims : (i : Instr) (h : Runs set states s a i) (b : Activation) (jumped : Bool)
        → GoesTo a i b jumped → (jumped ≡ false → GainsAt i) → Claims a → Claims b
    goes_claims i h b jumped (onward registers on written) gains held =
        subst (λ (state : Abs). Claimed state.kinds registers)
        (sym (arrives set states s a i h _ false (onward registers on written)))
        (written_claims i h registers (gains refl) written held)
    goes_claims i h b jumped (jumping label labelled) gains held =
        subst (λ (state : Abs). Claimed state.kinds a.registers)
        (sym (arrives set states s a i h _ true (jumping label labelled)))
        (label_claims (state_of states a) (sort_of set a.driver a.routine) set a.driver a.registers
        i
        held)

    pub next_claims : (i : Instr) (h : Runs set states s a i) → has_next (flow_of i) ≡ true
        → brings i ≡ false → GainsAt i → Claims a → Claims (next a)
    next_claims i h leads brought gains held =
        subst (λ (state : Abs). Claimed state.kinds a.registers)
        (sym (arrives_next set states s a i h leads))
        (handed_claims (state_of states a) (sort_of set a.driver a.routine) set a.driver a.registers
        i
        h.obeys brought gains held)

-- where each packet that a frame has the right to is as it was, what holds of them still does
pub claimed_on : (f : Kind → Bool) → IsClaim f → (M N : ℕ → Type 0) (kinds : List Kind)
    (values : List Value) → ((n : ℕ) → 1 ≤ rights kinds values n → M n → N n)
    → HoldOf f (Refers M) kinds values → HoldOf f (Refers N) kinds values
claimed_on f claim M N [] values on h = tt
claimed_on f claim M N (k ∷ kinds) [] on h = tt
claimed_on f claim M N (k ∷ kinds) (v ∷ values) on h = (
  (λ is n refers.
      let one : right k v n ≡ 1 = one_right k v n (claim.right k is) refers in
      on n (omega arith) (h.0 is n refers)),
  claimed_on f claim M N kinds values (λ n some. on n (omega arith)) h.1,
)
