-- Registers that hold the same wherever their kind says that something may be taken from them; and
-- an instruction that breaks no rule leaves such registers such.
use Rattle.laws_runs.proofs.Common.{refl, subst, sym, zero, List, None, Some, [], false, slice_index_or, slice_set, suc, true, ℕ, ⊤, ◌∷◌, ◌≡◌, all_let_go, is_blank, is_packet, kind_disarmed, kind_inserted, left_behind, let_go, given_down, handed, handed_at_label, kind_of, marked, refuses, Set, cancel_routine_of, Abs, Kind, BlankKind, Lower, New, NumKind, Own, Queued, Armed, Instr, Arm, Begin, Call, Clear, Complete, Const, Dequeue, Disarm, Get, Insert, Load, LoadPaged, Mark, Move, Pass, Release, ReleaseCancel, Remove, Start, Take, Unlink, Guard, CancelLock, DeviceLock, Declared, Sort, Value, Blank, copied, packet_wanted, keeps_registers, packet_operand}

-- registers of the same kinds in two frames
abbrev pub SameRegisters : List Kind → List Value → List Value → Type 0
SameRegisters [] us vs = ⊤
SameRegisters (k ∷ kinds) [] [] = ⊤
SameRegisters (k ∷ kinds) (u ∷ us) (v ∷ vs) =
    (is_blank k ≡ false → u ≡ v) × SameRegisters kinds us vs
SameRegisters _ _ _ = ⊥

pub same_get : (kinds : List Kind) (us vs : List Value) (r : ℕ) → SameRegisters kinds us vs
    → is_blank (slice_index_or kinds r BlankKind) ≡ false
    → slice_index_or us r Blank ≡ slice_index_or vs r Blank
same_get [] us vs r h is = cc
same_get (k ∷ kinds) [] [] r h is = refl
same_get (k ∷ kinds) (u ∷ us) (v ∷ vs) zero h is = h.0 is
same_get (k ∷ kinds) (u ∷ us) (v ∷ vs) (suc r) h is = same_get kinds us vs r h.1 is
same_get _ _ _ r h is = absurd h

pub same_refl : (kinds : List Kind) (vs : List Value) → SameRegisters kinds vs vs
same_refl [] vs = tt
same_refl (k ∷ kinds) [] = tt
same_refl (k ∷ kinds) (v ∷ vs) = ((λ is. refl), same_refl kinds vs)

-- each gets a value in a register: the same one, if its kind then says that something may be taken
pub same_set : (kinds : List Kind) (us vs : List Value) (r : ℕ) (k : Kind) (u v : Value)
    → SameRegisters kinds us vs → (is_blank k ≡ false → u ≡ v)
    → SameRegisters (slice_set kinds r k) (slice_set us r u) (slice_set vs r v)
same_set [] us vs r k u v h new = tt
same_set (j ∷ kinds) [] [] zero k u v h new = tt
same_set (j ∷ kinds) [] [] (suc r) k u v h new = tt
same_set (j ∷ kinds) (x ∷ us) (y ∷ vs) zero k u v h new = (new, h.1)
same_set (j ∷ kinds) (x ∷ us) (y ∷ vs) (suc r) k u v h new =
    (h.0, same_set kinds us vs r k u v h.1 new)
same_set _ _ _ r k u v h new = absurd h

-- a register gets another kind, from which nothing may be taken that couldn't be before
pub same_turn : (kinds : List Kind) (us vs : List Value) (r : ℕ) (k : Kind)
    → SameRegisters kinds us vs
    → (is_blank k ≡ false → is_blank (slice_index_or kinds r BlankKind) ≡ false)
    → SameRegisters (slice_set kinds r k) us vs
same_turn [] us vs r k h was = tt
same_turn (j ∷ kinds) [] [] zero k h was = tt
same_turn (j ∷ kinds) [] [] (suc r) k h was = tt
same_turn (j ∷ kinds) (u ∷ us) (v ∷ vs) zero k h was = ((λ is. h.0 (was is)), h.1)
same_turn (j ∷ kinds) (u ∷ us) (v ∷ vs) (suc r) k h was = (h.0, same_turn kinds us vs r k h.1 was)
same_turn _ _ _ r k h was = absurd h

-- both are told the same in a register that may have held anything
pub same_told : (kinds : List Kind) (us vs : List Value) (r : ℕ) (w : Value)
    → SameRegisters (slice_set kinds r BlankKind) us vs
    → SameRegisters kinds (slice_set us r w) (slice_set vs r w)
same_told [] us vs r w h = tt
same_told (j ∷ kinds) [] [] r w h = tt
same_told (j ∷ kinds) (u ∷ us) (v ∷ vs) zero w h = ((λ is. refl), h.1)
same_told (j ∷ kinds) (u ∷ us) (v ∷ vs) (suc r) w h = (h.0, same_told kinds us vs r w h.1)
same_told (j ∷ kinds) _ _ zero w h = absurd h
same_told (j ∷ kinds) _ _ (suc r) w h = absurd h

-- a register is moved to another one
left_was : (k : Kind) → is_blank (left_behind k) ≡ false → is_blank k ≡ false
left_was NumKind is = refl
left_was BlankKind is = is
left_was _ is = cc

pub same_move : (kinds : List Kind) (us vs : List Value) (r q : ℕ) → SameRegisters kinds us vs
    → SameRegisters
    (slice_set (slice_set kinds r (slice_index_or kinds q BlankKind)) q
    (left_behind (slice_index_or kinds q BlankKind)))
    (slice_set us r (slice_index_or us q Blank)) (slice_set vs r (slice_index_or vs q Blank))
same_move kinds us vs r q h =
    let k : Kind = slice_index_or kinds q BlankKind in
    let u : Value = slice_index_or us q Blank in
    let v : Value = slice_index_or vs q Blank in
    same_turn (slice_set kinds r k) (slice_set us r u) (slice_set vs r v) q (left_behind k)
    (same_set kinds us vs r k u v h (λ is. same_get kinds us vs q h is))
    (λ is. subst (λ (j : Kind). is_blank j ≡ false) (sym (copied kinds r q BlankKind))
    (left_was k is))

-- where a guard is released
module _ (set : Set) (driver : ℕ) (lock : Guard) where
  go_was : (k : Kind) → is_blank (let_go set driver lock k) ≡ false → is_blank k ≡ false
  go_was BlankKind is = is
  go_was _ is = refl

  same_go : (kinds : List Kind) (us vs : List Value) → SameRegisters kinds us vs
      → SameRegisters (all_let_go set driver lock kinds) us vs
  same_go [] us vs h = tt
  same_go (k ∷ kinds) [] [] h = tt
  same_go (k ∷ kinds) (u ∷ us) (v ∷ vs) h =
      ((λ is. h.0 (go_was k is)), same_go kinds us vs h.1)
  same_go _ _ _ h = absurd h

packet_some : (k : Kind) → is_packet k ≡ true → is_blank k ≡ false
packet_some BlankKind is = cc
packet_some _ is = refl

disarmed_was : (k : Kind) → is_blank (kind_disarmed k) ≡ false → is_blank k ≡ false
disarmed_was BlankKind is = is
disarmed_was _ is = refl

module _ (s : Abs) (sort : Sort) (set : Set) (driver : ℕ) where
  abbrev Obeys : Instr → Type 0
  Obeys i = refuses s i sort set driver ≡ None

  -- an instruction takes from its operands
  pub operand_some : (i : Instr) (r : ℕ) → Obeys i → packet_operand i ≡ Some r
      → is_blank (kind_of s r) ≡ false
  operand_some i r obeys is =
      packet_some (kind_of s r) (packet_wanted s sort set driver i r obeys is)

  same_marked : (us vs : List Value) (r : ℕ) (k : Kind) → is_blank (kind_of s r) ≡ false
      → SameRegisters s.kinds us vs → SameRegisters (marked s r k).kinds us vs
  same_marked us vs r New some h = same_turn s.kinds us vs r Own h (λ is. some)
  same_marked us vs r _ some h = h

  same_given : (us vs : List Value) (r : ℕ) (k : Kind) → is_blank (kind_of s r) ≡ false
      → SameRegisters s.kinds us vs → SameRegisters (given_down s r k).kinds us vs
  same_given us vs r New some h = same_turn s.kinds us vs r Lower h (λ is. some)
  same_given us vs r Own some h = same_turn s.kinds us vs r BlankKind h (λ is. some)
  same_given us vs r _ some h = h

  -- after an instruction that leaves them alone
  pub same_handed : (us vs : List Value) (i : Instr) → Obeys i → keeps_registers i ≡ true
      → SameRegisters s.kinds us vs → SameRegisters (handed set driver s i).kinds us vs
  same_handed us vs (Const r n) obeys keeps h = cc
  same_handed us vs (Move r q) obeys keeps h = cc
  same_handed us vs (Clear r) obeys keeps h = cc
  same_handed us vs (Load r c) obeys keeps h = cc
  same_handed us vs (LoadPaged r c) obeys keeps h = cc
  same_handed us vs (Get r q field) obeys keeps h = cc
  same_handed us vs (Remove r q label) obeys keeps h = cc
  same_handed us vs (Take r label) obeys keeps h = cc
  same_handed us vs (Mark r) obeys keeps h =
      same_marked us vs r (kind_of s r) (operand_some (Mark r) r obeys refl) h
  same_handed us vs (Release lock) obeys keeps h =
      same_go set driver (DeviceLock lock) s.kinds us vs h
  same_handed us vs ReleaseCancel obeys keeps h = same_go set driver CancelLock s.kinds us vs h
  same_handed us vs (Insert r q) obeys keeps h =
      same_turn s.kinds us vs r (kind_inserted (cancel_routine_of set driver q) (Declared q)) h
      (λ is. operand_some (Insert r q) r obeys refl)
  same_handed us vs (Unlink r q) obeys keeps h =
      same_turn s.kinds us vs r Own h (λ is. operand_some (Unlink r q) r obeys refl)
  same_handed us vs (Dequeue r) obeys keeps h =
      same_turn s.kinds us vs r Own h (λ is. operand_some (Dequeue r) r obeys refl)
  same_handed us vs (Arm r q) obeys keeps h =
      same_turn s.kinds us vs r (Queued (Declared q) Armed) h
      (λ is. operand_some (Arm r q) r obeys refl)
  same_handed us vs (Disarm r label) obeys keeps h =
      same_turn s.kinds us vs r (kind_disarmed (kind_of s r)) h (disarmed_was (kind_of s r))
  same_handed us vs (Start r) obeys keeps h =
      same_turn s.kinds us vs r BlankKind h (λ is. operand_some (Start r) r obeys refl)
  same_handed us vs (Begin r) obeys keeps h =
      same_turn s.kinds us vs r BlankKind h (λ is. operand_some (Begin r) r obeys refl)
  same_handed us vs (Pass r) obeys keeps h =
      same_given us vs r (kind_of s r) (operand_some (Pass r) r obeys refl) h
  same_handed us vs (Call r f) obeys keeps h =
      same_given us vs r (kind_of s r) (operand_some (Call r f) r obeys refl) h
  same_handed us vs (Complete r status) obeys keeps h =
      same_turn s.kinds us vs r BlankKind h (λ is. operand_some (Complete r status) r obeys refl)
  same_handed us vs _ obeys keeps h = h

-- and at its label
pub same_labelled : (s : Abs) (us vs : List Value) (i : Instr) → SameRegisters s.kinds us vs
    → SameRegisters (handed_at_label s i).kinds us vs
same_labelled s us vs (Remove r q label) h = same_turn s.kinds us vs r BlankKind h (λ is. cc)
same_labelled s us vs (Disarm r label) h = same_turn s.kinds us vs r BlankKind h (λ is. cc)
same_labelled s us vs (Take r label) h = same_turn s.kinds us vs r BlankKind h (λ is. cc)
same_labelled s us vs _ h = h
