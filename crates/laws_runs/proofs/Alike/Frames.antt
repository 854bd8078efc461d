-- Frames that a machine may not tell apart: the same routines at the same positions, with registers
-- that hold the same wherever something may be taken from them; or the I/O manager's, of the same
-- packet while it is live.
use Rattle.laws_runs.proofs.Common.{refl, subst, sym, ◌-◌, ◌∙◌, length-set, Bool, List, None, Option, Some, [], false, is_some, length, slice_set, true, ℕ, ⊤, ◌∷◌, ◌≡◌, answered, answered_in, operand_of, Set, instruction_at, told_register, Shared, packet_of, Kind, BlankKind, Status, Activation, Frame, CancelFrame, Routine, Walk, Value, StatusValue, States, state_of, told_frame}
use Rattle.laws_runs.proofs.Alike.Registers.{SameRegisters, same_turn, same_told}

-- the kinds of a frame's registers, of which one waits for a status
abbrev pub waiting_for : Option ℕ → List Kind → List Kind
waiting_for None kinds = kinds
waiting_for (Some r) kinds = slice_set kinds r BlankKind

-- a packet is live
abbrev pub IsLive : Shared → ℕ → Type 0
IsLive s n = is_some (packet_of s n) ≡ true

module _ (set : Set) (states : States) where
  -- the same but for registers
  pub record AlikeActivation (above : Option Frame) (b a : Activation) : Type 0 where
    pub registers : List Value
    pub is : b ≡ record a { registers = registers }
    pub long : length registers ≡ length a.registers
    pub same : SameRegisters (waiting_for (told_register set above a) (state_of states a).kinds)
        registers a.registers

  abbrev pub AlikeFrame : Shared → Option Frame → Frame → Frame → Type 0
  AlikeFrame s above (Routine b) (Routine a) = AlikeActivation above b a
  AlikeFrame s above (Walk m) (Walk n) = IsLive s n → m ≡ n
  AlikeFrame s above (CancelFrame b) (CancelFrame c) = b ≡ c
  AlikeFrame s above _ _ = ⊥

  -- frames on one another, the lowest first, and what stands on them all
  abbrev pub above_in : Option Frame → List Frame → Option Frame
  above_in above [] = above
  above_in above (f ∷ frames) = Some f

  abbrev pub AlikeFrames : Shared → Option Frame → List Frame → List Frame → Type 0
  AlikeFrames s above [] [] = ⊤
  AlikeFrames s above (g ∷ others) (f ∷ frames) =
      AlikeFrame s (above_in above frames) g f × AlikeFrames s above others frames
  AlikeFrames s above _ _ = ⊥

  -- both are told the same
  alike_answered_in : (s : Shared) (c : Activation) (status : Status) (r : Option ℕ)
      (b a : Activation)
      → told_register set (Some (Routine c)) a ≡ r
      → AlikeActivation (Some (Routine c)) b a
      → AlikeActivation None (answered_in b status r) (answered_in a status r)
  alike_answered_in s c status None b a told h =
      record {
        registers = h.registers;
        is = h.is;
        long = h.long;
        same = rw told at h.same;
      }
  alike_answered_in s c status (Some r) b a told h =
      let same : SameRegisters (slice_set (state_of states a).kinds r BlankKind) h.registers
      a.registers = rw told at h.same in
      record {
        registers = slice_set h.registers r (StatusValue status);
        is = rw h.is refl;
        long = length-set h.registers r (StatusValue status) ∙ h.long
            ∙ sym (length-set a.registers r (StatusValue status));
        same = same_told (state_of states a).kinds h.registers a.registers r (StatusValue status)
            same;
      }

  pub alike_told : (s : Shared) (c : Activation) (status : Status) (g f : Frame)
      → AlikeFrame s (Some (Routine c)) g f
      → AlikeFrame s None (told_frame set (Some status) g) (told_frame set (Some status) f)
  alike_told s c status (Routine b) (Routine a) h =
      let one : AlikeActivation None
      (answered_in b status (operand_of (instruction_at set a.driver a.routine (a.position - 1))))
      (answered set a status) =
      alike_answered_in s c status
      (operand_of (instruction_at set a.driver a.routine (a.position - 1))) b a refl h in
      subst (λ (d : Activation). AlikeActivation None
      (answered_in b status (operand_of (instruction_at set d.driver d.routine (d.position - 1))))
      (answered set a status)) (sym h.is) one
  alike_told s c status (Walk m) (Walk n) h = h
  alike_told s c status (CancelFrame b) (CancelFrame a) h = h
  alike_told s c status _ _ h = absurd h

  -- a frame on which something else stands then, or nothing: not a routine's in place of another's
  alike_waiting : (r : Option ℕ) (kinds : List Kind) (us vs : List Value)
      → SameRegisters kinds us vs → SameRegisters (waiting_for r kinds) us vs
  alike_waiting None kinds us vs h = h
  alike_waiting (Some r) kinds us vs h = same_turn kinds us vs r BlankKind h (λ is. cc)

  abbrev pub is_routine : Option Frame → Bool
  is_routine (Some (Routine a)) = true
  is_routine _ = false

  told_none : (above : Option Frame) (a : Activation) → is_routine above ≡ false
      → told_register set above a ≡ None
  told_none None a free = refl
  told_none (Some (Routine b)) a free = cc
  told_none _ a free = refl

  told_same : (above other : Option Frame) (a : Activation) → is_routine above ≡ true
      → is_routine other ≡ true → told_register set above a ≡ told_register set other a
  told_same (Some (Routine b)) (Some (Routine c)) a one two = refl
  told_same _ _ a one two = cc

  pub alike_under : (s : Shared) (above other : Option Frame) (g f : Frame)
      → is_routine above ≡ false → AlikeFrame s above g f → AlikeFrame s other g f
  alike_under s above other (Routine b) (Routine a) free h =
      record {
        registers = h.registers;
        is = h.is;
        long = h.long;
        same = alike_waiting (told_register set other a) (state_of states a).kinds h.registers
            a.registers (rw (told_none above a free) at h.same);
      }
  alike_under s above other (Walk m) (Walk n) free h = h
  alike_under s above other (CancelFrame b) (CancelFrame a) free h = h
  alike_under s above other _ _ free h = absurd h

  pub alike_still : (s : Shared) (above other : Option Frame) (g f : Frame)
      → is_routine above ≡ true → is_routine other ≡ true → AlikeFrame s above g f
      → AlikeFrame s other g f
  alike_still s above other (Routine b) (Routine a) one two h =
      record {
        registers = h.registers;
        is = h.is;
        long = h.long;
        same = subst (λ (r : Option ℕ). SameRegisters (waiting_for r (state_of states a).kinds)
            h.registers a.registers) (told_same above other a one two) h.same;
      }
  alike_still s above other (Walk m) (Walk n) one two h = h
  alike_still s above other (CancelFrame b) (CancelFrame a) one two h = h
  alike_still s above other _ _ one two h = absurd h

  pub alike_unless : (s : Shared) (above other : Option Frame) (g f : Frame)
      → is_routine (Some f) ≡ false → AlikeFrame s above g f → AlikeFrame s other g f
  alike_unless s above other (Routine b) (Routine a) free h = cc
  alike_unless s above other (Walk m) (Walk n) free h = h
  alike_unless s above other (CancelFrame b) (CancelFrame a) free h = h
  alike_unless s above other _ _ free h = absurd h
