-- Every routine's frame of a thread stands inside the code of its routine, with all its registers,
-- which hold what their kinds say, on top or below: but for one in which it is told a status.
use Rattle.laws_runs.proofs.Prelude.{ap, refl, subst, sym, zero, ◌-◌, ◌∙◌, get_or-set_other, length-set, List, None, Option, Some, [], length, slice_get, slice_set, suc, ℕ, ◌∷◌, ◌≡◌, ◌≢◌, answered, answered_in, operand_of, kind_of, Set, instruction_at, told_register, register, Kind, Status, Success, Activation, Frame, CancelFrame, Routine, Walk, Value, Blank, StatusValue}
use Rattle.laws_runs.specs.Holder.{StandsInside}
use Rattle.laws_runs.proofs.States.Frames.{Ready, state_of}
use Rattle.laws_runs.proofs.States.Kinds.{HasKinds, Suits, kinds_get}
use Rattle.laws_runs.specs.ArrivingStates.{States}
use Rattle.laws_runs.proofs.States.Stacks.{Stands, Stacked}

pub kinds_long : (issued : ℕ) (kinds : List Kind) (values : List Value)
    → HasKinds issued kinds values
    → length values ≡ length kinds
kinds_long issued [] [] h = refl
kinds_long issued (k ∷ kinds) (v ∷ values) h = ap suc (kinds_long issued kinds values h.1)
kinds_long issued _ _ h = absurd h

told_inside : (set : Set) (a : Activation) (status : Status) (r : Option ℕ)
    → StandsInside set (answered_in a status r)
    → StandsInside set a
told_inside set a status None h = h
told_inside set a status (Some r) h =
    record {
      routine = h.routine;
      is_of = h.is_of;
      inside = h.inside;
      registers = sym (length-set a.registers r (StatusValue status)) ∙ h.registers;
    }

module _ (set : Set) (states : States) (issued : ℕ) where
  ready_inside : (a : Activation) → Ready set states issued a → StandsInside set a
  ready_inside a h =
      record {
        routine = h.0;
        is_of = h.1.is_of;
        inside = h.1.within;
        registers = kinds_long issued (state_of states a).kinds a.registers h.1.kinds ∙ h.1.sixteen;
      }

  inside_under : (above : Option Frame) (a : Activation)
      → Stands set states issued above (Routine a)
      → StandsInside set a
  inside_under None a h = ready_inside a h
  inside_under (Some (Walk n)) a h = ready_inside a h.0
  inside_under (Some (CancelFrame c)) a h = absurd h
  inside_under (Some (Routine b)) a h =
      told_inside set a Success (operand_of (instruction_at set a.driver a.routine
      (a.position - 1)))
      (ready_inside (answered set a Success) (h.2 Success))

  inside_top : (above : Option Frame) (f : Frame) (a : Activation) → f ≡ Routine a
      → Stands set states issued above f
      → StandsInside set a
  inside_top above f a same h =
      inside_under above a (subst (λ (g : Frame). Stands set states issued above g) same h)

  pub stands_inside : (frames : List Frame) (k : ℕ) (a : Activation)
      → Stacked set states issued frames
      → slice_get frames k ≡ Some (Routine a) → StandsInside set a
  stands_inside [] k a h there = cc
  stands_inside (f ∷ []) zero a h there =
      let same : f ≡ Routine a = cc in inside_top None f a same h
  stands_inside (f ∷ []) (suc k) a h there = cc
  stands_inside (f ∷ g ∷ frames) zero a h there = let same : f ≡ Routine a =
      cc in inside_top (Some g) f a same h.0
  stands_inside (f ∷ g ∷ frames) (suc k) a h there = stands_inside (g ∷ frames) k a h.1 there

-- the register of a frame in which it is told a status, if one stands on it that tells it
pub record Waits (set : Set) (states : States) (issued : ℕ) (above : Option Frame) (a : Activation)
    : Type 0 where
  pub register : Option ℕ
  pub told : told_register set above a ≡ register
  pub ready : Ready set states issued (answered_in a Success register)

pub waits_under : (set : Set) (states : States) (issued : ℕ) (above : Option Frame)
    (a : Activation) → Stands set states issued above (Routine a)
    → Waits set states issued above a
waits_under set states issued None a h = record { register = None; told = refl; ready = h }
waits_under set states issued (Some (Walk n)) a h =
    record { register = None; told = refl; ready = h.0 }
waits_under set states issued (Some (Routine b)) a h =
    record { register = _; told = refl; ready = h.2 Success }
waits_under set states issued (Some (CancelFrame c)) a h = absurd h

-- each other register holds what its kind says
answered_suits : (states : States) (issued : ℕ) (a : Activation) (q : Option ℕ)
    → HasKinds issued (state_of states a).kinds (answered_in a Success q).registers
    → (r : ℕ) → q ≢ Some r → Suits issued (kind_of (state_of states a) r) (register a r)
answered_suits states issued a None kinds r apart =
    kinds_get issued (state_of states a).kinds a.registers r kinds
answered_suits states issued a (Some q) kinds r apart =
    rw (get_or-set_other a.registers q r (StatusValue Success) Blank
    (λ same. apart (ap (λ (x : ℕ). Some x) (sym same)))) at
    (kinds_get issued (state_of states a).kinds (slice_set a.registers q (StatusValue Success)) r
    kinds)

ready_kinds : (set : Set) (states : States) (issued : ℕ) (a : Activation) (q : Option ℕ)
    → Ready set states issued (answered_in a Success q)
    → HasKinds issued (state_of states a).kinds (answered_in a Success q).registers
ready_kinds set states issued a None ready = ready.1.kinds
ready_kinds set states issued a (Some q) ready = ready.1.kinds

pub suits_under : (set : Set) (states : States) (issued : ℕ) (above : Option Frame)
    (a : Activation) → Stands set states issued above (Routine a)
    → (r : ℕ) → told_register set above a ≢ Some r
    → Suits issued (kind_of (state_of states a) r) (register a r)
suits_under set states issued above a stands r untold =
    let waits : Waits set states issued above a = waits_under set states issued above a stands in
    answered_suits states issued a waits.register
    (ready_kinds set states issued a waits.register waits.ready) r
    (λ told. untold (waits.told ∙ told))

-- a frame of a thread and the one on it
pub stands_at : (set : Set) (states : States) (issued : ℕ) (frames : List Frame) (k : ℕ)
    (a : Activation) → Stacked set states issued frames
    → slice_get frames k ≡ Some (Routine a)
    → Stands set states issued (slice_get frames (suc k)) (Routine a)
stands_at set states issued [] k a h there = cc
stands_at set states issued (f ∷ []) zero a h there =
    let same : f ≡ Routine a = cc in
    subst (λ (g : Frame). Stands set states issued None g) same h
stands_at set states issued (f ∷ []) (suc k) a h there = cc
stands_at set states issued (f ∷ g ∷ frames) zero a h there =
    let same : f ≡ Routine a = cc in
    subst (λ (e : Frame). Stands set states issued (Some g) e) same h.0
stands_at set states issued (f ∷ g ∷ frames) (suc k) a h there =
    stands_at set states issued (g ∷ frames) k a h.1 there
