-- What a fault at a position is, by its rule.
use Rattle.std.proofs.Common.{◌≡◌, ◌≢◌, ℕ, ◌<◌, ◌⊎◌, inl, inr, true, List, [], ◌∷◌, length, Option, None, Some, refl, subst}
use Rattle.std.specs.Prelude.{slice_get}
use Rattle.model.specs.declared.abs.Abs.{Abs}
use Rattle.model.specs.declared.abs.Rule.{Rule}
use Rattle.model.specs.declared.abs.Rule.TheVariants.{Malformed, Unreachable, StatesDiffer, Sort as SortRule, TooLong, Memory}
use Rattle.model.specs.declared.instr.Instr.{Instr}
use Rattle.model.specs.LocalRule.{entry_state}
use Rattle.model.specs.Paths.{Along, Arrives, is_malformed}
use Rattle.model.specs.Set.{Member}
use Rattle.model.specs.Typable.{EndsUnlike, HasSeveral, IsBroken, IsFaultAt, IsTooLong, fault_in}
use Rattle.verifier_evidence.proofs.OwnRules.{IsOwn, is_own, refuses_own}

-- what is broken there is a rule of the instruction's own
fault_own : (m : Member) (s : Abs) (i : Option Instr) → IsOwn (fault_in m s i)
fault_own m s None = refl
fault_own m s (Some i) = refuses_own s i m.routine.sort m.set m.driver

broken_own : (m : Member) (p : ℕ) (rule : Rule) → IsBroken m p rule → is_own rule ≡ true
broken_own m p rule broken =
    subst (λ (fault : Option Rule). IsOwn fault) broken.breaks
    (fault_own m broken.state (slice_get m.routine.code p))

pub malformed_of : (m : Member) (p : ℕ) → IsFaultAt m p Malformed
    → is_malformed m.routine.code p ≡ true
malformed_of m p (inl h) = h.0
malformed_of m p (inr (inl h)) = let other : Malformed ≡ Unreachable = h.1 in cc
malformed_of m p (inr (inr (inl h))) = let other : Malformed ≡ StatesDiffer = h.1 in cc
malformed_of m p (inr (inr (inr (inl h)))) =
    let own : is_own Malformed ≡ true = broken_own m p Malformed h in cc
malformed_of m p (inr (inr (inr (inr (inl h))))) = let other : Malformed ≡ SortRule = h.1 in cc
malformed_of m p (inr (inr (inr (inr (inr h))))) = let other : Malformed ≡ TooLong = h.1 in cc

pub unreachable_of : (m : Member) (p : ℕ) → IsFaultAt m p Unreachable → (s : Abs) → Arrives m p s
    → ⊥
unreachable_of m p (inl h) = let other : Unreachable ≡ Malformed = h.1 in cc
unreachable_of m p (inr (inl h)) = h.0.never
unreachable_of m p (inr (inr (inl h))) = let other : Unreachable ≡ StatesDiffer = h.1 in cc
unreachable_of m p (inr (inr (inr (inl h)))) =
    let own : is_own Unreachable ≡ true = broken_own m p Unreachable h in cc
unreachable_of m p (inr (inr (inr (inr (inl h))))) =
    let other : Unreachable ≡ SortRule = h.1 in cc
unreachable_of m p (inr (inr (inr (inr (inr h))))) = let other : Unreachable ≡ TooLong = h.1 in cc

pub differing_of : (m : Member) (p : ℕ) → IsFaultAt m p StatesDiffer
    → HasSeveral m p ⊎ EndsUnlike m p
differing_of m p (inl h) = let other : StatesDiffer ≡ Malformed = h.1 in cc
differing_of m p (inr (inl h)) = let other : StatesDiffer ≡ Unreachable = h.1 in cc
differing_of m p (inr (inr (inl h))) = h.0
differing_of m p (inr (inr (inr (inl h)))) =
    let own : is_own StatesDiffer ≡ true = broken_own m p StatesDiffer h in cc
differing_of m p (inr (inr (inr (inr (inl h))))) =
    let other : StatesDiffer ≡ SortRule = h.1 in cc
differing_of m p (inr (inr (inr (inr (inr h))))) =
    let other : StatesDiffer ≡ TooLong = h.1 in cc

pub long_of : (m : Member) (p : ℕ) → IsFaultAt m p TooLong → IsTooLong m p
long_of m p (inl h) = let other : TooLong ≡ Malformed = h.1 in cc
long_of m p (inr (inl h)) = let other : TooLong ≡ Unreachable = h.1 in cc
long_of m p (inr (inr (inl h))) = let other : TooLong ≡ StatesDiffer = h.1 in cc
long_of m p (inr (inr (inr (inl h)))) =
    let own : is_own TooLong ≡ true = broken_own m p TooLong h in cc
long_of m p (inr (inr (inr (inr (inl h))))) = let other : TooLong ≡ SortRule = h.1 in cc
long_of m p (inr (inr (inr (inr (inr h))))) = h.0

-- no fault is for want of memory
pub memory_of : (m : Member) (p : ℕ) → IsFaultAt m p Memory → ⊥
memory_of m p (inl h) = let other : Memory ≡ Malformed = h.1 in cc
memory_of m p (inr (inl h)) = let other : Memory ≡ Unreachable = h.1 in cc
memory_of m p (inr (inr (inl h))) = let other : Memory ≡ StatesDiffer = h.1 in cc
memory_of m p (inr (inr (inr (inl h)))) =
    let own : is_own Memory ≡ true = broken_own m p Memory h in cc
memory_of m p (inr (inr (inr (inr (inl h))))) = let other : Memory ≡ SortRule = h.1 in cc
memory_of m p (inr (inr (inr (inr (inr h))))) = let other : Memory ≡ TooLong = h.1 in cc

-- what arrives anywhere began at the entry
along_entered : (m : Member) (p : ℕ) (s : Abs) (path : List ℕ) → Along m (p ∷ path) s
    → entry_state m ≡ None → ⊥
along_entered m p s [] h none = let some : entry_state m ≡ Some s = h.1 in cc
along_entered m p s (q ∷ path) h none = along_entered m q h.0 path h.1 none

arrives_entered : (m : Member) (p : ℕ) (s : Abs) → Arrives m p s → entry_state m ≡ None → ⊥
arrives_entered m p s arrives none = along_entered m p s arrives.0 arrives.1 none

-- of a routine that can't be entered
several_entered : (m : Member) (p : ℕ) → HasSeveral m p ⊎ EndsUnlike m p → entry_state m ≡ None → ⊥
several_entered m p (inl h) none = arrives_entered m p h.one h.one_arrives none
several_entered m p (inr h) none = arrives_entered m p h.state h.arrival.arrives none

pub unentered_of : (m : Member) (p : ℕ) (rule : Rule) → rule ≢ Malformed → entry_state m ≡ None
    → IsFaultAt m p rule → (rule ≡ SortRule) × ((p ≡ 0) × (entry_state m ≡ None))
unentered_of m p rule formed none (inl h) = absurd (formed h.1)
unentered_of m p rule formed none (inr (inl h)) =
    let some : entry_state m ≡ Some h.0.entry = h.0.entered in cc
unentered_of m p rule formed none (inr (inr (inl h))) = absurd (several_entered m p h.0 none)
unentered_of m p rule formed none (inr (inr (inr (inl h)))) =
    absurd (arrives_entered m p h.state h.arrival.arrives none)
unentered_of m p rule formed none (inr (inr (inr (inr (inl h))))) = (h.1, (h.0.start, none))
unentered_of m p rule formed none (inr (inr (inr (inr (inr h))))) =
    absurd (arrives_entered m p h.0.state h.0.arrival.arrives none)

-- a fault of an instruction that is reached
pub broken_of : (m : Member) (p : ℕ) (rule : Rule) → rule ≢ Malformed
    → rule ≢ Unreachable → rule ≢ StatesDiffer → rule ≢ TooLong → (entry_state m ≡ None → ⊥)
    → IsFaultAt m p rule → IsBroken m p rule
broken_of m p rule formed reached alike short entered (inl h) = absurd (formed h.1)
broken_of m p rule formed reached alike short entered (inr (inl h)) = absurd (reached h.1)
broken_of m p rule formed reached alike short entered (inr (inr (inl h))) = absurd (alike h.1)
broken_of m p rule formed reached alike short entered (inr (inr (inr (inl h)))) = h
broken_of m p rule formed reached alike short entered (inr (inr (inr (inr (inl h))))) =
    absurd (entered h.0.none)
broken_of m p rule formed reached alike short entered (inr (inr (inr (inr (inr h))))) =
    absurd (short h.1)

-- something arrives at the place of a fault, and the place is one of the routine
pub record IsArrivedAt (m : Member) (p : ℕ) : Type 0 where
  pub within : p < length m.routine.code
  pub state : Abs
  pub arrives : Arrives m p state

pub several_arrived : (m : Member) (p : ℕ) → HasSeveral m p ⊎ EndsUnlike m p → IsArrivedAt m p
several_arrived m p (inl h) =
    record { within = h.within; state = h.one; arrives = h.one_arrives }
several_arrived m p (inr h) =
    record { within = h.within; state = h.state; arrives = h.arrival.arrives }

pub arrived_of : (m : Member) (p : ℕ) (rule : Rule) → rule ≢ Malformed
    → rule ≢ Unreachable → (entry_state m ≡ None → ⊥) → IsFaultAt m p rule → IsArrivedAt m p
arrived_of m p rule formed reached entered (inl h) = absurd (formed h.1)
arrived_of m p rule formed reached entered (inr (inl h)) = absurd (reached h.1)
arrived_of m p rule formed reached entered (inr (inr (inl h))) = several_arrived m p h.0
arrived_of m p rule formed reached entered (inr (inr (inr (inl h)))) =
    record { within = h.within; state = h.state; arrives = h.arrival.arrives }
arrived_of m p rule formed reached entered (inr (inr (inr (inr (inl h))))) =
    absurd (entered h.0.none)
arrived_of m p rule formed reached entered (inr (inr (inr (inr (inr h))))) =
    record { within = h.0.within; state = h.0.state; arrives = h.0.arrival.arrives }
