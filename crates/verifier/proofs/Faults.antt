-- A position has one fault at most, and none where it is fine. So a set has one first fault at
-- most, and none where it is typable.
use Rattle.std.proofs.Common.{◌≡◌, ◌≢◌, ℕ, suc, ◌+◌, ◌<◌, ◌≤◌, ◌⊎◌, inl, inr, true, false, Bool, List, [], ◌∷◌, length, Option, None, Some, nat_eq, refl, arith, sym, subst, ◌∙◌, ap}
use Rattle.std.specs.Prelude.{slice_get, ◌&&◌, ◌||◌}
use Rattle.std.proofs.lemmas.Bool.{cases_lt, ne_eqb}
use Rattle.std.proofs.lemmas.Option.{slice_get_past}
use Rattle.model.specs.declared.abs.Abs.{Abs}
use Rattle.model.specs.declared.abs.Refusal.{Refusal}
use Rattle.model.specs.declared.abs.Rule.{Rule}
use Rattle.model.specs.declared.abs.Rule.TheVariants.{Unreachable, StatesDiffer, Sort as SortRule, TooLong}
use Rattle.model.specs.declared.instr.Instr.{Instr}
use Rattle.model.specs.declared.set.Driver.{Driver}
use Rattle.model.specs.declared.set.Routine.{Routine}
use Rattle.model.specs.declared.limits.TheConstants.{MAX_CERTIFICATE}
use Rattle.model.specs.Certificate.{certificate_to}
use Rattle.model.specs.LocalRule.{entry_state}
use Rattle.model.specs.Loops.{open_at}
use Rattle.model.specs.Paths.{Along, Arrives, is_malformed, is_misplaced, isnt_return}
use Rattle.model.specs.Set.{Set, Member, Flow, Onward, Branches, Jumps, Opens, Closes, Leaves, member, flow_of}
use Rattle.model.specs.Typable.{fault_in, ArrivesAlone, ReachesLoop, ClosesAlikeBy, ClosesAlike, ClosesUnlikeBy, ClosesUnlike, HasNoEntry, IsUnreachable, HasSeveral, EndsUnlike, IsBroken, IsTooLong, IsFineAt, IsTypableRoutine, AreTypableRoutines, IsTypableDriver, IsTypable, IsFaultAt, IsFirstFaultOf, IsFirstFaultWithin, IsFirstFault}

-- an element that a look-up finds
found_within : {X : Type 0} (xs : List X) (i : ℕ) (x : X) → slice_get xs i ≡ Some x
    → (i < length xs) ⊎ (length xs ≤ i) → i < length xs
found_within xs i x found (inl within) = within
found_within xs i x found (inr past) = let none : slice_get xs i ≡ None =
    slice_get_past xs i past in cc

-- past its end a routine that has an instruction isn't malformed
pub past_false : (empty last goes_on misplaced : Bool) → empty ≡ false → last ≡ false
    → misplaced ≡ false → (empty || ((last && goes_on) || misplaced)) ≡ false
past_false true last goes_on misplaced some past fits = cc
past_false false true goes_on misplaced some past fits = cc
past_false false false goes_on true some past fits = cc
past_false false false goes_on false some past fits = refl

formed_past : (code : List Instr) (at : ℕ) → length code ≢ 0 → length code ≤ at
    → is_malformed code at ≡ false
formed_past code at some past =
    let none : slice_get code at ≡ None = slice_get_past code at past in
    past_false (nat_eq (length code) 0) (nat_eq (at + 1) (length code))
    (isnt_return (slice_get code at)) (is_misplaced code at (slice_get code at))
    (ne_eqb (length code) 0 some)
    (ne_eqb (at + 1) (length code) (λ same. absurd (omega arith)))
    (ap (is_misplaced code at) none)

-- no state arrives anywhere in a routine that can't be entered
never_along : (m : Member) (path : List ℕ) (s : Abs) → entry_state m ≡ None → Along m path s → ⊥
never_along m [] s none h = absurd h
never_along m (p ∷ []) s none h = let some : entry_state m ≡ Some s = h.1 in cc
never_along m (p ∷ q ∷ path) s none h = never_along m (q ∷ path) h.0 none h.1

never_arrives : (m : Member) (p : ℕ) (s : Abs) → entry_state m ≡ None → Arrives m p s → ⊥
never_arrives m p s none h = never_along m (p ∷ h.0) s none h.1

-- an `end` isn't reached both in the state of its `loop` and in another one
reaches_alike : (m : Member) (q : Option ℕ) (s start : Abs) → ReachesLoop m q s
    → ReachesLoop m q start → start ≡ s
reaches_alike m None s start alike unlike = absurd alike
reaches_alike m (Some q) s start alike unlike = alike.alone start unlike.arrives

alike_unlike_by : (m : Member) (at : ℕ) (s : Abs) (f : Flow) → ClosesAlikeBy m at s f
    → ClosesUnlikeBy m at s f → ⊥
alike_unlike_by m at s Onward alike unlike = absurd unlike
alike_unlike_by m at s (Branches label) alike unlike = absurd unlike
alike_unlike_by m at s (Jumps label) alike unlike = absurd unlike
alike_unlike_by m at s (Opens turns) alike unlike = absurd unlike
alike_unlike_by m at s Closes alike unlike =
    unlike.2 (reaches_alike m (slice_get (open_at m.routine.code at) 0) s unlike.0 alike unlike.1)
alike_unlike_by m at s Leaves alike unlike = absurd unlike

alike_unlike : (m : Member) (at : ℕ) (s : Abs) (i : Option Instr) → ClosesAlike m at s i
    → ClosesUnlike m at s i → ⊥
alike_unlike m at s None alike unlike = absurd unlike
alike_unlike m at s (Some i) alike unlike = alike_unlike_by m at s (flow_of i) alike unlike

-- where one state arrives alone, it is the one
alone_same : (m : Member) (at : ℕ) (s other : Abs) → ArrivesAlone m at s → ArrivesAlone m at other
    → other ≡ s
alone_same m at s other alone also = alone.alone other also.arrives

-- and the states that arrive don't differ
alone_alike : (m : Member) (at : ℕ) (s : Abs) → ArrivesAlone m at s
    → ClosesAlike m at s (slice_get m.routine.code at)
    → HasSeveral m at ⊎ EndsUnlike m at → ⊥
alone_alike m at s alone closes (inl h) =
    h.differ (alone.alone h.one h.one_arrives ∙ sym (alone.alone h.other h.other_arrives))
alone_alike m at s alone closes (inr h) =
    alike_unlike m at s (slice_get m.routine.code at) closes
    (subst (λ (x : Abs). ClosesUnlike m at x (slice_get m.routine.code at))
    (alone_same m at s h.state alone h.arrival) h.closes)

-- and what the instruction breaks is one
alone_breaks : (m : Member) (at : ℕ) (s other : Abs) → ArrivesAlone m at s → ArrivesAlone m at other
    → fault_in m other (slice_get m.routine.code at) ≡ fault_in m s (slice_get m.routine.code at)
alone_breaks m at s other alone also =
    ap (λ (x : Abs). fault_in m x (slice_get m.routine.code at))
    (alone_same m at s other alone also)

-- the faults of an instruction that can stand where it does
abbrev OtherFault : Member → ℕ → Rule → Type 0
OtherFault m at rule =
    (IsUnreachable m at × (rule ≡ Unreachable))
    ⊎ (((HasSeveral m at ⊎ EndsUnlike m at) × (rule ≡ StatesDiffer))
    ⊎ (IsBroken m at rule
    ⊎ ((HasNoEntry m at × (rule ≡ SortRule)) ⊎ (IsTooLong m at × (rule ≡ TooLong)))))

formed_differ : (m : Member) (at : ℕ) → HasSeveral m at ⊎ EndsUnlike m at
    → is_malformed m.routine.code at ≡ false
formed_differ m at (inl h) = h.formed
formed_differ m at (inr h) = h.formed

formed_other : (m : Member) (at : ℕ) (rule : Rule) → OtherFault m at rule
    → is_malformed m.routine.code at ≡ false
formed_other m at rule (inl h) = h.0.formed
formed_other m at rule (inr (inl h)) = formed_differ m at h.0
formed_other m at rule (inr (inr (inl h))) = h.formed
formed_other m at rule (inr (inr (inr (inl h)))) = h.0.formed
formed_other m at rule (inr (inr (inr (inr h)))) = h.0.formed

-- a state arrives where states differ
differ_arrives : (m : Member) (at : ℕ) → HasSeveral m at ⊎ EndsUnlike m at → (s : Abs)
    × Arrives m at s
differ_arrives m at (inl h) = (h.one, h.one_arrives)
differ_arrives m at (inr h) = (h.state, h.arrival.arrives)

-- each fault but of the same kind excludes the others
unreachable_differ : (m : Member) (at : ℕ) → IsUnreachable m at → HasSeveral m at ⊎ EndsUnlike m at
    → ⊥
unreachable_differ m at h differ = let arrives : (s : Abs) × Arrives m at s =
    differ_arrives m at differ in h.never arrives.0 arrives.1

unreachable_entered : (m : Member) (at : ℕ) → IsUnreachable m at → HasNoEntry m at → ⊥
unreachable_entered m at h none = let some : entry_state m ≡ Some h.entry =
    h.entered in let no : entry_state m ≡ None = none.none in cc

differ_entered : (m : Member) (at : ℕ) → HasSeveral m at ⊎ EndsUnlike m at → HasNoEntry m at → ⊥
differ_entered m at differ none =
    let arrives : (s : Abs) × Arrives m at s =
    differ_arrives m at differ in never_arrives m at arrives.0 none.none arrives.1

broken_long : (m : Member) (at : ℕ) (rule : Rule) → IsBroken m at rule → IsTooLong m at → ⊥
broken_long m at rule h long =
    let breaks : fault_in m h.state (slice_get m.routine.code at) ≡ Some rule = h.breaks in
    let keeps : fault_in m long.state (slice_get m.routine.code at) ≡ None = long.keeps in
    let same : fault_in m long.state (slice_get m.routine.code at) ≡ fault_in m h.state
    (slice_get m.routine.code at) =
    alone_breaks m at h.state long.state h.arrival long.arrival
    in
    cc

broken_same : (m : Member) (at : ℕ) (one other : Rule) → IsBroken m at one → IsBroken m at other
    → one ≡ other
broken_same m at one other h also =
    let breaks : fault_in m h.state (slice_get m.routine.code at) ≡ Some one = h.breaks in
    let breaks_also : fault_in m also.state (slice_get m.routine.code at) ≡ Some other =
    also.breaks in
    let same : fault_in m also.state (slice_get m.routine.code at) ≡ fault_in m h.state
    (slice_get m.routine.code at) =
    alone_breaks m at h.state also.state h.arrival also.arrival
    in
    cc

same_other : (m : Member) (at : ℕ) (one other : Rule) → OtherFault m at one → OtherFault m at other
    → one ≡ other
same_other m at one other (inl a) (inl b) = a.1 ∙ sym b.1
same_other m at one other (inl a) (inr (inl b)) = absurd (unreachable_differ m at a.0 b.0)
same_other m at one other (inl a) (inr (inr (inl b))) = absurd (a.0.never b.state b.arrival.arrives)
same_other m at one other (inl a) (inr (inr (inr (inl b)))) =
    absurd (unreachable_entered m at a.0 b.0)
same_other m at one other (inl a) (inr (inr (inr (inr b)))) =
    absurd (a.0.never b.0.state b.0.arrival.arrives)
same_other m at one other (inr (inl a)) (inl b) = absurd (unreachable_differ m at b.0 a.0)
same_other m at one other (inr (inl a)) (inr (inl b)) = a.1 ∙ sym b.1
same_other m at one other (inr (inl a)) (inr (inr (inl b))) =
    absurd (alone_alike m at b.state b.arrival b.closes a.0)
same_other m at one other (inr (inl a)) (inr (inr (inr (inl b)))) =
    absurd (differ_entered m at a.0 b.0)
same_other m at one other (inr (inl a)) (inr (inr (inr (inr b)))) =
    absurd (alone_alike m at b.0.state b.0.arrival b.0.closes a.0)
same_other m at one other (inr (inr (inl a))) (inl b) = absurd (b.0.never a.state a.arrival.arrives)
same_other m at one other (inr (inr (inl a))) (inr (inl b)) =
    absurd (alone_alike m at a.state a.arrival a.closes b.0)
same_other m at one other (inr (inr (inl a))) (inr (inr (inl b))) = broken_same m at one other a b
same_other m at one other (inr (inr (inl a))) (inr (inr (inr (inl b)))) =
    absurd (never_arrives m at a.state b.0.none a.arrival.arrives)
same_other m at one other (inr (inr (inl a))) (inr (inr (inr (inr b)))) =
    absurd (broken_long m at one a b.0)
same_other m at one other (inr (inr (inr (inl a)))) (inl b) =
    absurd (unreachable_entered m at b.0 a.0)
same_other m at one other (inr (inr (inr (inl a)))) (inr (inl b)) =
    absurd (differ_entered m at b.0 a.0)
same_other m at one other (inr (inr (inr (inl a)))) (inr (inr (inl b))) =
    absurd (never_arrives m at b.state a.0.none b.arrival.arrives)
same_other m at one other (inr (inr (inr (inl a)))) (inr (inr (inr (inl b)))) = a.1 ∙ sym b.1
same_other m at one other (inr (inr (inr (inl a)))) (inr (inr (inr (inr b)))) =
    absurd (never_arrives m at b.0.state a.0.none b.0.arrival.arrives)
same_other m at one other (inr (inr (inr (inr a)))) (inl b) =
    absurd (b.0.never a.0.state a.0.arrival.arrives)
same_other m at one other (inr (inr (inr (inr a)))) (inr (inl b)) =
    absurd (alone_alike m at a.0.state a.0.arrival a.0.closes b.0)
same_other m at one other (inr (inr (inr (inr a)))) (inr (inr (inl b))) =
    absurd (broken_long m at other b a.0)
same_other m at one other (inr (inr (inr (inr a)))) (inr (inr (inr (inl b)))) =
    absurd (never_arrives m at a.0.state b.0.none a.0.arrival.arrives)
same_other m at one other (inr (inr (inr (inr a)))) (inr (inr (inr (inr b)))) = a.1 ∙ sym b.1

same_fault : (m : Member) (at : ℕ) (one other : Rule) → IsFaultAt m at one → IsFaultAt m at other
    → one ≡ other
same_fault m at one other (inl a) (inl b) = a.1 ∙ sym b.1
same_fault m at one other (inl a) (inr b) =
    let formed : is_malformed m.routine.code at ≡ false =
    formed_other m at other b in let malformed : is_malformed m.routine.code at ≡ true =
    a.0 in cc
same_fault m at one other (inr a) (inl b) =
    let formed : is_malformed m.routine.code at ≡ false =
    formed_other m at one a in let malformed : is_malformed m.routine.code at ≡ true = b.0 in cc
same_fault m at one other (inr a) (inr b) = same_other m at one other a b

-- no fault stands at a position that is fine
faultless : (m : Member) (at : ℕ) (rule : Rule) → IsFineAt m at → IsFaultAt m at rule → ⊥
faultless m at rule fine (inl h) = let formed : is_malformed m.routine.code at ≡ false =
    fine.formed in cc
faultless m at rule fine (inr (inl h)) = h.0.never fine.state fine.arrival.arrives
faultless m at rule fine (inr (inr (inl h))) =
    alone_alike m at fine.state fine.arrival fine.closes h.0
faultless m at rule fine (inr (inr (inr (inl h)))) =
    let keeps : fault_in m fine.state (slice_get m.routine.code at) ≡ None = fine.keeps in
    let breaks : fault_in m h.state (slice_get m.routine.code at) ≡ Some rule = h.breaks in
    let same : fault_in m h.state (slice_get m.routine.code at) ≡ fault_in m fine.state
    (slice_get m.routine.code at) =
    alone_breaks m at fine.state h.state fine.arrival h.arrival
    in
    cc
faultless m at rule fine (inr (inr (inr (inr (inl h))))) =
    never_arrives m at fine.state h.0.none fine.arrival.arrives
faultless m at rule fine (inr (inr (inr (inr (inr h))))) =
    let short : certificate_to m.routine.code (suc at) ≤ MAX_CERTIFICATE = fine.short in
    let long : MAX_CERTIFICATE < certificate_to m.routine.code (suc at) = h.0.long in
    omega arith

-- a fault of a routine that has an instruction stands within it
malformed_within : (m : Member) (at : ℕ) → length m.routine.code ≢ 0
    → is_malformed m.routine.code at ≡ true
    → (at < length m.routine.code) ⊎ (length m.routine.code ≤ at) → at < length m.routine.code
malformed_within m at some malformed (inl within) = within
malformed_within m at some malformed (inr past) =
    let formed : is_malformed m.routine.code at ≡ false = formed_past m.routine.code at some past
    in cc

differ_within : (m : Member) (at : ℕ) → HasSeveral m at ⊎ EndsUnlike m at
    → at < length m.routine.code
differ_within m at (inl h) = h.within
differ_within m at (inr h) = h.within

fault_within : (m : Member) (at : ℕ) (rule : Rule) → length m.routine.code ≢ 0 → IsFaultAt m at rule
    → at < length m.routine.code
fault_within m at rule some (inl h) =
    malformed_within m at some h.0 (cases_lt at (length m.routine.code))
fault_within m at rule some (inr (inl h)) = h.0.within
fault_within m at rule some (inr (inr (inl h))) = differ_within m at h.0
fault_within m at rule some (inr (inr (inr (inl h)))) = h.within
fault_within m at rule some (inr (inr (inr (inr (inl h))))) = let start : at ≡ 0 =
    h.0.start in omega arith
fault_within m at rule some (inr (inr (inr (inr (inr h))))) = h.0.within

fault_untypable : (m : Member) (at : ℕ) (rule : Rule) → IsTypableRoutine m → IsFaultAt m at rule → ⊥
fault_untypable m at rule typable fault =
    faultless m at rule (typable.each at (fault_within m at rule typable.some fault)) fault

-- the driver of a first fault isn't typable
driver_untypable : (set : Set) (refusal : Refusal) (h : IsFirstFaultWithin set refusal)
    → IsTypableDriver set refusal.driver h.driver → ⊥
driver_untypable set refusal h typable =
    let within : refusal.routine < length h.driver.routines =
    found_within h.driver.routines refusal.routine h.routine h.routine_at
    (cases_lt refusal.routine (length h.driver.routines))
    in
    fault_untypable (member set refusal.driver refusal.routine h.routine) refusal.at refusal.rule
    (typable refusal.routine h.routine within h.routine_at)
    h.first.fault

-- a typable set has no first fault
pub typable_has_none : (set : Set) (refusal : Refusal) → IsFirstFault set refusal → IsTypable set
    → ⊥
typable_has_none set refusal (inl h) typable = typable.devices h.0
typable_has_none set refusal (inr h) typable =
    driver_untypable set refusal h
    (typable.drivers refusal.driver h.driver
    (found_within set.drivers refusal.driver h.driver h.driver_at
    (cases_lt refusal.driver (length set.drivers)))
    h.driver_at)

-- numbers of which neither is less are the same
level : (one other : ℕ) → (one < other → ⊥) → (other < one → ⊥) → (one < other) ⊎ (other ≤ one)
    → (other < one) ⊎ (one ≤ other) → one ≡ other
level one other first second (inl low) high = absurd (first low)
level one other first second (inr least) (inl high) = absurd (second high)
level one other first second (inr least) (inr most) = omega arith

same_number : (one other : ℕ) → (one < other → ⊥) → (other < one → ⊥) → one ≡ other
same_number one other first second =
    level one other first second (cases_lt one other) (cases_lt other one)

-- two first faults have the same driver
same_driver : (set : Set) (one other : Refusal) → IsFirstFaultWithin set one
    → IsFirstFaultWithin set other → one.driver ≡ other.driver
same_driver set one other a b =
    same_number one.driver other.driver
    (λ low. driver_untypable set one a (b.drivers_before one.driver a.driver low a.driver_at))
    (λ low. driver_untypable set other b (a.drivers_before other.driver b.driver low b.driver_at))

-- the first fault of a driver, of its least routine
record IsFirstIn (set : Set) (number : ℕ) (driver : Driver) (place at : ℕ) (rule : Rule) : Type 0
  where
    routine : Routine
    found : slice_get driver.routines place ≡ Some routine
    before : AreTypableRoutines set number driver place
    first : IsFirstFaultOf (member set number place routine) at rule

first_in : (set : Set) (refusal : Refusal) (h : IsFirstFaultWithin set refusal)
    → IsFirstIn set refusal.driver h.driver refusal.routine refusal.at refusal.rule
first_in set refusal h =
    record {
      routine = h.routine;
      found = h.routine_at;
      before = h.routines_before;
      first =
          h.first;
    }

-- in one driver it is of one routine
never_before : (set : Set) (number : ℕ) (driver : Driver) (place other_place at other_at : ℕ)
    (rule other_rule : Rule)
    → IsFirstIn set number driver place at rule
    → IsFirstIn set number driver other_place other_at other_rule → place < other_place → ⊥
never_before set number driver place other_place at other_at rule other_rule a b low =
    fault_untypable (member set number place a.routine) at rule
    (b.before place a.routine low a.found) a.first.fault

-- and in one routine at one position
at_one : (m : Member) (at other_at : ℕ) (rule other_rule : Rule) → IsFirstFaultOf m at rule
    → IsFirstFaultOf m other_at other_rule → at ≡ other_at
at_one m at other_at rule other_rule a b =
    same_number at other_at
    (λ low. faultless m at rule (b.before at low) a.fault)
    (λ low. faultless m other_at other_rule (a.before other_at low) b.fault)

of_one : (m : Member) (at other_at : ℕ) (rule other_rule : Rule) → IsFirstFaultOf m at rule
    → IsFirstFaultOf m other_at other_rule → rule ≡ other_rule
of_one m at other_at rule other_rule a b =
    same_fault m at rule other_rule a.fault
    (subst (λ (p : ℕ). IsFaultAt m p other_rule) (sym (at_one m at other_at rule other_rule a b))
    b.fault)

abbrev refusal_at : ℕ → ℕ → ℕ → Rule → Refusal
refusal_at driver routine at rule =
    record { driver = driver; routine = routine; at = at; rule = rule }

in_routine : (set : Set) (number : ℕ) (driver : Driver) (place at other_at : ℕ)
    (rule other_rule : Rule)
    → IsFirstIn set number driver place at rule
    → IsFirstIn set number driver place other_at other_rule
    → refusal_at number place at rule ≡ refusal_at number place other_at other_rule
in_routine set number driver place at other_at rule other_rule a b =
    let found : slice_get driver.routines place ≡ Some a.routine = a.found in
    let found_also : slice_get driver.routines place ≡ Some b.routine = b.found in
    let same : b.routine ≡ a.routine = cc in
    let first : IsFirstFaultOf (member set number place a.routine) other_at other_rule =
    subst (λ (r : Routine). IsFirstFaultOf (member set number place r) other_at other_rule) same
    b.first
    in
    let positions : at ≡ other_at =
    at_one (member set number place a.routine) at other_at rule other_rule a.first first in
    let rules : rule ≡ other_rule =
    of_one (member set number place a.routine) at other_at rule other_rule a.first first in
    cc

in_driver : (set : Set) (number : ℕ) (driver : Driver) (place other_place at other_at : ℕ)
    (rule other_rule : Rule)
    → IsFirstIn set number driver place at rule
    → IsFirstIn set number driver other_place other_at other_rule
    → refusal_at number place at rule ≡ refusal_at number other_place other_at other_rule
in_driver set number driver place other_place at other_at rule other_rule a b =
    let same : other_place ≡ place =
    same_number other_place place
    (never_before set number driver other_place place other_at at other_rule rule b a)
    (never_before set number driver place other_place at other_at rule other_rule a b)
    in
    let there : IsFirstIn set number driver place other_at other_rule =
    subst (λ (p : ℕ). IsFirstIn set number driver p other_at other_rule) same b
    in
    in_routine set number driver place at other_at rule other_rule a there
    ∙ ap (λ (p : ℕ). refusal_at number p other_at other_rule) (sym same)

within_one : (set : Set) (one other : Refusal) → IsFirstFaultWithin set one
    → IsFirstFaultWithin set other → one ≡ other
within_one set one other a b =
    let same : other.driver ≡ one.driver = same_driver set other one b a in
    let found : slice_get set.drivers one.driver ≡ Some a.driver = a.driver_at in
    let found_also : slice_get set.drivers one.driver ≡ Some b.driver =
    ap (slice_get set.drivers) (sym same) ∙ b.driver_at in
    let driver : b.driver ≡ a.driver = cc in
    let there : IsFirstIn set one.driver a.driver other.routine other.at other.rule =
    subst (λ (d : Driver). IsFirstIn set one.driver d other.routine other.at other.rule) driver
    (subst (λ (n : ℕ). IsFirstIn set n b.driver other.routine other.at other.rule) same
    (first_in set other b))
    in
    in_driver set one.driver a.driver one.routine other.routine one.at other.at one.rule other.rule
    (first_in set one a) there
    ∙ ap (λ (n : ℕ). refusal_at n other.routine other.at other.rule) (sym same)

-- two first faults of a set are the same refusal
pub one_is_first : (set : Set) (one other : Refusal) → IsFirstFault set one → IsFirstFault set other
    → one ≡ other
one_is_first set one other (inl a) (inl b) = a.1 ∙ sym b.1
one_is_first set one other (inl a) (inr b) = absurd (b.devices a.0)
one_is_first set one other (inr a) (inl b) = absurd (a.devices b.0)
one_is_first set one other (inr a) (inr b) = within_one set one other a b
