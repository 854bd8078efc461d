-- Where the same states arrive under two editions, and break the same there, the verdict is the
-- same; a set of the first edition is such.
use Rattle.std.proofs.Common.{◌≡◌, ℕ, ◌⊎◌, inl, inr, List, Option, None, Some, Result, Ok, Err, sym, ◌∙◌, length}
use Rattle.std.specs.Prelude.{slice_get}
use Rattle.model.specs.declared.abs.Abs.{Abs}
use Rattle.model.specs.declared.abs.Refusal.{Refusal}
use Rattle.model.specs.declared.abs.Rule.{Rule}
use Rattle.model.specs.declared.abs.Rule.TheVariants.{Memory}
use Rattle.model.specs.declared.instr.Instr.{Instr}
use Rattle.model.specs.declared.set.Driver.{Driver}
use Rattle.model.specs.declared.set.Routine.{Routine}
use Rattle.model.specs.Edition.{Edition, First, Second, edition_of}
use Rattle.model.specs.LocalRule.{entry_under}
use Rattle.model.specs.Loops.{open_at}
use Rattle.model.specs.Paths.{ArrivesUnder, is_malformed_under}
use Rattle.model.specs.Set.{Set, Member, Flow, Onward, Branches, Jumps, Opens, Closes, Leaves, member, flow_of}
use Rattle.model.specs.Typable.{ArrivesAloneUnder, ReachesLoopUnder, ClosesAlikeByUnder, ClosesAlikeUnder, ClosesUnlikeByUnder, ClosesUnlikeUnder, IsFineUnder, IsTypableRoutineUnder, AreTypableRoutinesUnder, AreTypableUnder, IsTypableUnder, HasNoEntryUnder, IsUnreachableUnder, HasSeveralUnder, EndsUnlikeUnder, IsBrokenUnder, IsTooLongUnder, IsFaultUnder, IsFirstFaultOfUnder, IsFirstFaultWithinUnder, IsFirstFaultUnder, at_start, fault_under}
use Rattle.verifier.specs.FirstEdition.{IsOfFirst}
use Rattle.verifier.specs.FirstLaw.{IsVerdictUnder}
use Rattle.verifier.specs.Verdict.{IsRefusalOf}
use Rattle.verifier.proofs.FirstPaths.{of_first, entry_alike, formed_alike, arrives_to, arrives_back, fault_alike}

-- two editions agree on a routine
record Agree (a b : Edition) (m : Member) : Type 0 where
  entry : entry_under a m ≡ entry_under b m
  formed : (p : ℕ) → is_malformed_under a m.routine.code p ≡ is_malformed_under b m.routine.code p
  arrives : (p : ℕ) (s : Abs) → ArrivesUnder a m p s → ArrivesUnder b m p s
  back : (p : ℕ) (s : Abs) → ArrivesUnder b m p s → ArrivesUnder a m p s
  faults : (p : ℕ) (s : Abs) → ArrivesUnder a m p s
      → fault_under a m s (slice_get m.routine.code p) ≡ fault_under b m s
      (slice_get m.routine.code p)

turned : (a b : Edition) (m : Member) → Agree a b m → Agree b a m
turned a b m h = record {
  entry = sym h.entry;
  formed = λ p. sym (h.formed p);
  arrives = h.back;
  back = h.arrives;
  faults = λ p s arrives. sym (h.faults p s (h.back p s arrives));
}

agreed : (m : Member) → IsOfFirst m → Agree Second First m
agreed m first = record {
  entry = entry_alike m first;
  formed = λ p. formed_alike m p first;
  arrives = λ p s arrives. arrives_to m p s first arrives;
  back = λ p s arrives. arrives_back m p s first arrives;
  faults = λ p s arrives. fault_alike m p s first arrives;
}

-- what arrives alone
alone : (a b : Edition) (m : Member) (p : ℕ) (s : Abs) → Agree a b m → ArrivesAloneUnder a m p s
    → ArrivesAloneUnder b m p s
alone a b m p s agree h = record {
  arrives = agree.arrives p s h.arrives;
  alone = λ other arrives. h.alone other (agree.back p other arrives);
}

reaches : (a b : Edition) (m : Member) (q : Option ℕ) (s : Abs) → Agree a b m
    → ReachesLoopUnder a m q s → ReachesLoopUnder b m q s
reaches a b m None s agree h = h
reaches a b m (Some q) s agree h = alone a b m q s agree h

-- what closes a loop
alike_by : (a b : Edition) (m : Member) (p : ℕ) (s : Abs) (f : Flow) → Agree a b m
    → ClosesAlikeByUnder a m p s f → ClosesAlikeByUnder b m p s f
alike_by a b m p s Onward agree h = h
alike_by a b m p s (Branches label) agree h = h
alike_by a b m p s (Jumps label) agree h = h
alike_by a b m p s (Opens turns) agree h = h
alike_by a b m p s Closes agree h =
    reaches a b m (slice_get (open_at m.routine.code p) 0) s agree h
alike_by a b m p s Leaves agree h = h

alike : (a b : Edition) (m : Member) (p : ℕ) (s : Abs) (i : Option Instr) → Agree a b m
    → ClosesAlikeUnder a m p s i → ClosesAlikeUnder b m p s i
alike a b m p s None agree h = h
alike a b m p s (Some i) agree h = alike_by a b m p s (flow_of i) agree h

unlike_by : (a b : Edition) (m : Member) (p : ℕ) (s : Abs) (f : Flow) → Agree a b m
    → ClosesUnlikeByUnder a m p s f → ClosesUnlikeByUnder b m p s f
unlike_by a b m p s Onward agree h = h
unlike_by a b m p s (Branches label) agree h = h
unlike_by a b m p s (Jumps label) agree h = h
unlike_by a b m p s (Opens turns) agree h = h
unlike_by a b m p s Closes agree h =
    (h.0, reaches a b m (slice_get (open_at m.routine.code p) 0) h.0 agree h.1, h.2)
unlike_by a b m p s Leaves agree h = h

unlike : (a b : Edition) (m : Member) (p : ℕ) (s : Abs) (i : Option Instr) → Agree a b m
    → ClosesUnlikeUnder a m p s i → ClosesUnlikeUnder b m p s i
unlike a b m p s None agree h = h
unlike a b m p s (Some i) agree h = unlike_by a b m p s (flow_of i) agree h

-- positions without a fault, and routines
fine : (a b : Edition) (m : Member) (p : ℕ) → Agree a b m → IsFineUnder a m p → IsFineUnder b m p
fine a b m p agree h = record {
  formed = sym (agree.formed p) ∙ h.formed;
  state = h.state;
  arrival = alone a b m p h.state agree h.arrival;
  closes = alike a b m p h.state (slice_get m.routine.code p) agree h.closes;
  keeps = sym (agree.faults p h.state h.arrival.arrives) ∙ h.keeps;
  short = h.short;
}

routine : (a b : Edition) (m : Member) → Agree a b m → IsTypableRoutineUnder a m
    → IsTypableRoutineUnder b m
routine a b m agree h =
    record { some = h.some; each = λ p within. fine a b m p agree (h.each p within) }

-- faults
unreachable : (a b : Edition) (m : Member) (p : ℕ) → Agree a b m → IsUnreachableUnder a m p
    → IsUnreachableUnder b m p
unreachable a b m p agree h = record {
  within = h.within;
  formed = sym (agree.formed p) ∙ h.formed;
  entry = h.entry;
  entered = sym agree.entry ∙ h.entered;
  never = λ s arrives. h.never s (agree.back p s arrives);
}

several : (a b : Edition) (m : Member) (p : ℕ) → Agree a b m → HasSeveralUnder a m p
    → HasSeveralUnder b m p
several a b m p agree h = record {
  within = h.within;
  formed = sym (agree.formed p) ∙ h.formed;
  one = h.one;
  other = h.other;
  one_arrives = agree.arrives p h.one h.one_arrives;
  other_arrives = agree.arrives p h.other h.other_arrives;
  differ = h.differ;
}

ends : (a b : Edition) (m : Member) (p : ℕ) → Agree a b m → EndsUnlikeUnder a m p
    → EndsUnlikeUnder b m p
ends a b m p agree h = record {
  within = h.within;
  formed = sym (agree.formed p) ∙ h.formed;
  state = h.state;
  arrival = alone a b m p h.state agree h.arrival;
  closes = unlike a b m p h.state (slice_get m.routine.code p) agree h.closes;
}

differ : (a b : Edition) (m : Member) (p : ℕ) → Agree a b m
    → HasSeveralUnder a m p ⊎ EndsUnlikeUnder a m p
    → HasSeveralUnder b m p ⊎ EndsUnlikeUnder b m p
differ a b m p agree (inl h) = inl (several a b m p agree h)
differ a b m p agree (inr h) = inr (ends a b m p agree h)

broken : (a b : Edition) (m : Member) (p : ℕ) (rule : Rule) → Agree a b m
    → IsBrokenUnder a m p rule → IsBrokenUnder b m p rule
broken a b m p rule agree h = record {
  within = h.within;
  formed = sym (agree.formed p) ∙ h.formed;
  state = h.state;
  arrival = alone a b m p h.state agree h.arrival;
  closes = alike a b m p h.state (slice_get m.routine.code p) agree h.closes;
  breaks = sym (agree.faults p h.state h.arrival.arrives) ∙ h.breaks;
}

barred : (a b : Edition) (m : Member) (p : ℕ) → Agree a b m → HasNoEntryUnder a m p
    → HasNoEntryUnder b m p
barred a b m p agree h = record {
  start = h.start;
  formed = sym (agree.formed p) ∙ h.formed;
  none = sym agree.entry ∙ h.none;
}

long : (a b : Edition) (m : Member) (p : ℕ) → Agree a b m → IsTooLongUnder a m p
    → IsTooLongUnder b m p
long a b m p agree h = record {
  within = h.within;
  formed = sym (agree.formed p) ∙ h.formed;
  state = h.state;
  arrival = alone a b m p h.state agree h.arrival;
  closes = alike a b m p h.state (slice_get m.routine.code p) agree h.closes;
  keeps = sym (agree.faults p h.state h.arrival.arrives) ∙ h.keeps;
  long = h.long;
}

fault : (a b : Edition) (m : Member) (p : ℕ) (rule : Rule) → Agree a b m
    → IsFaultUnder a m p rule → IsFaultUnder b m p rule
fault a b m p rule agree (inl h) = inl (sym (agree.formed p) ∙ h.0, h.1)
fault a b m p rule agree (inr (inl h)) = inr (inl (unreachable a b m p agree h.0, h.1))
fault a b m p rule agree (inr (inr (inl h))) = inr (inr (inl (differ a b m p agree h.0, h.1)))
fault a b m p rule agree (inr (inr (inr (inl h)))) =
    inr (inr (inr (inl (broken a b m p rule agree h))))
fault a b m p rule agree (inr (inr (inr (inr (inl h))))) =
    inr (inr (inr (inr (inl (barred a b m p agree h.0, h.1)))))
fault a b m p rule agree (inr (inr (inr (inr (inr h))))) =
    inr (inr (inr (inr (inr (long a b m p agree h.0, h.1)))))

first_fault : (a b : Edition) (m : Member) (at : ℕ) (rule : Rule) → Agree a b m
    → IsFirstFaultOfUnder a m at rule → IsFirstFaultOfUnder b m at rule
first_fault a b m at rule agree h = record {
  before = λ p earlier. fine a b m p agree (h.before p earlier);
  fault = fault a b m at rule agree h.fault;
}

-- routines that a set of the first edition may have
pub routine_to : (m : Member) → IsOfFirst m → IsTypableRoutineUnder Second m
    → IsTypableRoutineUnder First m
routine_to m first h = routine Second First m (agreed m first) h

pub routine_back : (m : Member) → IsOfFirst m → IsTypableRoutineUnder First m
    → IsTypableRoutineUnder Second m
routine_back m first h =
    routine First Second m (turned Second First m (agreed m first)) h

pub first_fault_to : (m : Member) (at : ℕ) (rule : Rule) → IsOfFirst m
    → IsFirstFaultOfUnder Second m at rule → IsFirstFaultOfUnder First m at rule
first_fault_to m at rule first h = first_fault Second First m at rule (agreed m first) h

pub first_fault_back : (m : Member) (at : ℕ) (rule : Rule) → IsOfFirst m
    → IsFirstFaultOfUnder First m at rule → IsFirstFaultOfUnder Second m at rule
first_fault_back m at rule first h =
    first_fault First Second m at rule (turned Second First m (agreed m first)) h

-- sets: two editions agree on all routines of one
abbrev AgreeOn : Edition → Edition → Set → Type 0
AgreeOn a b set =
    (number : ℕ) (driver : Driver) (r : ℕ) (routine : Routine)
    → slice_get set.drivers number ≡ Some driver → slice_get driver.routines r ≡ Some routine
    → Agree a b (member set number r routine)

agreed_on : (set : Set) → edition_of set ≡ 1 → AgreeOn Second First set
agreed_on set first = λ number driver r routine there here.
    agreed (member set number r routine) (of_first set number driver r routine first there here)

turned_on : (a b : Edition) (set : Set) → AgreeOn a b set → AgreeOn b a set
turned_on a b set agree = λ number driver r routine there here.
    turned a b (member set number r routine) (agree number driver r routine there here)

routines : (a b : Edition) (set : Set) (number : ℕ) (driver : Driver) (count : ℕ)
    → AgreeOn a b set → slice_get set.drivers number ≡ Some driver
    → AreTypableRoutinesUnder a set number driver count
    → AreTypableRoutinesUnder b set number driver count
routines a b set number driver count agree there h =
    λ r it within here.
    routine a b (member set number r it) (agree number driver r it there here)
    (h r it within here)

drivers : (a b : Edition) (set : Set) (count : ℕ) → AgreeOn a b set → AreTypableUnder a set count
    → AreTypableUnder b set count
drivers a b set count agree h =
    λ number driver within there.
    routines a b set number driver (length driver.routines) agree there
    (h number driver within there)

typable : (a b : Edition) (set : Set) → AgreeOn a b set → IsTypableUnder a set
    → IsTypableUnder b set
typable a b set agree h = record {
  devices = h.devices;
  drivers = drivers a b set (length set.drivers) agree h.drivers;
}

faulty : (a b : Edition) (set : Set) (refusal : Refusal) → AgreeOn a b set
    → IsFirstFaultWithinUnder a set refusal → IsFirstFaultWithinUnder b set refusal
faulty a b set refusal agree h = record {
  devices = h.devices;
  driver = h.driver;
  driver_at = h.driver_at;
  drivers_before = drivers a b set refusal.driver agree h.drivers_before;
  routine = h.routine;
  routine_at = h.routine_at;
  routines_before = routines a b set refusal.driver h.driver refusal.routine agree h.driver_at
      h.routines_before;
  first = first_fault a b (member set refusal.driver refusal.routine h.routine) refusal.at
      refusal.rule (agree refusal.driver h.driver refusal.routine h.routine h.driver_at
      h.routine_at) h.first;
}

refused : (a b : Edition) (set : Set) (refusal : Refusal) → AgreeOn a b set
    → IsFirstFaultUnder a set refusal → IsFirstFaultUnder b set refusal
refused a b set refusal agree (inl h) = inl h
refused a b set refusal agree (inr h) = inr (faulty a b set refusal agree h)

verdict : (a b : Edition) (set : Set) (it : Result (List (List ℕ)) Refusal) → AgreeOn a b set
    → IsVerdictUnder a set it → IsVerdictUnder b set it
verdict a b set (Ok certificates) agree h = (typable a b set agree h.0, h.1)
verdict a b set (Err refusal) agree h = refused a b set refusal agree h

pub verdict_to : (set : Set) (it : Result (List (List ℕ)) Refusal) → edition_of set ≡ 1
    → IsVerdictUnder Second set it → IsVerdictUnder First set it
verdict_to set it first h = verdict Second First set it (agreed_on set first) h

pub verdict_back : (set : Set) (it : Result (List (List ℕ)) Refusal) → edition_of set ≡ 1
    → IsVerdictUnder First set it → IsVerdictUnder Second set it
verdict_back set it first h =
    verdict First Second set it (turned_on Second First set (agreed_on set first)) h

pub typable_to : (set : Set) → edition_of set ≡ 1 → IsTypableUnder Second set
    → IsTypableUnder First set
typable_to set first h = typable Second First set (agreed_on set first) h

pub refused_to : (set : Set) (refusal : Refusal) → edition_of set ≡ 1 → IsRefusalOf set refusal
    → (refusal ≡ at_start Memory) ⊎ IsFirstFaultUnder First set refusal
refused_to set refusal first (inl memory) = inl memory
refused_to set refusal first (inr h) =
    inr (refused Second First set refusal (agreed_on set first) h)
