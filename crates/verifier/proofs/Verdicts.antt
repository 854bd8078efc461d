-- What holds of each driver and routine so far, and what the refusal of one says of the set.
use Rattle.std.proofs.Common.{◌≡◌, ◌≢◌, ℕ, ◌+◌, ◌<◌, ◌≤◌, ◌⊎◌, inl, inr, Bool, true, false, if◌then◌else◌, None, refl, List, [], ◌∷◌, ◌++◌, length, take, map, Some, slice_index_or, arith, sym, subst, ◌∙◌, ap}
use Rattle.std.specs.Prelude.{slice_get}
use Rattle.std.proofs.lemmas.Bool.{cases_lt}
use Rattle.std.proofs.lemmas.List.{map_more}
use Rattle.std.proofs.lemmas.Option.{slice_get-get_or}
use Rattle.model.specs.declared.abs.Refusal.{Refusal}
use Rattle.model.specs.declared.abs.Rule.{Rule}
use Rattle.model.specs.declared.abs.Rule.TheVariants.{Malformed, Sort as SortRule, Memory}
use Rattle.model.specs.declared.set.Driver.{Driver}
use Rattle.model.specs.declared.set.Routine.{Routine}
use Rattle.model.specs.LocalRule.{entry_state}
use Rattle.model.specs.Paths.{is_malformed}
use Rattle.model.specs.Set.{Set, Member, member}
use Rattle.model.specs.Typable.{IsTypableRoutine, AreTypableRoutines, IsTypableDriver, AreTypable, IsTypable, IsFaultAt, IsFirstFaultOf}
use Rattle.verifier.specs.Verdict.{IsRefusalOf, IsRefusalOfDriver, IsRefusalOfRoutine}
use Rattle.verifier.proofs.Faults.{typable_has_none}

-- an element that the code has read
pub found_read : {X : Type 0} (xs ys : List X) (i : ℕ) (x : X) → xs ≡ ys → i < length xs
    → x ≡ slice_index_or xs i x → slice_get ys i ≡ Some x
found_read {X = X} xs ys i x same within read = ap (λ (zs : List X). slice_get zs i) (sym same)
    ∙ slice_get-get_or xs i x within ∙ ap Some (sym read)

-- what holds of each element before a number and of the one there holds of each before the next
abbrev EachBefore : {X : Type 0} → (ℕ → X → Type 0) → List X → ℕ → Type 0
EachBefore {X = X} P xs count = (i : ℕ) (x : X) → i < count → slice_get xs i ≡ Some x → P i x

each_split : {X : Type 0} (P : ℕ → X → Type 0) (xs : List X) (count : ℕ) (here : X)
    → EachBefore P xs count → slice_get xs count ≡ Some here
    → P count here → (i : ℕ) (x : X) → i < count + 1 → slice_get xs i ≡ Some x → (i < count)
    ⊎ (count ≤ i) → P i x
each_split P xs count here before found holds i x below read (inl lower) = before i x lower read
each_split {X = X} P xs count here before found holds i x below read (inr least) =
    let same : count ≡ i = omega arith in
    let there : slice_get xs i ≡ Some here = ap (slice_get xs) (sym same) ∙ found in
    let is : here ≡ x = cc in
    subst (λ (y : X). P i y) is (subst (λ (n : ℕ). P n here) same holds)

each_more : {X : Type 0} (P : ℕ → X → Type 0) (xs : List X) (count : ℕ) (here : X)
    → EachBefore P xs count → slice_get xs count ≡ Some here
    → P count here → EachBefore P xs (count + 1)
each_more P xs count here before found holds i x below read =
    each_split P xs count here before found holds i x below read (cases_lt i count)

-- one routine more, and one driver more
pub routines_more : (set : Set) (number : ℕ) (driver : Driver) (count : ℕ) (routine : Routine)
    → AreTypableRoutines set number driver count
    → slice_get driver.routines count ≡ Some routine
    → IsTypableRoutine (member set number count routine)
    → AreTypableRoutines set number driver (count + 1)
routines_more set number driver count routine =
    each_more (λ (r : ℕ) (x : Routine). IsTypableRoutine (member set number r x)) driver.routines
    count routine

pub drivers_more : (set : Set) (count : ℕ) (driver : Driver) → AreTypable set count
    → slice_get set.drivers count ≡ Some driver
    → IsTypableDriver set count driver → AreTypable set (count + 1)
drivers_more set count driver =
    each_more (λ (d : ℕ) (x : Driver). IsTypableDriver set d x) set.drivers count driver

-- one certificate more
pub certificates_more : {X Y : Type 0} (f : X → Y) (xs : List X) (i : ℕ) (x : X) (ys new : List Y)
    (y : Y) → i < length xs → ys ≡ map f (take i xs)
    → x ≡ slice_index_or xs i x → y ≡ f x → new ≡ ys ++ y ∷ [] → new ≡ map f (take (i + 1) xs)
certificates_more {Y = Y} f xs i x ys new y within before read right pushed =
    let all : map f (take (i + 1) xs) ≡ map f (take i xs) ++ f (slice_index_or xs i x) ∷ [] =
    map_more f xs i x within in
    pushed ∙ ap (λ (z : Y). ys ++ z ∷ []) (right ∙ ap f read)
    ∙ ap (λ (zs : List Y). zs ++ f (slice_index_or xs i x) ∷ []) before ∙ sym all

-- the refusal of a routine that can't be entered
entry_fault : (m : Member) (rule : Rule) (malformed : Bool)
    → is_malformed m.routine.code 0 ≡ malformed
    → entry_state m ≡ None → rule ≡ (if malformed then Malformed else SortRule)
    → IsFaultAt m 0 rule
entry_fault m rule true formed none told = inl (formed, told)
entry_fault m rule false formed none told =
    inr (inr (inr (inr (inl (record { start = refl; formed = formed; none = none }, told)))))

pub refusal_of_entry : (m : Member) (rule : Rule) (refusal : Refusal) → entry_state m ≡ None
    → rule ≡ (if is_malformed m.routine.code 0 then Malformed else SortRule)
    → refusal ≡ record { driver = m.driver; routine = m.number; at = 0; rule = rule }
    → IsRefusalOfRoutine m refusal
refusal_of_entry m rule refusal none told made =
    subst (λ (r : Refusal). IsRefusalOfRoutine m r) (sym made) (inr (record {
      driver = refl;
      number = refl;
      first = record {
        before = λ p low. absurd (omega (arith, low));
        fault = entry_fault m rule (is_malformed m.routine.code 0) refl none told;
      };
    }))

-- the refusal of a driver for one of its routines
pub refusal_of_driver : (set : Set) (number : ℕ) (driver : Driver) (place : ℕ) (routine : Routine)
    (refusal : Refusal)
    → slice_get driver.routines place ≡ Some routine → AreTypableRoutines set number driver place
    → IsRefusalOfRoutine (member set number place routine) refusal
    → IsRefusalOfDriver set number driver refusal
refusal_of_driver set number driver place routine refusal found before (inl h) = inl h
refusal_of_driver set number driver place routine refusal found before (inr h) = inr (record {
  numbered = h.driver;
  routine = routine;
  routine_at = ap (slice_get driver.routines) h.number ∙ found;
  routines_before = subst (λ (n : ℕ). AreTypableRoutines set number driver n) (sym h.number) before;
  first = subst (λ (n : ℕ). IsFirstFaultOf (member set number n routine) refusal.at refusal.rule)
      (sym h.number) h.first;
})

-- the refusal of a set for one of its drivers
pub refusal_of_set : (set : Set) (number : ℕ) (driver : Driver) (refusal : Refusal)
    → length set.devices ≢ 0 → slice_get set.drivers number ≡ Some driver
    → AreTypable set number → IsRefusalOfDriver set number driver refusal → IsRefusalOf set refusal
refusal_of_set set number driver refusal devices found before (inl h) = inl h
refusal_of_set set number driver refusal devices found before (inr h) = inr (inr (record {
  devices = devices;
  driver = driver;
  driver_at = ap (slice_get set.drivers) h.numbered ∙ found;
  drivers_before = subst (λ (n : ℕ). AreTypable set n) (sym h.numbered) before;
  routine = h.routine;
  routine_at = h.routine_at;
  routines_before =
      subst (λ (n : ℕ). AreTypableRoutines set n driver refusal.routine) (sym h.numbered)
      h.routines_before;
  first = subst
      (λ (n : ℕ). IsFirstFaultOf (member set n refusal.routine h.routine) refusal.at refusal.rule)
      (sym h.numbered) h.first;
}))

-- a refusal but for want of memory is of no typable set
pub refusal_untypable : (set : Set) (refusal : Refusal) → IsRefusalOf set refusal
    → refusal.rule ≢ Memory → IsTypable set → ⊥
refusal_untypable set refusal (inl h) known typable = known (ap (λ (r : Refusal). r.rule) h)
refusal_untypable set refusal (inr h) known typable = typable_has_none set refusal h typable
