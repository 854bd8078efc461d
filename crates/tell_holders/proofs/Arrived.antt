-- The state at the end of a path is the one that arrives there.
use Rattle.std.proofs.Common.{◌≡◌, ◌≢◌, ◌∙◌, ◌<◌, ℕ, List, [], ◌∷◌, length, reverse, Bool, false, Option, None, Some, inl, inr, refl, sym, ap, subst, arith}
use Rattle.std.specs.Prelude.{Result, Ok, Err, option_and_then, option_map, slice_get, if◌then◌else◌}
use Rattle.std.proofs.lemmas.Bool.Decides.{eqb_tells}
use Rattle.std.proofs.lemmas.Option.{slice_get_within}
use Rattle.model.specs.declared.abs.Abs.{Abs}
use Rattle.model.specs.declared.abs.Duty.TheVariants.{Fresh, Finished}
use Rattle.model.specs.declared.abs.Kind.TheVariants.{Blank, New}
use Rattle.model.specs.declared.abs.Outs.{Outs}
use Rattle.model.specs.declared.abs.Rule.{Rule}
use Rattle.model.specs.declared.abs.Settled.TheVariants.{Settled as SettledMark}
use Rattle.model.specs.declared.instr.Instr.TheVariants.{Complete}
use Rattle.model.specs.declared.set.Driver.{Driver}
use Rattle.model.specs.declared.set.Routine.{Routine as RoutineOf}
use Rattle.model.specs.declared.set.Sort.TheVariants.{Dispatch}
use Rattle.model.specs.declared.status.Status.TheVariants.{InvalidDeviceRequest}
use Rattle.model.specs.LocalRule.{entered_with, local_rule, with_kind}
use Rattle.model.specs.Paths.{Along, Arrives}
use Rattle.model.specs.Set.{Member, Set, default_number, default_routine, member, routine_of}
use Rattle.model.specs.Typable.{IsTypable, IsTypableRoutine}
use Rattle.laws_runs.specs.ArrivingStates.{States}
use Rattle.laws_runs.proofs.Past.Packets.{lt_true}
use Rattle.verifier_evidence.specs.declared.trail.Path.{Path}
use Rattle.verifier_evidence.specs.declared.trail.Step.{Step}
use Rattle.verifier_evidence.specs.Path.{IsPathTo, IsTrail, member_of}
use Rattle.verifier_evidence.specs.Table.{AreFine}
use Rattle.tell_holders.specs.Right.{IsStateAt, state_at, state_in}

-- the positions of a path
abbrev places : List Step → List ℕ
places [] = []
places (step ∷ steps) = step.at ∷ places steps

trail_along : (m : Member) (step : Step) (steps : List Step) → IsTrail m (step ∷ steps)
    → Along m (step.at ∷ places steps) step.state
trail_along m step [] h = h
trail_along m step (before ∷ steps) h = (before.state, trail_along m before steps h.0, h.1)

pub path_arrives : (m : Member) (at : ℕ) (path : Path) → IsPathTo m at path
    → Arrives m at path.last.state
path_arrives m at path h =
    subst (λ (p : ℕ). Arrives m p path.last.state) h.ends
    (places (reverse path.before), trail_along m path.last (reverse path.before) h.leads)

-- a position inside a routine has the state of the table
pub state_inside : (set : Set) (states : States) (driver number p : ℕ) (routine : RoutineOf)
    → routine_of set driver number ≡ Some routine → p < length routine.code
    → state_at set states driver number p ≡ Some (states driver number p)
state_inside set states driver number p routine is within =
    ap (λ (o : Option RoutineOf). state_in o p (states driver number p)) is
    ∙ ap (λ (b : Bool). if b then Some (states driver number p) else None)
    (lt_true p (length routine.code) within)

-- what arrives there is it
pub arrived_is : (set : Set) (driver number p : ℕ) (routine : RoutineOf) (s : Abs)
    → routine_of set driver number ≡ Some routine → p < length routine.code
    → Arrives (member set driver number routine) p s
    → IsStateAt set driver number p (Some s)
arrived_is set driver number p routine s is within arrives = λ states alone.
    ap (λ (t : Abs). Some t) ((alone.alone driver number p routine is within).alone s arrives)
    ∙ sym (state_inside set states driver number p routine is within)

-- the default routine: its packet is new at first, and then completed
abbrev default_member : Set → ℕ → Member
default_member set driver = member set driver default_number default_routine

abbrev default_entry : Abs
default_entry = entered_with New Fresh SettledMark false

abbrev default_completed : Abs
default_completed = record (with_kind default_entry 0 Blank) { duty = Finished }

pub default_first : (set : Set) (driver p : ℕ) (entry : Abs) → Some default_entry ≡ Some entry
    → p ≡ 0 → IsStateAt set driver default_number p (Some entry)
default_first set driver p entry is first =
    let within : 0 < 2 = omega arith in
    subst (λ (q : ℕ). IsStateAt set driver default_number q (Some entry)) (sym first)
    (arrived_is set driver default_number 0 default_routine entry refl within ([], (refl, is)))

abbrev next_in : Result Outs Rule → Option Abs
next_in (Ok outs) = outs.next
next_in (Err rule) = None

pub default_second : (set : Set) (driver p : ℕ) (entry : Abs) (outs : Outs)
    → Some default_entry ≡ Some entry
    → local_rule entry (Complete 0 InvalidDeviceRequest) Dispatch set driver ≡ Ok outs
    → p ≡ 1 → IsStateAt set driver default_number p outs.next
default_second set driver p entry outs is ran second =
    let within : 1 < 2 = omega arith in
    let alike : entry ≡ default_entry = cc in
    let next : Some default_completed ≡ outs.next =
    ap next_in (subst (λ (e : Abs). local_rule e (Complete 0 InvalidDeviceRequest) Dispatch set
    driver ≡ Ok outs) alike ran) in
    subst (λ (q : ℕ). IsStateAt set driver default_number q outs.next) (sym second)
    (subst (λ (o : Option Abs). IsStateAt set driver default_number 1 o) next
    (arrived_is set driver default_number 1 default_routine default_completed refl within
    (0 ∷ [], (default_entry, (refl, refl), (refl, inl (refl, refl))))))

-- a routine that isn't the default one is a member of the set, and is fine everywhere
module _ (set : Set) (driver number : ℕ) where
  abbrev listed : Option Driver → Option RoutineOf
  listed o = option_and_then (λ d. slice_get d.routines number) o

  found_member : (m : Member) (o : Option RoutineOf)
      → option_map (λ routine. member set driver number routine) o ≡ Some m
      → (m ≡ member set driver number m.routine) × (o ≡ Some m.routine)
  found_member m None h = cc
  found_member m (Some routine) h =
      let same : member set driver number routine ≡ m = cc in (
        subst (λ (x : Member). x ≡ member set driver number x.routine) same refl,
        ap (λ (x : Member). Some x.routine) same,
      )

  not_default : number ≢ default_number
      → routine_of set driver number ≡ listed (slice_get set.drivers driver)
  not_default other =
      elim (eqb_tells number default_number) [
        | inl e ↦ absurd (other e.1)
        | inr e ↦
            ap (λ (b : Bool). if b then Some default_routine
            else listed (slice_get set.drivers driver)) e.0
      ]

  fine_by : (typable : IsTypable set) (routine : RoutineOf) (o : Option Driver)
      → slice_get set.drivers driver ≡ o → listed o ≡ Some routine
      → IsTypableRoutine (member set driver number routine)
  fine_by typable routine None there found = cc
  fine_by typable routine (Some d) there found =
      typable.drivers driver d (slice_get_within set.drivers driver d there) there number routine
      (slice_get_within d.routines number routine found) found

  module _ (m : Member) (is : member_of set driver number ≡ Some m) where
    both : (m ≡ member set driver number m.routine)
        × (listed (slice_get set.drivers driver) ≡ Some m.routine)
    both = found_member m (listed (slice_get set.drivers driver)) is

    fine : (typable : IsTypable set) → IsTypableRoutine m
    fine typable =
        subst (λ (x : Member). IsTypableRoutine x) (sym both.0)
        (fine_by typable m.routine (slice_get set.drivers driver) refl both.1)

    pub fine_before : (typable : IsTypable set) (p : ℕ) → p < length m.routine.code → AreFine m p
    fine_before typable p within = λ q below. (fine typable).each q (omega arith)

    module _ (other : number ≢ default_number) (p : ℕ) (within : p < length m.routine.code) where
      there : routine_of set driver number ≡ Some m.routine
      there = not_default other ∙ both.1

      pub found_state : (path : Path) → IsPathTo m p path
          → IsStateAt set driver number p (Some path.last.state)
      found_state path leads =
          arrived_is set driver number p m.routine path.last.state there within
          (subst (λ (x : Member). Arrives x p path.last.state) both.0
          (path_arrives m p path leads))

      pub no_state : ((s : Abs) → Arrives m p s → ⊥) → IsStateAt set driver number p None
      no_state none = λ states alone.
          absurd (none (states driver number p)
          (subst (λ (x : Member). Arrives x p (states driver number p)) (sym both.0)
          (alone.alone driver number p m.routine there within).arrives))
