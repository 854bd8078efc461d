-- The steps of a scenario, from every end of interleavings.
use Rattle.std.proofs.Common.{◌≡◌, ◌∙◌, ◌<◌, ◌+◌, ◌++◌, ◌||◌, ℕ, zero, suc, Bool, true, false, List, [], ◌∷◌, Option, None, Some, IfOk, Result, Ok, Err, ap, drop, get_or, inl, inr, is_some, length, refl, slice_get, subst, sym, take}
use Rattle.std.proofs.Math.Dec.{eqb-suc-zero}
use Rattle.std.specs.Bool.{◌==◌}
use Rattle.std.proofs.lemmas.List.{drop_more, take-append-drop, take_more}
use Rattle.std.proofs.lemmas.Option.{slice_get-get_or}
use Rattle.std.specs.List.{list_any}
use Rattle.checked.specs.SameWorlds.{SameWorldsGoOnAlike}
use Rattle.model.specs.Set.{Set}
use Rattle.model.specs.Sound.{IsSound}
use Rattle.model.specs.Typable.{IsTypable}
use Rattle.scenario_steps.specs.Judging.{expects_audit}
use Rattle.scenario_run.specs.Playing.{Playing}
use Rattle.scenario_steps.specs.declared.scenario.Step.{Step}
use Rattle.scenario_together.proofs.Covering.{covers_on, fails_there}
use Rattle.scenario_together.proofs.Sets.{acted_over}
use Rattle.scenario_together.specs.declared.play.Failure.{Failure}
use Rattle.scenario_together.specs.Joining.{Covers, HasLike, IsAmong, Known, Leaves, LeavesAll, MayMerge, Moves, StopsAt, StopsIn}
use Rattle.scenario_together.proofs.Plain.{plays_plain}
use Rattle.scenario_together.specs.declared.play.Played.{Played}
use Rattle.scenario_steps.specs.Steps.{together_of}
use Rattle.scenario_together.specs.Plays.{Plays, PlaysPlainly, Comes, FailsAt, LeadsBy, PlaysTo}
use Rattle.tell_uses.specs.Pending.{AcceptedRunsShowNoDisagreement}

-- what steps lead to is over the same set
lead_over : (o : Option (List Bool)) (p : Playing) (step : Step) (q : Playing)
    → LeadsBy p step o q → q.set ≡ p.set
lead_over None p step q leads =
    ap (λ (x : Playing). x.set) leads.1 ∙ acted_over step.action p
lead_over (Some named) p step q leads = ap (λ (x : Playing). x.set) leads.2

comes_over : (p : Playing) (steps : List Step) (q : Playing) → Comes p steps q → q.set ≡ p.set
comes_over p [] q comes = ap (λ (x : Playing). x.set) comes
comes_over p (step ∷ steps) q comes =
    comes_over comes.0 steps q comes.2
    ∙ lead_over (together_of step.action) p step comes.0 comes.1

-- steps before a place, the one there, and those behind it
parted : (steps : List Step) (i : ℕ) (d : Step) → i < length steps
    → take i steps ++ get_or steps i d ∷ drop (i + 1) steps ≡ steps
parted steps i d inside =
    sym
    (sym (take-append-drop i steps)
    ∙ ap (λ (xs : List Step). take i steps ++ xs) (drop_more steps i d inside))

module _ (law : SameWorldsGoOnAlike) (agreed : AcceptedRunsShowNoDisagreement) (merges : Bool)
    (p : Playing) (sound : IsSound p.set) (steps : List Step) (may : MayMerge merges steps p)
    (i : ℕ) (d : Step) (inside : i < length steps) where
  abbrev step : Step
  step = get_or steps i d

  known : (plays : List Playing) → Covers merges p (take i steps) plays → (r : Playing)
      → IsAmong plays r → Known merges step r
  known plays covers r among =
      let over : r.set ≡ p.set = comes_over p (take i steps) r (covers.sound r among) in
      record {
        sound = subst (λ (s : Set). IsSound s) (sym over) sound;
        typable = λ on asks.
            subst (λ (s : Set). IsTypable s) (sym over)
            (may on i step (slice_get-get_or steps i d inside) asks);
      }

  pub covers_next : (plays next : List Playing) → Covers merges p (take i steps) plays
      → Moves merges step plays next → Covers merges p (take (i + 1) steps) next
  covers_next plays next covers moves =
      subst (λ (xs : List Step). Covers merges p xs next) (sym (take_more steps i d inside))
      (covers_on law agreed merges step p (take i steps) plays next covers moves
      (known plays covers))

  stops_in : (more : Bool) (plays : List Playing) (now : Playing)
      → Covers merges p (take i steps) plays → StopsIn more step plays now
      → FailsAt more p steps step now
  stops_in more plays now covers stops =
      subst (λ (xs : List Step). FailsAt more p xs step now) (parted steps i d inside)
      (fails_there more p (take i steps) (drop (i + 1) steps) step stops.play now covers.pass
      (covers.sound stops.play stops.among) stops.fails)

  pub stops_there : (plays : List Playing) (now : Playing) (failed : Option Failure)
      → Covers merges p (take i steps) plays → StopsAt step plays now failed
      → PlaysTo p steps now failed
  stops_there plays now None covers stops = absurd stops
  stops_there plays now (Some failure) covers stops =
      subst (λ (x : Step). FailsAt failure.more p steps x now) (sym stops.0)
      (stops_in failure.more plays now covers stops.1)

  -- whether it stops there
  pub stops_or : (plays next : List Playing) (over : Option Played)
      → Covers merges p (take i steps) plays → Leaves merges step plays next over
      → is_some over ≡ true → LeavesAll merges steps p next over
  stops_or plays next None covers leaves some = cc
  stops_or plays next (Some played) covers leaves some =
      stops_there plays played.now played.failed covers leaves

  pub goes_on_there : (plays next : List Playing) (over : Option Played)
      → Covers merges p (take i steps) plays → Leaves merges step plays next over
      → is_some over ≡ false → Covers merges p (take (i + 1) steps) next
  goes_on_there plays next None covers leaves none = covers_next plays next covers leaves
  goes_on_there plays next (Some played) covers leaves none = cc

-- none is left
pub none_left : {A : Type 0} (xs : List A) → (length xs == 0) ≡ true → xs ≡ []
none_left [] e = refl
none_left (x ∷ xs) e =
    let no : false ≡ true = sym (eqb-suc-zero (length xs)) ∙ e in cc

-- or the first is
pub first_left : (xs : List Playing) (first : Playing) → (length xs == 0) ≡ false
    → first ≡ get_or xs 0 first → slice_get xs 0 ≡ Some first
first_left [] first e is = cc
first_left (x ∷ xs) first e is = ap (λ (y : Playing). Some y) (sym is)

-- the end
none_among : (q : Playing) → IsAmong [] q → ⊥
none_among q among =
    let no : None ≡ Some q = among.there in cc

pub ends_at : (merges : Bool) (p : Playing) (steps : List Step) (plays : List Playing)
    (first : Playing) → Covers merges p steps plays → slice_get plays 0 ≡ Some first
    → PlaysTo p steps first None
ends_at merges p steps plays first covers at =
    (covers.pass, inl (covers.sound first (record { number = 0; there = at })))

pub ends_nowhere : (merges : Bool) (p : Playing) (steps : List Step) (plays : List Playing)
    (now : Playing) → Covers merges p steps plays → plays ≡ [] → PlaysTo p steps now None
ends_nowhere merges p steps plays now covers none = (
  covers.pass,
  inr (λ q comes.
      let has : HasLike merges plays q = covers.all q comes in
      none_among has.like
      (subst (λ (qs : List Playing). IsAmong qs has.like) none has.among)),
)

-- where no step asks for an audit, or the set is accepted
or_first : (a b : Bool) → a ≡ true → a || b ≡ true
or_first true b h = refl
or_first false b h = cc

or_later : (a b : Bool) → b ≡ true → a || b ≡ true
or_later true b h = refl
or_later false b h = h

any_there : (steps : List Step) (k : ℕ) (step : Step) → slice_get steps k ≡ Some step
    → expects_audit step.action ≡ true
    → list_any (λ (s : Step). expects_audit s.action) steps ≡ true
any_there [] k step at asks = cc
any_there (x ∷ steps) zero step at asks =
    let same : x ≡ step = cc in
    or_first (expects_audit x.action) (list_any (λ (s : Step). expects_audit s.action) steps)
    (ap (λ (s : Step). expects_audit s.action) same ∙ asks)
any_there (x ∷ steps) (suc k) step at asks =
    or_later (expects_audit x.action) (list_any (λ (s : Step). expects_audit s.action) steps)
    (any_there steps k step at asks)

pub may_merge : (merges audits : Bool) (steps : List Step) (p : Playing)
    → audits ≡ list_any (λ (s : Step). expects_audit s.action) steps
    → (merges ≡ true → audits ≡ true → IsTypable p.set) → MayMerge merges steps p
may_merge merges audits steps p is may = λ on k step at asks.
    may on (is ∙ any_there steps k step at asks)

-- what has played so, plays as each step does alone where none runs threads together
pub plain_ok : {E : Type 0} (p : Playing) (steps : List Step) (result : Result Played E)
    → IfOk result (Plays p steps) → IfOk result (PlaysPlainly p steps)
plain_ok p steps (Ok play) h = λ plain. plays_plain p steps play.now play.failed h plain
plain_ok p steps (Err e) h = h

-- what is left of several steps
pub played_on : (merges : Bool) (steps : List Step) (p : Playing) (plays : List Playing)
    (over : Option Played) (played : Played) → LeavesAll merges steps p plays over
    → over ≡ Some played → Plays p steps played
played_on merges steps p plays over played leaves is =
    subst (λ (o : Option Played). LeavesAll merges steps p plays o) is leaves

pub covered : (merges : Bool) (steps : List Step) (p : Playing) (plays : List Playing)
    (over : Option Played) → LeavesAll merges steps p plays over → over ≡ None
    → Covers merges p steps plays
covered merges steps p plays over leaves is =
    subst (λ (o : Option Played). LeavesAll merges steps p plays o) is leaves
