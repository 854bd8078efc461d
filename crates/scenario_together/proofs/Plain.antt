-- Where no threads run together, steps play one after another, each with what it does alone.
use Rattle.std.proofs.Common.{◌≡◌, ◌∙◌, ◌++◌, Bool, true, false, List, [], ◌∷◌, Option, None, Some, ap, inl, inr, is_some, refl, subst, sym, if◌then◌else◌}
use Rattle.std.proofs.lemmas.Bool.{or_parts}
use Rattle.std.specs.Prelude.{option_map}
use Rattle.std.specs.List.{list_any}
use Rattle.scenario_run.specs.Acting.{Played, acted, passes, played}
use Rattle.scenario_run.specs.Playing.{Playing, Went}
use Rattle.scenario_steps.specs.Steps.{is_of, together_of}
use Rattle.scenario_steps.specs.declared.scenario.Step.{Step}
use Rattle.scenario_steps.specs.declared.steps.Kind.TheVariants.{Together as TogetherKind}
use Rattle.scenario_together.specs.declared.play.Failure.{Failure}
use Rattle.scenario_together.specs.Plays.{AllPass, ArePlain, Comes, ComesIf, FailsAt, FailsBy, FailsSo, Leads, LeadsBy, MeetsBy, PassesBy, PlaysTo}

-- how a step plays, and those behind it
abbrev Behind : Step → List Step → Went → Bool → Played
Behind step steps w on =
    if on then played w.now steps else record { now = w.now; failed = Some step }

module _ (p : Playing) (step : Step) (alone : together_of step.action ≡ None) where
  abbrev here : Went
  here = acted p step.action

  there : (q : Playing) → Leads p step q → q ≡ here.now
  there q leads =
      let by : LeadsBy p step None q =
      subst (λ (o : Option (List Bool)). LeadsBy p step o q) alone leads in
      by.1

  passed : (q : Playing) → Leads p step q → passes step.may here.outcome ≡ true
  passed q leads =
      let by : LeadsBy p step None q =
      subst (λ (o : Option (List Bool)). LeadsBy p step o q) alone leads in
      by.0

  leads_on : passes step.may here.outcome ≡ true → Leads p step here.now
  leads_on on =
      subst (λ (o : Option (List Bool)). LeadsBy p step o here.now) (sym alone) (on, refl)

  comes_on : (steps : List Step) (now : Playing) → passes step.may here.outcome ≡ true
      → ComesIf p (step ∷ steps) now → ComesIf here.now steps now
  comes_on steps now on (inl comes) =
      inl (subst (λ (x : Playing). Comes x steps now) (there comes.0 comes.1) comes.2)
  comes_on steps now on (inr none) =
      inr (λ q comes. none q (here.now, leads_on on, comes))

  fails_here : (more : Bool) (steps : List Step) (now : Playing) → FailsSo more p step now
      → record { now = now; failed = Some step } ≡ played p (step ∷ steps)
  fails_here true steps now fails =
      absurd (subst (λ (o : Option (List Bool)). MeetsBy p step o now) alone fails)
  fails_here false steps now fails =
      let by : FailsBy p step None now =
      subst (λ (o : Option (List Bool)). FailsBy p step o now) alone fails in
      let left : Playing → Played = λ q. record { now = q; failed = Some step } in
      ap left by.1 ∙ ap (λ (b : Bool). Behind step steps here b) (sym by.0)

all_plain : (p : Playing) (steps : List Step) (now : Playing) → ArePlain steps → AllPass p steps
    → ComesIf p steps now → record { now = now; failed = None } ≡ played p steps
all_plain p [] now plain all (inl comes) =
    let left : Playing → Played = λ q. record { now = q; failed = None } in ap left comes
all_plain p [] now plain all (inr none) = absurd (none p refl)
all_plain p (step ∷ steps) now plain all comes =
    let w : Went = acted p step.action in
    let on : passes step.may w.outcome ≡ true =
    subst (λ (o : Option (List Bool)). PassesBy p step o) plain.0 all.0 in
    all_plain w.now steps now plain.1 (all.1 w.now (leads_on p step plain.0 on))
    (comes_on p step plain.0 steps now on comes)
    ∙ ap (λ (b : Bool). Behind step steps w b) (sym on)

fails_behind : (more : Bool) (p : Playing) (before later : List Step) (failed : Step)
    (q now : Playing) → ArePlain (before ++ failed ∷ later) → Comes p before q
    → FailsSo more q failed now
    → record { now = now; failed = Some failed } ≡ played p (before ++ failed ∷ later)
fails_behind more p [] later failed q now plain comes fails =
    fails_here p failed plain.0 more later now
    (subst (λ (x : Playing). FailsSo more x failed now) comes fails)
fails_behind more p (step ∷ before) later failed q now plain comes fails =
    let w : Went = acted p step.action in
    fails_behind more w.now before later failed q now plain.1
    (subst (λ (x : Playing). Comes x before q) (there p step plain.0 comes.0 comes.1) comes.2)
    fails
    ∙ ap (λ (b : Bool). Behind step (before ++ failed ∷ later) w b)
    (sym (passed p step plain.0 comes.0 comes.1))

fails_plain : (more : Bool) (p : Playing) (steps : List Step) (failed : Step) (now : Playing)
    → ArePlain steps → FailsAt more p steps failed now
    → record { now = now; failed = Some failed } ≡ played p steps
fails_plain more p steps failed now plain fails =
    fails_behind more p fails.before fails.later failed fails.play now
    (subst (λ (all : List Step). ArePlain all) fails.parts plain) fails.comes fails.fails
    ∙ ap (λ (all : List Step). played p all) (sym fails.parts)

pub plays_plain : (p : Playing) (steps : List Step) (now : Playing) (failed : Option Failure)
    → PlaysTo p steps now failed → ArePlain steps
    → record { now = now; failed = option_map (λ (f : Failure). f.step) failed } ≡ played p steps
plays_plain p steps now None plays plain = all_plain p steps now plain plays.0 plays.1
plays_plain p steps now (Some failure) plays plain =
    fails_plain failure.more p steps failure.step now plain plays

-- and what steps play to that run no threads together is right
abbrev failure_of : Option Step → Option Failure
failure_of failed = option_map (λ (s : Step). record { step = s; more = false }) failed

module _ (p : Playing) (step : Step) (alone : together_of step.action ≡ None) where
  passes_here : passes step.may (acted p step.action).outcome ≡ true
      → PassesBy p step (together_of step.action)
  passes_here on = subst (λ (o : Option (List Bool)). PassesBy p step o) (sym alone) on

  fails_so : passes step.may (acted p step.action).outcome ≡ false
      → FailsSo false p step (acted p step.action).now
  fails_so off =
      subst (λ (o : Option (List Bool)). FailsBy p step o (acted p step.action).now) (sym alone)
      (off, refl)

  on_behind : (steps : List Step) (now : Playing) (failed : Option Step)
      → passes step.may (acted p step.action).outcome ≡ true
      → PlaysTo (acted p step.action).now steps now (failure_of failed)
      → PlaysTo p (step ∷ steps) now (failure_of failed)
  on_behind steps now None on (all, inl comes) = (
    (
      passes_here on,
      λ q leads. subst (λ (x : Playing). AllPass x steps) (sym (there p step alone q leads)) all,
    ),
    inl ((acted p step.action).now, leads_on p step alone on, comes),
  )
  on_behind steps now None on (all, inr none) = (
    (
      passes_here on,
      λ q leads. subst (λ (x : Playing). AllPass x steps) (sym (there p step alone q leads)) all,
    ),
    inr (λ q comes.
        none q
        (subst (λ (x : Playing). Comes x steps q) (there p step alone comes.0 comes.1) comes.2)),
  )
  on_behind steps now (Some failed) on fails =
      record {
        before = step ∷ fails.before;
        later = fails.later;
        parts = ap (λ (all : List Step). step ∷ all) fails.parts;
        pass = (
          passes_here on,
          λ q leads.
              subst (λ (x : Playing). AllPass x fails.before) (sym (there p step alone q leads))
              fails.pass,
        );
        play = fails.play;
        comes = ((acted p step.action).now, leads_on p step alone on, fails.comes);
        fails = fails.fails;
      }

  by_outcome : (steps : List Step) (b : Bool)
      → passes step.may (acted p step.action).outcome ≡ b
      → PlaysTo (acted p step.action).now steps (played (acted p step.action).now steps).now
      (failure_of (played (acted p step.action).now steps).failed)
      → PlaysTo p (step ∷ steps) (Behind step steps (acted p step.action) b).now
      (failure_of (Behind step steps (acted p step.action) b).failed)
  by_outcome steps true on later =
      on_behind steps (played (acted p step.action).now steps).now
      (played (acted p step.action).now steps).failed on later
  by_outcome steps false off later =
      record {
        before = [];
        later = steps;
        parts = refl;
        pass = tt;
        play = p;
        comes = refl;
        fails = fails_so off;
      }

played_plays : (p : Playing) (steps : List Step) → ArePlain steps
    → PlaysTo p steps (played p steps).now (failure_of (played p steps).failed)
played_plays p [] plain = (tt, inl refl)
played_plays p (step ∷ steps) plain =
    by_outcome p step plain.0 steps (passes step.may (acted p step.action).outcome) refl
    (played_plays (acted p step.action).now steps plain.1)

pub plain_plays : (p : Playing) (steps : List Step) (now : Playing) (failed : Option Step)
    → ArePlain steps → record { now = now; failed = failed } ≡ played p steps
    → PlaysTo p steps now (failure_of failed)
plain_plays p steps now failed plain is =
    subst (λ (d : Played). PlaysTo p steps d.now (failure_of d.failed)) (sym is)
    (played_plays p steps plain)

-- none of some steps does
alone_if : (found : Option (List Bool)) → is_some found ≡ false → found ≡ None
alone_if None h = refl
alone_if (Some named) h = cc

pub all_alone : (steps : List Step) → list_any (is_of TogetherKind) steps ≡ false → ArePlain steps
all_alone [] none = tt
all_alone (step ∷ steps) none =
    let both = or_parts (is_some (together_of step.action)) (list_any (is_of TogetherKind) steps) none in
    (alone_if (together_of step.action) both.0, all_alone steps both.1)
