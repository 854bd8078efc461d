-- A scenario whose last step fails.
use Rattle.std.proofs.Common.{◌≡◌, ◌∙◌, ℕ, Bool, true, false, List, [], ◌∷◌, ◌++◌, Option, None, Some, Result, Ok, Err, IfOk, IsTrue, ap, if◌then◌else◌, refl, subst, sym}
use Rattle.std.specs.Prelude.{IfSome, is_some}
use Rattle.std.specs.Global.{Vec}
use Rattle.interleave.specs.declared.schedule.Schedule.{Schedule}
use Rattle.interleave.specs.Listing.{Lists}
use Rattle.model.specs.declared.event.Event.{Event}
use Rattle.model.specs.Set.{Set}
use Rattle.scenario_run.specs.Acting.{Played, acted, passes, played}
use Rattle.scenario_run.specs.Playing.{Playing, begun}
use Rattle.scenario_steps.specs.declared.scenario.Step.{Step}
use Rattle.scenario_text.specs.Listing.{Listed, scenario_in}
use Rattle.scenario_names.specs.Names.{Named}
use Rattle.answer_scenarios.specs.Finding.{ComesAmiss, FailsAtLast, FailsFor, FailsFound, IsAmiss}
use Rattle.answer_scenarios.specs.Scenarios.{play_of}

some_none : {A : Type 0} {B : Type 0} (a : A) → Some a ≡ None → B
some_none a e = let no : ⊥ = cc in absurd no

-- how a step plays with those behind it, where it passes or fails
abbrev Chosen : Playing → Step → List Step → Bool → Played
Chosen q x rest b = if b then played q rest else record { now = q; failed = Some x }

chosen_on : (q end : Playing) (x : Step) (before rest : List Step) (b : Bool)
    → (played q before ≡ record { now = end; failed = None }
    → played q (before ++ rest) ≡ played end rest)
    → Chosen q x before b ≡ record { now = end; failed = None }
    → Chosen q x (before ++ rest) b ≡ played end rest
chosen_on q end x before rest true later e = later e
chosen_on q end x before rest false later e = some_none x (ap (λ (r : Played). r.failed) e)

-- steps behind some of which none fails
played_behind : (p q : Playing) (before rest : List Step)
    → played p before ≡ record { now = q; failed = None }
    → played p (before ++ rest) ≡ played q rest
played_behind p q [] rest e = ap (λ (r : Played). played r.now rest) e
played_behind p q (x ∷ before) rest e =
    let w = acted p x.action in
    chosen_on w.now q x before rest (passes x.may w.outcome) (played_behind w.now q before rest) e

-- a step that expects that nothing is amiss, where something is
amiss_fails : (p : Playing) (step : Step) → IsAmiss p step
    → played p (step ∷ []) ≡ record { now = p; failed = Some step }
amiss_fails p step h = rw (h.expects, h.must, h.fails) refl

fails_last : (set : Set) (threads : ℕ) (events : List Event) (scenario : Listed)
    (before : List Step) (last : Step) → scenario.threads ≡ threads
    → scenario.steps ≡ before ++ last ∷ [] → ComesAmiss (begun set threads) before events last
    → FailsAtLast set threads events scenario
fails_last set threads events scenario before last many steps comes =
    let start : Playing = begun set threads in
    let whole : play_of set scenario ≡ record { now = comes.now; failed = Some last } =
    ap (λ (k : ℕ). played (begun set k) scenario.steps) many
    ∙ ap (λ (all : List Step). played start all) steps
    ∙ played_behind start comes.now before (last ∷ []) comes.plays
    ∙ amiss_fails comes.now last comes.amiss in
    record {
      before = before;
      last = last;
      threads_are = many;
      steps = steps;
      expects = comes.amiss.expects;
      fails = ap (λ (r : Played). r.failed) whole;
      happens = ap (λ (r : Played). r.now.events) whole ∙ comes.happens;
    }

-- and where it is looked for
pub fails_if : {E : Type 0} (set : Set) (threads : ℕ) (events : List Event) (scenario : Listed)
    (before : List Step) (last : Step) (result : Result Bool E) → scenario.threads ≡ threads
    → scenario.steps ≡ before ++ last ∷ []
    → IfOk result (λ amiss. IsTrue amiss → ComesAmiss (begun set threads) before events last)
    → IfOk result (λ fails. IsTrue fails → FailsAtLast set threads events scenario)
fails_if set threads events scenario before last (Ok amiss) many steps h = λ yes.
    fails_last set threads events scenario before last many steps (h yes)
fails_if set threads events scenario before last (Err e) many steps h = h

pub comes_if : {E : Type 0} (start now : Playing) (steps : List Step) (events : List Event)
    (last : Step) (result : Result Bool E)
    → record { now = now; failed = None } ≡ played start steps → now.events ≡ events
    → IfOk result (λ amiss. IsTrue amiss → IsAmiss now last)
    → IfOk result (λ comes. IsTrue comes → ComesAmiss start steps events last)
comes_if start now steps events last (Ok amiss) plays happens h = λ yes.
    record { now = now; plays = sym plays; happens = happens; amiss = h yes }
comes_if start now steps events last (Err e) plays happens h = h

pub begins_if : {E : Type 0} (begin start : Playing) (steps : List Step) (events : List Event)
    (last : Step) (result : Result Bool E) → start ≡ begin
    → IfOk result (λ comes. IsTrue comes → ComesAmiss start steps events last)
    → IfOk result (λ comes. IsTrue comes → ComesAmiss begin steps events last)
begins_if begin start steps events last result is h =
    subst (λ (p : Playing). IfOk result (λ comes. IsTrue comes → ComesAmiss p steps events last)) is h

-- where a text lists the scenario
pub reads_so : {E : Type 0} (names : Named) (set : Set) (threads : ℕ) (events : List Event)
    (text : List ℕ) (scenario : Listed) (result : Result Bool E)
    → scenario_in names text ≡ Ok scenario
    → IfOk result (λ fails. IsTrue fails → FailsAtLast set threads events scenario)
    → IfOk result (λ fails. IsTrue fails → FailsFor names set threads events text)
reads_so names set threads events text scenario (Ok fails) is h = λ yes. (scenario, is, h yes)
reads_so names set threads events text scenario (Err e) is h = h

-- where another text lists the run
pub found_so : {E : Type 0} (names : Named) (set : Set) (found : List ℕ) (schedule : Schedule)
    (result : Result (Option (Vec ℕ)) E) → Lists found schedule
    → IfOk result (λ text. IfSome text (λ t. FailsFor names set schedule.threads schedule.events t.items))
    → IfOk result (λ text. IfSome text (λ t. FailsFound names set found t.items))
found_so names set found schedule (Ok (Some text)) lists h = (schedule, lists, h)
found_so names set found schedule (Ok None) lists h = h
found_so names set found schedule (Err e) lists h = h

-- none of some steps has failed
pub none_failed : (q : Playing) (failed : Option Step) (played_so : Played)
    → record { now = q; failed = failed } ≡ played_so → is_some failed ≡ false
    → record { now = q; failed = None } ≡ played_so
none_failed q None played_so e fine = e
none_failed q (Some step) played_so e fine = let never : true ≡ false = fine in cc
