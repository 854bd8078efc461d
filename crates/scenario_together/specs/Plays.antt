-- A scenario whose steps may run threads in every interleaving: what it leads to, and whether all
-- holds in it.
use Rattle.std.specs.Prelude.{ℕ, ◌≡◌, ◌≤◌, ◌<◌, ◌++◌, ◌⊎◌, ⊤, Bool, true, false, List, [], ◌∷◌, Option, None, Some, option_map}
use Rattle.scenario_run.specs.Acting.{acted, passes, played}
use Rattle.scenario_run.specs.Playing.{Playing}
use Rattle.scenario_steps.specs.Steps.{together_of}
use Rattle.scenario_steps.specs.declared.scenario.Action.{Action}
use Rattle.scenario_steps.specs.declared.scenario.Action.TheVariants.{Together as TogetherAction}
use Rattle.scenario_steps.specs.declared.scenario.Step.{Step}
use Rattle.scenario_together.specs.Interleaving.{AreMany, IsEnd, MeetFew, behind, is_named}
use Rattle.scenario_together.specs.Together.{GoWell, IsFailing}
use Rattle.scenario_together.specs.declared.play.Failure.{Failure}
use Rattle.scenario_together.specs.declared.play.Played.{Played}

-- a step leads from one play to another: to what it does, or to the end of each interleaving
abbrev pub LeadsBy : Playing → Step → Option (List Bool) → Playing → Type 0
LeadsBy p step None q =
    (passes step.may (acted p step.action).outcome ≡ true) × (q ≡ (acted p step.action).now)
LeadsBy p step (Some named) q = (path : List ℕ) × IsEnd named p path × (q ≡ behind p path)

abbrev pub Leads : Playing → Step → Playing → Type 0
Leads p step q = LeadsBy p step (together_of step.action) q

-- so do steps, one after another
abbrev pub Comes : Playing → List Step → Playing → Type 0
Comes p [] q = q ≡ p
Comes p (step ∷ steps) q = (r : Playing) × Leads p step r × Comes r steps q

-- how many worlds a step allows
abbrev pub worlds_of : Action → ℕ
worlds_of (TogetherAction threads worlds) = worlds
worlds_of action = 0

-- all threads that a step names are there
abbrev pub AreThere : List Bool → Playing → Type 0
AreThere named p = (t : ℕ) → is_named named t ≡ true → t < p.threads

-- a step passes: what it does doesn't fail; or no step of any interleaving does, and they lead to
-- no more worlds than it allows
abbrev pub PassesBy : Playing → Step → Option (List Bool) → Type 0
PassesBy p step None = passes step.may (acted p step.action).outcome ≡ true
PassesBy p step (Some named) =
    AreThere named p × GoWell named p × MeetFew named (worlds_of step.action) p

abbrev pub Passes : Playing → Step → Type 0
Passes p step = PassesBy p step (together_of step.action)

-- all steps pass: the first does, and whatever it leads to, the others do from there
abbrev pub AllPass : Playing → List Step → Type 0
AllPass p [] = ⊤
AllPass p (step ∷ steps) =
    Passes p step × ((q : Playing) → Leads p step q → AllPass q steps)

-- a step fails in a play, and leaves another: what it does fails, or a step of an interleaving
-- does, or a thread that it names isn't there
abbrev pub IsMissing : List Bool → Playing → Type 0
IsMissing named p = (t : ℕ) × (is_named named t ≡ true) × (p.threads ≤ t)

abbrev pub FailsBy : Playing → Step → Option (List Bool) → Playing → Type 0
FailsBy p step None q =
    (passes step.may (acted p step.action).outcome ≡ false) × (q ≡ (acted p step.action).now)
FailsBy p step (Some named) q = IsFailing named p q ⊎ (IsMissing named p × (q ≡ p))

abbrev pub Fails : Playing → Step → Playing → Type 0
Fails p step q = FailsBy p step (together_of step.action) q

-- or there are more interleavings than the worlds that it allows, and the play is left as it was. As
-- some may lead to one world, there needn't be more worlds
abbrev pub MeetsBy : Playing → Step → Option (List Bool) → Playing → Type 0
MeetsBy p step None q = ⊥
MeetsBy p step (Some named) q = AreMany named (worlds_of step.action) p × (q ≡ p)

abbrev pub MeetsMore : Playing → Step → Playing → Type 0
MeetsMore p step q = MeetsBy p step (together_of step.action) q

abbrev pub FailsSo : Bool → Playing → Step → Playing → Type 0
FailsSo true p step q = MeetsMore p step q
FailsSo false p step q = Fails p step q

-- the first of the steps that fails: all before it pass, whatever those before them led to, and it
-- fails so in a play to which they lead
pub record FailsAt (more : Bool) (p : Playing) (steps : List Step) (failed : Step) (now : Playing)
    : Type 0 where
  pub before : List Step
  pub later : List Step
  pub parts : steps ≡ before ++ failed ∷ later
  pub pass : AllPass p before
  pub play : Playing
  pub comes : Comes p before play
  pub fails : FailsSo more play failed now

-- they lead there, if they lead anywhere
abbrev pub ComesIf : Playing → List Step → Playing → Type 0
ComesIf p steps now = Comes p steps now ⊎ ((q : Playing) → Comes p steps q → ⊥)

-- how a scenario has played: all steps pass, and lead there; or the first that fails does
abbrev pub PlaysTo : Playing → List Step → Playing → Option Failure → Type 0
PlaysTo p steps now None = AllPass p steps × ComesIf p steps now
PlaysTo p steps now (Some failure) = FailsAt failure.more p steps failure.step now

abbrev pub Plays : Playing → List Step → Played → Type 0
Plays p steps play = PlaysTo p steps play.now play.failed

-- no step runs threads together: then it plays as steps do of which each leads to one play
abbrev pub ArePlain : List Step → Type 0
ArePlain [] = ⊤
ArePlain (step ∷ steps) = (together_of step.action ≡ None) × ArePlain steps

abbrev pub PlaysPlainly : Playing → List Step → Played → Type 0
PlaysPlainly p steps play =
    ArePlain steps
    → record { now = play.now; failed = option_map (λ (f : Failure). f.step) play.failed }
    ≡ played p steps
