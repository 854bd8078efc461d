-- Steps that expect a verdict, where it is known what that found, or doesn't matter.
use Rattle.std.proofs.Common.{◌≡◌, ◌∙◌, Bool, true, false, List, [], ◌∷◌, ◌⊎◌, inl, inr, Option, None, Some, Result, Ok, Err, IfOk, IfErr, ap, refl, subst, sym}
use Rattle.std.specs.Prelude.{◌≢◌}
use Rattle.std.specs.List.{list_any}
use Rattle.model.specs.declared.abs.Refusal.{Refusal}
use Rattle.model.specs.declared.abs.Rule.{Rule}
use Rattle.model.specs.Set.{Set}
use Rattle.model.specs.Typable.{IsFirstFault, IsTypable, at_start}
use Rattle.scenario_expected.specs.declared.expectation.Expectation.{Expectation}
use Rattle.scenario_expected.specs.declared.expectation.Expectation.TheVariants.{Clean, Bug, Packet, Thread, Device, Lock, Listed, Verdict, Judged}
use Rattle.scenario_run.specs.Playing.{Playing}
use Rattle.scenario_steps.specs.declared.scenario.Action.{Action}
use Rattle.scenario_steps.specs.declared.scenario.Action.TheVariants.{Issue, Cancel, Interrupt, Dpc, StartIo, Steps, Run, RunTo, RunToRelease, RunAll, Together, Expect}
use Rattle.scenario_steps.specs.declared.scenario.Step.{Step}
use Rattle.scenario_steps.specs.Judging.{expects_verdict, is_of_verdict, judged, judged_action, judged_step}
use Rattle.scenario_together.specs.declared.play.Played.{Played}
use Rattle.scenario_together.specs.Plays.{Plays, PlaysTo}
use Rattle.verifier.proofs.FirstRules.{neither}
use Rattle.answer_scenarios.specs.Scenarios.{IsFound, PlaysJudged}

-- what expects no verdict stays the same
expectation_same : (found : Option Refusal) (e : Expectation) → is_of_verdict (Expect e) ≡ false
    → judged_action found (Expect e) ≡ Expect e
expectation_same found Clean plain = refl
expectation_same found (Bug number) plain = refl
expectation_same found (Packet packet state) plain = refl
expectation_same found (Thread t state) plain = refl
expectation_same found (Device d state) plain = refl
expectation_same found (Lock lock owner) plain = refl
expectation_same found (Listed d list packets) plain = refl
expectation_same found (Verdict expected) plain = let no : ⊥ = cc in absurd no
expectation_same found (Judged expected its) plain = refl

action_same : (found : Option Refusal) (action : Action) → is_of_verdict action ≡ false
    → judged_action found action ≡ action
action_same found (Issue t d major argument) plain = refl
action_same found (Cancel t packet level) plain = refl
action_same found (Interrupt d) plain = refl
action_same found (Dpc t d) plain = refl
action_same found (StartIo t d) plain = refl
action_same found (Steps t count) plain = refl
action_same found (Run t) plain = refl
action_same found (RunTo t spot) plain = refl
action_same found (RunToRelease t lock) plain = refl
action_same found RunAll plain = refl
action_same found (Together threads worlds) plain = refl
action_same found (Expect e) plain = expectation_same found e plain

steps_same : (found : Option Refusal) (steps : List Step) → list_any expects_verdict steps ≡ false
    → judged found steps ≡ steps
steps_same found [] none = refl
steps_same found (step ∷ steps) none =
    let both = neither (expects_verdict step) (list_any expects_verdict steps) none in
    let here : judged_step found step ≡ step =
    ap (λ (action : Action). record step { action = action })
    (action_same found step.action both.0) in
    ap (λ (first : Step). first ∷ judged found steps) here
    ∙ ap (λ (rest : List Step). step ∷ rest) (steps_same found steps both.1)

never : {A : Type 0} (b : Bool) → b ≡ false → b ≡ true → A
never b is isnt = let not : ⊥ = cc in absurd not

-- how they play where none expects a verdict
pub none_judged : {E : Type 0} (p : Playing) (steps : List Step) (result : Result Played E)
    → list_any expects_verdict steps ≡ false → IfOk result (Plays p steps)
    → IfOk result (λ played. PlaysJudged p steps played.now played.failed)
none_judged p steps (Ok played) none plays =
    record {
      found = None;
      verdict = λ some. never (list_any expects_verdict steps) none some;
      plays =
          subst (λ (all : List Step). PlaysTo p all played.now played.failed)
          (sym (steps_same None steps none)) plays;
    }
none_judged p steps (Err e) none plays = plays

-- and where it is known what the verdict found
pub found_judged : {E : Type 0} (p : Playing) (steps known : List Step) (found : Option Refusal)
    (result : Result Played E) → IsFound p.set found → known ≡ judged found steps
    → IfOk result (Plays p known)
    → IfOk result (λ played. PlaysJudged p steps played.now played.failed)
found_judged p steps known found (Ok played) is same plays =
    record {
      found = found;
      verdict = λ some. is;
      plays =
          subst (λ (all : List Step). PlaysTo p all played.now played.failed) same plays;
    }
found_judged p steps known found (Err e) is same plays = plays

-- a refusal is the first fault, where it isn't for want of memory
pub fault_found : {E : Type 0} (set : Set) (refusal : Refusal) (result : Result (Option Refusal) E)
    → (refusal ≡ at_start Rule.Memory) ⊎ IsFirstFault set refusal
    → IfOk result (λ found. (refusal.rule ≢ Rule.Memory) × (found ≡ Some refusal))
    → IfOk result (IsFound set)
fault_found set refusal (Ok found) (inl e) h = absurd (h.0 (ap (λ (r : Refusal). r.rule) e))
fault_found set refusal (Ok found) (inr first) h =
    subst (λ (o : Option Refusal). IsFound set o) (sym h.1) first
fault_found set refusal (Err e) is h = h
