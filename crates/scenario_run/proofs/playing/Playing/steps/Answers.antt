use Rattle.std.proofs.Common.{◌≡◌, ◌<◌, ◌≤◌, ◌-◌, ◌∙◌, rules, subst, sym, Option}
use Rattle.model.specs.declared.event.Event.TheVariants as event
use Rattle.scenario_world.specs.declared.until.Until.TheVariants.{Never}
use Rattle.scenario_run.specs.declared.playing.Outcome.{Outcome}
use Rattle.scenario_run.specs.Going.{Ends, Gone}
use Rattle.scenario_run.specs.Playing.{Playing, one}
use Rattle.scenario_run.proofs.Going.{steps_ahead}
use Rattle.scenario_run.proofs.Stepping.{steps_end_failed, steps_failed}
use Rattle.scenario_run.proofs.playing.Playing.steps.Goals as goal
use Rattle.scenario_run.proofs.playing.Playing.steps.Goals.{in-Some, in-None+in_ok-outcome-in-None}

pub returns-in-Fails : goal.returns-in-Fails
returns-in-Fails c =
    let t = c.args.thread in
    let p : Playing = c.loop-left.self in
    let left = c.loop-left.left in
    let rest = c.in_ok-ahead.ahead.left in
    let q : Playing = c.match-ahead.self in
    let some : 0 < rest = search rules in
    let less : rest ≤ left = search rules in
    elim c.match-ahead.branch [
      | in-Some w ↦ steps_end_failed Never t left rest p q some less
          (subst (λ (o : Outcome). Ends Never t p (left - rest) o q) (sym w.outcome-is ∙ c.in-Fails.is)
          (subst (λ (s : Playing). Ends Never t p (left - rest) w.in-Some.outcome s) (sym w.self-is)
          (subst (λ (o : Option Outcome). Gone Never t p (left - rest) o c.go_ahead.new.self) w.in-Some.is
          c.in_ok-ahead.ensures.2)))
      | in-None+in_ok-outcome-in-None w ↦ steps_failed t rest c.go_ahead.new.self q some
          (subst (λ (o : Outcome).
          record { now = q; outcome = o } ≡ one c.go_ahead.new.self (event.Step t))
          (sym w.outcome-is ∙ c.in-Fails.is)
          (subst (λ (s : Playing). record { now = s; outcome = w.in_ok-outcome-in-None.outcome }
          ≡ one c.go_ahead.new.self (event.Step t)) (sym w.self-is) w.in_ok-outcome-in-None.ensures))
          ∙ steps_ahead Never t left rest p c.go_ahead.new.self less
          (subst (λ (o : Option Outcome). Gone Never t p (left - rest) o c.go_ahead.new.self) w.in-None.is
          c.in_ok-ahead.ensures.2)
    ]
    ∙ c.loop-left.invariant
