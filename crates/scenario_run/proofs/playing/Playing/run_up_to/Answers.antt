use Rattle.std.proofs.Common.{◌<◌, ◌≤◌, ◌-◌, ◌∙◌, inl, inr, rules, subst, sym, Option}
use Rattle.scenario_run.specs.declared.playing.Outcome.{Outcome}
use Rattle.scenario_run.specs.Going.{Ends, Gone}
use Rattle.scenario_run.specs.Playing.{Playing}
use Rattle.scenario_run.proofs.Going.{to_ahead}
use Rattle.scenario_run.proofs.Stepping.{to_end_failed, to_end_waited, to_failed, to_waited}
use Rattle.scenario_run.proofs.playing.Playing.run_up_to.Goals as goal
use Rattle.scenario_run.proofs.playing.Playing.run_up_to.Goals.{in-Some, in-None+else-ends_before+in_ok-outcome-in-None}

pub returns-in-Waits : goal.returns-in-Waits
returns-in-Waits c =
    let t = c.args.thread in
    let until = c.args.until in
    let p : Playing = c.loop-left.self in
    let left = c.loop-left.left in
    let rest = c.in_ok-ahead.ahead.left in
    let q : Playing = c.go_ahead.new.self in
    let some : 0 < rest = search rules in
    let less : rest ≤ left = search rules in
    elim c.match-ahead.branch [
      | in-Some w ↦
          let e : Ends until t p (left - rest) w.in-Some.outcome q =
          subst (λ (o : Option Outcome). Gone until t p (left - rest) o q) w.in-Some.is
          c.in_ok-ahead.ensures.2 in
          rw (w.self-is) (elim c.in-Waits.is [
            | inl is ↦ to_end_waited until t left rest p q some less
                (subst (λ (o : Outcome). Ends until t p (left - rest) o q)
                (sym w.outcome-is ∙ is) e)
            | inr is ↦ to_end_failed until t left rest p q some less
                (subst (λ (o : Outcome). Ends until t p (left - rest) o q)
                (sym w.outcome-is ∙ is) e)
          ])
      | in-None+else-ends_before+in_ok-outcome-in-None w ↦
          let ahead = subst (λ (o : Option Outcome). Gone until t p (left - rest) o q) w.in-None.is
          c.in_ok-ahead.ensures.2 in
          let short = sym w.ends_before.ensures ∙ w.if-ends_before.false in
          rw (w.self-is) (elim c.in-Waits.is [
            | inl is ↦ to_waited t until rest q w.one.new.self some short
                (rw (← sym w.outcome-is ∙ is) w.in_ok-outcome-in-None.ensures)
                ∙ to_ahead until t left rest p q less ahead
            | inr is ↦ to_failed t until rest q w.one.new.self some short
                (rw (← sym w.outcome-is ∙ is) w.in_ok-outcome-in-None.ensures)
                ∙ to_ahead until t left rest p q less ahead
          ])
    ]
    ∙ c.loop-left.invariant
