use Rattle.std.proofs.Common.{◌<◌, ◌≤◌, ◌-◌, ◌∙◌, refl, rules, subst, sym, Option}
use Rattle.scenario_world.specs.declared.until.Until.TheVariants.{Never}
use Rattle.scenario_run.specs.declared.playing.Outcome.{Outcome}
use Rattle.scenario_run.specs.Going.{Ends, Gone}
use Rattle.scenario_run.specs.Playing.{Playing}
use Rattle.scenario_run.proofs.Stepping.{run_end_failed, run_end_waited}
use Rattle.scenario_run.proofs.playing.Playing.run_on.Goals as goal
use Rattle.scenario_run.proofs.playing.Playing.run_on.Goals.{in-Some, in-None+else-not-is_busy_at+in_ok-outcome-in-None}

pub returns-in-Waits : goal.returns-in-Waits
returns-in-Waits c =
    let t = c.args.thread in
    let p : Playing = c.loop-left.self in
    let left = c.loop-left.left in
    let rest = c.in_ok-ahead.ahead.left in
    let q : Playing = c.match-ahead.self in
    let some : 0 < rest = search rules in
    let less : rest ≤ left = search rules in
    let e : Ends Never t p (left - rest) c.match-ahead.outcome q =
    elim c.match-ahead.branch [
      | in-Some w ↦ subst (λ (o : Outcome). Ends Never t p (left - rest) o q) (sym w.outcome-is)
          (subst (λ (s : Playing). Ends Never t p (left - rest) w.in-Some.outcome s) (sym w.self-is)
          (subst (λ (o : Option Outcome). Gone Never t p (left - rest) o c.go_ahead.new.self) w.in-Some.is
          c.in_ok-ahead.ensures.2))
      | in-None+else-not-is_busy_at+in_ok-outcome-in-None w ↦ subst
          (λ (o : Outcome). Ends Never t p (left - rest) o q) (sym w.outcome-is)
          (subst (λ (s : Playing). Ends Never t p (left - rest) w.in_ok-outcome-in-None.outcome s)
          (sym w.self-is) (record {
            before = c.go_ahead.new.self;
            ahead =
                subst (λ (o : Option Outcome). Gone Never t p (left - rest) o c.go_ahead.new.self)
                w.in-None.is c.in_ok-ahead.ensures.2;
            may = record { busy = search rules; short = refl };
            ends = w.in_ok-outcome-in-None.ensures;
          }))
    ] in
    run_end_waited Never t left rest p q some less
    (subst (λ (o : Outcome). Ends Never t p (left - rest) o q) c.in-Waits.is e)
    ∙ c.loop-left.invariant

pub returns-in-Fails : goal.returns-in-Fails
returns-in-Fails c =
    let t = c.args.thread in
    let p : Playing = c.loop-left.self in
    let left = c.loop-left.left in
    let rest = c.in_ok-ahead.ahead.left in
    let q : Playing = c.match-ahead.self in
    let some : 0 < rest = search rules in
    let less : rest ≤ left = search rules in
    let e : Ends Never t p (left - rest) c.match-ahead.outcome q =
    elim c.match-ahead.branch [
      | in-Some w ↦ subst (λ (o : Outcome). Ends Never t p (left - rest) o q) (sym w.outcome-is)
          (subst (λ (s : Playing). Ends Never t p (left - rest) w.in-Some.outcome s) (sym w.self-is)
          (subst (λ (o : Option Outcome). Gone Never t p (left - rest) o c.go_ahead.new.self) w.in-Some.is
          c.in_ok-ahead.ensures.2))
      | in-None+else-not-is_busy_at+in_ok-outcome-in-None w ↦ subst
          (λ (o : Outcome). Ends Never t p (left - rest) o q) (sym w.outcome-is)
          (subst (λ (s : Playing). Ends Never t p (left - rest) w.in_ok-outcome-in-None.outcome s)
          (sym w.self-is) (record {
            before = c.go_ahead.new.self;
            ahead =
                subst (λ (o : Option Outcome). Gone Never t p (left - rest) o c.go_ahead.new.self)
                w.in-None.is c.in_ok-ahead.ensures.2;
            may = record { busy = search rules; short = refl };
            ends = w.in_ok-outcome-in-None.ensures;
          }))
    ] in
    run_end_failed Never t left rest p q some less
    (subst (λ (o : Outcome). Ends Never t p (left - rest) o q) c.in-Fails.is e)
    ∙ c.loop-left.invariant
