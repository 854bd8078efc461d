use Rattle.std.proofs.Common.{◌≡◌, ◌≢◌, ◌≤◌, ◌-◌, Option, rules, subst, sym, ℕ}
use Rattle.model.specs.Set.{Set}
use Rattle.model.specs.World.{World}
use Rattle.scenario_world.specs.Until.{StaysLone}
use Rattle.scenario_run.specs.declared.playing.Outcome.{Outcome}
use Rattle.scenario_run.specs.declared.playing.Outcome.TheVariants.{Fails}
use Rattle.scenario_run.specs.declared.turns.Progress.{Progress}
use Rattle.scenario_run.specs.Going.{Gone}
use Rattle.scenario_run.specs.Playing.{Playing, world_of}
use Rattle.scenario_run.specs.Turns.{AreRounds, after_round}
use Rattle.scenario_run.proofs.Turning.{lone_fails, lone_left, lone_round_of_all, lone_turned}
use Rattle.scenario_run.proofs.turns.lone_rounds.Goals as goal
use Rattle.scenario_run.proofs.turns.lone_rounds.Goals.{in-Some-Fails, in-Some-Done+in_ok-outcome-in-Some-Done, in-None-2+in_ok-outcome-in-None-2}

pub returns-in-None : goal.returns-in-None
returns-in-None c =
    let p : Playing = c.args.playing.now in
    let t = c.args.thread in
    let rest = c.in_ok-ahead.ahead.left in
    let q : Playing = c.go_ahead.new.self in
    let until = c.lone_until-until.result in
    let seen : World = c.machine.result.now.world in
    let lone : StaysLone until p.set (world_of p) t p.threads =
    subst (λ (s : Set). StaysLone until s (world_of p) t p.threads) c.machine.ensures.set
    (subst (λ (w : World). StaysLone until c.machine.result.now.set w t p.threads)
    c.machine.ensures.world
    (subst (λ (n : ℕ). StaysLone until c.machine.result.now.set seen t n)
    c.threads.ensures.threads c.lone_until-until.ensures.stays)) in
    lone_left until p t c.args.most rest c.requires.lone lone c.in_ok-ahead.ensures.0 q
    (subst (λ (o : Option Outcome). Gone until t p (c.args.most - rest) o q) c.in-None.is
    c.in_ok-ahead.ensures.2)
    (search rules)

pub returns : goal.returns
returns c =
    let p : Playing = c.args.playing.now in
    let t = c.args.thread in
    let most = c.args.most in
    let rest = c.in_ok-ahead.ahead.left in
    let q : Playing = c.go_ahead.new.self in
    let o : Playing = c.match-ahead.playing in
    let less : rest ≤ most = c.in_ok-ahead.ensures.0 in
    let until = c.lone_until-until.result in
    let seen : World = c.machine.result.now.world in
    let lone : StaysLone until p.set (world_of p) t p.threads =
    subst (λ (s : Set). StaysLone until s (world_of p) t p.threads) c.machine.ensures.set
    (subst (λ (w : World). StaysLone until c.machine.result.now.set w t p.threads)
    c.machine.ensures.world
    (subst (λ (n : ℕ). StaysLone until c.machine.result.now.set seen t n)
    c.threads.ensures.threads c.lone_until-until.ensures.stays)) in
    let gone : Gone until t p (most - rest) c.in_ok-ahead.ahead.last q = c.in_ok-ahead.ensures.2 in
    let goal_at : Playing → Outcome → Type 0 = λ x last. AreRounds most p x (after_round last rest) in
    let so : goal_at o c.match-ahead.outcome =
    elim c.match-ahead.branch [
      | in-Some-Fails w ↦
          let outcome : Outcome = w.in-Some-Fails.field-0 in
          let fails : outcome ≡ Fails = search rules in
          subst (λ (x : Playing). goal_at x c.match-ahead.outcome) (sym w.playing-is)
          (subst (λ (x : Outcome). goal_at q x) (sym w.outcome-is)
          (lone_fails until p t most rest c.requires.lone lone less q outcome (search rules) fails
          (subst (λ (l : Option Outcome). Gone until t p (most - rest) l q) w.in-Some-Fails.is gone)))
      | in-Some-Done+in_ok-outcome-in-Some-Done w ↦
          let outcome : Outcome = w.in-Some-Done.field-0 in
          let fine : outcome ≢ Fails = search rules in
          let last : Outcome = w.in_ok-outcome-in-Some-Done.outcome in
          let end : Playing = w.turns_from.new.playing in
          subst (λ (x : Playing). goal_at x c.match-ahead.outcome) (sym w.playing-is)
          (subst (λ (x : Outcome). goal_at end x) (sym w.outcome-is)
          (lone_turned until p t most rest c.requires.lone lone less q end outcome last
          (search rules) fine
          (subst (λ (l : Option Outcome). Gone until t p (most - rest) l q) w.in-Some-Done.is gone)
          w.in_ok-outcome-in-Some-Done.ensures))
      | in-None-2+in_ok-outcome-in-None-2 w ↦
          let last : Outcome = w.in_ok-outcome-in-None-2.outcome in
          let end : Playing = w.turns_from-in-None-2.new.playing in
          subst (λ (x : Playing). goal_at x c.match-ahead.outcome) (sym w.playing-is)
          (subst (λ (x : Outcome). goal_at end x) (sym w.outcome-is)
          (lone_round_of_all until p t most rest c.requires.lone lone less q end last (search rules)
          (subst (λ (l : Option Outcome). Gone until t p (most - rest) l q) w.in-None.is gone)
          (search rules) w.in_ok-outcome-in-None-2.ensures))
    ] in
    subst (λ (g : Progress). AreRounds most p o g) (sym c.after_round.ensures) so
