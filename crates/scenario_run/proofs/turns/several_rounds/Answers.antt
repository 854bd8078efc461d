use Rattle.std.proofs.Common.{◌≤◌, arith, rules, subst}
use Rattle.scenario_run.specs.declared.turns.Round.{Round}
use Rattle.scenario_run.specs.declared.turns.Round.TheVariants.{Changed, Same}
use Rattle.scenario_run.specs.Turns.{IsRound}
use Rattle.scenario_run.proofs.Rounds.{several_changed}
use Rattle.scenario_run.proofs.turns.several_rounds.Goals as goal

pub returns-in-Changed : goal.returns-in-Changed
returns-in-Changed c =
    let is : IsRound c.in_ok-goers.goers c.loop-left.playing c.make_round.new.playing Changed =
    subst (λ (r : Round). IsRound c.in_ok-goers.goers c.loop-left.playing c.make_round.new.playing r)
    c.in-Changed.is c.in_ok-make_round.ensures in
    several_changed c.in_ok-goers.goers c.args.most c.loop-left.left c.args.playing.now
    c.loop-left.playing c.make_round.new.playing (search rules) c.loop-left.invariant.0
    c.loop-left.invariant.1 is

pub loop-left-preserved : goal.loop-left-preserved
loop-left-preserved c =
    let is : IsRound c.in_ok-goers.goers c.loop-left.playing c.make_round.new.playing Same =
    subst (λ (r : Round). IsRound c.in_ok-goers.goers c.loop-left.playing c.make_round.new.playing r)
    c.in-Same.is c.in_ok-make_round.ensures in
    let so = several_changed c.in_ok-goers.goers c.args.most c.loop-left.left c.args.playing.now
    c.loop-left.playing c.make_round.new.playing (search rules) c.loop-left.invariant.0
    c.loop-left.invariant.1 is.0 in
    let few : c.loop-left.left ≤ c.args.most = c.loop-left.invariant.0 in
    (omega (arith, few), so.1, is.1)
