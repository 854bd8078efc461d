use Rattle.std.proofs.Common.{◌+◌, ◌∙◌, arith, sym}
use Rattle.std.proofs.lemmas.Bool.{false≢true}
use Rattle.machine.proofs.Stepping.{one_more, stepped_more, stepped_on}
use Rattle.machine.proofs.world.World.steps.Goals.{in-Stepped, in_default}
use Rattle.machine.proofs.world.World.steps.Goals as goal

pub returns-then-not-matches-clause-makes : goal.returns-then-not-matches-clause-makes
returns-then-not-matches-clause-makes c =
    one_more c.args.self.now c.loop-made.self c.apply-last.new.self c.args.thread c.loop-made.made
    c.apply-last.result c.loop-made.invariant.stepping c.apply-last.ensures.applies

pub loop-made-preserved : goal.loop-made-preserved
loop-made-preserved c =
    record {
      few = omega (arith, c.go_on.ensures.few, c.loop-made-test.true);
      stepping =
          stepped_more c.args.self.now c.apply-last.new.self c.go_on.new.self c.args.thread
          (c.loop-made.made + 1) c.go_on.result
          (stepped_on c.args.self.now c.loop-made.self c.apply-last.new.self c.args.thread
          c.loop-made.made c.apply-last.result c.loop-made.invariant.stepping
          c.apply-last.ensures.applies
          (elim c.match-matches.branch [
            | in-Stepped w ↦ w.in-Stepped.is
            | in_default w ↦ absurd (false≢true (sym w.matches-is ∙ c.if-not-matches.false))
          ]))
          c.go_on.ensures.steps;
    }
