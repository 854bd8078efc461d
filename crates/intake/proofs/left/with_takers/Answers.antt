use Rattle.std.proofs.Common.{arith, rules}
use Rattle.std.proofs.lemmas.Grind.{common_steps}
use Rattle.std.proofs.lemmas.List.Elements.{All-push}
use Rattle.intake.specs.Ends.{TakerState}
use Rattle.intake.specs.Lists.{IsInOrder}
use Rattle.intake.proofs.Joining.{joins}
use Rattle.intake.proofs.left.with_takers.Goals as goal

pub absorb-requires-clause-rule : goal.absorb-requires-clause-rule
absorb-requires-clause-rule c = joins _ _ _ _ c.loop-taker.invariant.some_share

pub loop-taker-preserved : goal.loop-taker-preserved
loop-taker-preserved c =
    let told = c.into_pass.ensures.order in
    record {
      queue = grind (arith, common_steps);
      pass = search rules;
      some_share = search rules;
      shares = grind (arith, common_steps);
      taken = grind (arith, common_steps);
      put = grind (arith, common_steps);
      order = λ rest. c.loop-taker.invariant.order (rw c.in-Some.ensures.items
          (All-push (λ (s : TakerState). IsInOrder s.taken) _ _ rest told));
    }
