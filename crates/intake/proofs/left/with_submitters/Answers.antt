use Rattle.std.proofs.Common.{arith, rules}
use Rattle.std.proofs.lemmas.Grind.{common_steps}
use Rattle.std.proofs.lemmas.List.Elements.{All-push}
use Rattle.intake.specs.Ends.{SubmitterState}
use Rattle.intake.specs.Lists.{IsNumbered}
use Rattle.intake.proofs.Joining.{joins}
use Rattle.intake.proofs.left.with_submitters.Goals as goal

pub absorb-requires-clause-rule : goal.absorb-requires-clause-rule
absorb-requires-clause-rule c = joins _ _ _ _ c.loop-submitter.invariant.some_share

pub loop-submitter-preserved : goal.loop-submitter-preserved
loop-submitter-preserved c =
    let told = c.into_pass.ensures.names in
    record {
      queue = grind (arith, common_steps);
      pass = search rules;
      some_share = search rules;
      shares = grind (arith, common_steps);
      put = grind (arith, common_steps);
      taken = grind (arith, common_steps);
      names = λ rest. c.loop-submitter.invariant.names (rw c.in-Some.ensures.items
          (All-push (λ (s : SubmitterState). IsNumbered s.number s.put) _ _ rest told));
    }
