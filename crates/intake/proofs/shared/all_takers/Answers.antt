use Rattle.std.proofs.Common.{ap, ◌∙◌, refl, rules, arith}
use Rattle.intake.specs.Ends.{TakerState}
use Rattle.intake.proofs.Beginning.{first_cuts, next_first, takers_push}
use Rattle.intake.proofs.shared.all_takers.Goals as goal

pub another-requires-clause-rule : goal.another-requires-clause-rule
another-requires-clause-rule c =
    first_cuts _ _ _ c.loop-number.invariant.first (omega (arith, c.requires.count, c.requires.cut))

pub loop-number-preserved : goal.loop-number-preserved
loop-number-preserved c =
    let kept = c.loop-number.invariant in
    let cut = c.another.ensures in
    let begun = c.begin.ensures in
    record {
      pass = search rules;
      first = next_first _ _ _ _ kept.first cut.rule.0 (omega arith);
      takers = rw c.push_reserved.ensures.items (takers_push _ _ _ _ _ kept.takers refl
          (record {
            of_queue = ap (λ (t : TakerState). t.queue) begun ∙ cut.queue.1.0;
            taken_nothing = ap (λ (t : TakerState). t.taken) begun;
          })
          (ap (λ (t : TakerState). t.share) begun ∙ ap (λ v. v.shares) cut.rule.1));
      room = search rules;
    }
