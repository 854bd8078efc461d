use Rattle.std.proofs.Common.{◌≡◌, ◌+◌, ◌-◌, ap, ◌∙◌, rules, arith}
use Rattle.intake.specs.Ends.{SubmitterState}
use Rattle.intake.proofs.Beginning.{first_cuts, next_first, others_push}
use Rattle.intake.proofs.shared.other_submitters.Goals as goal

pub another-pass-requires-clause-rule : goal.another-pass-requires-clause-rule
another-pass-requires-clause-rule c =
    first_cuts _ _ _ c.loop-number.invariant.first (omega (arith, c.requires.count.1))

pub loop-number-preserved : goal.loop-number-preserved
loop-number-preserved c =
    let kept = c.loop-number.invariant in
    let cut = c.another-pass.ensures in
    let begun = c.begin.ensures in
    let least = c.loop-number.auto.number in
    let more : c.loop-number.number + 1 - 1 ≡ c.loop-number.number - 1 + 1 = omega (arith, least) in
    let number = ap (λ (s : SubmitterState). s.number) begun in
    record {
      pass = search rules;
      first = next_first _ _ _ _ kept.first cut.rule.0 more;
      others = rw c.push_reserved.ensures.items (others_push _ _ _ _ _ kept.others more
          (record {
            of_queue = ap (λ (s : SubmitterState). s.queue) begun ∙ cut.queue.1.0;
            numbered = omega (arith, number, least);
            put_nothing = ap (λ (s : SubmitterState). s.put) begun;
          })
          (ap (λ (s : SubmitterState). s.share) begun ∙ ap (λ v. v.shares) cut.rule.1));
      room = search rules;
    }
