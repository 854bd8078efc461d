use Rattle.std.proofs.Common.{◌≡◌, ◌∙◌, ◌+◌, ◌<◌, suc, length, arith, refl, sym, ap}
use Rattle.model.specs.Certificate.{certificate_to}
use Rattle.verifier.proofs.Steps.{sum_next}
use Rattle.verifier.proofs.survey.sum_through.Goals as goal

pub returns : goal.returns
returns c =
    let long : length c.args.sums.now ≡ length c.args.code.now + 1 = c.requires.summed.long in
    let within : c.args.at < length c.args.code.now = c.requires.within in
    let next : c.args.at + 1 ≡ suc c.args.at = omega arith in
    sum_next c.args.code.now c.args.code.now c.args.sums.now c.args.at c.turns_at.result
    c.requires.summed refl c.turns_at.ensures.turns
    ∙ ap (certificate_to c.args.code.now) (sym next)
