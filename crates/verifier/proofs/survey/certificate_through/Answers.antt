use Rattle.std.proofs.Common.{◌≡◌, ◌∙◌, ◌+◌, ◌<◌, ◌≤◌, ℕ, suc, length, arith, sym, subst, ap}
use Rattle.model.specs.declared.limits.TheConstants.{MAX_CERTIFICATE}
use Rattle.model.specs.Certificate.{certificate_to}
use Rattle.verifier.proofs.Steps.{sums_more}
use Rattle.verifier.proofs.survey.certificate_through.Goals as goal

pub loop-p-preserved : goal.loop-p-preserved
loop-p-preserved c =
    let within : c.args.at < length c.args.code.now = c.requires.within in
    let low : c.loop-p.p < c.args.at = c.loop-p-test.true in
    let next : c.loop-p.p + 1 ≡ suc c.loop-p.p = omega arith in
    let told : c.sum_through.result ≡ certificate_to c.args.code.now (suc c.loop-p.p) =
    c.sum_through.ensures ∙ ap (certificate_to c.args.code.now) next in
    sums_more c.args.code.now c.loop-p.sums.items c.loop-p.p c.sum_through.result c.loop-p.invariant
    (omega arith) told
    (subst (λ (n : ℕ). n ≤ MAX_CERTIFICATE) (sym told)
    (c.requires.short (suc c.loop-p.p) (omega arith)))
