use Rattle.std.proofs.Common.{◌∙◌, IfOk, ap, subst}
use Rattle.rayon.proofs.ListFacts.{IfOk-then}
use Rattle.rayon.proofs.ToStd.{slice-AllZip}
use Rattle.std.specs.List.{AllZip}
use Rattle.drvhost_tests.specs.Tests.{IsHeldTold}
use Rattle.drvhost_tests.specs.Told.{asked_of, tested_of}
use Rattle.drvhost_tests.proofs.scenario.test_each.Goals as goal

pub returns : goal.returns
returns g c =
    let slice =
    ap (λ it. it.base.slice.now) c.map.ensures.base
    ∙ ap (λ it. it.slice.now) c.with_min_len.ensures.base ∙ c.par_iter.ensures in
    let suite = ap (λ f. f.0.now) c.map.ensures.f in
    let subject = ap (λ f. f.1.now) c.map.ensures.f in
    IfOk-then c.collect.result _ _ c.collect.ensures (λ v h.
    let chain = h.1 in
    subst (λ s. AllZip (λ one answer. IfOk answer (IsHeldTold (asked_of s.tests)
    (tested_of c.args.subject) one)) c.args.held.now v.items) suite
    (subst (λ s. AllZip (λ one answer. IfOk answer (IsHeldTold (asked_of c.map.result.f.0.now.tests)
    (tested_of s) one)) c.args.held.now v.items) subject
    (rw h.2
    (slice-AllZip chain.0 c.args.held.now (chain.1 ∙ slice)
    (λ one answer. IfOk answer (IsHeldTold (asked_of c.map.result.f.0.now.tests)
    (tested_of c.map.result.f.1.now) one)) h.0 chain.2))))
