use Rattle.std.proofs.Common.{◌≡◌, None, Some, refl, rules, subst}
use Rattle.std.specs.Prelude.{◌≢◌}
use Rattle.model.specs.declared.abs.Rule.TheVariants.{Memory}
use Rattle.model.specs.Set.{Set}
use Rattle.drvhost_devices.specs.declared.verification.Verification.TheVariants.{Required}
use Rattle.drvhost_tests.specs.Tests.{AreJudgedBy, AreTested}
use Rattle.drvhost_tests.specs.Told.{asked_of}
use Rattle.drvhost_tests.proofs.Gathering.{accepted_tested, gathers_nothing, gathers_rightly, refused_tested}
use Rattle.drvhost_tests.proofs.set.test_verified.Goals as goal

pub returns-in-Ok-clause-gathers : goal.returns-in-Ok-clause-gathers
returns-in-Ok-clause-gathers g c =
    let supply = g.F.Files.supply c.args.files.now in
    let bytes = c.args.bytes.now in
    let asked = asked_of c.args.suite.tests in
    let names = c.args.suite.names.now in
    gathers_rightly
    (AreTested asked names supply (record { bytes = bytes; set = c.in-Ok.accepted; refusal = None }))
    (AreJudgedBy Required asked names supply bytes c.args.set) _ _ _ _ c.test_all.result
    (λ n k a right. accepted_tested asked names supply bytes c.args.set c.in-Ok.accepted n k a
    c.in-Ok.ensures.accepted.0 c.in-Ok.ensures.accepted.1 right)
    (rw (← c.set-set.ensures.same) c.test_all.ensures.gathers)

pub returns-in-Err-clause-gathers : goal.returns-in-Err-clause-gathers
returns-in-Err-clause-gathers g c =
    gathers_nothing
    (AreJudgedBy Required (asked_of c.args.suite.tests) c.args.suite.names.now
    (g.F.Files.supply c.args.files.now) c.args.bytes.now c.args.set) _ _ _

pub returns-in-Err-2-clause-gathers : goal.returns-in-Err-2-clause-gathers
returns-in-Err-2-clause-gathers g c =
    let supply = g.F.Files.supply c.args.files.now in
    let bytes = c.args.bytes.now in
    let asked = asked_of c.args.suite.tests in
    let names = c.args.suite.names.now in
    let set = c.in-Err._set in
    let refusal = c.in-Err.refusal in
    let other : refusal.rule ≢ Memory = search rules in
    gathers_rightly
    (AreTested asked names supply (record { bytes = bytes; set = set; refusal = Some refusal }))
    (AreJudgedBy Required asked names supply bytes c.args.set) _ _ _ _ c.test_all-in-Err-2.result
    (λ n k a right. refused_tested asked names supply bytes c.args.set refusal n k a
    c.in-Err.ensures.refused.1 other
    (subst (λ (s : Set). AreTested asked names supply
    (record { bytes = bytes; set = s; refusal = Some refusal }) n k a)
    c.in-Err.ensures.refused.0 right))
    c.test_all-in-Err-2.ensures.gathers
