use Rattle.std.proofs.Common.{IfOk, ◌+◌, List, ap, arith, get_or, subst, sym, take}
use Rattle.std.proofs.lemmas.Slice.Zip.{AllZip-long}
use Rattle.std.specs.List.{AllZip}
use Rattle.drvhost_files.specs.declared.reading.Held.{Held}
use Rattle.drvhost_tests.specs.Test.{Test}
use Rattle.drvhost_tests.specs.Tests.{IsHeldTold, IsTestHeld}
use Rattle.drvhost_tests.specs.Told.{asked_of, tested_of}
use Rattle.drvhost_tests.proofs.Zips.{zip_at, zip_next}
use Rattle.drvhost_tests.proofs.scenario.cases_of.Goals as goal

pub bounds-told-i : goal.bounds-told-i
bounds-told-i c =
    let long = AllZip-long _ c.args.held.now c.args.told.now c.requires.told in
    let less = c.loop-i-test.true in
    omega (arith, long, less)

pub loop-i-preserved : goal.loop-i-preserved
loop-i-preserved c =
    let asked = asked_of c.args.suite.tests in
    let tested = tested_of c.args.subject in
    let held = c.args.held.now in
    let i = c.loop-i.i in
    let less = c.loop-i-test.true in
    let one = c.index-held-i.result in
    let result = c.index-told-i.result in
    let both : IfOk result (IsHeldTold asked tested one) =
    subst (λ r. IfOk r (IsHeldTold asked tested one)) (sym c.index-told-i.is)
    (subst (λ h. IfOk (get_or c.args.told.now i result) (IsHeldTold asked tested h))
    (sym c.index-held-i.is) (zip_at _ held c.args.told.now i one result c.requires.told less)) in
    let told = rw c.in-Ok.is at both in
    let case = c.of.result in
    let name = ap (λ (h : Held). h.name.now) (sym c.index-held-i.is) in
    let test : IsTestHeld asked tested one case =
    subst (λ (t : Test). IsTestHeld asked tested one t) (sym c.of.ensures) (name, told) in
    let next =
    zip_next (IsTestHeld asked tested) held c.loop-i.cases.items i one case less
    c.loop-i.invariant
    (subst (λ (h : Held). IsTestHeld asked tested h case) c.index-held-i.is test) in
    subst (λ (cases : List Test). AllZip (IsTestHeld asked tested) (take (i + 1) held) cases)
    (sym {A = List Test} c.in_ok-push.ensures.items) next
