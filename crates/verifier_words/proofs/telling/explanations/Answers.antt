use Rattle.std.proofs.Common.{◌≡◌, ◌∙◌, ◌+◌, Option, Some, ℕ, suc, ap, arith, slice_get, subst, sym}
use Rattle.std.proofs.lemmas.Option.{slice_get-get_or}
use Rattle.verifier_words.specs.Faults.{AreBefore, AreOfDriver, refusals}
use Rattle.model.specs.declared.set.Driver.{Driver}
use Rattle.verifier_words.proofs.telling.explanations.Goals as goal

pub loop-number-preserved : goal.loop-number-preserved
loop-number-preserved c =
    let set = c.args.set.now in
    let number = c.loop-number.number in
    let added = c.in_ok-add_faults.ensures in
    let next : number + 1 ≡ suc number = omega arith in
    let drivers = c.drivers-driver-items.ensures.drivers in
    let driver : slice_get set.drivers number ≡ Some c.driver-item.result =
    slice_get-get_or set.drivers number c.driver-item.result (rw drivers at c.loop-number-test.true)
    ∙ ap Some (sym (rw drivers at c.driver-item.is)) in
    let Before : ℕ → Type 0 = λ n. AreBefore set n (refusals c.add_faults.new.all.items) in
    let Own : Option Driver → Type 0 = λ d. AreOfDriver set number d added.0 in
    subst Before (sym next) (
      refusals c.loop-number.all.items,
      added.0,
      c.loop-number.invariant,
      subst Own (sym driver) added.1,
      added.2,
    )
