use Rattle.std.proofs.Common.{◌≡◌, ◌∙◌, ◌≤◌, arith, refl}
use Rattle.checked.specs.GoingOn.{none}
use Rattle.drvhost_devices.specs.declared.manner.Detail.TheVariants.{Every}
use Rattle.answer_views.proofs.ToldAlone.{alone_none, goes_one, told_one}
use Rattle.answer_views.proofs.page.Page.tell_alone.Goals as goal

pub loop-made-init : goal.loop-made-init
loop-made-init c =
    record {
      detail = refl;
      few = omega arith;
      numbered = omega arith;
      goes = none;
      told = alone_none c.args.self.now.number c.args.self.now.text.items;
      same = λ is. (refl, refl);
    }

pub loop-made-preserved : goal.loop-made-preserved
loop-made-preserved c =
    let some : 1 ≤ c.in_ok-tell_step.field-0 = omega (arith, c.if-branch-eq0.false) in
    let one : c.in_ok-tell_step.field-0 ≡ 1 =
    omega (arith, some, c.in_ok-tell_step.ensures.few) in
    record {
      detail = c.in_ok-tell_step.ensures.detail ∙ c.loop-made.invariant.detail;
      few = omega (arith, c.loop-made-test.true);
      numbered =
          omega (arith, one, c.loop-made.invariant.numbered, c.in_ok-tell_step.ensures.number);
      goes =
          goes_one c.args.thread c.args.machine.now c.loop-made.made c.loop-made.machine
          c.tell_step.new.machine c.in_ok-tell_step.field-0 c.loop-made.invariant.goes
          c.in_ok-tell_step.ensures.goes c.in_ok-tell_step.ensures.few some;
      told =
          told_one Every c.loop-made.made c.args.self.now.number c.loop-made.self.number
          c.args.self.now.text.items c.loop-made.self.text.items
          c.tell_step.new.self.text.items c.loop-made.invariant.told
          c.loop-made.invariant.numbered (c.in_ok-tell_step.ensures.told some);
      same = λ is. absurd (omega (arith, is));
    }
