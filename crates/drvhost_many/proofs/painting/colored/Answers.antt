use Rattle.std.proofs.Common.{refl}
use Rattle.drvhost_many.proofs.Colored.{painted_so}
use Rattle.drvhost_many.proofs.painting.colored.Goals as goal

pub returns-in_ok-output-in-Always : goal.returns-in_ok-output-in-Always
returns-in_ok-output-in-Always c =
    let told = c.args.told in
    rw c.in-Always.is (
      told,
      refl,
      painted_so told _ c.in_ok-output-in-Always.output.items
          (rw c.output.ensures at c.in_ok-output-in-Always.ensures) c.with_output.ensures,
    )

pub returns-in-Auto : goal.returns-in-Auto
returns-in-Auto c = rw c.in-Auto.is refl

pub returns-in-Never : goal.returns-in-Never
returns-in-Never c = rw c.in-Never.is refl
