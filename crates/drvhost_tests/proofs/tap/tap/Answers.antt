use Rattle.std.proofs.Common.{arith}
use Rattle.std.proofs.lemmas.Grind.{common_steps}
use Rattle.drvhost_tests.proofs.Ending.{tap_read}
use Rattle.drvhost_tests.proofs.tap.tap.Goals as goal

pub returns-clause-lines : goal.returns-clause-lines
returns-clause-lines c =
    tap_read c.into_bytes.result.items c.args.version c.args.cases.now (grind (arith, common_steps))
