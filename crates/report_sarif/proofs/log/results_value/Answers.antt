use Rattle.report_sarif.specs.Log.{result_data}
use Rattle.report_sarif.proofs.Adding.{one_more}
use Rattle.report_sarif.proofs.log.results_value.Goals as goal

pub loop-finding-preserved : goal.loop-finding-preserved
loop-finding-preserved c whole =
    one_more (result_data c.args.rules.now) c.args.findings.now c.finding-item.result
    c.loop-finding.finding-index c.result_value.result _ _ c.loop-finding-test.true
    c.finding-item.is c.result_value.ensures (c.loop-finding.invariant (c.push.ensures whole).0)
    (c.push.ensures whole).1
