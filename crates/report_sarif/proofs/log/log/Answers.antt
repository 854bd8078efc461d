use Rattle.report_sarif.proofs.Shape.{reads_back, written}
use Rattle.report_sarif.proofs.log.log.Goals as goal

pub returns-clause-text : goal.returns-clause-text
returns-clause-text c =
    written c.args.rules.now c.args.findings.now _ c.to_string.result c.in_ok-value.ensures
    c.to_string.ensures.text

pub returns-clause-reads_back : goal.returns-clause-reads_back
returns-clause-reads_back c =
    reads_back c.args.rules.now c.args.findings.now _ c.to_string.result c.in_ok-value.ensures
    c.to_string.ensures.reads_back
