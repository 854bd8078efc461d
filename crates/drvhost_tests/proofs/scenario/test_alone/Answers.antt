use Rattle.answer_scenarios.specs.Scenarios.{names_in}
use Rattle.report.specs.Fault.{schedule_fault_line}
use Rattle.scenario_text.specs.Listing.{scenario_in}
use Rattle.drvhost_tests.proofs.Gathering.{ok_on, scenario_faulty, scenario_plays}
use Rattle.drvhost_tests.proofs.scenario.test_alone.Goals as goal

pub returns-in-Ok : goal.returns-in-Ok
returns-in-Ok c =
    scenario_plays c.args.name.now c.args.set.now
    (scenario_in (names_in c.args.bytes.now) c.args.text.now) c.in-Ok.told.end
    c.in-Ok.told.text.items c.answer_of.result c.answer_of.ensures c.in-Ok.ensures.tells

pub returns-in_ok-words-in-Err-Schedule : goal.returns-in_ok-words-in-Err-Schedule
returns-in_ok-words-in-Err-Schedule c =
    let said = scenario_in (names_in c.args.bytes.now) c.args.text.now in
    ok_on c.tell_schedule_fault.result
    (λ told is. scenario_faulty c.args.name.now c.args.set.now said
    (schedule_fault_line c.in-Err-Schedule.fault) c.as_bytes.result.now told is
    (rw c.in-Err-Schedule.field-0-is at c.in-Err-Schedule.ensures.tells))
    c.tell_schedule_fault.ensures
