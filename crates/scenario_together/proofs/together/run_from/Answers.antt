use Rattle.scenario_together.proofs.Ending.{kept_all, kept_fails, kept_few, kept_more}
use Rattle.scenario_together.proofs.together.run_from.Goals as goal

pub all_ends-requires-clause-kept : goal.all_ends-requires-clause-kept
all_ends-requires-clause-kept c =
    let home = c.args.home.now in
    kept_all home.merges home.named home.playing c.args.worlds _ c.in_ok-walked.ensures _ _
    c.in-All.is c.as_slice.ensures.value

pub all_ends-requires-clause-few : goal.all_ends-requires-clause-few
all_ends-requires-clause-few c =
    let home = c.args.home.now in
    kept_few home.merges home.named home.playing c.args.worlds _ c.in_ok-walked.ensures _ _
    c.in-All.is c.as_slice.ensures.value

pub failing-requires : goal.failing-requires
failing-requires c =
    let home = c.args.home.now in
    kept_fails home.merges home.named home.playing c.args.worlds _ c.in_ok-walked.ensures _
    c.in-Fails.is

pub returns-in-More : goal.returns-in-More
returns-in-More c =
    let home = c.args.home.now in
    kept_more home.merges home.named home.playing c.args.worlds _ c.in_ok-walked.ensures
    c.in-More.is
