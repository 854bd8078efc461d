use Rattle.std.proofs.Common.{◌≡◌, length, rules}
use Rattle.scenario_run.proofs.Alike.{none_long, told_alike}
use Rattle.scenario_run.proofs.told.Told.is_alike.Goals as goal

pub returns : goal.returns
returns c =
    λ holds told others are theirs.
    let ours : length c.args.self.now.bugs.items ≡ 0 = search rules in
    let its : length c.args.other.now.bugs.items ≡ 0 = search rules in
    told_alike c.args.self.now c.args.other.now (none_long c.args.self.now.bugs.items ours)
    (none_long c.args.other.now.bugs.items its) (c.same_tops-same.ensures holds) told others are
    theirs
