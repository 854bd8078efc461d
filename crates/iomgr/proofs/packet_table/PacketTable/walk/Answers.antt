use Rattle.iomgr.proofs.Walks.{walked_agrees, walked_by_key}
use Rattle.iomgr.specs.Slots.{table_in}
use Rattle.iomgr.proofs.packet_table.PacketTable.walk.Goals as goal

pub returns-in-Some-clause-walked : goal.returns-in-Some-clause-walked
returns-in-Some-clause-walked c =
    let found = c.in-Some.ensures in
    walked_by_key c.args.self.now c.in-Some.key c.args.n _ found.packet found.place
    c.walk_on.ensures

pub returns-in-Some-clause-outcome : goal.returns-in-Some-clause-outcome
returns-in-Some-clause-outcome c set s =
    walked_agrees set s (table_in c.args.self.now) c.args.n _ (returns-in-Some-clause-walked c)
