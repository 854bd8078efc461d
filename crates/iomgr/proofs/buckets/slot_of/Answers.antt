use Rattle.std.proofs.Common.{◌∙◌}
use Rattle.devqueue.specs.Lists.{entries_of}
use Rattle.iomgr.proofs.Search.{search_ends, search_linked, search_shrinks}
use Rattle.iomgr.specs.Buckets.{bucket_of}
use Rattle.iomgr.proofs.buckets.slot_of.Goals as goal

pub next-next-requires : goal.next-next-requires
next-next-requires c =
    search_linked c.args.buckets.now (bucket_of c.args.n) c.loop-next.invariant.place c.in-Some.slot
    (c.loop-next.invariant.at ∙ c.in-Some.is)

pub loop-next-smaller : goal.loop-next-smaller
loop-next-smaller c =
    let bucket = bucket_of c.args.n in
    search_shrinks (entries_of c.args.buckets.now bucket) c.args.live.now c.args.n _
    c.loop-next.invariant c.in-Some.slot c.in-Some.is c.next-next.result
    (c.next-next.ensures bucket c.loop-next.invariant.place
    (c.loop-next.invariant.at ∙ c.in-Some.is))

pub returns-clause-missing : goal.returns-clause-missing
returns-clause-missing c =
    let bucket = bucket_of c.args.n in
    search_ends (entries_of c.args.buckets.now bucket) c.args.live.now c.args.n _
    c.loop-next.invariant c.in_default.is
