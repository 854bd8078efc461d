use Rattle.devqueue.specs.Lists.{entries_of}
use Rattle.iomgr.proofs.Search.{IsSearched, left}
use Rattle.iomgr.specs.Buckets.{bucket_of}
use Rattle.iomgr.proofs.buckets.slot_of.Given as goal

abbrev pub invariant-loop-next : goal.invariant-loop-next
invariant-loop-next l = IsSearched (entries_of l.buckets (bucket_of l.n)) l.live l.n l.next

abbrev pub decreases-loop-next : goal.decreases-loop-next
decreases-loop-next l = left (entries_of l.buckets (bucket_of l.n)) l.next
