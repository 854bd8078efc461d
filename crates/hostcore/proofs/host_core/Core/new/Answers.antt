use Rattle.std.proofs.Common.{rules}
use Rattle.hostcore.proofs.Keeping.{kept_new}
use Rattle.hostcore.proofs.host_core.Core.new.Goals as goal

pub invariant_of-result : goal.invariant_of-result
invariant_of-result c =
    kept_new _ _ _ _ _ c.in-Ok.ensures c.requires.short (search rules)
    c.in_ok-world.ensures.shows
    (λ events. rw c.in_ok-world.ensures.set (c.in_ok-world.ensures.rules events))
