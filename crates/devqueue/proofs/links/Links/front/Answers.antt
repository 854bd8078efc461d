use Rattle.std.proofs.Common.{rules, ◌≡◌, ◌≤◌, ◌+◌, arith, length}
use Rattle.devqueue.specs.Linked.{lists_shown}
use Rattle.devqueue.specs.Lists.{entries_of}
use Rattle.devqueue.specs.Rings.{after}
use Rattle.devqueue.proofs.Seen.{no_first, seen}
use Rattle.devqueue.proofs.Shown.{listed_within}
use Rattle.devqueue.proofs.links.Links.front.Goals as goal

pub returns-else-slot-len-clause-head : goal.returns-else-slot-len-clause-head
returns-else-slot-len-clause-head c =
    let rings = c.self.inside.rings in
    let list_of = c.self.inside.list_of.items in
    let l_in = rw (← c.self.view_is) at c.requires in
    let e : c.len.result ≡ length list_of = search rules in
    let d : c.len-2.result ≡ length list_of = search rules in
    let n : c.next-slot.result ≡ after rings (length list_of + c.args.list) =
    rw (← e) c.next-slot.ensures in
    let past : length list_of ≤ after rings (length list_of + c.args.list) =
    omega (arith, n, d, c.if-slot-len.false) in
    rw (← c.self.view_is)
    (no_first (after rings) (length list_of) (length list_of + c.args.list)
    (length list_of + c.args.list) (entries_of (seen rings list_of) c.args.list)
    (c.self.invariant.paths c.args.list l_in) past
    (λ m h. listed_within rings list_of (lists_shown rings list_of) c.self.invariant c.args.list m
    h))
