use Rattle.std.proofs.Common.{rules, ◌≡◌, ◌<◌, ◌≤◌, arith, length}
use Rattle.devqueue.specs.Linked.{lists_shown}
use Rattle.devqueue.specs.Rings.{after}
use Rattle.devqueue.proofs.Free.{some_within}
use Rattle.devqueue.proofs.Next.{next_none, next_some}
use Rattle.devqueue.proofs.links.Links.next.Goals as goal

pub next-next-requires : goal.next-next-requires
next-next-requires c =
    let rings = c.self.inside.rings in
    let list_of = c.self.inside.list_of.items in
    let within = some_within rings list_of (lists_shown rings list_of) c.self.invariant c.args.slot
    (rw (← c.self.view_is) at c.requires) in
    omega (arith, within, c.self.invariant.count)

pub returns-then-next-len : goal.returns-then-next-len
returns-then-next-len c =
    let rings = c.self.inside.rings in
    let list_of = c.self.inside.list_of.items in
    let e : c.len.result ≡ length list_of = search rules in
    let few : after rings c.args.slot < length list_of =
    omega (arith, c.next-next.ensures, e, c.if-next-len.true) in
    rw (← c.self.view_is, c.next-next.ensures)
    (λ list place found.
    next_some rings list_of (lists_shown rings list_of) c.self.invariant list place c.args.slot
    found few)

pub returns-else-next-len : goal.returns-else-next-len
returns-else-next-len c =
    let rings = c.self.inside.rings in
    let list_of = c.self.inside.list_of.items in
    let e : c.len.result ≡ length list_of = search rules in
    let past : length list_of ≤ after rings c.args.slot =
    omega (arith, c.next-next.ensures, e, c.if-next-len.false) in
    rw (← c.self.view_is)
    (λ list place found.
    next_none rings list_of (lists_shown rings list_of) c.self.invariant list place c.args.slot
    found past)
