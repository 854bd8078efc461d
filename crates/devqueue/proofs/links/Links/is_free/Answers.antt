use Rattle.std.proofs.Common.{None, refl, sym}
use Rattle.std.proofs.lemmas.List.{get_or_past}
use Rattle.devqueue.specs.Linked.{lists_shown}
use Rattle.devqueue.proofs.Free.{tells_free}
use Rattle.devqueue.proofs.links.Links.is_free.Goals as goal

pub returns-in-Some : goal.returns-in-Some
returns-in-Some c =
    let rings = c.self.inside.rings in
    let list_of = c.self.inside.list_of.items in
    let h = rw c.deref.ensures.value at (c.in-Some.ensures.lookup.3.1 None) in
    rw (← c.self.view_is)
    (tells_free rings list_of (lists_shown rings list_of) c.self.invariant c.args.slot
    c.in-Some.list.now (sym h) c.is_none.result c.is_none.ensures)

pub returns-in-None : goal.returns-in-None
returns-in-None c =
    let rings = c.self.inside.rings in
    let list_of = c.self.inside.list_of.items in
    let h = rw c.deref.ensures.value at c.in-None.ensures.lookup.3 in
    rw (← c.self.view_is)
    (tells_free rings list_of (lists_shown rings list_of) c.self.invariant c.args.slot None
    (get_or_past list_of c.args.slot None h) _ refl)
