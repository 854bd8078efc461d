use Rattle.devqueue.proofs.Seen.{left_free, left_seen, left_sound}
use Rattle.devqueue.proofs.links.Links.leave.Goals as goal

pub invariant_of-self : goal.invariant_of-self
invariant_of-self c =
    let at = rw (← c.self.view_is) at c.requires in
    left_sound c.self.inside.rings c.self.inside.list_of.items c.self.invariant c.args._list
    c.args.slot c.leave.new.self at c.leave.ensures

pub returns-clause-left : goal.returns-clause-left
returns-clause-left c =
    let at = rw (← c.self.view_is) at c.requires in
    rw (← c.self.view_is)
    (left_seen c.self.inside.rings c.self.inside.list_of.items c.self.invariant c.args._list
    c.args.slot c.leave.new.self at c.leave.ensures)

pub returns-clause-free : goal.returns-clause-free
returns-clause-free c =
    let at = rw (← c.self.view_is) at c.requires in
    left_free c.self.inside.rings c.self.inside.list_of.items c.self.invariant c.args._list
    c.args.slot c.leave.new.self at c.leave.ensures
