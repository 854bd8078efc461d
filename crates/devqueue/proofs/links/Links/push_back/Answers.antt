use Rattle.std.proofs.Common.{rules, ◌≡◌, length}
use Rattle.devqueue.proofs.Seen.{joined_seen, joined_sound, kept_free}
use Rattle.devqueue.proofs.links.Links.push_back.Goals as goal

pub join-requires-clause-alone : goal.join-requires-clause-alone
join-requires-clause-alone c =
    let free = rw (← c.self.view_is) at c.requires.free in
    let s_in = rw (← c.self.view_is) at c.requires.slot in
    c.self.invariant.free c.args.slot
    (kept_free c.self.inside.rings c.self.inside.list_of.items c.self.invariant c.args.list
    c.args.slot free) s_in

pub invariant_of-self : goal.invariant_of-self
invariant_of-self c =
    let l_in = rw (← c.self.view_is) at c.requires.list in
    let s_in = rw (← c.self.view_is) at c.requires.slot in
    let free = rw (← c.self.view_is) at c.requires.free in
    let e : c.len.result ≡ length c.self.inside.list_of.items = search rules in
    joined_sound c.self.inside.rings c.self.inside.list_of.items c.self.invariant c.args.list
    c.args.slot c.join.new.self l_in s_in free (rw (← e) c.join.ensures)

pub returns : goal.returns
returns c =
    let l_in = rw (← c.self.view_is) at c.requires.list in
    let s_in = rw (← c.self.view_is) at c.requires.slot in
    let free = rw (← c.self.view_is) at c.requires.free in
    let e : c.len.result ≡ length c.self.inside.list_of.items = search rules in
    rw (← c.self.view_is)
    (joined_seen c.self.inside.rings c.self.inside.list_of.items c.self.invariant c.args.list
    c.args.slot c.join.new.self l_in s_in free (rw (← e) c.join.ensures))
