use Rattle.devqueue.proofs.Seen.{new_seen, new_sound}
use Rattle.devqueue.proofs.links.Links.new.Goals as goal

pub invariant_of-result : goal.invariant_of-result
invariant_of-result c =
    new_sound c.in_ok-new.field-0 c.in_ok-in_no_list.field-0.items c.args.slots c.args.lists
    c.in_ok-in_no_list.ensures c.in_ok-new.ensures c.requires

pub returns : goal.returns
returns c =
    new_seen c.in_ok-new.field-0 c.in_ok-in_no_list.field-0.items c.args.slots c.args.lists
    c.in_ok-in_no_list.ensures c.in_ok-new.ensures c.requires
