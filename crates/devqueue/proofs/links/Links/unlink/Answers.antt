use Rattle.std.proofs.Common.{rules, ◌≡◌, false}
use Rattle.model.specs.Queues.{is_linked}
use Rattle.devqueue.specs.Lists.{entries_of}
use Rattle.devqueue.proofs.Seen.{not_there}
use Rattle.devqueue.proofs.links.Links.unlink.Goals as goal

pub returns-then-ne-clause-rest : goal.returns-then-ne-clause-rest
returns-then-ne-clause-rest c =
    let v = c.args.self.now in
    let h : is_linked (entries_of v c.args.list) c.args.slot ≡ false = search rules in
    not_there v c.args.list c.args.slot h
