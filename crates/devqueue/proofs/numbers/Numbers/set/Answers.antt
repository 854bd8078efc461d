use Rattle.std.proofs.Common.{rules, ◌<◌, length}
use Rattle.devqueue.specs.Numbers.{numbers_kept}
use Rattle.devqueue.proofs.Kept.{length_kept, written}
use Rattle.devqueue.proofs.numbers.Numbers.set.Goals as goal

pub index_mut-requires : goal.index_mut-requires
index_mut-requires c =
    let kept = c.self.inside.kept.items in
    let shown : c.args.place < length (numbers_kept 0 kept) = rw c.self.view_is c.requires.place in
    let here : c.args.place < length kept = rw (← length_kept 0 kept) shown in
    search rules

pub returns : goal.returns
returns c =
    rw (← c.self.view_is) (written 0 c.self.inside.kept.items c.args.place c.args.number)
