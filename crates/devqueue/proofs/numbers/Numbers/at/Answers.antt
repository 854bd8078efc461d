use Rattle.std.proofs.Common.{rules, ◌<◌, length}
use Rattle.devqueue.specs.Numbers.{numbers_kept}
use Rattle.devqueue.proofs.Kept.{length_kept, read_other, read_own}
use Rattle.devqueue.proofs.numbers.Numbers.at.Goals as goal

pub index-requires : goal.index-requires
index-requires c =
    let kept = c.self.inside.kept.items in
    let shown : c.args.place < length (numbers_kept 0 kept) = rw c.self.view_is c.requires in
    let here : c.args.place < length kept = rw (← length_kept 0 kept) shown in
    search rules

pub returns-then-kept-eq0 : goal.returns-then-kept-eq0
returns-then-kept-eq0 c =
    let kept = c.self.inside.kept.items in
    let shown : c.args.place < length (numbers_kept 0 kept) = rw c.self.view_is c.requires in
    let here : c.args.place < length kept = rw (← length_kept 0 kept) shown in
    rw (← c.self.view_is)
    (read_own kept c.args.place c.index.result.now here c.index.ensures c.if-kept-eq0.true)

pub returns-else-kept-eq0 : goal.returns-else-kept-eq0
returns-else-kept-eq0 c =
    let kept = c.self.inside.kept.items in
    let shown : c.args.place < length (numbers_kept 0 kept) = rw c.self.view_is c.requires in
    let here : c.args.place < length kept = rw (← length_kept 0 kept) shown in
    rw (← c.self.view_is)
    (read_other kept c.args.place c.index.result.now here c.index.ensures c.if-kept-eq0.false)
