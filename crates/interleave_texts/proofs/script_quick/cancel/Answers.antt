use Rattle.std.proofs.Common.{◌≡◌, ◌<◌, ◌^◌, Some, [], rules}
use Rattle.interleave_texts.specs.Script.{name_at}
use Rattle.interleave_texts.proofs.Usual.{cancel_read}
use Rattle.interleave_texts.proofs.script_quick.cancel.Goals as goal

pub returns : goal.returns
returns c =
    let done : c.in_ok-level.level.rest.now ≡ [] = search rules in
    let fits : c.in_ok-count.count.number < 2 ^ 64 = search rules in
    let named : name_at c.args.commands.now c.in_ok-count.count.number ≡ Some c.in_ok-name.name =
    search rules in
    cancel_read c.args.commands.now c.in_ok-count.ensures c.in_ok-level.ensures.number done fits
    c.in_ok-level.ensures.few named
