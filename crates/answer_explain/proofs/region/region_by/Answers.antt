use Rattle.std.proofs.Common.{◌∙◌, ap, Some, sym}
use Rattle.answer_explain.proofs.Placing.{region_of_spot, spot_there}
use Rattle.answer_explain.proofs.region.region_by.Goals as goal

pub returns : goal.returns
returns c =
    let text = c.args.bytes.now in
    let spots = c.args.lines.now in
    let at = c.args.at in
    let spot = c.in-Some.spot in
    let got = sym c.get.ensures ∙ c.in-Some.is in
    ap Some c.region_on.ensures
    ∙ region_of_spot text spots at spot c.in-Some-line_at.raw.now got
    (c.in-Some-line_at.ensures 0 (spot_there text spots at spot c.requires got))
