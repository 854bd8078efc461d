use Rattle.std.proofs.Common.{rules, ◌≡◌, ◌∙◌, ◌-◌, ◌≤◌, drop, length, sym, take}
use Rattle.text.proofs.Places.{all_rest, past, there}
use Rattle.text.proofs.spot.lines_round.Goals as goal

pub returns-in-Some : goal.returns-in-Some
returns-in-Some c = λ skipped is.
    let text = c.args.text.now in
    let rest = c.in-Some.rest.now in
    let k = c.args.spot.number - skipped - 3 in
    let start = c.args.spot.earlier in
    let part : rest ≡ take (length text - start) (drop start text) = search rules in
    c.of.ensures.lines ∙ sym (there text rest k start is.earlier (part ∙ all_rest text start))

pub returns-in-None : goal.returns-in-None
returns-in-None c = λ skipped is.
    let text = c.args.text.now in
    let k = c.args.spot.number - skipped - 3 in
    let ended : length text ≤ c.args.spot.earlier = search rules in
    c.of-in-None.ensures.lines ∙ sym (past text k c.args.spot.earlier is.earlier ended)
