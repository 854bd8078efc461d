use Rattle.std.proofs.Common.{rules, ◌≡◌, ◌∙◌, ◌-◌, ◌≤◌, drop, length, sym, take}
use Rattle.text.specs.Cut.{lines_of}
use Rattle.text.proofs.Places.{all_rest, first_line, none_of, past, there}
use Rattle.text.proofs.spot.line_at.Goals as goal

pub returns-in_err-rest : goal.returns-in_err-rest
returns-in_err-rest c = λ skipped is.
    let text = c.args.text.now in
    let k = c.args.spot.number - skipped - 1 in
    let ended : length text ≤ c.args.spot.start = search rules in
    let none = none_of (lines_of text) k (past text k c.args.spot.start is.start ended) in
    rw none (search rules)

pub returns : goal.returns
returns c = λ skipped is.
    let text = c.args.text.now in
    let rest = c.in_ok-rest.rest.now in
    let k = c.args.spot.number - skipped - 1 in
    let start = c.args.spot.start in
    let part : rest ≡ take (length text - start) (drop start text) = search rules in
    let lines = there text rest k start is.start (part ∙ all_rest text start) in
    first_line (lines_of text) c.of.result c.next.new.self k c.next.result
    (lines ∙ sym c.of.ensures.lines) c.next.ensures
