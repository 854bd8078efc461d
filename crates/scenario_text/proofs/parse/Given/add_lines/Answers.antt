use Rattle.std.proofs.Common.{rules, ◌≡◌, ◌∙◌, ◌<◌, Err, Ok, length, sym}
use Rattle.scenario_text.proofs.Blocks.{lines_on, lines_stop}
use Rattle.scenario_text.specs.Listing.{with_line}
use Rattle.scenario_text.proofs.parse.Given.add_lines.Goals as goal

pub returns-in-Err : goal.returns-in-Err
returns-in-Err c =
    let names = c.args.names.now in
    let lines = c.args.lines.now in
    let x = c.line-item.result in
    let inside : c.loop-line.line-index < length lines = search rules in
    let off : with_line names c.loop-line.self x.number c.bytes.result.now ≡ Err c.in-Err.kind =
    search rules in
    sym c.loop-line.invariant
    ∙ lines_stop names c.loop-line.self lines c.loop-line.line-index x c.bytes.result.now
    c.in-Err.kind inside c.line-item.is (search rules) off

pub loop-line-preserved : goal.loop-line-preserved
loop-line-preserved c =
    let names = c.args.names.now in
    let lines = c.args.lines.now in
    let x = c.line-item.result in
    let inside : c.loop-line.line-index < length lines = search rules in
    let on : with_line names c.loop-line.self x.number c.bytes.result.now
    ≡ Ok c.add_plain.new.self = search rules in
    lines_on names c.loop-line.self c.add_plain.new.self lines c.loop-line.line-index x
    c.bytes.result.now inside c.line-item.is (search rules) on
    ∙ c.loop-line.invariant
