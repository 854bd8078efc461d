use Rattle.std.proofs.Common.{rules, ◌≡◌, true}
use Rattle.scenario_text.specs.Usual.{is_issued_name}
use Rattle.scenario_text.proofs.Usual.{issue_said}
use Rattle.scenario_text.proofs.quick.issuing_line.Goals as goal

pub returns : goal.returns
returns c packets =
    let word = c.word_at_head-found.result.word.now in
    let is : is_issued_name word ≡ true = search rules in
    rw c.of.ensures
    (issue_said word c.word_at_head-found.result.rest.now c.in_ok-operands.operands.now is c.word_at_head-found.ensures
    c.in_ok-operands.ensures c.in_ok-usual.ensures packets)
