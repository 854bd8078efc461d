use Rattle.std.proofs.Common.{rules, ◌≡◌, ◌++◌, List, OnOk, codes, string_bytes, ℕ}
use Rattle.model.specs.Words.{rule_text}
use Rattle.answer_mends.proofs.Mends.{added_twice}
use Rattle.answer_mends.proofs.apply.add_rule.Goals as goal

pub returns : goal.returns
returns c =
    let before = string_bytes c.args.line.now in
    let said : List ℕ = codes " of a part: still refused by " in
    let rule = rule_text c.args.rule in
    let between = string_bytes c.push_str.new.self in
    let behind = string_bytes c.push_str-2.new.self in
    let one : between ≡ before ++ said = c.in_ok-push_str.ensures.bytes in
    let two : OnOk c.push_str-2.result (behind ≡ between ++ rule) = search rules in
    added_twice c.push_str-2.result before said rule between behind one two
