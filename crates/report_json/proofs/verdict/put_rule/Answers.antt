use Rattle.std.proofs.Common.{rules, ◌≡◌, ◌==◌, ◌∙◌, ap}
use Rattle.std.specs.List.{before_first, after_first}
use Rattle.report_json.proofs.Rules.{parted}
use Rattle.report_json.proofs.Steps.{last}
use Rattle.report_json.proofs.verdict.put_rule.Goals as goal

pub returns-clause-tokens : goal.returns-clause-tokens
returns-clause-tokens c =
    let rule = c.args.rule in
    let word : c.in-Some.word.now ≡ before_first (λ byte. byte == 32) c.as_str.result.now =
    search rules in
    let name : c.in-Some.name.now ≡ after_first (λ byte. byte == 32) c.as_str.result.now =
    search rules in
    let at = parted rule in
    let word_is = word ∙ ap (before_first (λ byte. byte == 32)) c.as_str.ensures ∙ at.word in
    let name_is = name ∙ ap (after_first (λ byte. byte == 32)) c.as_str.ensures ∙ at.name in
    let done = last _ c.args.out.now.tokens _ _ _ _ c.in_ok-put_text.ensures.tokens
    c.put_text-2.ensures.tokens in
    rw (word_is, name_is) at done
