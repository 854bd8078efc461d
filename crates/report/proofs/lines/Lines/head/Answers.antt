use Rattle.std.proofs.Common.{◌≡◌, ◌≤◌, ◌∙◌, ◌++◌, ap, arith, length, rules, sym}
use Rattle.std.proofs.lemmas.List.{length-append}
use Rattle.report.specs.Word.{word_line}
use Rattle.report.proofs.Heads.{bytes_used, head_before, some_line, taken_back}
use Rattle.report.proofs.lines.Lines.head.Goals as goal

pub overflow_sub-self : goal.overflow_sub-self
overflow_sub-self c =
    let used : c.self.inside.used ≡ length (c.args.self.now ++ word_line c.args.word c.args.number.now) =
    bytes_used c.self.inside.used c.self.inside.buffer.items _
    (omega (arith, c.self.invariant.0, c.self.invariant.1)) (c.self.view_is ∙ c.one_word.ensures.line) in
    let long = length-append c.args.self.now (word_line c.args.word c.args.number.now) in
    let some = some_line c.args.word c.args.number.now in
    omega (arith, used, long, some)

pub returns-clause-head : goal.returns-clause-head
returns-clause-head c =
    taken_back c.self.inside.used c.self.inside.buffer.items c.args.self.now
    (word_line c.args.word c.args.number.now)
    (omega (arith, c.self.invariant.0, c.self.invariant.1)) (c.self.view_is ∙ c.one_word.ensures.line)
    (some_line c.args.word c.args.number.now)
    ∙ ap (λ l. c.args.self.now ++ l) (head_before c.args.word c.args.number.now)
