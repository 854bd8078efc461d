use Rattle.std.proofs.Common.{◌∙◌, sym}
use Rattle.answer_runs.proofs.Following.{lines_word}
use Rattle.answer_runs.proofs.in_text.TextLinesReplyLines.put.Goals as goal

pub returns-in-Some-clause-added : goal.returns-in-Some-clause-added
returns-in-Some-clause-added c =
    rw (lines_word c.in-Some.word c.args.reply.now (sym c.of.ensures ∙ c.in-Some.is)
    c.args.self.now.number c.words.result)
    c.words.ensures.lines
