use Rattle.std.proofs.Common.{◌∙◌, arith}
use Rattle.report.proofs.Heads.{reply_used}
use Rattle.report.proofs.lines.Lines.head_length.Goals as goal

pub overflow_sub-result : goal.overflow_sub-result
overflow_sub-result c =
    (reply_used c.self.inside.used c.self.inside.buffer.items c.clear.new.self c.args.number.now
    c.args.reply.now (omega (arith, c.self.invariant.0, c.self.invariant.1))
    (c.self.view_is ∙ c.reply.ensures.line) c.clear.ensures).0

pub returns-clause-length : goal.returns-clause-length
returns-clause-length c =
    (reply_used c.self.inside.used c.self.inside.buffer.items c.clear.new.self c.args.number.now
    c.args.reply.now (omega (arith, c.self.invariant.0, c.self.invariant.1))
    (c.self.view_is ∙ c.reply.ensures.line) c.clear.ensures).1
