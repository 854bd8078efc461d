use Rattle.report.proofs.Digits.{ready_as, written_as}
use Rattle.report.specs.Word.{word_text}
use Rattle.report.proofs.ready_line.ReadyLine.write.Goals as goal

pub returns : goal.returns
returns c =
    let text = word_text c.self.inside.word in
    let ready = ready_as c.self.inside.number c.self.inside.place text c.self.inside.line _
    c.self.invariant.1 (rw c.length.ensures at c.store.ensures) in
    let w = written_as c.self.inside.number c.args.last_digit c.self.inside.place
    text _ ready c.self.invariant.0 c.requires in
    rw (← c.self.view_is) (record { digits = w.digits; line = w.line; short = w.short })
