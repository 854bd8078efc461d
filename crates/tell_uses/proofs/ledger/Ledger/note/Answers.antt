use Rattle.std.proofs.Common.{◌∙◌, sym}
use Rattle.tell_uses.proofs.Noted.{noted_none, noted_on, noted_unchanged}
use Rattle.tell_uses.proofs.ledger.Ledger.note.Goals as goal

pub returns-in_default-clause-told : goal.returns-in_default-clause-told
returns-in_default-clause-told c =
    noted_none c.args.machine.now.set c.args.machine.now.world c.args.event.now c.args.step
    c.args.reply.now c.args.self.now c.args.self.now (sym c.thread_of.ensures ∙ c.in_default.is)

pub returns-then-says_unchanged-clause-told : goal.returns-then-says_unchanged-clause-told
returns-then-says_unchanged-clause-told c =
    noted_unchanged c.args.machine.now.set c.args.machine.now.world c.args.event.now c.args.step
    c.args.reply.now c.args.self.now c.args.self.now c.in-Some.thread
    (sym c.thread_of.ensures ∙ c.in-Some.is)
    (sym c.says_unchanged.ensures ∙ c.if-says_unchanged.true)

pub returns-clause-told : goal.returns-clause-told
returns-clause-told c =
    noted_on c.args.machine.now.set c.args.machine.now.world c.args.event.now c.args.step
    c.args.reply.now c.args.self.now c.note_on.new.self c.in-Some.thread
    (sym c.thread_of.ensures ∙ c.in-Some.is)
    (sym c.says_unchanged.ensures ∙ c.if-says_unchanged.false) c.in_ok-note_on.ensures
