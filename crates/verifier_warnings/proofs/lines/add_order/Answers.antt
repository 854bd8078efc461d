use Rattle.std.proofs.Common.{◌≡◌, ◌∙◌, string_bytes, sym}
use Rattle.verifier_warnings.proofs.Telling.{order_added}
use Rattle.verifier_warnings.proofs.lines.add_order.Goals as goal

pub returns : goal.returns
returns c = λ whole.
    let third = c.add-3.ensures whole in
    let second = c.add_locks.ensures third.0 in
    let first = c.add-2.ensures second.0 in (
      first.0,
      order_added c.args.locks.now (string_bytes c.args.words.now.text)
          (string_bytes c.add-2.new.self.text) (string_bytes c.add_locks.new.words.text)
          (string_bytes c.add-3.new.self.text) (sym c.is_empty.ensures ∙ c.if-is_empty.false) first.1
          second.1 third.1,
    )
