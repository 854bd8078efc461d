use Rattle.std.proofs.Common.{◌≡◌, ◌++◌, string_bytes}
use Rattle.verifier_warnings.specs.Lines.{IsOrderLine}
use Rattle.verifier_warnings.proofs.Telling.{line_behind}
use Rattle.verifier_warnings.proofs.lines.order_lines.Goals as goal

pub loop-number-preserved : goal.loop-number-preserved
loop-number-preserved c =
    line_behind (IsOrderLine c.args.accepted.now) c.loop-number.number
    (string_bytes c.loop-number.lines) (string_bytes c.in_ok-line.line)
    (string_bytes c.push_str.new.self) c.loop-number.invariant (c.in_ok-line.ensures {u = tt})
    (rw c.as_str.ensures.value at (c.in_ok-push_str.ensures {u = tt}).bytes)
