use Rattle.tell_uses.proofs.Noted.{tells_begun}
use Rattle.tell_uses.proofs.ledger.Ledger.new.Goals as goal

pub returns : goal.returns
returns c = λ set. tells_begun set c.args.threads _ c.new.ensures c.in_ok-idle_rows.ensures
