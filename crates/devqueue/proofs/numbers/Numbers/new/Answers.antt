use Rattle.devqueue.proofs.Kept.{all_own}
use Rattle.devqueue.proofs.numbers.Numbers.new.Goals as goal

pub returns : goal.returns
returns c = rw c.in_ok-zeros.ensures (all_own c.args.count)
