use Rattle.std.proofs.Common.{arith}
use Rattle.absstate.proofs.Same.{queues_over}
use Rattle.absstate.proofs.state.same_queues.Goals as goal

pub loop-i-init : goal.loop-i-init
loop-i-init c = record {
  same = queues_over c.args.a.now c.args.b.now 16 (omega (arith, c.told-a)) (omega (arith, c.told-b));
  within = omega (arith, c.told-a);
}
