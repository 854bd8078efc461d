use Rattle.std.proofs.Common.{arith}
use Rattle.interleave.proofs.Bytes.{run_taken}
use Rattle.interleave.proofs.events.Upcoming.next_run.Goals as goal

pub returns-then-thread : goal.returns-then-thread
returns-then-thread c =
    let start = c.loop-byte.self-inside in
    let run = c.split_run-again.result in
    let taken = run_taken c.args.self.now c.in-Some.byte.now run.0 start.bytes.now
    c.in-Some.bytes.now run.1.now start.others.now c.if-thread.true c.in-Some.ensures.cases.0
    c.split_run-again.ensures.equal c.loop-byte.invariant in
    (omega arith, taken)
