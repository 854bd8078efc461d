use Rattle.std.proofs.Common.{◌+◌, arith, rules}
use Rattle.scenario_run.proofs.Walks.{stepped_by, walks_alone, walks_end, walks_none, walks_step}
use Rattle.scenario_run.proofs.walking.walk.Goals as goal

pub loop-made-init : goal.loop-made-init
loop-made-init c = (omega arith, walks_none c.args.until c.args.thread c.args.runner.now)

pub returns-then-made-most-clause-walks : goal.returns-then-made-most-clause-walks
returns-then-made-most-clause-walks c =
    walks_alone c.args.until c.args.thread c.loop-made.made c.stride-alone.result c.args.runner.now
    c.loop-made.runner c.stride-alone.new.runner c.loop-made.invariant.1
    c.stride-alone.ensures.goes c.stride-alone.ensures.ledger c.stride-alone.ensures.keeping

pub returns-then-not-is_stepped-clause-walks : goal.returns-then-not-is_stepped-clause-walks
returns-then-not-is_stepped-clause-walks c =
    walks_end c.args.until c.args.thread (c.loop-made.made + c.stride-alone.result) c.args.runner.now
    c.stride-alone.new.runner c.apply-reply.new.self c.apply-reply.result
    (walks_alone c.args.until c.args.thread c.loop-made.made c.stride-alone.result c.args.runner.now
    c.loop-made.runner c.stride-alone.new.runner c.loop-made.invariant.1
    c.stride-alone.ensures.goes c.stride-alone.ensures.ledger c.stride-alone.ensures.keeping)
    (search rules) c.apply-reply.ensures

pub loop-made-preserved : goal.loop-made-preserved
loop-made-preserved c = (
  search rules,
  walks_step c.args.until c.args.thread (c.loop-made.made + c.stride-alone.result) c.args.runner.now
      c.stride-alone.new.runner c.apply-reply.new.self c.apply-reply.result
      (stepped_by c.apply-reply.result (search rules))
      (walks_alone c.args.until c.args.thread c.loop-made.made c.stride-alone.result c.args.runner.now
      c.loop-made.runner c.stride-alone.new.runner c.loop-made.invariant.1
      c.stride-alone.ensures.goes c.stride-alone.ensures.ledger c.stride-alone.ensures.keeping)
      (search rules) c.apply-reply.ensures (search rules),
)
