use Rattle.std.proofs.Common.{List, ℕ, subst}
use Rattle.drvhost_devices.specs.Device.{SaysBehind, TakesBeginning}
use Rattle.drvhost_many.proofs.many.deliver.Goals as goal

pub returns-in-Err : goal.returns-in-Err
returns-in-Err g c =
    let Takes : List ℕ → Type 0 =
    TakesBeginning (g.O.Sink.contents c.args.out.now)
    (g.O.Sink.contents c.write_whole.new.sink) in
    let Tells : List ℕ → Type 0 =
    SaysBehind c.args.failures (g.E.Sink.failures c.args.err.now)
    (g.E.Sink.failures c.say_behind.new.err) (g.E.Sink.contents c.args.err.now)
    (g.E.Sink.contents c.say_behind.new.err) in (
      c.in-Err.ensures.counted,
      subst Takes c.output.ensures c.in-Err.ensures.written,
      subst Tells c.as_bytes.ensures.value c.say_behind.ensures,
    )
