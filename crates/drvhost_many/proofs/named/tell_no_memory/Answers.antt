use Rattle.std.proofs.Common.{◌∙◌, List, ℕ, subst}
use Rattle.drvhost_devices.specs.Device.{SaysBehind}
use Rattle.drvhost_devices.proofs.Writing.{behind_more}
use Rattle.drvhost_many.proofs.Ending.{no_memory_told}
use Rattle.drvhost_many.proofs.named.tell_no_memory.Goals as goal

pub returns : goal.returns
returns g c =
    let first = behind_more _ _ _ _ _ _ _ _ _ c.say_behind.ensures c.say_behind-2.ensures in
    let all = behind_more _ _ _ _ _ _ _ _ _ first c.say_behind-3.ensures in
    let P : List ℕ → Type 0 =
    SaysBehind c.args.failures (g.E.Sink.failures c.args.err.now)
    (g.E.Sink.failures c.say_behind-3.new.err) (g.E.Sink.contents c.args.err.now)
    (g.E.Sink.contents c.say_behind-3.new.err) in
    subst P (no_memory_told c.args.one.judging c.args.one.name.now _ _ _ c.as_bytes.ensures.value
    (c.as_bytes-2.ensures.value ∙ c.gap.ensures) c.as_bytes-3.ensures.value)
    all
