use Rattle.std.proofs.Common.{◌≡◌, List}
use Rattle.std.specs.List.{AllZip}
use Rattle.drvhost_devices.specs.Device.{SaysBehind}
use Rattle.drvhost_files.specs.declared.reading.Held.{Held}
use Rattle.drvhost_files.specs.Reading.{IsAnswered}
use Rattle.drvhost_many.specs.Held.{IsToldOf}
use Rattle.drvhost_many.proofs.Gathering.{Gathers}
use Rattle.drvhost_many.proofs.many.deliver_each.Given as goal

-- the answers so far went out or are gathered, whatever files were read for which these are the
-- answers
abbrev pub invariant-loop-i : goal.invariant-loop-i
invariant-loop-i g l =
    (g.O.Sink.failures l.out ≡ g.O.Sink.failures l.initial.out)
    × ((held : List Held) → AllZip (IsAnswered (IsToldOf l.judging)) held l.answered
    → Gathers l.judging held l.i l.status l.gathered.items
    (g.O.Sink.contents l.initial.out) (g.O.Sink.contents l.out)
    (SaysBehind l.failures (g.E.Sink.failures l.initial.err) (g.E.Sink.failures l.err)
    (g.E.Sink.contents l.initial.err) (g.E.Sink.contents l.err)))
