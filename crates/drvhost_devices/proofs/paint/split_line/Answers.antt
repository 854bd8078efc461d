use Rattle.std.proofs.Common.{refl}
use Rattle.drvhost_devices.proofs.Painting.{ended_line, open_line}
use Rattle.drvhost_devices.proofs.paint.split_line.Goals as goal

pub returns-in-Some-clause-line : goal.returns-in-Some-clause-line
returns-in-Some-clause-line c =
    ended_line c.args.text.now _ _ c.in-Some.end c.in-Some.ensures.0 c.in-Some.ensures.1
    c.split_at.ensures.front

pub returns-in-None-clause-line : goal.returns-in-None-clause-line
returns-in-None-clause-line c =
    open_line c.args.text.now _ _ _ c.in-None.ensures refl c.split_at-in-None.ensures.front
    c.split_at-in-None.ensures.back
