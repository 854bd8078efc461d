use Rattle.std.proofs.Common.{refl, sym}
use Rattle.hunt_schedule.proofs.reading.read_back.Goals as goal

pub returns : goal.returns
returns c =
    record {
      schedule = c.in-Ok.schedule;
      lists = c.in-Ok.ensures.listed;
      threads = refl;
      events = sym c.in_ok-run.ensures;
    }
