-- Something that a world may show: what is said of a handle with none.
use Rattle.std.proofs.Common.{[], None}
use Rattle.model.specs.Shown.{Shown}

pub blank : Shown
blank =
    record {
      set = record { drivers = []; devices = [] };
      threads = [];
      packets = [];
      slots = [];
      issued = 0;
      locks = record { system_cancel = None; spin = [] };
      cells = [];
      queues = [];
      starts = [];
      dpcs = [];
    }
