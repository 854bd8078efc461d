use Rattle.std.proofs.Common.{◌≡◌, drop}
use Rattle.answer_runs.specs.Served.{command_lines}
use Rattle.drvhost_devices.proofs.Writing.{Gathered}
use Rattle.answer_runs.proofs.host.tell_commands.Given as goal

abbrev pub invariant-loop-told : goal.invariant-loop-told
invariant-loop-told g l =
    record {
      numbered : l.number ≡ l.told-index;
      fine : g.O.Sink.failures l.out ≡ g.O.Sink.failures l.initial.out;
      certified :
          Gathered (command_lines 0 l.commands)
          (command_lines l.told-index (drop l.told-index l.commands))
          (g.O.Sink.contents l.initial.out) (g.O.Sink.contents l.out) l.initial.lines l.lines;
    }
