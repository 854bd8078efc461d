use Rattle.std.proofs.Common.{◌≡◌, ◌++◌, drop}
use Rattle.drvhost_told.specs.Served.{command_objects}
use Rattle.drvhost_told.proofs.host.tell_commands.Given as goal

abbrev pub invariant-loop-told : goal.invariant-loop-told
invariant-loop-told l =
    (l.number ≡ l.told-index)
    × (l.lines ++ command_objects l.told-index (drop l.told-index l.commands)
    ≡ l.initial.lines ++ command_objects 0 l.commands)
