use Rattle.std.proofs.Common.{◌≡◌, ◌++◌, drop}
use Rattle.scenario_run.specs.Holding.{numbers_of}
use Rattle.scenario_run.proofs.holding.numbers_of.Given as goal

-- with those of the packets that are left, all are there
abbrev pub invariant-loop-packet : goal.invariant-loop-packet
invariant-loop-packet l =
    l.numbers.items ++ numbers_of l.playing (drop l.packet-index l.packets)
    ≡ numbers_of l.playing l.packets
