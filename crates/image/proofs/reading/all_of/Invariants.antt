use Rattle.std.proofs.Common.{◌≡◌, ◌-◌}
use Rattle.image.specs.Reading.{all_at}
use Rattle.image.proofs.InOrder.{with_front}
use Rattle.image.proofs.reading.all_of.Given as goal

abbrev pub invariant-loop-number : goal.invariant-loop-number
invariant-loop-number g l =
    with_front l.all.items (all_at (g.P.Part.at l.within) l.number (l.count - l.number) l.rest)
    ≡ all_at (g.P.Part.at l.within) 0 l.count l.bytes
