use Rattle.std.proofs.Common.{◌≡◌, ◌≤◌, ◌++◌, drop, length, take}
use Rattle.tell_uses.specs.Ledger.{settled}
use Rattle.tell_uses.proofs.ledger.Row.settle.Given as goal

abbrev pub invariant-loop-place : goal.invariant-loop-place
invariant-loop-place l =
    record {
      within : l.place ≤ length l.self;
      settled :
          settled l.set l.uses l.initial.self l.frames
          ≡ take l.place l.self ++ settled l.set l.uses (drop l.place l.self) (drop l.place l.frames);
    }
