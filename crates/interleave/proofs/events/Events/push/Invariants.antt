use Rattle.std.proofs.Common.{◌≡◌, ◌++◌, ◌≤◌, replicate}
use Rattle.interleave.proofs.events.Events.push.Given as goal

-- the event has been added so many times
abbrev pub invariant-loop : goal.invariant-loop
invariant-loop l = record {
  added : l.self ≡ l.initial.self ++ replicate l.counter l.event;
  few : l.counter ≤ l.fn.repeated.count;
}
