use Rattle.std.proofs.Common.{◌≡◌, replicate}
use Rattle.laws_slots.specs.WordEvents.{idle_words}
use Rattle.machine.proofs.slots.Slots.new.Given as goal

abbrev pub invariant-loop-thread : goal.invariant-loop-thread
invariant-loop-thread l = l.thread_list.items ≡ replicate l._thread idle_words
