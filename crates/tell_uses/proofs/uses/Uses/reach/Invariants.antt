use Rattle.std.proofs.Common.{◌≡◌, length, ◌+◌, ◌-◌, ℕ, slice_get}
use Rattle.tell_uses.specs.Uses.{of_stack}
use Rattle.tell_uses.proofs.uses.Uses.reach.Given as goal

abbrev pub invariant-loop-alloc : goal.invariant-loop-alloc
invariant-loop-alloc l =
    record {
      notes : l.self-inside.note_list.items ≡ l.initial.self-inside.note_list.items;
      stacks :
          (m : ℕ) → of_stack (slice_get l.self-inside.stack_list.items m)
          ≡ of_stack (slice_get l.initial.self-inside.stack_list.items m);
    }

abbrev pub decreases-loop-alloc : goal.decreases-loop-alloc
decreases-loop-alloc l = l.packet + 1 - length l.self-inside.stack_list.items
